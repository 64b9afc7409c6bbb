use Rattle.std.proofs.Common.{ap, sym, ◌∙◌}
use Rattle.db_version.specs.Shot.{Shot}
use Rattle.std.specs.Prelude.{Err}
use Rattle.gen_rounds.proofs.counting.walk_pinned.Goals as goal

pub unreachable-requires : goal.unreachable-requires
unreachable-requires c =
    let none = c.in-Err-NoTop.ensures.no_top.0 (ap Err c.in-Err-NoTop.field-0-is) in
    c.requires (sym (ap (λ (s : Shot). s.design.top) c.in_ok-shot.ensures) ∙ none)
