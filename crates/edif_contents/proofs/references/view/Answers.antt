use Rattle.std.proofs.Common.{◌≡◌, sym, ap, ◌∙◌, rules, true≢false}
use Rattle.std.specs.Char.{to_ascii_lowercase}
use Rattle.std.specs.Prelude.{map}
use Rattle.edif_spec.specs.Design as design
use Rattle.edif_contents.proofs.RefLemmas.{view_same, view_other}
use Rattle.edif_contents.proofs.references.view.Goals as goal

pub returns-then-eq_ignore_ascii_case : goal.returns-then-eq_ignore_ascii_case
returns-then-eq_ignore_ascii_case c = let h = c.eq_ignore_ascii_case.ensures.test in view_same (design.view_id c.args.libs.now.libs c.args.id) c.args.name.now (grind rules)

pub returns-else-eq_ignore_ascii_case : goal.returns-else-eq_ignore_ascii_case
returns-else-eq_ignore_ascii_case c = let h = c.eq_ignore_ascii_case.ensures.test in view_other (design.view_id c.args.libs.now.libs c.args.id) c.args.name.now (λ e.
    let q : map to_ascii_lowercase c.as_slice-2.result.now ≡ map to_ascii_lowercase c.view_name-known.result.now = ap (map to_ascii_lowercase) c.as_slice-2.ensures.value ∙ (e ∙ sym (ap (map to_ascii_lowercase) c.view_name-known.ensures)) in
    true≢false (sym (h.1 q) ∙ c.if-eq_ignore_ascii_case.false))
