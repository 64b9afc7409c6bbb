use Rattle.std.proofs.Common.{◌≡◌, ℕ, List, ap, subst, ◌∙◌}
use Rattle.std.specs.List.{list_any}
use Rattle.edit_rules_spec.specs.Find.{is_same}
use Rattle.db_version.proofs.Lowering.{same_found}
use Rattle.db_version.proofs.names.NameList.has_same.Goals as goal

pub returns-in-Ok : goal.returns-in-Ok
returns-in-Ok c =
    subst (λ (ns : List (List ℕ)). c.contains.result ≡ list_any (λ other. is_same other c.args.name.now) ns) c.self.view_is
    (same_found c.args.name.now c.in-Ok.lower c.self.inside.names.keys c.self.inside.lower.keys c.contains.result c.self.invariant c.in-Ok.ensures c.contains.ensures)

pub returns-in-Err : goal.returns-in-Err
returns-in-Err c = c.any_same.ensures ∙ ap (list_any (λ other. is_same other c.args.name.now)) (c.as_slice.ensures.keys ∙ c.self.view_is)
