use Rattle.std.proofs.Common.{◌≡◌, List, ℕ, map, sym, subst, ◌∙◌}
use Rattle.std.specs.Prelude.{IfOk}
use Rattle.ask_names.proofs.texts.names_in.Goals as goal

pub returns-in-Some : goal.returns-in-Some
returns-in-Some c = subst (λ (v : List (List ℕ)). IfOk c.names_behind.result (λ names. map (λ x. x.now) names.items ≡ v)) (sym c.in-Some.ensures) c.names_behind.ensures

pub returns-in_ok-parts-in-None : goal.returns-in_ok-parts-in-None
returns-in_ok-parts-in-None c = c.in_ok-parts-in-None.ensures ∙ sym c.in-None.ensures
