use Rattle.std.proofs.Common.{Bor, List, ℕ, map, sym, ap, ◌∙◌}
use Rattle.ask_names.proofs.TextLemmas.{nothing_behind, something_behind}
use Rattle.ask_names.proofs.texts.names_behind.Goals as goal

pub returns-in_ok-parts-in-Some : goal.returns-in_ok-parts-in-Some
returns-in_ok-parts-in-Some c = c.in_ok-parts-in-Some.ensures ∙ something_behind c.args.text.now _ _ c.in-Some.ensures.cases.0

pub returns-in-None : goal.returns-in-None
returns-in-None c = ap (map (λ (x : Bor (List ℕ)). x.now)) c.new.ensures.items ∙ sym (nothing_behind c.args.text.now c.in-None.ensures.cases)
