use Rattle.std.proofs.Common.{◌∙◌, ap, eqb-true, length, sym}
use Rattle.std.proofs.lemmas.Bool.{eq-eqb, true≢false}
use Rattle.net_pins.proofs.FoundLemmas.{no_elements}
use Rattle.net_pins.proofs.spot.look.Goals as goal

pub look_at_own-requires-clause-own : goal.look_at_own-requires-clause-own
look_at_own-requires-clause-own g c =
    no_elements c.args.spot.now.levels.items (ap length (sym c.as_slice.ensures.value) ∙ eqb-true (length c.as_slice.result.now) 0 (sym c.if-is_empty.ensures))

pub look_in-requires-clause-inside : goal.look_in-requires-clause-inside
look_in-requires-clause-inside g c = λ empty.
    true≢false (sym (eq-eqb (length c.as_slice.result.now) 0 (ap length (c.as_slice.ensures.value ∙ empty))) ∙ sym c.if-is_empty.ensures)
