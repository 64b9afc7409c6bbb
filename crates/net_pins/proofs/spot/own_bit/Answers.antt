use Rattle.std.proofs.Common.{◌∙◌, None, eqb-true, length, subst, sym}
use Rattle.std.proofs.lemmas.Bool.{eq-eqb, true≢false}
use Rattle.flat_items.specs.Lent.{net_of}
use Rattle.net_pins.specs.Moves.{IsOwnBit}
use Rattle.net_pins.specs.Spots.{MayAsk, Question, stand_of}
use Rattle.net_pins.proofs.FoundLemmas.{own_bit_below, own_bit_top}
use Rattle.net_pins.proofs.spot.own_bit.Goals as goal

pub bit_from-requires : goal.bit_from-requires
bit_from-requires g c = (subst MayAsk (sym c.asked.view_is) c.requires).kept.tops.in_order c.asked.inside.first.net

pub returns-then-is_empty : goal.returns-then-is_empty
returns-then-is_empty g c =
    let a = c.asked.inside in
    let q : Question = record { role = a.role; design = g.S.Shown.design a.ground.now.design; facts = a.ground.now.classes; cells = a.rows.now; tops = a.tops.now; first = net_of a.first } in
    subst (λ (v : Question). IsOwnBit v (stand_of c.args.spot.now) c.bit_from.result) c.asked.view_is
    (own_bit_top q (stand_of c.args.spot.now) c.bit_from.result (eqb-true (length c.asked.inside.first.path.now) 0 (sym c.if-is_empty.ensures)) c.bit_from.ensures)

pub returns-else-is_empty : goal.returns-else-is_empty
returns-else-is_empty g c =
    let a = c.asked.inside in
    let q : Question = record { role = a.role; design = g.S.Shown.design a.ground.now.design; facts = a.ground.now.classes; cells = a.rows.now; tops = a.tops.now; first = net_of a.first } in
    subst (λ (v : Question). IsOwnBit v (stand_of c.args.spot.now) None) c.asked.view_is
    (own_bit_below q (stand_of c.args.spot.now) (λ none. true≢false (sym (eq-eqb (length c.asked.inside.first.path.now) 0 none) ∙ sym c.if-is_empty.ensures)))
