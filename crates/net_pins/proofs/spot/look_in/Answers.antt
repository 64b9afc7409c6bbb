use Rattle.std.proofs.Common.{◌-◌, ◌∙◌, List, ap, length, slice_get, subst, sym}
use Rattle.std.specs.Option.{option_copied}
use Rattle.net_pins.specs.Levels.{IsNextOf, leads_in}
use Rattle.net_pins.specs.Moves.{bit_at, last_step}
use Rattle.net_pins.specs.Spots.{stand_of}
use Rattle.net_pins.specs.declared.levels.Level.{Level}
use Rattle.net_pins.proofs.FoundLemmas.{lead_at, none_last, nothing_at, order_at}
use Rattle.net_pins.proofs.spot.look_in.Goals as goal

pub returns-in_default-clause-found : goal.returns-in_default-clause-found
returns-in_default-clause-found g c =
    absurd (c.requires.inside (none_last c.args.spot.now.levels.items
    (ap (λ (xs : List Level). slice_get xs (length xs - 1)) (sym c.as_slice.ensures.value) ∙ sym c.last.ensures.value ∙ ap option_copied c.in_default.is)))

pub lead-requires : goal.lead-requires
lead-requires g c =
    order_at c.args.asked.now c.requires.asks (stand_of c.args.spot.now) c.requires.stands c.in-Some.level.now
    (ap (λ (xs : List Level). slice_get xs (length xs - 1)) (sym c.as_slice.ensures.value) ∙ sym c.last.ensures.value ∙ ap option_copied c.in-Some.is)

pub look_at-requires-clause-lead : goal.look_at-requires-clause-lead
look_at-requires-clause-lead g c =
    let level : Level = c.in-Some.level.now in
    let s = stand_of c.args.spot.now in
    lead_at c.args.asked.now s level
    (ap (λ (xs : List Level). slice_get xs (length xs - 1)) (sym c.as_slice.ensures.value) ∙ sym c.last.ensures.value ∙ ap option_copied c.in-Some.is) c.in-Some-lead.joint
    (subst (IsNextOf (leads_in c.args.asked.now.cells level.cell level.firsts.items) (last_step s.path) (bit_at s)) c.in-Some-lead.is c.lead.ensures)

pub look_above-requires-clause-nothing : goal.look_above-requires-clause-nothing
look_above-requires-clause-nothing g c =
    let level : Level = c.in-Some.level.now in
    let s = stand_of c.args.spot.now in
    nothing_at c.args.asked.now s level
    (ap (λ (xs : List Level). slice_get xs (length xs - 1)) (sym c.as_slice.ensures.value) ∙ sym c.last.ensures.value ∙ ap option_copied c.in-Some.is)
    (subst (IsNextOf (leads_in c.args.asked.now.cells level.cell level.firsts.items) (last_step s.path) (bit_at s)) c.in-None.is c.lead.ensures)
