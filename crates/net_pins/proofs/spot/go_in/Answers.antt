use Rattle.std.proofs.Common.{◌≡◌, ◌-◌, ◌∙◌, List, Some, ap, length, slice_get, sym}
use Rattle.std.specs.Option.{option_copied}
use Rattle.net_pins.specs.Moves.{entered}
use Rattle.net_pins.specs.Spots.{stand_of}
use Rattle.net_pins.specs.declared.levels.Level.{Level}
use Rattle.net_pins.proofs.FoundLemmas.{IsStep, either_way, order_at, step_in, step_to_it}
use Rattle.net_pins.proofs.spot.go_in.Goals as goal

pub made_below-requires : goal.made_below-requires
made_below-requires g c =
    order_at c.args.asked.now c.requires.asks (stand_of c.args.spot.now) c.requires.stands c.in-Some.level.now
    (ap (λ (xs : List Level). slice_get xs (length xs - 1)) (sym c.as_slice.ensures.value) ∙ sym c.last.ensures.value ∙ ap option_copied c.in-Some.is)

step : (g : _) (c : goal.After-enter g) → IsStep c.args.asked.now (stand_of c.args.spot.now) (stand_of c.enter.new.self)
step g c =
    let q = c.args.asked.now in
    let s = stand_of c.args.spot.now in
    let at : slice_get c.args.spot.now.levels.items (length c.args.spot.now.levels.items - 1) ≡ Some c.in-Some.level.now =
    ap (λ (xs : List Level). slice_get xs (length xs - 1)) (sym c.as_slice.ensures.value) ∙ sym c.last.ensures.value ∙ ap option_copied c.in-Some.is in
    either_way c.enter.result c.enter.ensures.ok c.enter.ensures.err
    (λ is. step_in q c.requires.asks s c.requires.stands c.requires.looks c.args.cell c.args.joint c.requires.lead c.args.of c.requires.block c.in-Some.level.now at c.in_ok-made.made
    c.in_ok-made.ensures.cell c.in_ok-made.ensures.firsts (stand_of c.enter.new.self) (is ∙ ap (λ v. entered v c.in_ok-made.made) c.go_to.ensures))
    (λ is. step_to_it q c.requires.asks s c.requires.stands c.requires.looks c.args.cell c.args.joint c.requires.lead c.args.of c.requires.block (stand_of c.enter.new.self) (is ∙ c.go_to.ensures))

pub returns-clause-stands : goal.returns-clause-stands
returns-clause-stands g c = (step g c).stands

pub returns-clause-left : goal.returns-clause-left
returns-clause-left g c = (step g c).same

pub returns-clause-over : goal.returns-clause-over
returns-clause-over g c = (step g c).over
