use Rattle.std.proofs.Common.{◌≡◌, [], ap, ◌∙◌}
use Rattle.netlist_schema.specs.Design.{Design}
use Rattle.gen_rounds.proofs.Ends.{begun, first_pin, fresh, fresh_places}
use Rattle.gen_rounds.proofs.run.open.Goals as goal

pub pin_head-requires : goal.pin_head-requires
pin_head-requires c =
    let is : c.in_ok-core.core ≡ fresh c.args.count = c.in_ok-core.ensures ∙ ap (λ (d : Design). record { opening = d; events = [] }) c.in_ok-design.ensures in
    fresh_places c.args.count c.in_ok-core.core is

pub returns-clause-stands : goal.returns-clause-stands
returns-clause-stands c =
    let is : c.in_ok-core.core ≡ fresh c.args.count = c.in_ok-core.ensures ∙ ap (λ (d : Design). record { opening = d; events = [] }) c.in_ok-design.ensures in
    begun c.args.count c.in_ok-core.core c.pin_head.new.core c.in_ok-first.first is c.in_ok-first.ensures

pub returns-clause-pin : goal.returns-clause-pin
returns-clause-pin c =
    let is : c.in_ok-core.core ≡ fresh c.args.count = c.in_ok-core.ensures ∙ ap (λ (d : Design). record { opening = d; events = [] }) c.in_ok-design.ensures in
    first_pin c.args.count c.in_ok-core.core c.pin_head.new.core c.in_ok-first.first is c.in_ok-first.ensures
