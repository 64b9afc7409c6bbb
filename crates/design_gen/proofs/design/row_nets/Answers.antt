use Rattle.std.proofs.Common.{◌≡◌, refl, ◌∙◌}
use Rattle.gen_spec.specs.Generated.{net_at}
use Rattle.design_gen.proofs.Numbers.{more_in_row}
use Rattle.design_gen.proofs.design.row_nets.Goals as goal

pub loop-number-preserved : goal.loop-number-preserved
loop-number-preserved c =
    let net : c.in_ok-net.net ≡ net_at c.args.count c.loop-number.number =
    rw (c.in_ok-net.ensures, c.in_ok-id.ensures, c.left_end.ensures, c.right_end.ensures) refl in
    more_in_row (net_at c.args.count) c.loop-number.number c.loop-number.made.items c.push.new.self.items c.in_ok-of.field-0 c.loop-number.invariant (c.in_ok-of.ensures ∙ net) c.in_ok-push.ensures.items
