use Rattle.std.proofs.Common.{arith, length, ap}
use Rattle.netlist_pages.proofs.pages.push_page.Goals as goal

pub append-requires-clause-filled : goal.append-requires-clause-filled
append-requires-clause-filled g c =
    let one = ap length c.in_ok-page.ensures in
    record { some = omega (arith, one); few = omega (arith, one) }
