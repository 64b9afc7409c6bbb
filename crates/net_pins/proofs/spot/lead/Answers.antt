use Rattle.std.proofs.Common.{subst, sym}
use Rattle.flat_spec.specs.Paths.{Bit}
use Rattle.net_pins.specs.Levels.{AreInOrder, IsNextOf, leads_in}
use Rattle.net_pins.specs.Moves.{last_step}
use Rattle.net_pins.proofs.spot.lead.Goals as goal

pub next_lead-requires : goal.next_lead-requires
next_lead-requires g c = subst (λ q. AreInOrder q.cells c.args.level.now.cell) (sym c.asked.view_is) c.requires

pub returns : goal.returns
returns g c =
    let spot = c.args.spot.now in
    let level = c.args.level.now in
    let b : Bit = record { port = spot.port; bit = spot.bit } in
    subst (λ q. IsNextOf (leads_in q.cells level.cell level.firsts.items) (last_step spot.path.items) b c.next_lead.result) c.asked.view_is
    (subst (λ n. IsNextOf (leads_in c.asked.inside.rows.now level.cell level.firsts.items) n b c.next_lead.result) c.step.ensures c.next_lead.ensures)
