use Rattle.std.proofs.Common.{subst, sym}
use Rattle.std.specs.Prelude.{◌↔◌, IfOk, ℕ}
use Rattle.std.specs.List.{Contains}
use Rattle.net_pins.specs.Levels.{AreInOrder, LeadsTo, leads_in}
use Rattle.net_pins.proofs.spot.made_below.Goals as goal

pub level_below-requires : goal.level_below-requires
level_below-requires g c = subst (λ q. AreInOrder q.cells c.args.level.now.cell) (sym c.asked.view_is) c.requires

pub returns-clause-firsts : goal.returns-clause-firsts
returns-clause-firsts g c =
    let level = c.args.level.now in
    subst (λ q. IfOk c.level_below.result (λ made. (f : ℕ) → Contains made.firsts.items f ↔ LeadsTo q.facts c.args.of c.args.inst (leads_in q.cells level.cell level.firsts.items) f)) c.asked.view_is c.level_below.ensures.firsts
