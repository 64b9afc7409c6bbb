use Rattle.std.proofs.Common.{subst, sym}
use Rattle.net_pins.specs.Spots.{IsKept}
use Rattle.net_pins.specs.declared.kept.Kept.{Kept}
use Rattle.flat_ask.proofs.AskLemmas.{kept_is}
use Rattle.flat_ask.proofs.ask.Ask.list.Goals as goal

pub list_as-requires-clause-kept : goal.list_as-requires-clause-kept
list_as-requires-clause-kept g c =
    let s = c.self.inside in
    let d = g.S.Shown.design s.ground.design in
    subst (λ (kept : Kept). IsKept c.args.role d s.ground.classes kept.rows kept.tops) (sym c.kept_for-kept.ensures)
    (kept_is c.args.role d s.ground.classes s.any s.drivers s.loads c.self.invariant.2 c.self.invariant.3 c.self.invariant.4)
