use Rattle.std.proofs.Common.{subst, sym}
use Rattle.net_pins.specs.Spots.{IsKept}
use Rattle.net_pins.specs.declared.kept.Kept.{Kept}
use Rattle.flat_ask.proofs.AskLemmas.{if_ok_more}
use Rattle.flat_ask.proofs.ask.keep_shared.Goals as goal

pub returns : goal.returns
returns g c =
    let d = g.S.Shown.design c.args.ground.now.design in
    if_ok_more c.of.result (λ made is. subst (λ (kept : Kept). IsKept c.args.role d c.args.ground.now.classes kept.rows kept.tops) (sym is) c.in_ok-kept.ensures) c.of.ensures
