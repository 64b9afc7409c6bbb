use Rattle.std.proofs.Common.{ℕ, OnOk, Option, subst, sym}
use Rattle.net_pins.specs.Levels.{IsLeadAdded}
use Rattle.net_pins.proofs.LevelLemmas.{lead_none}
use Rattle.net_pins.proofs.levels.add_lead.Goals as goal

pub returns-in-Some : goal.returns-in-Some
returns-in-Some c =
    subst (λ (o : Option ℕ). OnOk c.add_first.result (IsLeadAdded o c.args.firsts.now.items c.add_first.new.firsts.items)) (sym c.in-Some.is) c.add_first.ensures

pub returns-in-None : goal.returns-in-None
returns-in-None c =
    subst (λ (o : Option ℕ). IsLeadAdded o c.args.firsts.now.items c.args.firsts.now.items) (sym c.in-None.is) (lead_none c.args.firsts.now.items)
