use Rattle.std.proofs.Common.{List, ℕ, subst, sym}
use Rattle.std.specs.List.{Contains}
use Rattle.std.specs.Prelude.{Some}
use Rattle.net_pins.specs.Levels.{IsLeadAdded}
use Rattle.net_pins.proofs.LevelLemmas.{lead_pushed, lead_there}
use Rattle.net_pins.proofs.levels.add_first.Goals as goal

pub returns-then-is_last : goal.returns-then-is_last
returns-then-is_last c =
    lead_there c.args.first c.args.firsts.now.items (subst (λ (xs : List ℕ). Contains xs c.args.first) c.as_slice.ensures.value (c.is_last.ensures c.if-is_last.true))

pub returns : goal.returns
returns c =
    subst (IsLeadAdded (Some c.args.first) c.args.firsts.now.items) (sym c.in_ok-push.ensures.items) (lead_pushed c.args.first c.args.firsts.now.items)
