use Rattle.std.proofs.Common.{List, subst, sym}
use Rattle.std.specs.Prelude.{◌↔◌, ◌≤◌}
use Rattle.std.specs.List.{All, AllPairs, Contains}
use Rattle.net_classes.specs.Joints.{IsNotBehind}
use Rattle.net_classes.specs.declared.joints.Joint.{Joint}
use Rattle.net_pins.proofs.LevelLemmas.{from_all, from_front, order_drop}
use Rattle.net_pins.proofs.levels.from_inst.Goals as goal

pub split_at-requires : goal.split_at-requires
split_at-requires c = c.count_before.ensures.bound

pub returns-clause-order : goal.returns-clause-order
returns-clause-order c = subst (AllPairs IsNotBehind) (sym c.split_at.ensures.back) (order_drop IsNotBehind c.count_before.result c.args.joints.now c.requires)

pub returns-clause-front : goal.returns-clause-front
returns-clause-front c =
    subst (All (λ (j : Joint). c.args.inst ≤ j.inst)) (sym c.split_at.ensures.back) (from_front c.args.joints.now c.args.inst c.count_before.result c.count_before.ensures)

pub returns-clause-all : goal.returns-clause-all
returns-clause-all c = λ j on_it.
    subst (λ (js : List Joint). Contains js j ↔ Contains c.args.joints.now j) (sym c.split_at.ensures.back) (from_all c.args.joints.now c.args.inst c.count_before.result c.count_before.ensures j on_it)
