use Rattle.std.proofs.Common.{refl, arith, ◌-◌}
use Rattle.db_draft.specs.declared.layer.Layer.{Layer}
use Rattle.db_draft.proofs.Placing.{added_body, changed_body, tried_added, tried_changed}
use Rattle.db_draft.proofs.layer.Layer.try_change.Goals as goal

pub try_added-requires : goal.try_added-requires
try_added-requires c = λ body is. c.requires body (added_body c.args.self.now c.args.count c.args.slot (c.args.slot - c.args.count) body (omega (arith, c.if-slot-count.true)) is)

pub returns-then-slot-count : goal.returns-then-slot-count
returns-then-slot-count c =
    let new : Layer = record c.args.self.now { cells = c.try_added.new.bodies } in
    tried_added c.args.self.now new c.args.count c.args.slot (c.args.slot - c.args.count) c.args.change c.try_added.result (omega (arith, c.if-slot-count.true)) (λ s. refl) refl c.try_added.ensures

pub try_changed-requires : goal.try_changed-requires
try_changed-requires c = λ body is. c.requires body (changed_body c.args.self.now c.args.count c.args.slot body c.if-slot-count.false is)

pub returns : goal.returns
returns c =
    let new : Layer = record c.args.self.now { changed = c.try_changed.new.bodies } in
    tried_changed c.args.self.now new c.args.count c.args.slot c.args.change c.try_changed.result c.if-slot-count.false refl refl c.try_changed.ensures
