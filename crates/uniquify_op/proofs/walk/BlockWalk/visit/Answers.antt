use Rattle.std.proofs.Common.{[], ◌∷◌, ◌++◌, ◌∙◌}
use Rattle.uniquify_copies.specs.Drafts.{placed_in}
use Rattle.uniquify_op.proofs.Walking.{walk_full, walk_goes_on}
use Rattle.uniquify_op.proofs.walk.BlockWalk.visit.Goals as goal

pub returns-in_default-clause-turned : goal.returns-in_default-clause-turned
returns-in_default-clause-turned g c = λ top os seen waiting.
    let d = (g.C.Cells.state c.args.cells.now).design in
    walk_full d top os seen c.args.self.now c.put.new.self c.args.above c.args.step waiting ((rw c.in_default.is at c.in_ok-row.ensures.put) top seen waiting.up waiting.visited waiting.numbered)

pub returns-clause-turned : goal.returns-clause-turned
returns-clause-turned g c = λ top os seen waiting.
    let d = (g.C.Cells.state c.args.cells.now).design in (
      seen ++ placed_in waiting.up c.args.step.place c.args.step.of ∷ [],
      walk_goes_on d c.requires.valid top os seen c.args.self.now (record { visits = c.put.new.self; stack = c.push.new.self }) c.args.above c.args.step c.in-Some.row c.len-number.result waiting
          ((rw c.in-Some.is at c.in_ok-row.ensures.put) top seen waiting.up waiting.visited waiting.numbered) (c.len-number.ensures ∙ c.put.new.self.draft.spots.ok.0) c.in_ok-push.ensures.items,
    )
