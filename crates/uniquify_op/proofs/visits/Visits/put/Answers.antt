use Rattle.std.proofs.Common.{[], refl, subst, sym}
use Rattle.uniquify_copies.specs.Drafts.{IsCopied, placed_in}
use Rattle.uniquify_op.specs.Marks.{marks_after}
use Rattle.uniquify_op.proofs.Walking.{put_again, put_none}
use Rattle.uniquify_op.proofs.visits.Visits.put.Goals as goal

pub returns-then-fits-clause-put : goal.returns-then-fits-clause-put
returns-then-fits-clause-put g c = λ top seen up visited numbered.
    let d = (g.C.Cells.state c.args.cells.now).design in
    put_again d top seen up c.args.step c.args.self.now (record { draft = c.copy.new.self; met = c.args.self.now.met }) c.in-Some.row (sym c.in-Some.ensures) refl
    (subst (IsCopied d top (marks_after [] seen) (placed_in up c.args.step.place c.args.step.of) c.copy.new.self) c.if-fits.true (c.in_ok-fits.ensures.copied top (marks_after [] seen) up visited.draft numbered)) visited

pub returns-clause-put : goal.returns-clause-put
returns-clause-put g c = λ top seen up visited numbered.
    let d = (g.C.Cells.state c.args.cells.now).design in
    put_none d top seen up c.args.step c.args.self.now (record { draft = c.copy.new.self; met = c.args.self.now.met }) c.in-Some.row (sym c.in-Some.ensures)
    (subst (IsCopied d top (marks_after [] seen) (placed_in up c.args.step.place c.args.step.of) c.copy.new.self) c.if-fits.false (c.in_ok-fits.ensures.copied top (marks_after [] seen) up visited.draft numbered)) visited
