use Rattle.uniquify_copies.proofs.Drafting.{draft_copied}
use Rattle.uniquify_copies.specs.Drafts.{made_for}
use Rattle.uniquify_copies.proofs.draft.CopyDraft.copy.Goals as goal

pub returns-clause-copied : goal.returns-clause-copied
returns-clause-copied g c = λ top done up is at.
    let d = (g.C.Cells.state c.args.cells.now).design in
    draft_copied d top done up c.args.self.now (record { spots = c.push.new.self; namer = c.next_copy.new.self }) c.args.above c.args.place c.args.cell c.in-Some.twin is at
    ((rw c.in-Some.is at c.in_ok-twin.ensures.next) (made_for d done) is.known) c.in_ok-push.ensures.items
