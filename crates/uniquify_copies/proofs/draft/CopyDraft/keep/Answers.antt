use Rattle.std.proofs.Common.{refl}
use Rattle.uniquify_copies.proofs.Drafting.{draft_kept}
use Rattle.uniquify_copies.proofs.draft.CopyDraft.keep.Goals as goal

pub returns : goal.returns
returns c = λ d top done up is at.
    draft_kept d top done up c.args.self.now (record { spots = c.push.new.self; namer = c.args.self.now.namer }) c.args.above c.args.place c.args.cell is at refl c.in_ok-push.ensures.items
