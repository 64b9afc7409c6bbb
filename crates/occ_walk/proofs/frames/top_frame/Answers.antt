use Rattle.std.proofs.Common.{refl}
use Rattle.occ_walk.proofs.BelowLemmas.{top_is_frame}
use Rattle.occ_walk.proofs.frames.top_frame.Goals as goal

pub returns-clause-frame : goal.returns-clause-frame
returns-clause-frame g c =
    top_is_frame (g.S.Shown.design c.args.ground.now.design) c.requires.ground.valid (record { cell = c.args.top; next = 0; from = 0; upto = 0; near = 0; end = 0; names = c.in_ok-top_names.field-0 })
    c.requires.is_top refl c.in_ok-top_names.ensures
