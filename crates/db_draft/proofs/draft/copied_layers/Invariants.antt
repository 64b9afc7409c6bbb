use Rattle.std.proofs.Common.{take}
use Rattle.db_draft.specs.Drafts.{AreSameLayers}
use Rattle.db_draft.proofs.draft.copied_layers.Given as goal

abbrev pub invariant-loop-layer : goal.invariant-loop-layer
invariant-loop-layer l = AreSameLayers (take l.layer-index l.layers) l.made.items
