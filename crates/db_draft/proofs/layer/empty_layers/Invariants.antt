use Rattle.std.proofs.Common.{◌≡◌, All, vec_len}
use Rattle.db_draft.specs.Layers.{IsEmpty}
use Rattle.db_draft.proofs.layer.empty_layers.Given as goal

abbrev pub invariant-loop-place : goal.invariant-loop-place
invariant-loop-place l = (vec_len l.layers ≡ l._place) × All IsEmpty l.layers.items
