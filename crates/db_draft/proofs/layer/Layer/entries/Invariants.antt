use Rattle.std.proofs.Common.{◌≡◌, ◌++◌, map}
use Rattle.std.specs.Arc.{arc_value}
use Rattle.ver_table.specs.Entries.{pairs_of}
use Rattle.db_draft.specs.Layers.{changes_of}
use Rattle.db_draft.proofs.layer.Layer.entries.Given as goal

-- the entries so far, and those that are left
abbrev pub invariant-loop-slot : goal.invariant-loop-slot
invariant-loop-slot l = pairs_of l.entries.items ++ map (λ e. (e.0, arc_value e.1)) l.slot-iterator ≡ changes_of l.self
