use Rattle.std.proofs.Common.{◌≡◌, take}
use Rattle.edit_rules_spec.specs.Reading.{IsReachedBy}
use Rattle.edit_cells.specs.State.{HasRead}
use Rattle.eco_reads.specs.Named.{AreNamed}
use Rattle.ungroup_op.specs.Crossing.{crossings}
use Rattle.ungroup_op.proofs.notes.list_crossings.Given as goal

-- the places for the notes so far, and what their paths reach
abbrev pub invariant-loop-note : goal.invariant-loop-note
invariant-loop-note g l = record {
  places : l.places.items ≡ crossings (g.C.Cells.state l.fn.cells).design l.fn.cell l.inst l.fn.top (take l.note-index l.note-items);
  named : AreNamed (g.C.Cells.state l.fn.cells).design l.named;
  read : HasRead (g.C.Cells.state l.fn.cells) (g.C.Cells.state l.cells) (IsReachedBy (g.C.Cells.state l.fn.cells).design l.fn.top (take l.note-index l.note-items));
}
