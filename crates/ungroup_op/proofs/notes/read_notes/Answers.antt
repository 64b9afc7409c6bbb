use Rattle.eco_reads.proofs.NoteReads.{notes_and_paths}
use Rattle.ungroup_op.proofs.NoteReads.{notes_alone}
use Rattle.ungroup_op.proofs.notes.read_notes.Goals as goal

pub returns-in_default-clause-reads : goal.returns-in_default-clause-reads
returns-in_default-clause-reads g c =
    notes_alone (g.C.Cells.state c.args.cells.now) (g.C.Cells.state c.copy_notes.new.cells) c.args.cell (rw c.in_default.is at c.top_cell-found.ensures.value) c.in_ok-notes.ensures.reads

pub returns-clause-reads : goal.returns-clause-reads
returns-clause-reads g c =
    notes_and_paths (g.C.Cells.state c.args.cells.now) (g.C.Cells.state c.copy_notes.new.cells) (g.C.Cells.state c.list_crossings.new.cells) c.args.cell c.in-Some.top c.in_ok-notes.notes c.in-Some.ensures.value
    c.in_ok-notes.ensures.reads c.in_ok-notes.ensures.value c.in_ok-places-2.ensures.reads
