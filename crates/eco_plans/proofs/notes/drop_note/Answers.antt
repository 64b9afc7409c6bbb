use Rattle.std.proofs.Common.{refl}
use Rattle.edit_spec.specs.DropNote.{note_dropped}
use Rattle.std.specs.Prelude.{Ok, Err}
use Rattle.eco_plans.proofs.NoteOps.{drop_note_can, drop_note_done}
use Rattle.edit_spec.specs.declared.ops.Op.TheVariants.{DropNote}
use Rattle.eco_reads.specs.declared.op_error.OpError.{OpError}
use Rattle.eco_reads.proofs.Outcomes.{done_or}
use Rattle.eco_plans.proofs.Refusing.{notes_refused}
use Rattle.eco_reads.proofs.Reading.{read_some}
use Rattle.eco_plans.proofs.notes.drop_note.Goals as goal

pub put_notes-requires : goal.put_notes-requires
put_notes-requires g c =
    drop_note_can (g.C.Cells.state c.args.cells.now) (g.C.Cells.state c.notes.follows.lender-at-none) c.in-Some._top c.args.path.now c.args.key.now c.in_ok-notes.field-0.now (Ok c.in_ok-made.made)
    c.in-Some.ensures.valid c.in-Some.ensures.value
    (rw c.in_ok-notes.was at c.notes.follows.holds-at-none) c.in_ok-notes.ensures.found c.in_ok-made.ensures

pub returns : goal.returns
returns g c =
    done_or (g.C.Cells.state c.args.cells.now) (g.C.Cells.state c.put_notes.new.cells) (DropNote c.args.path.now c.args.key.now) c.put_notes.result c.put_notes.ensures.err
    (drop_note_done (g.C.Cells.state c.args.cells.now) (g.C.Cells.state c.notes.follows.lender-at-none) (g.C.Cells.state c.put_notes.new.cells) c.in-Some._top c.args.path.now c.args.key.now c.in_ok-notes.field-0.now (Ok c.in_ok-made.made) c.put_notes.result
    c.in-Some.ensures.value
    (rw c.in_ok-notes.was at c.notes.follows.holds-at-none) c.in_ok-notes.ensures.found c.in_ok-made.ensures c.put_notes.ensures.put)

pub returns-in_err-made : goal.returns-in_err-made
returns-in_err-made g c =
    notes_refused (g.C.Cells.state c.args.cells.now) (g.C.Cells.state c.notes.follows.lender-at-none) (DropNote c.args.path.now c.args.key.now) _ (note_dropped c.in_ok-notes.field-0.now c.args.path.now c.args.key.now) c.from_residual-in_err-made.result c.in_err-made.field-0.0 c.from_residual-in_err-made.ensures.1 c.in_err-made.ensures (read_some (g.C.Cells.state c.args.cells.now) (g.C.Cells.state c.notes.follows.lender-at-none) _ (rw c.in_ok-notes.was at c.notes.follows.holds-at-none))
    (λ reply planned. drop_note_done {E = OpError} (g.C.Cells.state c.args.cells.now) (g.C.Cells.state c.notes.follows.lender-at-none) (g.C.Cells.state c.notes.follows.lender-at-none) c.in-Some._top c.args.path.now c.args.key.now c.in_ok-notes.field-0.now (Err reply) (Ok reply)
    c.in-Some.ensures.value
    (rw c.in_ok-notes.was at c.notes.follows.holds-at-none) c.in_ok-notes.ensures.found planned (refl, refl))
