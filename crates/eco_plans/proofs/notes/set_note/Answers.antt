use Rattle.std.proofs.Common.{refl}
use Rattle.edit_spec.specs.SetNote.{note_set}
use Rattle.std.specs.Prelude.{Ok, Err}
use Rattle.eco_plans.proofs.NoteOps.{set_note_can, set_note_done}
use Rattle.edit_spec.specs.declared.ops.Op.TheVariants.{SetNote}
use Rattle.eco_reads.specs.declared.op_error.OpError.{OpError}
use Rattle.eco_reads.proofs.Outcomes.{done_or}
use Rattle.eco_plans.proofs.Refusing.{notes_refused}
use Rattle.eco_reads.proofs.Reading.{read_both, read_some}
use Rattle.eco_plans.proofs.notes.set_note.Goals as goal

pub put_notes-requires : goal.put_notes-requires
put_notes-requires g c =
    set_note_can (g.C.Cells.state c.args.cells.now) (g.C.Cells.state c.leads.new.cells) (g.C.Cells.state c.notes.follows.lender-at-none) c.in-Some.top c.args.path.now c.args.property.now c.in_ok-leads.leads c.in_ok-notes.field-0.now (Ok c.in_ok-made.made)
    c.requires c.in-Some.ensures.valid c.in-Some.ensures.value c.in_ok-leads.ensures.reads c.in_ok-leads.ensures.found
    (rw c.in_ok-notes.was at c.notes.follows.holds-at-none) c.in_ok-notes.ensures.found c.in_ok-made.ensures

pub returns : goal.returns
returns g c =
    done_or (g.C.Cells.state c.args.cells.now) (g.C.Cells.state c.put_notes.new.cells) (SetNote c.args.path.now c.args.property.now) c.put_notes.result c.put_notes.ensures.err
    (set_note_done (g.C.Cells.state c.args.cells.now) (g.C.Cells.state c.leads.new.cells) (g.C.Cells.state c.notes.follows.lender-at-none) (g.C.Cells.state c.put_notes.new.cells) c.in-Some.top c.args.path.now c.args.property.now c.in_ok-leads.leads c.in_ok-notes.field-0.now (Ok c.in_ok-made.made) c.put_notes.result
    c.in-Some.ensures.value c.in_ok-leads.ensures.reads c.in_ok-leads.ensures.found
    (rw c.in_ok-notes.was at c.notes.follows.holds-at-none) c.in_ok-notes.ensures.found c.in_ok-made.ensures c.put_notes.ensures.put)

pub returns-in_err-made : goal.returns-in_err-made
returns-in_err-made g c =
    notes_refused (g.C.Cells.state c.args.cells.now) (g.C.Cells.state c.notes.follows.lender-at-none) (SetNote c.args.path.now c.args.property.now) _ (note_set c.in_ok-notes.field-0.now c.args.path.now c.args.property.now) c.from_residual-in_err-made.result c.in_err-made.field-0.0 c.from_residual-in_err-made.ensures.1 c.in_err-made.ensures (read_some (g.C.Cells.state c.args.cells.now) (g.C.Cells.state c.notes.follows.lender-at-none) _ (read_both (g.C.Cells.state c.args.cells.now) (g.C.Cells.state c.leads.new.cells) (g.C.Cells.state c.notes.follows.lender-at-none) _ _ c.in_ok-leads.ensures.reads (rw c.in_ok-notes.was at c.notes.follows.holds-at-none)))
    (λ reply planned. set_note_done {E = OpError} (g.C.Cells.state c.args.cells.now) (g.C.Cells.state c.leads.new.cells) (g.C.Cells.state c.notes.follows.lender-at-none) (g.C.Cells.state c.notes.follows.lender-at-none) c.in-Some.top c.args.path.now c.args.property.now c.in_ok-leads.leads c.in_ok-notes.field-0.now (Err reply) (Ok reply)
    c.in-Some.ensures.value c.in_ok-leads.ensures.reads c.in_ok-leads.ensures.found
    (rw c.in_ok-notes.was at c.notes.follows.holds-at-none) c.in_ok-notes.ensures.found planned (refl, refl))
