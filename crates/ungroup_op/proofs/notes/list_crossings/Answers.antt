use Rattle.std.proofs.Common.{◌≡◌, ◌+◌, ◌++◌, sym, ap, subst, ◌∙◌, List, [], ◌∷◌, take}
use Rattle.std.proofs.lemmas.List.{take_more}
use Rattle.netlist_schema.specs.Design.{Design}
use Rattle.netlist_schema.specs.Types.{Note}
use Rattle.edit_rules_spec.specs.Reading.{IsReachedBy}
use Rattle.edit_cells.specs.State.{HasRead}
use Rattle.eco_reads.proofs.Below.{take_whole}
use Rattle.eco_reads.specs.Named.{AreNamed}
use Rattle.eco_reads.proofs.NoteReads.{one_note_more, some_after}
use Rattle.ungroup_op.specs.Crossing.{crossings}
use Rattle.ungroup_op.proofs.NoteReads.{crossings_joined}
use Rattle.ungroup_op.proofs.notes.list_crossings.Goals as goal

pub returns-in_default-clause-reads : goal.returns-in_default-clause-reads
returns-in_default-clause-reads g c = some_after (g.C.Cells.state c.args.cells.now) (g.C.Cells.state c.loop-note.cells) (g.C.Cells.state c.add_crossing.new.cells) _ c.loop-note.invariant.read (rw c.in_default.is at c.add_crossing.ensures.reads)

pub add_crossing-requires : goal.add_crossing-requires
add_crossing-requires g c = subst (λ (d : Design). AreNamed d c.loop-note.named) (sym c.loop-note.invariant.read.design) c.loop-note.invariant.named

pub loop-note-preserved : goal.loop-note-preserved
loop-note-preserved g c =
    let items = c.as_slice-note-items.result.now in
    let k = c.loop-note.note-index in
    let note = c.note-item.result in
    let d = (g.C.Cells.state c.args.cells.now).design in
    let longer : take (k + 1) items ≡ take k items ++ note ∷ [] = take_more items k note c.loop-note-test.true ∙ ap (λ (n : Note). take k items ++ n ∷ []) (sym c.note-item.is) in
    record {
      places = c.in-Ok.ensures.places
          ∙ ap (λ (e : Design). c.loop-note.places.items ++ crossings e c.args.cell c.args.inst.now c.args.top (note ∷ [])) c.loop-note.invariant.read.design
          ∙ ap (λ v. v ++ crossings d c.args.cell c.args.inst.now c.args.top (note ∷ [])) c.loop-note.invariant.places
          ∙ sym (crossings_joined d c.args.cell c.args.inst.now c.args.top (take k items) (note ∷ []))
          ∙ ap (crossings d c.args.cell c.args.inst.now c.args.top) (sym longer);
      named = subst (λ (e : Design). AreNamed e c.add_crossing.new.named) c.loop-note.invariant.read.design c.add_crossing.ensures.named;
      read = subst (λ (ns : List Note). HasRead (g.C.Cells.state c.args.cells.now) (g.C.Cells.state c.add_crossing.new.cells) (IsReachedBy d c.args.top ns)) (sym longer)
          (one_note_more (g.C.Cells.state c.args.cells.now) (g.C.Cells.state c.loop-note.cells) (g.C.Cells.state c.add_crossing.new.cells) c.args.top (take k items) note c.loop-note.invariant.read c.in-Ok.ensures.reads);
    }

pub returns-clause-reads : goal.returns-clause-reads
returns-clause-reads g c =
    subst (λ (ns : List Note). HasRead (g.C.Cells.state c.args.cells.now) (g.C.Cells.state c.loop-note.cells) (IsReachedBy (g.C.Cells.state c.args.cells.now).design c.args.top ns)) (take_whole c.as_slice-note-items.result.now c.loop-note.note-index c.loop-note-test.false ∙ c.as_slice-note-items.ensures) c.loop-note.invariant.read
