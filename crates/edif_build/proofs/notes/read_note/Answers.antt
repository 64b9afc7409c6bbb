use Rattle.std.proofs.Common.{ap, inl, inr}
use Rattle.std.specs.Prelude.{slice_get}
use Rattle.edif_spec.specs.Stands.{NoteFault, PathFault, PropertyFault}
use Rattle.edif_spec.specs.Stands as stands
use Rattle.edif_tree.specs.Handles.{here}
use Rattle.edif_build.specs.Notes.{ReadNote, ShapeFault}
use Rattle.edif_parts.proofs.Answering.{hand_on}
use Rattle.edif_build.proofs.NotedLemmas.{note_is}
use Rattle.edif_build.proofs.notes.read_note.Goals as goal

pub returns-in_err-parts-clause-read : goal.returns-in_err-parts-clause-read
returns-in_err-parts-clause-read c =
    let t = here c.args.node in
    hand_on (ReadNote c.args.reached.now.libs c.args.top t) (ShapeFault t) (NoteFault c.args.reached.now.libs c.args.top t) c.from_residual.result c.in_err-parts.field-0.0 c.from_residual.ensures.1
    (λ f b. elim b [ inl x ↦ stands.note_part x | inr x ↦ stands.note_surplus x ]) c.in_err-parts.ensures

pub returns-in_err-path-clause-read : goal.returns-in_err-path-clause-read
returns-in_err-path-clause-read c =
    let t = here c.args.node in
    let u = here c.in_ok-parts.parts.path in
    let h = c.in_ok-parts.ensures in
    let libs = c.args.reached.now.libs in
    hand_on (ReadNote libs c.args.top t) (PathFault libs c.args.top u) (NoteFault libs c.args.top t) c.from_residual-in_err-path.result c.in_err-path.field-0.0 c.from_residual-in_err-path.ensures.1
    (λ f b. stands.note_path (u, ap (λ v. slice_get v 1) h.are, h.is_path, b)) c.in_err-path.ensures.read

pub read_property-requires : goal.read_property-requires
read_property-requires c = c.in_ok-parts.ensures.is_property

pub returns-in_err-property-clause-read : goal.returns-in_err-property-clause-read
returns-in_err-property-clause-read c =
    let t = here c.args.node in
    let u = here c.in_ok-parts.parts.property in
    let h = c.in_ok-parts.ensures in
    let libs = c.args.reached.now.libs in
    hand_on (ReadNote libs c.args.top t) (PropertyFault u) (NoteFault libs c.args.top t) c.from_residual-in_err-property.result c.in_err-property.field-0.0 c.from_residual-in_err-property.ensures.1
    (λ f b. stands.note_property (u, ap (λ v. slice_get v 2) h.are, h.is_property, b)) c.in_err-property.ensures

pub returns-clause-read : goal.returns-clause-read
returns-clause-read c =
    note_is c.args.reached.now.libs c.args.top (here c.args.node) c.in_ok-parts.parts c.in_ok-path.path c.in_ok-property.property.property c.in_ok-property.property.place c.requires c.in_ok-parts.ensures c.in_ok-path.ensures.read c.in_ok-property.ensures
