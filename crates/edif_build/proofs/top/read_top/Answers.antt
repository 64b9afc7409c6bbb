use Rattle.edif_spec.proofs.KnownForms.{form_choice}
use Rattle.std.proofs.Common.{List, [], ◌∷◌, map, refl, sym, subst, inl, inr, None, arith}
use Rattle.std.specs.Prelude.{filter}
use Rattle.edif_spelling_spec.specs.Tree.{Bare, Placed, bare}
use Rattle.edif_spec.specs.Design as design
use Rattle.edif_spec.specs.Faults.{followers}
use Rattle.edif_spec.specs.Keyword.{Many, name_definition, the}
use Rattle.edif_spec.specs.Means.{MeansNote, is_note}
use Rattle.edif_spec.specs.Rows.{Each}
use Rattle.edif_spec.specs.Stands.{CellRefFault, DesignFault}
use Rattle.edif_spec.specs.Stands as stands
use Rattle.edif_spec.specs.declared.keyword.Keyword.TheVariants as keywords
use Rattle.edif_spec.proofs.FaultForms.{filter_bare}
use Rattle.edif_tree.specs.Handles.{here, all}
use Rattle.edif_build.specs.Headings.{HeadingFault, ReadHeading}
use Rattle.edif_build.specs.Notes.{NotesFail, ReadNotes, ReadTop}
use Rattle.edif_grammar.specs.Forms.{ArePartsOf}
use Rattle.edif_grammar.specs.declared.lent.Form.{Form}
use Rattle.edif_parts.proofs.Answering.{hand_on}
use Rattle.edif_parts.proofs.PartLemmas.{TwoNodes, two_nodes}
use Rattle.edif_build.proofs.TopLemmas.{notes_fail}
use Rattle.edif_build.proofs.top.read_top.Goals as goal

nodes : (t : Placed) (p : Form) → ArePartsOf keywords.Design t p → TwoNodes keywords.Design name_definition (the keywords.CellRef) t p
nodes t p a = two_nodes keywords.Design name_definition (the keywords.CellRef) (Many keywords.Status ∷ Many keywords.Property ∷ Many keywords.Comment ∷ Many keywords.UserData ∷ []) t p refl refl refl a

pub at-requires : goal.at-requires
at-requires c = omega (arith, (nodes (here c.args.node) c.in_ok-parts.parts c.in_ok-parts.ensures).count)

pub at-requires-2 : goal.at-requires-2
at-requires-2 c = omega (arith, (nodes (here c.args.node) c.in_ok-parts.parts c.in_ok-parts.ensures).count)

pub read_cell_ref-requires : goal.read_cell_ref-requires
read_cell_ref-requires c =
    let v = here c.at.result in
    form_choice keywords.CellRef v ((nodes (here c.args.node) c.in_ok-parts.parts c.in_ok-parts.ensures).b v c.at.ensures).is

pub returns-in_err-cell : goal.returns-in_err-cell
returns-in_err-cell c =
    let t = here c.args.node in
    let v = here c.at.result in
    let a = (nodes t c.in_ok-parts.parts c.in_ok-parts.ensures).b v c.at.ensures in
    hand_on (ReadTop c.args.libs.now.libs t) (CellRefFault c.args.libs.now.libs None v) (DesignFault c.args.libs.now.libs t) c.from_residual-in_err-cell.result c.in_err-cell.field-0.0 c.from_residual-in_err-cell.ensures.1
    (λ f b. stands.design_cell (v, a.at, form_choice keywords.CellRef v a.is, b)) c.in_err-cell.ensures

pub returns-in_err-notes : goal.returns-in_err-notes
returns-in_err-notes c =
    let t = here c.args.node in
    let v = here c.at.result in
    let h = c.in_ok-parts.ensures in
    let libs = c.args.libs.now.libs in
    let top = c.in_ok-cell.cell in
    hand_on (ReadTop libs t) (NotesFail libs top (filter (λ u. is_note (bare u)) (all c.in_ok-parts.parts.inner))) (DesignFault libs t) c.from_residual-in_err-notes.result c.in_err-notes.field-0.0 c.from_residual-in_err-notes.ensures.1
    (λ f b. (let F : List Placed → Type 0 = λ ts. NotesFail libs top (filter (λ u. is_note (bare u)) ts) f in notes_fail libs t v top f ((nodes t c.in_ok-parts.parts h).b v c.at.ensures).at c.in_ok-cell.ensures (subst F h.inner b))) c.in_err-notes.ensures

pub read_heading-requires : goal.read_heading-requires
read_heading-requires c = ((nodes (here c.args.node) c.in_ok-parts.parts c.in_ok-parts.ensures).a (here c.at-2.result) c.at-2.ensures).is

pub returns-in_err-heading : goal.returns-in_err-heading
returns-in_err-heading c =
    let t = here c.args.node in
    let u = here c.at-2.result in
    let n = nodes t c.in_ok-parts.parts c.in_ok-parts.ensures in
    let libs = c.args.libs.now.libs in
    hand_on (ReadTop libs t) (HeadingFault u (all c.in_ok-parts.parts.inner)) (DesignFault libs t) c.from_residual-in_err-heading.result c.in_err-heading.field-0.0 c.from_residual-in_err-heading.ensures.1
    (λ f b. (let F : List Placed → Type 0 = λ v. HeadingFault u v f in elim (subst F c.in_ok-parts.ensures.inner b) [ inl x ↦ stands.design_name (u, (n.a u c.at-2.ensures).at, x) | inr x ↦ stands.design_properties x ])) c.in_err-heading.ensures

pub returns : goal.returns
returns c =
    let t = here c.args.node in
    let u = here c.at-2.result in
    let v = here c.at.result in
    let h = c.in_ok-parts.ensures in
    let libs = c.args.libs.now.libs in
    let x = c.in_ok-heading.heading in
    let H : List Placed → Type 0 = λ ts. ReadHeading u ts x in
    let N : List Placed → Type 0 = λ ts. ReadNotes libs c.in_ok-cell.cell (filter (λ u. is_note (bare u)) ts) c.in_ok-notes.notes in
    let m = subst H h.inner c.in_ok-heading.ensures in
    let ns = subst N h.inner c.in_ok-notes.ensures in
    let P : List Bare → Type 0 = λ v. Each (MeansNote libs c.in_ok-cell.cell) v c.in_ok-notes.notes in
    let T : design.TopHead → Type 0 = λ d. ReadTop libs t (record { head = d; notes = c.in_ok-notes.notes }) in
    subst T (sym c.top_head-head.ensures) (record {
      mean = record {
        name_part = bare u;
        cell_part = bare v;
        inner = map bare (followers keywords.Design t);
        form = (nodes t c.in_ok-parts.parts h).form u v c.at-2.ensures c.at.ensures;
        name = m.name.0;
        cell = c.in_ok-cell.ensures;
        properties = m.properties.0;
        noted = subst P (filter_bare is_note (followers keywords.Design t)) ns.mean;
      };
      name = m.name.1;
      typed = m.properties.1;
      keys = m.properties.2;
      sound = ns.sound;
      count = ns.count;
      differ = ns.differ;
    })
