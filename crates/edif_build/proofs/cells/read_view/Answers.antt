use Rattle.edif_spec.proofs.KnownForms.{form_choice}
use Rattle.std.proofs.Common.{◌≤◌, List, [], ◌∷◌, length, refl, sym, subst, inl, inr, arith}
use Rattle.edif_spelling_spec.specs.Tree.{Placed}
use Rattle.edif_spec.specs.Faults.{those_of}
use Rattle.edif_spec.specs.Keyword.{Choice, Follower, Many, One, name_definition, the}
use Rattle.edif_spec.specs.Stands.{TypeFault, ViewFault}
use Rattle.edif_spec.specs.Stands as stands
use Rattle.edif_spec.specs.declared.keyword.Keyword.TheVariants as keywords
use Rattle.edif_tree.specs.Handles.{here, all}
use Rattle.edif_build.specs.Cells.{ReadView, ReadViewBody, ViewBodyFault}
use Rattle.edif_build.specs.Headings.{HeadingFault, ReadHeading}
use Rattle.edif_grammar.specs.Forms.{ArePartsOf}
use Rattle.edif_grammar.specs.declared.lent.Form.{Form}
use Rattle.edif_parts.proofs.Answering.{hand_on}
use Rattle.edif_build.proofs.CellLemmas.{ThreeNodes, three_nodes, inside_fails}
use Rattle.edif_grammar.proofs.FormLemmas.{once_fits}
use Rattle.edif_build.proofs.cells.read_view.Goals as goal

nodes : (t : Placed) (p : Form) → ArePartsOf keywords.View t p → ThreeNodes keywords.View name_definition (the keywords.ViewType) (the keywords.Interface) t p
nodes t p a = three_nodes keywords.View name_definition (the keywords.ViewType) (the keywords.Interface) (Many keywords.Status ∷ One keywords.Contents ∷ Many keywords.Property ∷ Many keywords.Comment ∷ Many keywords.UserData ∷ []) t p refl refl refl a

pub at-requires : goal.at-requires
at-requires c = omega (arith, (nodes (here c.args.node) c.in_ok-parts.parts c.in_ok-parts.ensures).count)

pub at-requires-2 : goal.at-requires-2
at-requires-2 c = omega (arith, (nodes (here c.args.node) c.in_ok-parts.parts c.in_ok-parts.ensures).count)

pub at-requires-3 : goal.at-requires-3
at-requires-3 c = omega (arith, (nodes (here c.args.node) c.in_ok-parts.parts c.in_ok-parts.ensures).count)

pub read_view_type-requires : goal.read_view_type-requires
read_view_type-requires c = (let u = here c.at.result in form_choice keywords.ViewType u ((nodes (here c.args.node) c.in_ok-parts.parts c.in_ok-parts.ensures).b u c.at.ensures).is)

pub returns-in_err-read_view_type : goal.returns-in_err-read_view_type
returns-in_err-read_view_type c =
    let t = here c.args.node in
    let u = here c.at.result in
    let a = (nodes t c.in_ok-parts.parts c.in_ok-parts.ensures).b u c.at.ensures in
    hand_on (ReadView c.args.libs.now.libs c.args.own t) (TypeFault u) (ViewFault c.args.libs.now.libs c.args.own t) c.from_residual-in_err-read_view_type.result c.in_err-read_view_type.field-0.0 c.from_residual-in_err-read_view_type.ensures.1
    (λ f b. stands.view_type (u, a.at, form_choice keywords.ViewType u a.is, b)) c.in_err-read_view_type.ensures

pub read_heading-requires : goal.read_heading-requires
read_heading-requires c = ((nodes (here c.args.node) c.in_ok-parts.parts c.in_ok-parts.ensures).a (here c.at-2.result) c.at-2.ensures).is

pub returns-in_err-heading : goal.returns-in_err-heading
returns-in_err-heading c =
    let t = here c.args.node in
    let u = here c.at-2.result in
    let n = nodes t c.in_ok-parts.parts c.in_ok-parts.ensures in
    let libs = c.args.libs.now.libs in
    hand_on (ReadView libs c.args.own t) (HeadingFault u (all c.in_ok-parts.parts.inner)) (ViewFault libs c.args.own t) c.from_residual-in_err-heading.result c.in_err-heading.field-0.0 c.from_residual-in_err-heading.ensures.1
    (λ f b. (let F : List Placed → Type 0 = λ v. HeadingFault u v f in elim (subst F c.in_ok-parts.ensures.inner b) [ inl x ↦ stands.view_name (u, (n.a u c.at-2.ensures).at, x) | inr x ↦ stands.view_properties x ])) c.in_err-heading.ensures

pub read_view_body-requires-clause-keyword : goal.read_view_body-requires-clause-keyword
read_view_body-requires-clause-keyword c = (let u = here c.at-3.result in form_choice keywords.Interface u ((nodes (here c.args.node) c.in_ok-parts.parts c.in_ok-parts.ensures).x u c.at-3.ensures).is)

pub read_view_body-requires-clause-few : goal.read_view_body-requires-clause-few
read_view_body-requires-clause-few c =
    let h = c.in_ok-parts.ensures in
    let fs : List Follower = Many keywords.Status ∷ One keywords.Contents ∷ Many keywords.Property ∷ Many keywords.Comment ∷ Many keywords.UserData ∷ [] in
    let cs : List (List Choice) = name_definition ∷ the keywords.ViewType ∷ the keywords.Interface ∷ [] in
    let P : List Placed → Type 0 = λ v. length (those_of keywords.Contents v) ≤ 1 in
    subst P (sym h.inner) (once_fits keywords.View keywords.Contents cs fs (here c.args.node) refl (inl refl) refl h.fits)

pub returns-in_err-body : goal.returns-in_err-body
returns-in_err-body c =
    let t = here c.args.node in
    let u = here c.at-3.result in
    let a = (nodes t c.in_ok-parts.parts c.in_ok-parts.ensures).x u c.at-3.ensures in
    let k = form_choice keywords.Interface u a.is in
    let libs = c.args.libs.now.libs in
    hand_on (ReadView libs c.args.own t) (ViewBodyFault libs c.args.own u (all c.in_ok-parts.parts.inner)) (ViewFault libs c.args.own t) c.from_residual-in_err-body.result c.in_err-body.field-0.0 c.from_residual-in_err-body.ensures.1
    (λ f b. (let F : List Placed → Type 0 = λ v. ViewBodyFault libs c.args.own u v f in elim (subst F c.in_ok-parts.ensures.inner b) [ inl x ↦ stands.view_interface (u, a.at, k, x) | inr x ↦ inside_fails libs c.args.own t u x.0 f a.at k x.1 x.2 ])) c.in_err-body.ensures

pub returns : goal.returns
returns c =
    let t = here c.args.node in
    let h = c.in_ok-parts.ensures in
    let H : List Placed → Type 0 = λ ts. ReadHeading (here c.at-2.result) ts c.in_ok-heading.heading in
    let B : List Placed → Type 0 = λ ts. ReadViewBody c.args.libs.now.libs c.args.own (here c.at-3.result) ts c.in_ok-body.body in
    record {
      name_part = here c.at-2.result;
      type_part = here c.at.result;
      interface_part = here c.at-3.result;
      form = (nodes t c.in_ok-parts.parts h).form (here c.at-2.result) (here c.at.result) (here c.at-3.result) c.at-2.ensures c.at.ensures c.at-3.ensures;
      heading = subst H h.inner c.in_ok-heading.ensures;
      netlist = c.in_ok-read_view_type.ensures;
      body = subst B h.inner c.in_ok-body.ensures;
    }
