use Rattle.std.proofs.Common.{◌≡◌, List, [], ◌∷◌, ◌++◌, refl, sym, ap, ◌∙◌, subst, Option, Some, true, false, inr}
use Rattle.edif_spelling_spec.specs.Tree.{Placed, bare}
use Rattle.edif_spec.specs.Faults.{those_of}
use Rattle.edif_spec.specs.Rows.{has_keyword}
use Rattle.edif_spec.specs.declared.keyword.Keyword.TheVariants.{View}
use Rattle.edif_tree.specs.Handles.{here, all}
use Rattle.edif_tree.specs.Eaches.{left}
use Rattle.edif_tree.specs.declared.node.Node.{Node}
use Rattle.edif_build.specs.Cells.{OneNode}
use Rattle.edif_build.proofs.CellLemmas.{first_view, no_view, second_view}
use Rattle.edif_parts.proofs.Steps.{ended, stepped}
use Rattle.edif_build.proofs.cells.one_view.Goals as goal

pub loop-node-init : goal.loop-node-init
loop-node-init c = (tt, tt, ([], sym (ap left c.into_iter-node-iterator.ensures.into_iter_gives ∙ c.iter-node-items.ensures), refl))

pub loop-node-preserved-then-not-is_form_of : goal.loop-node-preserved-then-not-is_form_of
loop-node-preserved-then-not-is_form_of c =
    let t = here c.in-Some.node in
    let b = c.loop-node.invariant.2 in
    let e = c.is_form_of.ensures in
    let h : has_keyword View (bare t) ≡ false = cc in
    (tt, tt, (b.0 ++ t ∷ [], stepped (all c.args.inner) b.0 (left c.loop-node.node-iterator) (left c.next.new.self) t b.1 c.in-Some.ensures.steps, no_view b.0 t c.loop-node.view b.2 h))

pub returns-in-Some-view : goal.returns-in-Some-view
returns-in-Some-view c =
    let t = here c.in-Some.node in
    let b = c.loop-node.invariant.2 in
    let e = c.is_form_of.ensures in
    let h : has_keyword View (bare t) ≡ true = cc in
    let P : Option Node → Type 0 = λ v. OneNode (those_of View b.0) v in
    rw c.clash.ensures (second_view (all c.args.inner) b.0 (left c.loop-node.node-iterator) (left c.next.new.self) t c.in-Some-view.first c.args.place c.place.result c.place-earlier.result b.1 c.in-Some.ensures.steps (subst P c.in-Some-view.is b.2) h c.place.ensures c.place-earlier.ensures)

pub loop-node-preserved : goal.loop-node-preserved
loop-node-preserved c =
    let t = here c.in-Some.node in
    let b = c.loop-node.invariant.2 in
    let e = c.is_form_of.ensures in
    let h : has_keyword View (bare t) ≡ true = cc in
    let P : Option Node → Type 0 = λ v. OneNode (those_of View b.0) v in
    (tt, tt, (b.0 ++ t ∷ [], stepped (all c.args.inner) b.0 (left c.loop-node.node-iterator) (left c.next.new.self) t b.1 c.in-Some.ensures.steps, first_view b.0 c.in-Some.node (subst P c.in_default.is b.2) h))

pub returns-in-Some-view-2 : goal.returns-in-Some-view-2
returns-in-Some-view-2 c =
    let ts = all c.args.inner in
    let b = c.loop-node.invariant.2 in
    let w = ended ts b.0 (left c.loop-node.node-iterator) b.1 c.in-None.ensures.steps.0 in
    let P : Option Node → Type 0 = λ v. OneNode (those_of View b.0) v in
    let Q : List Placed → Type 0 = λ v. OneNode (those_of View v) (Some c.in-Some-view-2.view) in
    subst Q w (subst P c.in-Some-view-2.is b.2)

pub returns-in-None-view : goal.returns-in-None-view
returns-in-None-view c =
    let ts = all c.args.inner in
    let b = c.loop-node.invariant.2 in
    let w = ended ts b.0 (left c.loop-node.node-iterator) b.1 c.in-None.ensures.steps.0 in
    let P : Option Node → Type 0 = λ v. OneNode (those_of View b.0) v in
    let Q : List Placed → Type 0 = λ v. those_of View v ≡ [] in
    rw c.bad_form.ensures (inr (subst Q w (subst P c.in-None-view.is b.2), refl))
