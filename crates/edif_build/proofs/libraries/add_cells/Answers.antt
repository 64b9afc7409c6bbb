use Rattle.std.proofs.Common.{◌≡◌, List, [], ◌∷◌, ◌++◌, sym, ap, ◌∙◌, subst, true, false}
use Rattle.edif_spelling_spec.specs.Tree.{Placed, bare}
use Rattle.edif_spec.specs.Faults.{those_of}
use Rattle.edif_spec.specs.Rows.{has_keyword}
use Rattle.edif_spec.specs.declared.keyword.Keyword.TheVariants.{Cell}
use Rattle.edif_tree.specs.Handles.{here, all}
use Rattle.edif_tree.specs.Eaches.{left}
use Rattle.edif_build.specs.Libraries.{CellsAre, CellsFail, FailsAt}
use Rattle.edif_parts.proofs.Answering.{hand_on}
use Rattle.edif_parts.proofs.Steps.{ended, here_first, stepped, those_keep, those_skip}
use Rattle.edif_build.proofs.libraries.add_cells.Goals as goal

pub loop-node-init : goal.loop-node-init
loop-node-init c = (tt, tt, ([], sym (ap left c.into_iter-node-iterator.ensures.into_iter_gives ∙ c.iter-node-items.ensures), λ before head names k o. k))

pub add_cell-requires-clause-keyword : goal.add_cell-requires-clause-keyword
add_cell-requires-clause-keyword c = let e = c.is_form_of.ensures in cc

pub add_cell-requires-clause-known : goal.add_cell-requires-clause-known
add_cell-requires-clause-known c =
    let k = c.requires in
    let b = c.loop-node.invariant.2 in
    (k.0, k.1, k.2, those_of Cell b.0, b.2 k.0 k.1 k.2 k.3 k.4)

pub loop-node-preserved-then-not-is_form_of : goal.loop-node-preserved-then-not-is_form_of
loop-node-preserved-then-not-is_form_of c =
    let t = here c.in-Some.node in
    let b = c.loop-node.invariant.2 in
    let e = c.is_form_of.ensures in
    let h : has_keyword Cell (bare t) ≡ false = cc in (
      tt,
      tt,
      (
        b.0 ++ t ∷ [],
        stepped (all c.args.inner) b.0 (left c.loop-node.node-iterator) (left c.next.new.self) t b.1 c.in-Some.ensures.steps,
        λ before head names k o. (let P : List Placed → Type 0 = λ v. CellsAre before head names v c.loop-node.libs in subst P (sym (those_skip Cell b.0 t h)) (b.2 before head names k o)),
      ),
    )

pub returns-in_err-add_cell : goal.returns-in_err-add_cell
returns-in_err-add_cell c = λ before head names k o.
    let t = here c.in-Some.node in
    let ts = all c.args.inner in
    let b = c.loop-node.invariant.2 in
    let e = c.is_form_of.ensures in
    let h : has_keyword Cell (bare t) ≡ true = cc in
    let rest = left c.next.new.self in
    let w = here_first Cell ts b.0 (left c.loop-node.node-iterator) rest t b.1 c.in-Some.ensures.steps h in
    hand_on (λ _. CellsAre before head names (those_of Cell ts) c.add_cell.new.libs) (FailsAt (CellsFail before head) (those_of Cell b.0) t) (CellsFail before head (those_of Cell ts)) c.from_residual.result c.in_err-add_cell.field-0.0
    c.from_residual.ensures.1 (λ f b. (let P : List Placed → Type 0 = λ v. CellsFail before head v f in subst P (sym w) (b (those_of Cell rest))))
    (c.in_err-add_cell.ensures before head names (those_of Cell b.0) (b.2 before head names k o) o)

pub loop-node-preserved : goal.loop-node-preserved
loop-node-preserved c =
    let t = here c.in-Some.node in
    let b = c.loop-node.invariant.2 in
    let e = c.is_form_of.ensures in
    let h : has_keyword Cell (bare t) ≡ true = cc in (
      tt,
      tt,
      (
        b.0 ++ t ∷ [],
        stepped (all c.args.inner) b.0 (left c.loop-node.node-iterator) (left c.next.new.self) t b.1 c.in-Some.ensures.steps,
        λ before head names k o. (let P : List Placed → Type 0 = λ v. CellsAre before head names v c.add_cell.new.libs in subst P (sym (those_keep Cell b.0 t h)) (c.in_ok-add_cell.ensures before head names (those_of Cell b.0) (b.2 before head names k o) o)),
      ),
    )

pub returns : goal.returns
returns c = λ before head names k o.
    let b = c.loop-node.invariant.2 in
    let w = ended (all c.args.inner) b.0 (left c.loop-node.node-iterator) b.1 c.in-None.ensures.steps.0 in
    let P : List Placed → Type 0 = λ v. CellsAre before head names (those_of Cell v) c.loop-node.libs in
    subst P w (b.2 before head names k o)
