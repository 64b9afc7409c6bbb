use Rattle.std.proofs.Common.{◌≡◌, List, [], ◌∷◌, ◌++◌, sym, ap, ◌∙◌, subst, true, false, append-nil}
use Rattle.edif_spelling_spec.specs.Tree.{Placed, bare}
use Rattle.edif_spec.specs.Means.{is_library}
use Rattle.edif_spec.specs.Stands.{libraries}
use Rattle.edif_spec.proofs.KnownValid.{regroup}
use Rattle.edif_tree.specs.Handles.{here, all}
use Rattle.edif_tree.specs.Eaches.{left}
use Rattle.edif_build.specs.Libraries.{FailsAt, FailsIn, LibsAre, LibsFail}
use Rattle.edif_parts.proofs.Answering.{hand_on}
use Rattle.edif_parts.proofs.Steps.{ended, stepped}
use Rattle.edif_build.proofs.FilterSteps.{passing_kept, passing_skipped, passing_all}
use Rattle.edif_build.proofs.libraries.add_libraries.Goals as goal

pub loop-node-init : goal.loop-node-init
loop-node-init c = (
  tt,
  tt,
  (
    [],
    sym (ap left c.into_iter-node-iterator.ensures.into_iter_gives ∙ c.iter-node-items.ensures),
    λ ds k. (let P : List Placed → Type 0 = λ v. LibsAre v c.args.libs.now in subst P (sym (append-nil ds)) k),
  ),
)

pub add_library-requires-clause-keyword : goal.add_library-requires-clause-keyword
add_library-requires-clause-keyword c = let e = c.is_library.ensures in cc

pub add_library-requires-clause-known : goal.add_library-requires-clause-known
add_library-requires-clause-known c =
    let k = c.requires in
    let b = c.loop-node.invariant.2 in
    (k.0 ++ libraries b.0, b.2 k.0 k.1)

pub loop-node-preserved-then-not-is_library : goal.loop-node-preserved-then-not-is_library
loop-node-preserved-then-not-is_library c =
    let t = here c.in-Some.node in
    let b = c.loop-node.invariant.2 in
    let e = c.is_library.ensures in
    let h : is_library (bare t) ≡ false = cc in (
      tt,
      tt,
      (
        b.0 ++ t ∷ [],
        stepped (all c.args.inner) b.0 (left c.loop-node.node-iterator) (left c.next.new.self) t b.1 c.in-Some.ensures.steps,
        λ ds k. (let P : List Placed → Type 0 = λ v. LibsAre (ds ++ v) c.loop-node.libs in subst P (sym (passing_skipped is_library b.0 t h)) (b.2 ds k)),
      ),
    )

pub returns-in_err-add_library : goal.returns-in_err-add_library
returns-in_err-add_library c = λ ds k.
    let t = here c.in-Some.node in
    let ts = all c.args.inner in
    let b = c.loop-node.invariant.2 in
    let e = c.is_library.ensures in
    let h : is_library (bare t) ≡ true = cc in
    let front = libraries b.0 in
    let back = libraries (left c.next.new.self) in
    let w : libraries ts ≡ front ++ t ∷ back = passing_all is_library ts b.0 (left c.loop-node.node-iterator) (left c.next.new.self) t b.1 c.in-Some.ensures.steps h in
    let v : (rest : List Placed) → (ds ++ front) ++ t ∷ (back ++ rest) ≡ (ds ++ libraries ts) ++ rest = λ rest.
    regroup ds front (t ∷ (back ++ rest)) ∙ ap (λ z. ds ++ z) (sym (regroup front (t ∷ back) rest)) ∙ sym (regroup ds (front ++ t ∷ back) rest) ∙ ap (λ z. (ds ++ z) ++ rest) (sym w) in
    hand_on (λ _. LibsAre (ds ++ libraries ts) c.add_library.new.libs) (FailsAt LibsFail (ds ++ front) t) (FailsIn LibsFail (ds ++ libraries ts)) c.from_residual.result c.in_err-add_library.field-0.0
    c.from_residual.ensures.1 (λ f b rest. let P : List Placed → Type 0 = λ z. LibsFail z f in subst P (v rest) (b (back ++ rest)))
    (c.in_err-add_library.ensures (ds ++ front) (b.2 ds k))

pub loop-node-preserved : goal.loop-node-preserved
loop-node-preserved c =
    let t = here c.in-Some.node in
    let b = c.loop-node.invariant.2 in
    let e = c.is_library.ensures in
    let h : is_library (bare t) ≡ true = cc in
    let front = libraries b.0 in (
      tt,
      tt,
      (
        b.0 ++ t ∷ [],
        stepped (all c.args.inner) b.0 (left c.loop-node.node-iterator) (left c.next.new.self) t b.1 c.in-Some.ensures.steps,
        λ ds k. (let P : List Placed → Type 0 = λ v. LibsAre v c.add_library.new.libs in
            subst P (regroup ds front (t ∷ []) ∙ ap (λ v. ds ++ v) (sym (passing_kept is_library b.0 t h))) (c.in_ok-add_library.ensures (ds ++ front) (b.2 ds k))),
      ),
    )

pub returns : goal.returns
returns c = λ ds k.
    let b = c.loop-node.invariant.2 in
    let w = ended (all c.args.inner) b.0 (left c.loop-node.node-iterator) b.1 c.in-None.ensures.steps.0 in
    let P : List Placed → Type 0 = λ v. LibsAre (ds ++ libraries v) c.loop-node.libs in
    subst P w (b.2 ds k)
