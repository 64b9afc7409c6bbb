use Rattle.std.proofs.Common.{◌≡◌, List, [], ◌∷◌, ◌++◌, refl, sym, ap, ◌∙◌, subst, true, false}
use Rattle.edif_spelling_spec.specs.Tree.{Placed, bare}
use Rattle.edif_spec.specs.Means.{is_note}
use Rattle.edif_spec.specs.declared.fault.MeaningFault.{MeaningFault}
use Rattle.edif_tree.specs.Handles.{here, all}
use Rattle.edif_tree.specs.Eaches.{left}
use Rattle.edif_contents.specs.Known.{KnownLibs}
use Rattle.edif_build.specs.Notes.{AreNoted, FailsBehind, NotesFail, ReadNotes}
use Rattle.edif_parts.proofs.Answering.{hand_on}
use Rattle.edif_parts.proofs.Steps.{ended, stepped}
use Rattle.edif_build.proofs.FilterSteps.{passing, passing_kept, passing_skipped, passing_all}
use Rattle.edif_build.proofs.NotedLemmas.{noted_end, noted_start}
use Rattle.edif_build.proofs.notes.add_notes.Goals as goal

pub loop-node-init : goal.loop-node-init
loop-node-init c = (tt, tt, ([], sym (ap left c.into_iter-node-iterator.ensures.into_iter_gives ∙ c.iter-node-items.ensures), rw (c.new-notes.ensures.items, c.requires) (noted_start c.args.reached.now.libs c.args.top)), refl)

pub add_note-requires : goal.add_note-requires
add_note-requires c = let e = c.is_note.ensures in cc

pub loop-node-preserved-then-not-is_note : goal.loop-node-preserved-then-not-is_note
loop-node-preserved-then-not-is_note c =
    let t = here c.in-Some.node in
    let b = c.loop-node.invariant.2 in
    let e = c.is_note.ensures in
    let h : is_note (bare t) ≡ false = cc in
    let P : List Placed → Type 0 = λ v. AreNoted c.args.reached.now.libs c.args.top v c.loop-node.notes.items c.loop-node.keys in
    (tt, tt, (b.0 ++ t ∷ [], stepped (all c.args.inner) b.0 (left c.loop-node.node-iterator) (left c.next.new.self) t b.1 c.in-Some.ensures.steps, subst P (sym (passing_skipped is_note b.0 t h)) b.2), c.loop-node.invariant.3)

pub returns-in_err-add_note-clause-read : goal.returns-in_err-add_note-clause-read
returns-in_err-add_note-clause-read c =
    let t = here c.in-Some.node in
    let ts = all c.args.inner in
    let b = c.loop-node.invariant.2 in
    let e = c.is_note.ensures in
    let h : is_note (bare t) ≡ true = cc in
    let libs = c.args.reached.now.libs in
    let rest = left c.next.new.self in
    let w = passing_all is_note ts b.0 (left c.loop-node.node-iterator) rest t b.1 c.in-Some.ensures.steps h in
    let was = c.loop-node.invariant.3 in
    let F : KnownLibs → MeaningFault → Type 0 = λ v f. FailsBehind v.libs c.args.top (passing is_note b.0) t f in
    let N : KnownLibs → Type 0 = λ v. AreNoted v.libs c.args.top (passing is_note b.0) c.loop-node.notes.items c.loop-node.keys in
    hand_on (ReadNotes libs c.args.top (passing is_note ts)) (F c.loop-node.reached) (NotesFail libs c.args.top (passing is_note ts)) c.from_residual.result c.in_err-add_note.field-0.0
    c.from_residual.ensures.1 (λ f b. let P : List Placed → Type 0 = λ v. NotesFail libs c.args.top v f in subst P (sym w) (subst (λ v. F v f) was b (passing is_note rest))) (c.in_err-add_note.ensures.added (passing is_note b.0) (subst N (sym was) b.2))

pub loop-node-preserved : goal.loop-node-preserved
loop-node-preserved c =
    let t = here c.in-Some.node in
    let b = c.loop-node.invariant.2 in
    let e = c.is_note.ensures in
    let h : is_note (bare t) ≡ true = cc in
    let P : List Placed → Type 0 = λ v. AreNoted c.args.reached.now.libs c.args.top v c.add_note.new.notes.items c.add_note.new.keys in
    let was = c.loop-node.invariant.3 in
    let N : KnownLibs → Type 0 = λ v. AreNoted v.libs c.args.top (passing is_note b.0) c.loop-node.notes.items c.loop-node.keys in
    let M : KnownLibs → Type 0 = λ v. AreNoted v.libs c.args.top (passing is_note b.0 ++ t ∷ []) c.add_note.new.notes.items c.add_note.new.keys in
    (tt, tt, (b.0 ++ t ∷ [], stepped (all c.args.inner) b.0 (left c.loop-node.node-iterator) (left c.next.new.self) t b.1 c.in-Some.ensures.steps, subst P (sym (passing_kept is_note b.0 t h)) (subst M was (c.in_ok-add_note.ensures.added (passing is_note b.0) (subst N (sym was) b.2)))), c.add_note.ensures.same ∙ was)

pub returns-clause-read : goal.returns-clause-read
returns-clause-read c =
    let ts = all c.args.inner in
    let b = c.loop-node.invariant.2 in
    let w = ended ts b.0 (left c.loop-node.node-iterator) b.1 c.in-None.ensures.steps.0 in
    let P : List Placed → Type 0 = λ v. AreNoted c.args.reached.now.libs c.args.top (passing is_note v) c.loop-node.notes.items c.loop-node.keys in
    rw c.of.ensures (noted_end c.args.reached.now.libs c.args.top (passing is_note ts) c.loop-node.notes.items c.loop-node.keys (subst P w b.2))
