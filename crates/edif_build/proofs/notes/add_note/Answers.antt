use Rattle.std.proofs.Common.{◌<◌, ◌≤◌, ℕ, List, [], ◌∷◌, ◌++◌, length, refl, sym, ◌∙◌, subst, arith}
use Rattle.edif_spec.specs.Design as design
use Rattle.edif_spec.specs.Stands.{NoteFault}
use Rattle.edif_tree.specs.Handles.{here}
use Rattle.edif_build.specs.Notes.{AreNoted, FailsBehind, IsAgain, flat}
use Rattle.edif_parts.proofs.Answering.{hand_on}
use Rattle.edif_build.proofs.NotedLemmas.{noted_again, noted_beyond, noted_fails, noted_push}
use Rattle.edif_grammar.proofs.Misplaced.{place_is}
use Rattle.edif_build.proofs.notes.add_note.Goals as goal

pub returns-then-len-ge-MOST_NOTES-clause-added : goal.returns-then-len-ge-MOST_NOTES-clause-added
returns-then-len-ge-MOST_NOTES-clause-added c = λ ts h.
    let t = here c.args.node in
    let k = c.args.notes.now.ok.0 in
    let l : 1048576 ≤ length c.args.notes.now.items = omega arith in
    rw c.over_limit.ensures (noted_beyond c.args.reached.now.libs c.args.top ts c.args.notes.now.items c.args.keys.now t c.place.result h l (c.place.ensures ∙ place_is t))

pub returns-in_err-note-clause-added : goal.returns-in_err-note-clause-added
returns-in_err-note-clause-added c = λ ts h.
    let t = here c.args.node in
    hand_on (λ _. AreNoted c.args.reached.now.libs c.args.top (ts ++ t ∷ []) c.args.notes.now.items c.args.keys.now) (NoteFault c.args.reached.now.libs c.args.top t) (FailsBehind c.args.reached.now.libs c.args.top ts t) c.from_residual.result c.in_err-note.field-0.0
    c.from_residual.ensures.1 (λ f b. noted_fails c.args.reached.now.libs c.args.top ts t f b) c.in_err-note.ensures.read

pub returns-in_err-add_key-clause-added : goal.returns-in_err-add_key-clause-added
returns-in_err-add_key-clause-added c = λ ts h.
    let t = here c.args.node in
    let n = c.in_ok-note.note in
    let key : List ℕ = flat n.note.path n.note.property.key.id in
    hand_on (λ _. AreNoted c.args.reached.now.libs c.args.top (ts ++ t ∷ []) c.args.notes.now.items c.add_key.new.keys) (IsAgain c.args.keys.now key n.place) (FailsBehind c.args.reached.now.libs c.args.top ts t) c.from_residual-in_err-add_key.result c.in_err-add_key.field-0.0
    c.from_residual-in_err-add_key.ensures.1 (λ f b. noted_again c.args.reached.now.libs c.args.top ts c.args.notes.now.items c.args.keys.now t n.note key n.place f h c.in_ok-note.ensures.read refl b) c.in_err-add_key.ensures

pub returns-clause-added : goal.returns-clause-added
returns-clause-added c = λ ts h.
    let t = here c.args.node in
    let n = c.in_ok-note.note in
    let k = c.args.notes.now.ok.0 in
    let l : length c.args.notes.now.items < 1048576 = omega arith in
    let key : List ℕ = flat n.note.path n.note.property.key.id in
    let P : List design.Note → Type 0 = λ v. AreNoted c.args.reached.now.libs c.args.top (ts ++ t ∷ []) v c.add_key.new.keys in
    subst P (sym c.in_ok-push.ensures.items) (noted_push c.args.reached.now.libs c.args.top ts c.args.notes.now.items c.args.keys.now c.add_key.new.keys t n.note key n.place h c.in_ok-note.ensures.read refl c.in_ok-add_key.ensures l)
