-- Lists of operations that are done up to a place.
use Rattle.std.proofs.Common.{◌≡◌, ℕ, ◌+◌, ◌<◌, List, [], ◌∷◌, ◌++◌, Ok, Err, drop, take, get_or, length, refl, sym, ap, ◌∙◌, append-nil}
use Rattle.std.specs.Prelude.{OnErr, Result}
use Rattle.std.proofs.lemmas.List.{append_assoc, drop_more, take-append-drop, take_more}
use Rattle.netlist_schema.specs.Design.{Design}
use Rattle.edit_spec.specs.Step.{run, step}
use Rattle.edit_spec.specs.declared.ops.Op.{Op}
use Rattle.edit_spec.proofs.Overlaid.{run_push}
use Rattle.db_spec.specs.declared.event.Event.{Event}
use Rattle.used_replay.specs.Replayed.{IsPartway, accepted, accepted_in, redone, replayed}

pub on_err : {T E : Type 0} (r : Result T E) (P : Type 0) → P → OnErr r P
on_err (Ok x) P p = tt
on_err (Err e) P p = p

taken : {A : Type 0} (xs : List A) (i : ℕ) (x : A) → i < length xs → x ≡ get_or xs i x → take (i + 1) xs ≡ take i xs ++ x ∷ []
taken xs i x within is = take_more xs i x within ∙ ap (λ v. take i xs ++ v ∷ []) (sym is)

parted : {A : Type 0} (xs : List A) (i : ℕ) (x : A) → i < length xs → x ≡ get_or xs i x → xs ≡ take i xs ++ x ∷ drop (i + 1) xs
parted xs i x within is = sym (take-append-drop i xs) ∙ ap (λ v. take i xs ++ v) (drop_more xs i x within ∙ ap (λ v. v ∷ drop (i + 1) xs) (sym is))

-- ---- operations

run_both : (ops more : List Op) (d : Design) → (run d (ops ++ more)).design ≡ (run (run d ops).design more).design
run_both [] more d = refl
run_both (op ∷ ops) more d = run_both ops more (step d op).design

-- one more is done
pub op_done : (ops : List Op) (i : ℕ) (op : Op) (d now new : Design) → i < length ops → op ≡ get_or ops i op → now ≡ (run d (take i ops)).design → new ≡ (step now op).design
    → new ≡ (run d (take (i + 1) ops)).design
op_done ops i op d now new within is so_far done =
    done
    ∙ ap (λ (x : Design). (step x op).design) so_far
    ∙ sym (run_push (take i ops) d op)
    ∙ ap (λ (v : List Op). (run d v).design) (sym (taken ops i op within is))

-- the next is not done
pub op_partway : (ops : List Op) (i : ℕ) (op : Op) (d now new : Design) → i < length ops → op ≡ get_or ops i op → now ≡ (run d (take i ops)).design → new ≡ now → IsPartway d new ops
op_partway ops i op d now new within is so_far stays = record { done = take i ops; next = op; rest = drop (i + 1) ops; parts = parted ops i op within is; design = stays ∙ so_far }

-- ---- events

accepted_both : (xs ys : List Event) → accepted (xs ++ ys) ≡ accepted xs ++ accepted ys
accepted_both [] ys = refl
accepted_both (e ∷ xs) ys = ap (λ v. accepted_in e.call e.answer ++ v) (accepted_both xs ys) ∙ sym (append_assoc (accepted_in e.call e.answer) (accepted xs) (accepted ys))

pub replayed_runs : (d : Design) (history : List Event) → replayed d history ≡ (run d (accepted history)).design
replayed_runs d [] = refl
replayed_runs d (e ∷ events) = replayed_runs (redone d e.call e.answer) events ∙ sym (run_both (accepted_in e.call e.answer) (accepted events) d)

-- one more is done again
pub event_done : (history : List Event) (i : ℕ) (e : Event) (d now new : Design) → i < length history → e ≡ get_or history i e → now ≡ (run d (accepted (take i history))).design → new ≡ redone now e.call e.answer
    → new ≡ (run d (accepted (take (i + 1) history))).design
event_done history i e d now new within is so_far done =
    let ops = accepted_in e.call e.answer in
    let front = accepted (take i history) in
    let same : accepted (take (i + 1) history) ≡ front ++ ops = ap accepted (taken history i e within is) ∙ accepted_both (take i history) (e ∷ []) ∙ ap (λ v. front ++ v) (append-nil ops) in
    done
    ∙ ap (λ (x : Design). (run x ops).design) so_far
    ∙ sym (run_both front ops d)
    ∙ ap (λ (v : List Op). (run d v).design) (sym same)

-- the next is done partway
pub event_partway : (history : List Event) (i : ℕ) (e : Event) (d now new : Design) → i < length history → e ≡ get_or history i e → now ≡ (run d (accepted (take i history))).design
    → IsPartway now new (accepted_in e.call e.answer) → IsPartway d new (accepted history)
event_partway history i e d now new within is so_far part =
    let front = accepted (take i history) in
    let back = accepted (drop (i + 1) history) in
    record {
      done = front ++ part.done;
      next = part.next;
      rest = part.rest ++ back;
      parts =
          ap accepted (parted history i e within is)
          ∙ accepted_both (take i history) (e ∷ drop (i + 1) history)
          ∙ ap (λ (v : List Op). front ++ (v ++ back)) part.parts
          ∙ ap (λ (v : List Op). front ++ v) (append_assoc part.done (part.next ∷ part.rest) back)
          ∙ sym (append_assoc front part.done (part.next ∷ (part.rest ++ back)));
      design = part.design ∙ ap (λ (x : Design). (run x part.done).design) so_far ∙ sym (run_both front part.done d);
    }
