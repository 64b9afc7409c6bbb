-- What was given to a buffered sink, step by step.
use Rattle.std.proofs.Common.{◌≡◌, ◌<◌, ◌≤◌, ℕ, List, [], ◌++◌, Option, Some, None, false, refl, ap, sym, ◌∙◌, subst, arith, append_assoc, append-nil, inl, inr}
use Rattle.std.specs.Prelude.{is_some, ◌⊎◌, ◌^◌, ◌-◌, OnOk, OnErr, IfErr, Result, Ok, Err}
use Rattle.std.proofs.Math.Nat.{eq-or-lt_of_le}
use Rattle.netdb_outside.proofs.Appending.{appends_none, appends_then}
use Rattle.netdb_outside.specs.Outside.{Appends, AppendsFront, Rose}
use Rattle.netdb_outside.specs.Buffered.{Buffered, Writes, Comes, IsParted, nothing_waits, out_of_memory}
use Rattle.netdb_outside.specs.declared.write_error.WriteError.{WriteError}
use Rattle.netdb_outside.specs.declared.write_error.WriteError.TheVariants.{NoMemory, WriteFault}

comes_nothing : (told : Option (List ℕ)) (n : ℕ) (waiting : List ℕ) (failure : Option WriteError) → Comes told told n n (waiting ++ []) waiting failure failure
comes_nothing told n waiting None = ([], append-nil waiting, appends_none told)
comes_nothing told n waiting (Some e) = (refl, refl)

-- no bytes are given by doing nothing
pub writes_nothing : {K : Type 0} {written : K → Option (List ℕ)} {faults : K → ℕ} (k : K) (page : Buffered) → Writes written faults k page k page []
writes_nothing {written = written} {faults = faults} k page = record {
  comes = comes_nothing (written k) (faults k) page.waiting page.failure;
  never_falls = omega arith;
}

rose_later : (a b c : ℕ) → a ≤ b → Rose b c → Rose a c
rose_later a b c h (inl r) = inl (omega arith)
rose_later a b c h (inr r) = inr r

rose_then : (a b c : ℕ) → b ≡ 2 ^ 64 - 1 → a ≤ b → (b ≡ c) ⊎ (b < c) → Rose a c
rose_then a b c r k (inl e) = inr (sym e ∙ r)
rose_then a b c r k (inr l) = inl (omega arith)

rose_before : (a b c : ℕ) → a ≤ b → Rose a b → b ≤ c → Rose a c
rose_before a b c k (inl r) h = inl (omega arith)
rose_before a b c k (inr r) h = rose_then a b c r k (eq-or-lt_of_le h)

-- what waits after two steps
parted_then : (a b c : Option (List ℕ)) (w x v y u : List ℕ) → IsParted a b (w ++ x) v → IsParted b c (v ++ y) u → IsParted a c (w ++ (x ++ y)) u
parted_then a b c w x v y u h k = (
  h.0 ++ k.0,
  sym (append_assoc w x y) ∙ (ap (λ z. z ++ y) h.1 ∙ (append_assoc h.0 v y ∙ (ap (λ z. h.0 ++ z) k.1 ∙ sym (append_assoc h.0 k.0 u)))),
  appends_then a b c h.0 k.0 h.2 k.2,
)

-- a front of more bytes
front_more : (a b : Option (List ℕ)) (w x y : List ℕ) → AppendsFront a b (w ++ x) → AppendsFront a b (w ++ (x ++ y))
front_more a b w x y h = (h.0, h.1 ++ y, sym (append_assoc w x y) ∙ (ap (λ v. v ++ y) h.2 ∙ append_assoc h.0 h.1 y), h.3)

comes_then : (a b c : Option (List ℕ)) (l m n : ℕ) (w x v y u : List ℕ) (e f g : Option WriteError)
    → l ≤ m → m ≤ n → Comes a b l m (w ++ x) v e f → Comes b c m n (v ++ y) u f g → Comes a c l n (w ++ (x ++ y)) u e g
comes_then a b c l m n w x v y u None None None p q h k = parted_then a b c w x v y u h k
comes_then a b c l m n w x v y u None None (Some g) p q h k =
    let r = parted_then a b c w x v y k.0.1 h (k.0.0, k.0.2, k.0.3) in
    ((r.0, k.0.1, r.1, r.2), λ i. rose_later l m n p (k.1 i))
comes_then a b c l m n w x v y u None (Some f) None p q h k = absurd k
comes_then a b c l m n w x v y u None (Some f) (Some g) p q h k =
    let P : Option (List ℕ) → Type 0 = λ t. AppendsFront a t (w ++ (x ++ y)) in
    (subst P (sym k.1) (front_more a b w x y h.0), λ i. rose_before l m n p (h.1 (sym k.0 ∙ i)) q)
comes_then a b c l m n w x v y u (Some e) None g p q h k = absurd h
comes_then a b c l m n w x v y u (Some e) (Some f) None p q h k = absurd k
comes_then a b c l m n w x v y u (Some e) (Some f) (Some g) p q h k = (k.0 ∙ h.0, k.1 ∙ h.1)

-- bytes are given one after another
pub writes_then : {K : Type 0} {written : K → Option (List ℕ)} {faults : K → ℕ} {i j k : K} {before page after : Buffered} {x y : List ℕ}
    → Writes written faults i before j page x → Writes written faults j page k after y → Writes written faults i before k after (x ++ y)
writes_then {written = written} {faults = faults} {i = i} {j = j} {k = k} {before = before} {page = page} {after = after} {x = x} {y = y} h l = record {
  comes = comes_then (written i) (written j) (written k) (faults i) (faults j) (faults k) before.waiting x page.waiting y after.waiting
      before.failure page.failure after.failure h.never_falls l.never_falls h.comes l.comes;
  never_falls = omega (arith, h.never_falls, l.never_falls);
}

-- the same bytes, said otherwise
pub writes_same : {K : Type 0} {written : K → Option (List ℕ)} {faults : K → ℕ} {i j : K} {before after : Buffered} {x y : List ℕ}
    → x ≡ y → Writes written faults i before j after x → Writes written faults i before j after y
writes_same {written = written} {faults = faults} {i = i} {j = j} {before = before} {after = after} e h =
    let P : List ℕ → Type 0 = Writes written faults i before j after in subst P e h

stuck_comes : (told : Option (List ℕ)) (n : ℕ) (w v : List ℕ) (failure : Option WriteError) (e : WriteError) → failure ≡ Some e → Comes told told n n w v failure failure
stuck_comes told n w v failure e h = rw h (refl, refl)

held_comes : (told : Option (List ℕ)) (n : ℕ) (w v : List ℕ) (before after : Option WriteError) → before ≡ None → after ≡ None → v ≡ w → Comes told told n n w v before after
held_comes told n w v before after h k e = rw (h, k) ([], sym e, appends_none told)

failed_comes : (told : Option (List ℕ)) (n : ℕ) (w v : List ℕ) (before after : Option WriteError) → before ≡ None → after ≡ Some NoMemory → Comes told told n n w v before after
failed_comes told n w v before after h k = rw (h, k) (([], w, refl, appends_none told), λ i. cc)

-- after a failure nothing is written
pub writes_stuck : {K : Type 0} {written : K → Option (List ℕ)} {faults : K → ℕ} (k : K) (page : Buffered) (e : WriteError) (x : List ℕ)
    → page.failure ≡ Some e → Writes written faults k page k page x
writes_stuck {written = written} {faults = faults} k page e x h = record {
  comes = stuck_comes (written k) (faults k) (page.waiting ++ x) page.waiting page.failure e h;
  never_falls = omega arith;
}

-- bytes wait
pub writes_held : {K : Type 0} {written : K → Option (List ℕ)} {faults : K → ℕ} (k : K) (before after : Buffered) (x : List ℕ)
    → before.failure ≡ None → after.failure ≡ None → after.waiting ≡ before.waiting ++ x → Writes written faults k before k after x
writes_held {written = written} {faults = faults} k before after x h l e = record {
  comes = held_comes (written k) (faults k) (before.waiting ++ x) after.waiting before.failure after.failure h l e;
  never_falls = omega arith;
}

whole_put : (a b : Option (List ℕ)) (m n : ℕ) (w x : List ℕ) (failure : Option WriteError) → failure ≡ None → w ≡ [] → Appends a b x → Comes a b m n (w ++ x) w failure failure
whole_put a b m n w x failure none empty all = rw (none, empty) (x, sym (append-nil x), all)

-- nothing waits, and the bytes are put
pub put_whole : {K : Type 0} {written : K → Option (List ℕ)} {faults : K → ℕ} (i k : K) (page : Buffered) (x : List ℕ)
    → page.failure ≡ None → page.waiting ≡ [] → Appends (written i) (written k) x → faults i ≤ faults k → Writes written faults i page k page x
put_whole {written = written} {faults = faults} i k page x none empty all more = record {
  comes = whole_put (written i) (written k) (faults i) (faults k) page.waiting x page.failure none empty all;
  never_falls = more;
}

broken_put : (a b : Option (List ℕ)) (m n : ℕ) (w v x : List ℕ) (before after : Option WriteError) (e : WriteError) → before ≡ None → w ≡ [] → after ≡ Some e → AppendsFront a b x → (e ≡ WriteFault → Rose m n)
    → Comes a b m n (w ++ x) v before after
broken_put a b m n w v x before after e none empty bad front cause = rw (none, empty, bad) (front, cause)

-- nothing waits, and the sink takes a front of the bytes
pub put_broken : {K : Type 0} {written : K → Option (List ℕ)} {faults : K → ℕ} (i k : K) (before after : Buffered) (x : List ℕ) (e : WriteError)
    → before.failure ≡ None → before.waiting ≡ [] → after.failure ≡ Some e → AppendsFront (written i) (written k) x → (e ≡ WriteFault → Rose (faults i) (faults k)) → faults i ≤ faults k
    → Writes written faults i before k after x
put_broken {written = written} {faults = faults} i k before after x e none empty bad front cause more = record {
  comes = broken_put (written i) (written k) (faults i) (faults k) before.waiting after.waiting x before.failure after.failure e none empty bad front cause;
  never_falls = more;
}

-- memory fails before the sink is asked
pub writes_failed : {K : Type 0} {written : K → Option (List ℕ)} {faults : K → ℕ} (k : K) (before after : Buffered) (x : List ℕ)
    → before.failure ≡ None → after.failure ≡ Some NoMemory → Writes written faults k before k after x
writes_failed {written = written} {faults = faults} k before after x h l = record {
  comes = failed_comes (written k) (faults k) (before.waiting ++ x) after.waiting before.failure after.failure h l;
  never_falls = omega arith;
}

whole_comes : (a b : Option (List ℕ)) (m n : ℕ) (w v : List ℕ) (e f : Option WriteError) → e ≡ None → f ≡ None → v ≡ [] → Comes a b m n w v e f → Appends a b w
whole_comes a b m n w v None None p q r h =
    let P : List ℕ → Type 0 = Appends a b in
    subst P (sym (h.1 ∙ (ap (λ z. h.0 ++ z) r ∙ append-nil h.0))) h.2
whole_comes a b m n w v None (Some f) p q r h = cc
whole_comes a b m n w v (Some e) f p q r h = cc

front_comes : (a b : Option (List ℕ)) (m n : ℕ) (w v : List ℕ) (e f : Option WriteError) (g : WriteError) → e ≡ None → f ≡ Some g → Comes a b m n w v e f → AppendsFront a b w
front_comes a b m n w v None None g p q h = cc
front_comes a b m n w v None (Some f) g p q h = h.0
front_comes a b m n w v (Some e) f g p q h = cc

-- nothing failed and nothing waits: the bytes were written
all_written : {K : Type 0} {written : K → Option (List ℕ)} {faults : K → ℕ} {i k : K} {before after : Buffered} {x : List ℕ}
    → Writes written faults i before k after x → before ≡ nothing_waits → after ≡ nothing_waits → Appends (written i) (written k) x
all_written {written = written} {faults = faults} {i = i} {k = k} {before = before} {after = after} {x = x} h start done =
    let P : List ℕ → Type 0 = λ w. Appends (written i) (written k) (w ++ x) in
    subst P (ap (λ b. b.waiting) start)
    (whole_comes (written i) (written k) (faults i) (faults k) (before.waiting ++ x) after.waiting before.failure after.failure (ap (λ b. b.failure) start)
    (ap (λ b. b.failure) done) (ap (λ b. b.waiting) done) h.comes)

-- something failed: a front was written
front_written : {K : Type 0} {written : K → Option (List ℕ)} {faults : K → ℕ} {i k : K} {before after : Buffered} {x : List ℕ} {e : WriteError}
    → Writes written faults i before k after x → before ≡ nothing_waits → after.failure ≡ Some e → AppendsFront (written i) (written k) x
front_written {written = written} {faults = faults} {i = i} {k = k} {before = before} {after = after} {x = x} {e = e} h start bad =
    let P : List ℕ → Type 0 = λ w. AppendsFront (written i) (written k) (w ++ x) in
    subst P (ap (λ b. b.waiting) start)
    (front_comes (written i) (written k) (faults i) (faults k) (before.waiting ++ x) after.waiting before.failure after.failure e (ap (λ b. b.failure) start) bad h.comes)

-- bytes were given from the start to the end: where that went well, they were written
pub finished_well : {A K : Type 0} {written : K → Option (List ℕ)} {faults : K → ℕ} {i k : K} {before after : Buffered} {x : List ℕ} (r : Result A WriteError)
    → Writes written faults i before k after x → before ≡ nothing_waits → OnOk r (after ≡ nothing_waits) → OnOk r (Appends (written i) (written k) x)
finished_well (Ok a) h start done = all_written h start done
finished_well (Err e) h start done = tt

-- where it did not, a front of them was
pub finished_badly : {A K : Type 0} {written : K → Option (List ℕ)} {faults : K → ℕ} {i k : K} {before after : Buffered} {x : List ℕ} (r : Result A WriteError)
    → Writes written faults i before k after x → before ≡ nothing_waits → IfErr r (λ e. after.failure ≡ Some e) → OnErr r (AppendsFront (written i) (written k) x)
finished_badly (Ok a) h start bad = tt
finished_badly (Err e) h start bad = front_written h start bad

-- nothing has failed
not_stuck : {E : Type 0} (failure : Option E) → is_some failure ≡ false → failure ≡ None
not_stuck None h = refl
not_stuck (Some e) h = absurd (cc h)

-- there was no memory for bytes, where nothing had failed
pub ran_out : {K : Type 0} {written : K → Option (List ℕ)} {faults : K → ℕ} (k : K) (before after : Buffered) (x : List ℕ)
    → is_some before.failure ≡ false → after ≡ out_of_memory before → Writes written faults k before k after x
ran_out k before after x h e = writes_failed k before after x (not_stuck before.failure h) (ap (λ b. b.failure) e)
