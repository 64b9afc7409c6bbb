-- Lists with one more element, and tests of lists.
use Rattle.std.proofs.Common.{◌≡◌, ℕ, zero, suc, ◌<◌, List, [], ◌∷◌, ◌++◌, length, refl, ap, sym, ◌∙◌, Bool, true, false, Option, Some, None, arith, slice_get}
use Rattle.std.specs.Prelude.{◌||◌, nat_eq}
use Rattle.std.specs.List.{AllByRecursion, list_all, list_any}
use Rattle.std.proofs.lemmas.Bool.{and_from, and_parts, or_parts}
use Rattle.netlist_order.specs.ReadyQueue.{names}
use Rattle.netlist_order.specs.declared.ready_queue.Waiting.{Waiting}

-- what holds of each place of a list, and of one more element, holds of each place of the longer list
pub get_more : {A B : Type 0} (f : Option A → B) (b : B) (xs : List A) (x : A) (s : ℕ) → f None ≡ b → f (Some x) ≡ b → f (slice_get xs s) ≡ b → f (slice_get (xs ++ x ∷ []) s) ≡ b
get_more f b [] x zero h k l = k
get_more f b [] x (suc s) h k l = h
get_more f b (y ∷ xs) x zero h k l = l
get_more f b (y ∷ xs) x (suc s) h k l = get_more f b xs x s h k l

-- a test that passes at one element, or at one of the others
pub any_left : {A : Type 0} (p : A → Bool) (xs ys : List A) → list_any p xs ≡ true → list_any p (xs ++ ys) ≡ true
any_left p [] ys h = absurd (cc h)
any_left p (x ∷ xs) ys h = go (p x) h (any_left p xs ys)
  where
    go : (b : Bool) → (b || list_any p xs) ≡ true → (list_any p xs ≡ true → list_any p (xs ++ ys) ≡ true) → (b || list_any p (xs ++ ys)) ≡ true
    go true h more = refl
    go false h more = more h

pub any_right : {A : Type 0} (p : A → Bool) (xs ys : List A) → list_any p ys ≡ true → list_any p (xs ++ ys) ≡ true
any_right p [] ys h = h
any_right p (x ∷ xs) ys h = go (p x) (any_right p xs ys h)
  where
    go : (b : Bool) → list_any p (xs ++ ys) ≡ true → (b || list_any p (xs ++ ys)) ≡ true
    go true more = refl
    go false more = more

pub any_none : {A : Type 0} (p : A → Bool) (xs : List A) (x : A) → list_any p xs ≡ false → p x ≡ false → list_any p (xs ++ x ∷ []) ≡ false
any_none p [] x h k = ap (λ b. b || false) k
any_none p (y ∷ xs) x h k = let t = or_parts (p y) (list_any p xs) h in ap (λ b. b || list_any p (xs ++ x ∷ [])) t.0 ∙ any_none p xs x t.1 k

-- and back
pub any_front : {A : Type 0} (p : A → Bool) (xs : List A) (x : A) → list_any p (xs ++ x ∷ []) ≡ false → (list_any p xs ≡ false) × (p x ≡ false)
any_front p [] x h = (refl, (or_parts (p x) false h).0)
any_front p (y ∷ xs) x h =
    let t = or_parts (p y) (list_any p (xs ++ x ∷ [])) h in
    let r = any_front p xs x t.1 in
    (ap (λ b. b || list_any p xs) t.0 ∙ r.0, r.1)

-- the test of all elements, from the places
pub all_from_places : {A : Type 0} (p : A → Bool) (xs : List A) → ((j : ℕ) (x : A) → j < length xs → slice_get xs j ≡ Some x → p x ≡ true) → list_all p xs ≡ true
all_from_places p [] f = refl
all_from_places p (x ∷ xs) f = and_from (p x) (list_all p xs) (f 0 x (omega arith) refl) (all_from_places p xs (λ j y l e. f (suc j) y (omega (arith, l)) e))

pub all_at : {A : Type 0} (p : A → Bool) (xs : List A) (j : ℕ) (x : A) → list_all p xs ≡ true → slice_get xs j ≡ Some x → p x ≡ true
all_at p [] j x h e = absurd (cc e)
all_at p (y ∷ xs) zero x h e = let w : y ≡ x = cc e in ap p (sym w) ∙ (and_parts (p y) (list_all p xs) h).0
all_at p (y ∷ xs) (suc j) x h e = all_at p xs j x (and_parts (p y) (list_all p xs) h).1 e

-- the cell that is named
pub named : (P : Waiting → Type 0) (s : ℕ) (ws : List Waiting) → AllByRecursion P ws → names s ws ≡ true → (w : Waiting) × P w × (nat_eq s w.slot ≡ true)
named P s [] h k = absurd (cc k)
named P s (w ∷ ws) h k = go (nat_eq s w.slot) refl k (named P s ws h.1)
  where
    go : (b : Bool) → nat_eq s w.slot ≡ b → (b || names s ws) ≡ true → (names s ws ≡ true → (v : Waiting) × P v × (nat_eq s v.slot ≡ true)) → (v : Waiting) × P v × (nat_eq s v.slot ≡ true)
    go true e k more = (w, h.0, e)
    go false e k more = more k
