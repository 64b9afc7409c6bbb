-- Objects with their places in a list, after each change of the list.
use Rattle.std.proofs.Common.{◌≡◌, ◌⊎◌, ◌↔◌, inl, inr, ℕ, zero, suc, ◌+◌, ◌<◌, ◌≤◌, arith, true, false, cond, List, [], ◌∷◌, ◌++◌, length, take, get_or, Option, Some, None, refl, sym, ap, ◌∙◌, subst, slice_get}
use Rattle.std.specs.BTreeMap.{BTreeMap, get, is_at, Updates}
use Rattle.std.specs.Map.{lookup}
use Rattle.std.specs.List.{Contains}
use Rattle.std.specs.Ordering.{eq_by_cmp}
use Rattle.std.specs.Cmp.{eq_by_cmp_equiv}
use Rattle.std.proofs.lemmas.Bool.{cases_Bool, cases_lt}
use Rattle.std.proofs.lemmas.List.{length-append}
use Rattle.std.proofs.lemmas.List.Elements.{Contains-get_or}
use Rattle.std.proofs.lemmas.Option.{get_or_from_slice_get, slice_get-get_or, slice_get_within}
use Rattle.netlist_schema.specs.Names.{AreDistinct}
use Rattle.netlist_schema.specs.Order.{object_cmp}
use Rattle.netlist_schema.specs.declared.ids.Object.{Object}
use Rattle.netlist_schema.proofs.Objects.{object_cmp_total, tied_object}
use Rattle.edit_cells.specs.Marks.{IsPlaced}

abbrev Places : Type 0
Places = BTreeMap Object ℕ

get_left : (xs more : List Object) (k : ℕ) → k < length xs → slice_get (xs ++ more) k ≡ slice_get xs k
get_left [] more k within = absurd (omega arith)
get_left (y ∷ xs) more zero within = refl
get_left (y ∷ xs) more (suc k) within = get_left xs more k (omega arith)

get_last : (xs : List Object) (x : Object) → slice_get (xs ++ x ∷ []) (length xs) ≡ Some x
get_last [] x = refl
get_last (y ∷ xs) x = get_last xs x

get_taken : (xs : List Object) (n k : ℕ) (x : Object) → k < n → slice_get xs k ≡ Some x → slice_get (take n xs) k ≡ Some x
get_taken [] n k x within is = cc
get_taken (y ∷ xs) zero k x within is = absurd (omega arith)
get_taken (y ∷ xs) (suc n) zero x within is = is
get_taken (y ∷ xs) (suc n) (suc k) x within is = get_taken xs n k x (omega arith) is

get_of_taken : (xs : List Object) (n k : ℕ) (x : Object) → slice_get (take n xs) k ≡ Some x → (k < n) × (slice_get xs k ≡ Some x)
get_of_taken [] zero k x is = cc
get_of_taken [] (suc n) k x is = cc
get_of_taken (y ∷ xs) zero k x is = cc
get_of_taken (y ∷ xs) (suc n) zero x is = (omega arith, is)
get_of_taken (y ∷ xs) (suc n) (suc k) x is = let rest = get_of_taken xs n k x is in let less = rest.0 in (omega arith, rest.1)

-- an object with a place is in the list
pub placed_in : (list : List Object) (places : Places) (x : Object) (k : ℕ) → IsPlaced list places → get object_cmp places x ≡ Some k → Contains list x
placed_in list places x k placed is =
    let at = (placed x k).0 is in
    subst (λ (y : Object). Contains list y) (get_or_from_slice_get list k x x at) (Contains-get_or list k x (slice_get_within list k x at))

-- an object in the list has a place
pub place_of_held : (list : List Object) (places : Places) (x : Object) → IsPlaced list places → get object_cmp places x ≡ None → ¬ Contains list x
place_of_held list places x placed none = λ has.
    let at : slice_get list has.0 ≡ Some x = slice_get-get_or list has.0 x has.1 ∙ ap (λ (y : Object). Some y) has.2 in
    let never : None ≡ Some has.0 = sym none ∙ (placed x has.0).1 at in
    cc

pub no_place : (list : List Object) (places : Places) (x : Object) → IsPlaced list places → ¬ Contains list x → get object_cmp places x ≡ None
no_place list places x placed new = nothing (get object_cmp places x) (λ k is. new (placed_in list places x k placed is))
  where
    nothing : (o : Option ℕ) → ((k : ℕ) → o ≡ Some k → ⊥) → o ≡ None
    nothing None never = refl
    nothing (Some k) never = absurd (never k refl)

-- each object stands once
pub placed_differ : (list : List Object) (places : Places) → IsPlaced list places → AreDistinct list
placed_differ list places placed = λ i j d below within same.
    let early : get object_cmp places (get_or list i d) ≡ Some i = (placed (get_or list i d) i).1 (slice_get-get_or list i d (omega arith)) in
    let late : get object_cmp places (get_or list j d) ≡ Some j = (placed (get_or list j d) j).1 (slice_get-get_or list j d within) in
    let both : Some i ≡ Some j = sym early ∙ ap (get object_cmp places) same ∙ late in
    let equal : i ≡ j = cc in
    absurd (omega arith)

-- one more object, with its place
pub placed_last : (list : List Object) (old new : Places) (x : Object) → IsPlaced list old → get object_cmp old x ≡ None → Updates object_cmp old new x (Some (length list)) → IsPlaced (list ++ x ∷ []) new
placed_last list old new x placed none updates = λ o k. (there o k (cases_Bool (eq_by_cmp object_cmp x o)), back o k (cases_Bool (eq_by_cmp object_cmp x o)) (cases_lt k (length list)))
  where
    hits : (o : Object) → eq_by_cmp object_cmp x o ≡ true → get object_cmp new o ≡ Some (length list)
    hits o hit = updates.0 o ∙ ap (λ b. cond b (Some (length list)) (get object_cmp old o)) hit

    misses : (o : Object) → eq_by_cmp object_cmp x o ≡ false → get object_cmp new o ≡ get object_cmp old o
    misses o miss = updates.0 o ∙ ap (λ b. cond b (Some (length list)) (get object_cmp old o)) miss

    there : (o : Object) (k : ℕ) → (eq_by_cmp object_cmp x o ≡ true) ⊎ (eq_by_cmp object_cmp x o ≡ false) → get object_cmp new o ≡ Some k → slice_get (list ++ x ∷ []) k ≡ Some o
    there o k (inl hit) is =
        let here : Some (length list) ≡ Some k = sym (hits o hit) ∙ is in
        let at : length list ≡ k = cc in
        ap (slice_get (list ++ x ∷ [])) (sym at) ∙ get_last list x ∙ ap (λ (y : Object). Some y) (tied_object x o hit)
    there o k (inr miss) is =
        let at = (placed o k).0 (sym (misses o miss) ∙ is) in
        get_left list (x ∷ []) k (slice_get_within list k o at) ∙ at

    back : (o : Object) (k : ℕ) → (eq_by_cmp object_cmp x o ≡ true) ⊎ (eq_by_cmp object_cmp x o ≡ false) → (k < length list) ⊎ (length list ≤ k) → slice_get (list ++ x ∷ []) k ≡ Some o → get object_cmp new o ≡ Some k
    back o k (inl hit) (inl less) at =
        let was = (placed o k).1 (sym (get_left list (x ∷ []) k less) ∙ at) in
        let never : None ≡ Some k = sym none ∙ ap (get object_cmp old) (tied_object x o hit) ∙ was in
        cc
    back o k (inr miss) (inl less) at = misses o miss ∙ (placed o k).1 (sym (get_left list (x ∷ []) k less) ∙ at)
    back o k tied (inr past) at =
        let within : k < length (list ++ x ∷ []) = slice_get_within (list ++ x ∷ []) k o at in
        let last : length list ≡ k = omega (arith, length-append list (x ∷ [])) in
        let both : Some x ≡ Some o = sym (get_last list x) ∙ ap (slice_get (list ++ x ∷ [])) last ∙ at in
        let same : x ≡ o = cc in
        hits o (ap (eq_by_cmp object_cmp x) (sym same) ∙ (eq_by_cmp_equiv object_cmp_total).refl x) ∙ ap (λ (n : ℕ). Some n) last

-- places that stay
pub placed_same : (list : List Object) (old new : Places) → new.entries ≡ old.entries → IsPlaced list old → IsPlaced list new
placed_same list old new same placed = λ o k. (
  λ is. (placed o k).0 (ap (λ es. lookup (is_at (object_cmp o)) es) (sym same) ∙ is),
  λ at. ap (λ es. lookup (is_at (object_cmp o)) es) same ∙ (placed o k).1 at,
)

-- places of objects from a first one on are taken away, one after the other: those before it and from the next one on are left
pub record IsForgotten (list : List Object) (places : Places) (first next : ℕ) : Type 0 where
  pub begun : first ≤ next
  pub left : (o : Object) (k : ℕ) → (get object_cmp places o ≡ Some k) ↔ ((slice_get list k ≡ Some o) × ((k < first) ⊎ (next ≤ k)))

pub forgotten_none : (list : List Object) (places : Places) (first : ℕ) → IsPlaced list places → IsForgotten list places first first
forgotten_none list places first placed = record {
  begun = omega arith;
  left = λ o k. (λ is. ((placed o k).0 is, cases_lt k first), λ at. (placed o k).1 at.0);
}

pub forgotten_more : (list : List Object) (old new : Places) (first next : ℕ) (x : Object) → slice_get list next ≡ Some x → Updates object_cmp old new x None → IsForgotten list old first next → IsForgotten list new first (next + 1)
forgotten_more list old new first next x at updates was = record {
  begun = let begun = was.begun in omega arith;
  left = λ o k. (there o k (cases_Bool (eq_by_cmp object_cmp x o)), λ held. back o k (cases_Bool (eq_by_cmp object_cmp x o)) held.0 held.1);
}
  where
    gone : (o : Object) → eq_by_cmp object_cmp x o ≡ true → get object_cmp new o ≡ None
    gone o hit = updates.0 o ∙ ap (λ b. cond b None (get object_cmp old o)) hit

    stays : (o : Object) → eq_by_cmp object_cmp x o ≡ false → get object_cmp new o ≡ get object_cmp old o
    stays o miss = updates.0 o ∙ ap (λ b. cond b None (get object_cmp old o)) miss

    tied : (o : Object) → x ≡ o → eq_by_cmp object_cmp x o ≡ true
    tied o same = ap (eq_by_cmp object_cmp x) (sym same) ∙ (eq_by_cmp_equiv object_cmp_total).refl x

    past : (o : Object) (k : ℕ) → eq_by_cmp object_cmp x o ≡ false → slice_get list k ≡ Some o → (k < first) ⊎ (next ≤ k) → (k < first) ⊎ (next + 1 ≤ k)
    past o k miss held (inl less) = inl less
    past o k miss held (inr le) = elim (cases_lt next k) [
      | inl less ↦ inr (omega arith)
      | inr ge ↦
          let same : next ≡ k = omega arith in
          let both : Some x ≡ Some o = sym at ∙ ap (slice_get list) same ∙ held in
          let equal : x ≡ o = cc in
          let never : true ≡ false = sym (tied o equal) ∙ miss in
          cc
    ]

    there : (o : Object) (k : ℕ) → (eq_by_cmp object_cmp x o ≡ true) ⊎ (eq_by_cmp object_cmp x o ≡ false) → get object_cmp new o ≡ Some k → (slice_get list k ≡ Some o) × ((k < first) ⊎ (next + 1 ≤ k))
    there o k (inl hit) is = let never : None ≡ Some k = sym (gone o hit) ∙ is in cc
    there o k (inr miss) is =
        let held = (was.left o k).0 (sym (stays o miss) ∙ is) in
        (held.0, past o k miss held.0 held.1)

    -- the object at the next place stands there alone
    alone : (o : Object) (k : ℕ) → x ≡ o → get object_cmp old o ≡ Some k → next ≡ k
    alone o k same is =
        let here : get object_cmp old x ≡ Some next = (was.left x next).1 (at, inr (omega arith)) in
        let both : Some next ≡ Some k = sym here ∙ ap (get object_cmp old) same ∙ is in
        cc

    less_left : (k : ℕ) → (k < first) ⊎ (next + 1 ≤ k) → (k < first) ⊎ (next ≤ k)
    less_left k (inl less) = inl less
    less_left k (inr le) = inr (omega arith)

    not_next : (k : ℕ) → next ≡ k → (k < first) ⊎ (next + 1 ≤ k) → ⊥
    not_next k same (inl less) = let begun = was.begun in omega arith
    not_next k same (inr le) = omega arith

    back : (o : Object) (k : ℕ) → (eq_by_cmp object_cmp x o ≡ true) ⊎ (eq_by_cmp object_cmp x o ≡ false) → slice_get list k ≡ Some o → (k < first) ⊎ (next + 1 ≤ k) → get object_cmp new o ≡ Some k
    back o k (inl hit) held part = absurd (not_next k (alone o k (tied_object x o hit) ((was.left o k).1 (held, less_left k part))) part)
    back o k (inr miss) held part = stays o miss ∙ (was.left o k).1 (held, less_left k part)

pub forgotten_all : (list : List Object) (places : Places) (first next : ℕ) → length list ≤ next → IsForgotten list places first next → IsPlaced (take first list) places
forgotten_all list places first next long was = λ o k. (
  λ is. there o k ((was.left o k).0 is).0 ((was.left o k).0 is).1,
  λ at. let held = get_of_taken list first k o at in (was.left o k).1 (held.1, inl held.0),
)
  where
    there : (o : Object) (k : ℕ) → slice_get list k ≡ Some o → (k < first) ⊎ (next ≤ k) → slice_get (take first list) k ≡ Some o
    there o k at (inl less) = get_taken list first k o less at
    there o k at (inr le) = let within = slice_get_within list k o at in absurd (omega arith)
