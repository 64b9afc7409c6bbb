-- Marks of objects after an insert, and over a list of objects.
use Rattle.std.proofs.Common.{◌≡◌, ℕ, ◌+◌, ◌<◌, Bool, true, false, cond, ◌||◌, List, length, get_or, take, Option, Some, None, IsSome, is_some, Result, Ok, Err, OnOk, OnErr, ◌⊎◌, refl, sym, ap, ◌∙◌, inl, inr, arith}
use Rattle.std.specs.Option.{option_and_then}
use Rattle.std.specs.Ordering.{eq_by_cmp}
use Rattle.std.specs.Cmp.{eq_by_cmp_equiv}
use Rattle.std.specs.BTreeMap.{BTreeMap, get, Updates}
use Rattle.std.proofs.lemmas.Bool.{cases_Bool}
use Rattle.std.proofs.lemmas.List.Folds.{list_any_more}
use Rattle.std.proofs.lemmas.List.Elements.{All-more, All-weaker}
use Rattle.netlist_schema.specs.Order.{object_cmp}
use Rattle.netlist_schema.specs.declared.ids.Object.{Object}
use Rattle.conflict_check.specs.Commits.{later_of}
use Rattle.conflict_check.specs.Marks.{mark_at, marked_at, is_among, HasSameMarks, HasEntries}
use Rattle.netlist_schema.proofs.Objects.{object_cmp_total, tied_object}

abbrev Marks : Type 0
Marks = BTreeMap Object (Option ℕ)

pub inner_cond : (b : Bool) (x : Option ℕ) (y : Option (Option ℕ)) → option_and_then (λ mark. mark) (cond b (Some x) y) ≡ cond b x (option_and_then (λ mark. mark) y)
inner_cond true x y = refl
inner_cond false x y = refl

-- an insert sets the mark of its object alone
mark_at_insert : (m n : Marks) (object : Object) (mark : Option ℕ) → Updates object_cmp m n object (Some mark) → (q : Object) → mark_at n q ≡ cond (eq_by_cmp object_cmp object q) mark (mark_at m q)
mark_at_insert m n object mark h q = ap (option_and_then (λ (x : Option ℕ). x)) (h.0 q) ∙ inner_cond (eq_by_cmp object_cmp object q) mark (get object_cmp m q)

some_cond : (b : Bool) (x : Option ℕ) (y : Option (Option ℕ)) → is_some y ≡ true → is_some (cond b (Some x) y) ≡ true
some_cond true x y h = refl
some_cond false x y h = h

-- and leaves the entries
has_entry_insert : (m n : Marks) (object : Object) (mark : Option ℕ) → Updates object_cmp m n object (Some mark) → (q : Object) → IsSome (get object_cmp m q) → IsSome (get object_cmp n q)
has_entry_insert m n object mark h q had = ap is_some (h.0 q) ∙ some_cond (eq_by_cmp object_cmp object q) mark (get object_cmp m q) had

pub has_entries_insert : (m n : Marks) (object : Object) (mark : Option ℕ) → Updates object_cmp m n object (Some mark) → (objects : List Object) → HasEntries m objects → HasEntries n objects
has_entries_insert m n object mark h objects = All-weaker (λ q. IsSome (get object_cmp m q)) (λ q. IsSome (get object_cmp n q)) (λ q had. has_entry_insert m n object mark h q had) objects

-- one more object has an entry
pub has_entries_more : (m n : Marks) (mark : Option ℕ) (objects : List Object) (i : ℕ) (d : Object) → i < length objects → Updates object_cmp m n (get_or objects i d) (Some mark) → HasEntries m (take i objects) → HasEntries n (take (i + 1) objects)
has_entries_more m n mark objects i d in_range h had =
    let here : IsSome (get object_cmp n (get_or objects i d)) = ap is_some h.1 in
    All-more (λ q. IsSome (get object_cmp n q)) objects i d in_range (has_entries_insert m n (get_or objects i d) mark h (take i objects) had) here

-- the mark that was there, written back, changes nothing
pub same_marks_insert : (m n : Marks) (object : Object) → Updates object_cmp m n object (Some (mark_at m object)) → HasSameMarks m n
same_marks_insert m n object h q = mark_at_insert m n object (mark_at m object) h q ∙ cases (cases_Bool (eq_by_cmp object_cmp object q))
  where
    cases : (eq_by_cmp object_cmp object q ≡ true) ⊎ (eq_by_cmp object_cmp object q ≡ false) → cond (eq_by_cmp object_cmp object q) (mark_at m object) (mark_at m q) ≡ mark_at m q
    cases (inl e) = rw e (ap (mark_at m) (tied_object object q e))
    cases (inr e) = rw e refl

-- a later mark twice is one
later_of_twice : (mark : Option ℕ) (version : ℕ) → later_of (Some (later_of mark version)) version ≡ later_of mark version
later_of_twice None version = omega arith
later_of_twice (Some last) version = omega arith

-- the marks after one more object, where among tells whether the object in question was marked already, and here whether it is the new one
one_more : (among here : Bool) (x : Option ℕ) (new : Option ℕ) (version : ℕ) → (here ≡ true → new ≡ Some (later_of (cond among (Some (later_of x version)) x) version)) → cond here new (cond among (Some (later_of x version)) x) ≡ cond (among || here) (Some (later_of x version)) x
one_more true true x new version h = h refl ∙ ap Some (later_of_twice x version)
one_more true false x new version h = refl
one_more false true x new version h = h refl
one_more false false x new version h = refl

-- a step of marking a list
pub marked_more : (first m n : Marks) (objects : List Object) (version i : ℕ) (d : Object) → i < length objects
    → ((q : Object) → mark_at m q ≡ marked_at first (take i objects) version q)
    → Updates object_cmp m n (get_or objects i d) (Some (Some (later_of (mark_at m (get_or objects i d)) version)))
    → (q : Object) → mark_at n q ≡ marked_at first (take (i + 1) objects) version q
marked_more first m n objects version i d in_range before h q =
    let object = get_or objects i d in
    let new = Some (later_of (mark_at m object) version) in
    let turned = (eq_by_cmp_equiv object_cmp_total).symm object q in
    mark_at_insert m n object new h q
    ∙ ap (cond (eq_by_cmp object_cmp object q) new) (before q)
    ∙ ap (λ b. cond b new (marked_at first (take i objects) version q)) turned
    ∙ one_more (is_among (take i objects) q) (eq_by_cmp object_cmp q object) (mark_at first q) new version (λ e. ap (λ x. Some (later_of x version)) (ap (mark_at m) (sym (tied_object q object e)) ∙ before q))
    ∙ ap (λ b. cond b (Some (later_of (mark_at first q) version)) (mark_at first q)) (sym (list_any_more (eq_by_cmp object_cmp q) objects i d in_range))

-- the one outcome where the other cannot be
pub ok_since : {A E : Type 0} (r : Result A E) (P Q : Type 0) → OnOk r P → OnErr r Q → (Q → ⊥) → P
ok_since (Ok x) P Q p q never = p
ok_since (Err e) P Q p q never = absurd (never q)

pub err_from : {A E : Type 0} (r : Result A E) (P : Type 0) → P → OnErr r P
err_from (Ok x) P p = tt
err_from (Err e) P p = p
