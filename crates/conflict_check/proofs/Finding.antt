-- The first object with a later commit among those looked at so far.
use Rattle.std.proofs.Common.{◌≡◌, ℕ, ◌<◌, true, false, cond, List, [], ◌∷◌, ◌++◌, Option, Some, None, IsTrue, MatchOption, IsNone, ◌↔◌, ◌⊎◌, refl, sym, ap, ◌∙◌, subst, inl, inr, arith}
use Rattle.std.specs.declared.cmp.Ordering.{Ordering}
use Rattle.std.specs.declared.cmp.Ordering.TheVariants.{Less, Equal, Greater}
use Rattle.std.specs.List.{Contains}
use Rattle.std.specs.Ordering.{is_lt, is_le, is_gt, ordering_reverse}
use Rattle.std.specs.Cmp.{tied_itself, upto}
use Rattle.std.proofs.lemmas.Bool.{cases_Bool, cases_lt, lt-ltb, le-ltb}
use Rattle.std.proofs.lemmas.List.Elements.{Contains-push, Contains-push_cases, Contains-append_left}
use Rattle.netlist_schema.specs.Order.{object_cmp}
use Rattle.netlist_schema.specs.declared.ids.Object.{Object}
use Rattle.conflict_check.specs.Commits.{Commits, last_commit, IsLater, HasNoLater, IsFirstLater}
use Rattle.conflict_check.specs.Marks.{later_mark, IsFirst}
use Rattle.conflict_check.specs.declared.stamps.Later.{Later}
use Rattle.netlist_schema.proofs.Objects.{object_cmp_total}

-- the least of these objects with a later commit, or that there is none
abbrev pub FirstAmong : Commits → List Object → ℕ → Option Later → Type 0
FirstAmong commits reads version found = MatchOption found (HasNoLater commits reads version) (IsFirstLater commits reads version)

-- the object's commit after the version, or that there is none
pub record IsItsLater (commits : Commits) (object : Object) (version : ℕ) (later : Later) : Type 0 where
  pub same : later.object ≡ object
  pub last : last_commit commits object ≡ Some later.version
  pub after : version < later.version

abbrev pub OneAmong : Commits → Object → ℕ → Option Later → Type 0
OneAmong commits object version next = MatchOption next ((last : ℕ) → last_commit commits object ≡ Some last → version < last → ⊥) (IsItsLater commits object version)

pub one_from_mark : (commits : Commits) (object : Object) (version : ℕ) (mark : Option ℕ) → last_commit commits object ≡ mark → OneAmong commits object version (later_mark object version mark)
one_from_mark commits object version None e = λ last is after. cc
one_from_mark commits object version (Some last) e = elim (cases_lt version last) [
  | inl h ↦ rw (lt-ltb version last h) (record { same = refl; last = e; after = h })
  | inr h ↦ rw (le-ltb version last h) (λ other is after. let same : last ≡ other = cc in omega arith)
]

le_itself : (a b : Object) → a ≡ b → IsTrue (is_le (object_cmp a b))
le_itself a b e = subst (λ (x : Object). IsTrue (is_le (object_cmp a x))) e (ap is_le (tied_itself object_cmp_total a))

le_not_gt : (r : Ordering) → IsTrue (is_le r) → is_gt r ≡ false
le_not_gt Less h = refl
le_not_gt Equal h = refl
le_not_gt Greater h = cc

not_gt_le : (r : Ordering) → is_gt r ≡ false → IsTrue (is_le r)
not_gt_le Less h = refl
not_gt_le Equal h = refl
not_gt_le Greater h = cc

lt_le : (r : Ordering) → is_lt r ≡ true → IsTrue (is_le r)
lt_le Less h = refl
lt_le Equal h = refl
lt_le Greater h = cc

turned_le : (r : Ordering) → is_lt r ≡ false → IsTrue (is_le (ordering_reverse r))
turned_le Less h = cc
turned_le Equal h = refl
turned_le Greater h = refl

le_trans : (a b c : Object) → IsTrue (is_le (object_cmp a b)) → IsTrue (is_le (object_cmp b c)) → IsTrue (is_le (object_cmp a c))
le_trans a b c h k = not_gt_le _ (upto object_cmp_total a b c (le_not_gt _ h) (le_not_gt _ k))

not_lt_le : (a b : Object) → is_lt (object_cmp b a) ≡ false → IsTrue (is_le (object_cmp a b))
not_lt_le a b h = rw (object_cmp_total.antisymm a b) (turned_le (object_cmp b a) h)

-- there is none exactly where none was found
pub none_found : (commits : Commits) (reads : List Object) (version : ℕ) (found : Option Later) → FirstAmong commits reads version found → IsNone found ↔ HasNoLater commits reads version
none_found commits reads version None none = (λ is. none, λ is. refl)
none_found commits reads version (Some found) first = (λ is. cc, λ none. absurd (none found.object found.version first.later))

module _ (commits : Commits) (ys : List Object) (x : Object) (version : ℕ) where
  later_before : (object : Object) (last : ℕ) → IsLater commits ys version object last → IsLater commits (ys ++ x ∷ []) version object last
  later_before object last h = record { read = Contains-append_left ys (x ∷ []) object h.read; is_last = h.is_last; after = h.after }

  later_here : (next : Later) → IsItsLater commits x version next → IsLater commits (ys ++ x ∷ []) version next.object next.version
  later_here next h =
      record {
        read = subst (Contains (ys ++ x ∷ [])) (sym h.same) (Contains-push ys x);
        is_last = subst (λ object. last_commit commits object ≡ Some next.version) (sym h.same) h.last;
        after = h.after;
      }

  -- a later object is one of those before, or the new one
  each_later : (object : Object) (last : ℕ) (P : Type 0) → IsLater commits (ys ++ x ∷ []) version object last → (IsLater commits ys version object last → P) → (x ≡ object → last_commit commits x ≡ Some last → version < last → P) → P
  each_later object last P h before here = elim (Contains-push_cases ys x object h.read) [
    | inl was ↦ before (record { read = was; is_last = h.is_last; after = h.after })
    | inr same ↦ here same (subst (λ (o : Object). last_commit commits o ≡ Some last) (sym same) h.is_last) h.after
  ]

  first_kept : (found : Later) → IsFirstLater commits ys version found → ((last : ℕ) → last_commit commits x ≡ Some last → version < last → IsTrue (is_le (object_cmp found.object x))) → IsFirstLater commits (ys ++ x ∷ []) version found
  first_kept found h above =
      record {
        later = later_before found.object found.version h.later;
        least = λ object last k. each_later object last _ k (h.least object last) (λ same is after. subst (λ (o : Object). IsTrue (is_le (object_cmp found.object o))) same (above last is after));
      }

  first_new : (next : Later) → IsItsLater commits x version next → ((object : Object) (last : ℕ) → IsLater commits ys version object last → IsTrue (is_le (object_cmp next.object object))) → IsFirstLater commits (ys ++ x ∷ []) version next
  first_new next h below =
      record {
        later = later_here next h;
        least = λ object last k. each_later object last _ k (below object last) (λ same is after. le_itself next.object object (h.same ∙ same));
      }

  -- one more object
  pub first_more : (found next result : Option Later) → FirstAmong commits ys version found → OneAmong commits x version next → IsFirst found next result → FirstAmong commits (ys ++ x ∷ []) version result
  first_more None None result none no_next is = rw is (λ object last k. each_later object last ⊥ k (none object last) (λ same was after. no_next last was after))
  first_more None (Some next) result none one is = rw is (first_new next one (λ object last k. absurd (none object last k)))
  first_more (Some found) None result first no_next is = rw is (first_kept found first (λ last was after. absurd (no_next last was after)))
  first_more (Some found) (Some next) result first one is = rw is (chosen (cases_Bool (is_lt (object_cmp next.object found.object))))
    where
      chosen : (is_lt (object_cmp next.object found.object) ≡ true) ⊎ (is_lt (object_cmp next.object found.object) ≡ false) → FirstAmong commits (ys ++ x ∷ []) version (cond (is_lt (object_cmp next.object found.object)) (Some next) (Some found))
      chosen (inl e) = rw e (first_new next one (λ object last k. le_trans next.object found.object object (lt_le _ e) (first.least object last k)))
      chosen (inr e) = rw e (first_kept found first (λ last was after. subst (λ (o : Object). IsTrue (is_le (object_cmp found.object o))) one.same (not_lt_le found.object next.object e)))
