-- The last commits that marks stand for.
use Rattle.std.proofs.Common.{◌≡◌, ℕ, true, false, cond, List, [], ◌∷◌, Option, Some, None, ◌⊎◌, refl, sym, ap, ◌∙◌, inl, inr}
use Rattle.std.specs.List.{Contains}
use Rattle.std.specs.List.Sorted.{IsStrictlySortedBy}
use Rattle.std.specs.Option.{option_and_then}
use Rattle.std.specs.Ordering.{eq_by_cmp}
use Rattle.std.specs.Cmp.{eq_by_cmp_equiv}
use Rattle.std.specs.Map.{keys_of, lookup}
use Rattle.std.specs.BTreeMap.{BTreeMap, is_at, IsOrdered}
use Rattle.std.specs.FinMap.{find, from_entries, get-from_entries, same_map}
use Rattle.std.proofs.lemmas.Bool.{cases_Bool}
use Rattle.std.proofs.lemmas.Map.{lookup-none}
use Rattle.std.proofs.lemmas.Map.Entries.{none_past_head}
use Rattle.std.proofs.lemmas.Map.Keys.{sorted_tail, IsDistinct-from_sorted}
use Rattle.std.proofs.lemmas.Map.Views.{Contains-from_any, list_any-from_Contains}
use Rattle.netlist_schema.specs.Order.{object_cmp}
use Rattle.netlist_schema.specs.declared.ids.Object.{Object}
use Rattle.conflict_check.specs.Commits.{Commits, last_commit, later_of, IsMarked}
use Rattle.conflict_check.specs.Inside.{stamped}
use Rattle.conflict_check.specs.Marks.{mark_at, marked_at, is_among, HasSameMarks}
use Rattle.netlist_schema.proofs.Objects.{object_cmp_total, object_cmp_exact, tied_object}
use Rattle.conflict_check.proofs.Marking.{inner_cond}

abbrev Entries : Type 0
Entries = List (Object × Option ℕ)

-- the entries that have a mark find what the look-up of an entry finds
find_stamped : (q : Object) (es : Entries) → IsStrictlySortedBy object_cmp (keys_of es) → find object_cmp q (stamped es) ≡ option_and_then (λ mark. mark) (lookup (is_at (object_cmp q)) es)
find_stamped q [] h = refl
find_stamped q ((object, Some last) ∷ es) h =
    ap (cond (eq_by_cmp object_cmp q object) (Some last)) (find_stamped q es (sorted_tail object_cmp object (keys_of es) h))
    ∙ sym (inner_cond (eq_by_cmp object_cmp q object) (Some last) (lookup (is_at (object_cmp q)) es))
find_stamped q ((object, None) ∷ es) h =
    find_stamped q es (sorted_tail object_cmp object (keys_of es) h)
    ∙ cases (cases_Bool (eq_by_cmp object_cmp q object))
    ∙ sym (inner_cond (eq_by_cmp object_cmp q object) None (lookup (is_at (object_cmp q)) es))
  where
    cases : (eq_by_cmp object_cmp q object ≡ true) ⊎ (eq_by_cmp object_cmp q object ≡ false) → option_and_then (λ mark. mark) (lookup (is_at (object_cmp q)) es) ≡ cond (eq_by_cmp object_cmp q object) None (option_and_then (λ mark. mark) (lookup (is_at (object_cmp q)) es))
    cases (inl e) = rw e (ap (option_and_then (λ (mark : Option ℕ). mark)) (lookup-none (is_at (object_cmp q)) es (none_past_head (eq_by_cmp_equiv object_cmp_total) q (object, None) es (IsDistinct-from_sorted object_cmp (keys_of ((object, None) ∷ es)) h) e)))
    cases (inr e) = rw e refl

-- the last commits are the marks
pub last_commit_is_mark : (marks : BTreeMap Object (Option ℕ)) → IsOrdered object_cmp marks → (q : Object) → last_commit (from_entries (stamped marks.entries)) q ≡ mark_at marks q
last_commit_is_mark marks ordered q = get-from_entries object_cmp_total (stamped marks.entries) q ∙ find_stamped q marks.entries ordered

-- where the marks are the same, so are the last commits
pub same_commits : (old new : BTreeMap Object (Option ℕ)) → IsOrdered object_cmp old → IsOrdered object_cmp new → HasSameMarks old new → from_entries {R = object_cmp} (stamped new.entries) ≡ from_entries (stamped old.entries)
same_commits old new h k same = same_map object_cmp_total object_cmp_exact _ _ (λ q. last_commit_is_mark new k q ∙ same q ∙ sym (last_commit_is_mark old h q))

-- what was marked is marked, and nothing else
pub marked_commits : (old new : Commits) (written : List Object) (version : ℕ) → ((q : Object) → last_commit new q ≡ cond (is_among written q) (Some (later_of (last_commit old q) version)) (last_commit old q)) → IsMarked old new written version
marked_commits old new written version h =
    record {
      marked = λ object has. h object ∙ ap (λ b. cond b (Some (later_of (last_commit old object) version)) (last_commit old object)) (list_any-from_Contains (eq_by_cmp_equiv object_cmp_total) object written has);
      others = λ object lacks. h object ∙ ap (λ b. cond b (Some (later_of (last_commit old object) version)) (last_commit old object)) (not_among object lacks);
    }
  where
    not_among : (object : Object) → (Contains written object → ⊥) → is_among written object ≡ false
    not_among object lacks = elim (cases_Bool (is_among written object)) [
      | inl e ↦ absurd (lacks (Contains-from_any tied_object object written e))
      | inr e ↦ e
    ]

-- the marks of mid are those of old, and new has those once these objects were marked
pub marked_view : (old mid new : BTreeMap Object (Option ℕ)) (written : List Object) (version : ℕ) → IsOrdered object_cmp old → IsOrdered object_cmp new → HasSameMarks old mid → ((q : Object) → mark_at new q ≡ marked_at mid written version q)
    → IsMarked (from_entries (stamped old.entries)) (from_entries (stamped new.entries)) written version
marked_view old mid new written version h k same marked =
    marked_commits _ _ written version (λ q.
    last_commit_is_mark new k q ∙ marked q
    ∙ ap (λ mark. cond (is_among written q) (Some (later_of mark version)) mark) (same q ∙ sym (last_commit_is_mark old h q)))
