-- Marks are those of the split of each block.
use Rattle.std.proofs.Common.{◌≡◌, Bool, true, false, not, cond, List, [], ◌∷◌, ◌++◌, map, refl, sym, ap, ◌∙◌, append-nil, append_assoc}
use Rattle.std.specs.Prelude.{filter}
use Rattle.netlist_schema.specs.Design.{Design}
use Rattle.netlist_schema.specs.Types.{CellId}
use Rattle.netlist_schema.specs.Valid.{IsValid}
use Rattle.flat_spec.specs.Occurrences.{Occurrence}
use Rattle.uniquify_spec.specs.Blocks.{blocks_below, is_first}
use Rattle.uniquify_spec.proofs.ForCode.{firsts_have_none_before}
use Rattle.uniquify_copies.specs.Drafts.{Marked, copied_of, kept_of, occurrences_of}
use Rattle.uniquify_op.specs.Marks.{came_before, marks_after, marked}

pub marks_append : (before xs ys : List Occurrence) → marks_after before (xs ++ ys) ≡ marks_after before xs ++ marks_after (before ++ xs) ys
marks_append before [] ys = ap (λ l. marks_after l ys) (sym (append-nil before))
marks_append before (x ∷ xs) ys =
    let here : Marked = record { at = x; copied = came_before before x.cell } in
    ap (λ l. here ∷ l) (marks_append (before ++ x ∷ []) xs ys ∙ ap (λ l. marks_after (before ++ x ∷ []) xs ++ marks_after l ys) (append_assoc before (x ∷ []) xs))

pub marks_push : (os : List Occurrence) (o : Occurrence) (copied : Bool) → came_before os o.cell ≡ copied → marks_after [] os ++ record { at = o; copied = copied } ∷ [] ≡ marks_after [] (os ++ o ∷ [])
marks_push os o copied is = ap (λ b. marks_after [] os ++ record { at = o; copied = b } ∷ []) (sym is) ∙ sym (marks_append [] os (o ∷ []))

pub marks_occurrences : (before os : List Occurrence) → occurrences_of (marks_after before os) ≡ os
marks_occurrences before [] = refl
marks_occurrences before (o ∷ os) = ap (λ l. o ∷ l) (marks_occurrences (before ++ o ∷ []) os)

-- ---- by the first of each cell

abbrev mark_by : (Occurrence → Bool) → Occurrence → Marked
mark_by first o = record { at = o; copied = not (first o) }

twice : (b : Bool) → not (not b) ≡ b
twice true = refl
twice false = refl

marks_by : (d : Design) (top : CellId) → IsValid d → (before after : List Occurrence) → blocks_below d top ≡ before ++ after → marks_after before after ≡ map (mark_by (is_first (blocks_below d top))) after
marks_by d top valid before [] at = refl
marks_by d top valid before (o ∷ after) at =
    let first = firsts_have_none_before d top before after o valid at in
    let copied : came_before before o.cell ≡ not (is_first (blocks_below d top) o) = sym (twice (came_before before o.cell)) ∙ ap not (sym first) in
    let rest = marks_by d top valid (before ++ o ∷ []) after (at ∙ sym (append_assoc before (o ∷ []) after)) in
    λ t. record { at = o; copied = copied t } ∷ rest t

kept_by : (first : Occurrence → Bool) (os : List Occurrence) → kept_of (map (mark_by first) os) ≡ filter first os
kept_by first [] = refl
kept_by first (o ∷ os) = by (first o) (kept_by first os)
  where
    by : (b : Bool) → kept_of (map (mark_by first) os) ≡ filter first os → cond (not b) [] (o ∷ []) ++ kept_of (map (mark_by first) os) ≡ cond b (o ∷ filter first os) (filter first os)
    by true rest = ap (λ l. o ∷ l) rest
    by false rest = rest

copied_by : (first : Occurrence → Bool) (os : List Occurrence) → copied_of (map (mark_by first) os) ≡ filter (λ o. not (first o)) os
copied_by first [] = refl
copied_by first (o ∷ os) = by (not (first o)) (copied_by first os)
  where
    by : (b : Bool) → copied_of (map (mark_by first) os) ≡ filter (λ x. not (first x)) os → cond b (o ∷ []) [] ++ copied_of (map (mark_by first) os) ≡ cond b (o ∷ filter (λ x. not (first x)) os) (filter (λ x. not (first x)) os)
    by true rest = ap (λ l. o ∷ l) rest
    by false rest = rest

pub marked_kept : (d : Design) (top : CellId) → IsValid d → kept_of (marked d top) ≡ filter (is_first (blocks_below d top)) (blocks_below d top)
marked_kept d top valid = ap kept_of (marks_by d top valid [] (blocks_below d top) refl) ∙ kept_by (is_first (blocks_below d top)) (blocks_below d top)

pub marked_copied : (d : Design) (top : CellId) → IsValid d → copied_of (marked d top) ≡ filter (λ o. not (is_first (blocks_below d top) o)) (blocks_below d top)
marked_copied d top valid = ap copied_of (marks_by d top valid [] (blocks_below d top) refl) ∙ copied_by (is_first (blocks_below d top)) (blocks_below d top)
