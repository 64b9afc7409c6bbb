-- What a program that makes the copies can rest on.
use Rattle.std.proofs.Common.{◌≡◌, List, [], ◌∷◌, ◌++◌, refl, sym, ap, subst, ◌∙◌, inl, inr, Option, Some, Bool, true, false, not, append-nil, append_assoc}
use Rattle.std.specs.Prelude.{find}
use Rattle.std.specs.List.{list_any}
use Rattle.std.specs.Option.{option_map_or}
use Rattle.std.proofs.lemmas.Bool.{cases_Bool, true≢false, cond-true, cond-false, or_parts, or_cases}
use Rattle.netlist_schema.specs.Design.{Design}
use Rattle.netlist_schema.specs.Types.{CellId}
use Rattle.netlist_schema.specs.Valid.{IsValid}
use Rattle.edit_rules_spec.specs.Paths.{same_cell}
use Rattle.edit_rules_spec.proofs.Levels.{same_cell-refl}
use Rattle.flat_spec.specs.Occurrences.{Occurrence}
use Rattle.flat_spec.specs.PathOrder.{PathBefore}
use Rattle.flat_spec.proofs.ListLemmas.{Member, Member-append_right, Ascends, Ascends-filter}
use Rattle.flat_spec.proofs.OccurrenceLemmas.{OccurrenceBefore}
use Rattle.uniquify_spec.specs.Blocks.{is_block, blocks_below, is_first}
use Rattle.uniquify_spec.specs.Copies.{Copy, same_path, copy_after, copies_after}
use Rattle.uniquify_spec.proofs.BlockSplit.{PathBefore-never}
use Rattle.uniquify_spec.proofs.CopyLists.{same_path-true, same_path-refl}
use Rattle.uniquify_spec.proofs.Unfolded.{below, below_ascends}

-- ---- copies go on

pub copies_go_on : (d : Design) (before : List Copy) (os more : List Occurrence)
    → copies_after d before (os ++ more) ≡ copies_after d before os ++ copies_after d (before ++ copies_after d before os) more
copies_go_on d before [] more = ap (λ l. copies_after d l more) (sym (append-nil before))
copies_go_on d before (o ∷ os) more =
    let copy = copy_after d before o in
    ap (λ ms. copy ∷ ms)
    (copies_go_on d (before ++ copy ∷ []) os more
    ∙ ap (λ l. copies_after d (before ++ copy ∷ []) os ++ copies_after d l more) (append_assoc before (copy ∷ []) (copies_after d (before ++ copy ∷ []) os)))

-- ---- firsts

find-in_front : {A : Type 0} (test : A → Bool) (xs ys : List A) → list_any test xs ≡ false → find test (xs ++ ys) ≡ find test ys
find-in_front test [] ys none = refl
find-in_front test (x ∷ xs) ys none =
    let both = or_parts _ _ none in
    cond-false _ _ _ both.0 ∙ find-in_front test xs ys both.1

find-front : {A : Type 0} (test : A → Bool) (xs ys : List A) → list_any test xs ≡ true → (x : A) × (find test (xs ++ ys) ≡ Some x) × Member xs x
find-front test [] ys any = absurd (true≢false (sym any))
find-front test (x ∷ xs) ys any = elim (cases_Bool (test x)) [
  | inl passes ↦ (x, cond-true _ _ _ passes, inl refl)
  | inr fails ↦ elim (or_cases _ _ any) [
    | inl here ↦ absurd (true≢false (sym here ∙ fails))
    | inr later ↦ let more = find-front test xs ys later in (more.0, cond-false _ _ _ fails ∙ more.1, inr more.2)
  ]
]

front_before : (xs ys : List Occurrence) (o : Occurrence) → Ascends OccurrenceBefore (xs ++ o ∷ ys) → (q : Occurrence) → Member xs q → PathBefore q.path o.path
front_before [] ys o p q m = absurd m
front_before (x ∷ xs) ys o p q m = elim m [
  | inl e ↦ subst (λ (v : Occurrence). PathBefore v.path o.path) e (p.0 o (Member-append_right xs (o ∷ ys) o (inl refl)))
  | inr rest ↦ front_before xs ys o p.1 q rest
]

firsts_by : (os before after : List Occurrence) (o : Occurrence) → Ascends OccurrenceBefore os → os ≡ before ++ o ∷ after
    → is_first os o ≡ not (list_any (λ (other : Occurrence). same_cell other.cell o.cell) before)
firsts_by os before after o ascends at = elim (cases_Bool (list_any test before)) [
  | inr none ↦
      let found : find test os ≡ Some o = ap (find test) at ∙ find-in_front test before (o ∷ after) none ∙ cond-true _ _ _ (same_cell-refl o.cell) in
      ap (λ (f : Option Occurrence). option_map_or (λ first. same_path first.path o.path) f false) found ∙ same_path-refl o.path ∙ sym (ap not none)
  | inl some ↦
      let front = find-front test before (o ∷ after) some in
      let found : find test os ≡ Some front.0 = ap (find test) at ∙ front.1 in
      let apart : same_path front.0.path o.path ≡ false = elim (cases_Bool (same_path front.0.path o.path)) [
        | inr differ ↦ differ
        | inl same ↦
            let earlier = front_before before after o (subst (λ l. Ascends OccurrenceBefore l) at ascends) front.0 front.2 in
            absurd (PathBefore-never o.path (subst (λ p. PathBefore p o.path) (same_path-true front.0.path o.path same) earlier))
      ] in
      ap (λ (f : Option Occurrence). option_map_or (λ first. same_path first.path o.path) f false) found ∙ apart ∙ sym (ap not some)
]
  where
    test : Occurrence → Bool
    test other = same_cell other.cell o.cell

pub firsts_have_none_before : (d : Design) (top : CellId) (before after : List Occurrence) (o : Occurrence) → IsValid d → blocks_below d top ≡ before ++ o ∷ after
    → is_first (blocks_below d top) o ≡ not (list_any (λ (other : Occurrence). same_cell other.cell o.cell) before)
firsts_have_none_before d top before after o valid at =
    firsts_by (blocks_below d top) before after o (Ascends-filter OccurrenceBefore (λ (q : Occurrence). is_block d q.cell) (below d top) (below_ascends d top)) at
