-- Cells that are met.
use Rattle.std.proofs.Common.{◌≡◌, ◌<◌, ◌≤◌, ◌+◌, ℕ, suc, Bool, true, false, cond, List, [], ◌∷◌, ◌++◌, length, Option, Some, None, refl, sym, ap, subst, ◌∙◌, inl, inr, arith, length-append}
use Rattle.std.specs.Prelude.{◌&&◌, ◌||◌, ◌⊎◌, is_some, slice_get}
use Rattle.std.specs.BTreeMap.{get, is_at}
use Rattle.std.specs.Ordering.{nat_cmp}
use Rattle.std.proofs.lemmas.Bool.{cases_Bool, cases_lt, cases_order, cond-true, cond-false}
use Rattle.std.proofs.lemmas.List.Folds.{list_any-append}
use Rattle.netlist_schema.specs.Design.{Design}
use Rattle.netlist_schema.specs.Order.{cell_cmp}
use Rattle.netlist_schema.specs.Types.{CellId}
use Rattle.edit_rules_spec.specs.Paths.{same_cell}
use Rattle.edit_rules_spec.proofs.Levels.{is_same_cell}
use Rattle.flat_spec.specs.Occurrences.{Occurrence}
use Rattle.uniquify_spec.specs.Blocks.{is_block}
use Rattle.uniquify_copies.specs.declared.spot.Step.{Step}
use Rattle.uniquify_copies.proofs.Stems.{is_eq-then, number_at}
use Rattle.uniquify_blocks.specs.Kids.{kids_of}
use Rattle.uniquify_op.specs.Frames.{row_at}
use Rattle.uniquify_op.specs.Marks.{came_before}
use Rattle.uniquify_op.specs.Visited.{AreMet}
use Rattle.uniquify_op.specs.declared.met.Met.{Met}
use Rattle.uniquify_op.proofs.Places.{filter_passes, row_at_last, row_at_more, row_at_past}

at_cell : (a b : CellId) → is_at (cell_cmp a) b ≡ same_cell a b
at_cell a b =
    is_eq-then (nat_cmp a.lib.0 b.lib.0) (nat_cmp a.slot b.slot)
    ∙ (λ i. number_at a.lib.0 b.lib.0 i && number_at a.slot b.slot i)

came_push : (seen : List Occurrence) (o : Occurrence) (id : CellId) → came_before (seen ++ o ∷ []) id ≡ (came_before seen id || same_cell o.cell id)
came_push seen o id = list_any-append (λ (other : Occurrence). same_cell other.cell id) seen (o ∷ []) ∙ ap (λ b. came_before seen id || b) (or_none (same_cell o.cell id))
  where
    or_none : (b : Bool) → (b || false) ≡ b
    or_none true = refl
    or_none false = refl

or_true : (a : Bool) → (a || true) ≡ true
or_true true = refl
or_true false = refl

or_false : (a : Bool) → (a || false) ≡ a
or_false true = refl
or_false false = refl

-- nothing was met yet
pub met_none : (d : Design) (top : CellId) (kids : List Step) (met : Met) → kids ≡ kids_of d top → met.rows.items ≡ kids ∷ [] → ((id : CellId) → get cell_cmp met.places id ≡ None) → AreMet d [] met
met_none d top kids met is rows none = record {
  known = λ id. ap (λ (o : Option ℕ). is_some o) (none id);
  within = λ id place at. let never = sym (none id) ∙ at in cc;
  rows = λ id place at. let never = sym (none id) ∙ at in cc;
  blocks = λ place k step at. in_row place k step (subst (λ (l : List (List Step)). slice_get (row_at l place) k ≡ Some step) rows at);
}
  where
    in_row : (place k : ℕ) (step : Step) → slice_get (row_at (kids ∷ []) place) k ≡ Some step → is_block d step.of ≡ true
    in_row ℕ.zero k step at = filter_passes (λ (s : Step). is_block d s.of) _ k step (subst (λ (l : List Step). slice_get l k ≡ Some step) is at)
    in_row (suc place) k step at = cc

-- a cell is met again
pub met_again : (d : Design) (seen : List Occurrence) (o : Occurrence) (met : Met) → AreMet d seen met → came_before seen o.cell ≡ true → AreMet d (seen ++ o ∷ []) met
met_again d seen o met are came = record {
  known = λ id. are.known id ∙ sym (came_push seen o id ∙ same id);
  within = are.within;
  rows = are.rows;
  blocks = are.blocks;
}
  where
    same : (id : CellId) → (came_before seen id || same_cell o.cell id) ≡ came_before seen id
    same id = elim (cases_Bool (same_cell o.cell id)) [
      | inl is ↦
          let yes : came_before seen id ≡ true = subst (λ c. came_before seen c ≡ true) (is_same_cell o.cell id is) came in
          ap (λ b. b || same_cell o.cell id) yes ∙ sym yes
      | inr not ↦ ap (λ b. came_before seen id || b) not ∙ or_false (came_before seen id)
    ]

-- a cell is met for the first time
module _ (d : Design) (seen : List Occurrence) (o : Occurrence) (old new : Met) (kids : List Step) (place : ℕ) (are : AreMet d seen old) (kids_are : kids ≡ kids_of d o.cell) (place_is : place ≡ length old.rows.items)
    (rows_are : new.rows.items ≡ old.rows.items ++ kids ∷ []) (places_are : (q : CellId) → get cell_cmp new.places q ≡ cond (is_at (cell_cmp o.cell) q) (Some place) (get cell_cmp old.places q)) where
  long : length new.rows.items ≡ length old.rows.items + 1
  long = let sum = length-append old.rows.items (kids ∷ []) in let same = ap (λ (l : List (List Step)). length l) rows_are in omega (arith, sum, same)

  here_is : row_at new.rows.items place ≡ kids_of d o.cell
  here_is = ap (λ (l : List (List Step)). row_at l place) rows_are ∙ row_at_last old.rows.items kids place place_is ∙ kids_are

  front_is : (n : ℕ) → n < length old.rows.items → row_at new.rows.items n ≡ row_at old.rows.items n
  front_is n less = ap (λ (l : List (List Step)). row_at l n) rows_are ∙ row_at_more old.rows.items (kids ∷ []) n less

  -- a cell that is found is this one, or was met before
  which : (id : CellId) (n : ℕ) → get cell_cmp new.places id ≡ Some n → ((o.cell ≡ id) × (n ≡ place)) ⊎ (get cell_cmp old.places id ≡ Some n)
  which id n at = elim (cases_Bool (is_at (cell_cmp o.cell) id)) [
    | inl is ↦
        let found : Some place ≡ Some n = sym (cond-true (is_at (cell_cmp o.cell) id) (Some place) (get cell_cmp old.places id) is) ∙ sym (places_are id) ∙ at in
        let same : n ≡ place = cc in
        inl (is_same_cell o.cell id (sym (at_cell o.cell id) ∙ is), same)
    | inr not ↦ inr (sym (cond-false (is_at (cell_cmp o.cell) id) (Some place) (get cell_cmp old.places id) not) ∙ sym (places_are id) ∙ at)
  ]

  known_now : (id : CellId) → is_some (get cell_cmp new.places id) ≡ came_before (seen ++ o ∷ []) id
  known_now id =
      ap (λ (f : Option ℕ). is_some f) (places_are id)
      ∙ by (is_at (cell_cmp o.cell) id) (get cell_cmp old.places id) (came_before seen id) (are.known id)
      ∙ ap (λ b. came_before seen id || b) (at_cell o.cell id)
      ∙ sym (came_push seen o id)
    where
      by : (b : Bool) (found : Option ℕ) (came : Bool) → is_some found ≡ came → is_some (cond b (Some place) found) ≡ (came || b)
      by true found came is = sym (or_true came)
      by false found came is = is ∙ sym (or_false came)

  blocks_now : (n k : ℕ) (step : Step) → slice_get (row_at new.rows.items n) k ≡ Some step → is_block d step.of ≡ true
  blocks_now n k step at = elim (cases_lt n (length old.rows.items)) [
    | inl early ↦ are.blocks n k step (subst (λ (l : List Step). slice_get l k ≡ Some step) (front_is n early) at)
    | inr late ↦ elim (cases_order n place) [
      | inl same ↦ filter_passes (λ (s : Step). is_block d s.of) _ k step (subst (λ (l : List Step). slice_get l k ≡ Some step) (ap (row_at new.rows.items) same ∙ here_is) at)
      | inr apart ↦
          let past : length new.rows.items ≤ n = omega (arith, late, apart, long, place_is) in
          let never = sym (ap (λ (l : List Step). slice_get l k) (row_at_past new.rows.items n past)) ∙ at in
          cc
    ]
  ]

  pub met_first : AreMet d (seen ++ o ∷ []) new
  met_first = record {
    known = known_now;
    within = λ id n at. elim (which id n at) [
      | inl here ↦ (let same = here.1 in omega (arith, same, place_is, long))
      | inr old_one ↦ (let less = are.within id n old_one in omega (arith, less, long))
    ];
    rows = λ id n at. elim (which id n at) [
      | inl here ↦ ap (row_at new.rows.items) here.1 ∙ here_is ∙ ap (kids_of d) here.0
      | inr old_one ↦ front_is n (are.within id n old_one) ∙ are.rows id n old_one
    ];
    blocks = blocks_now;
  }

  pub first_within : place < length new.rows.items
  first_within = omega (arith, long, place_is)

  pub first_kids : row_at new.rows.items place ≡ kids_of d o.cell
  first_kids = here_is
