-- An index in which one use is put, and from which one is taken.
use Rattle.std.proofs.Common.{◌≡◌, ◌≢◌, ◌+◌, ◌≤◌, ◌⊎◌, ⊎_elim, inl, inr, ℕ, suc, arith, Bool, true, false, cond, List, [], ◌∷◌, ◌++◌, drop, length, map, Option, Some, None, refl, sym, ap, subst, ◌∙◌, slice_get}
use Rattle.std.specs.Prelude.{filter, nat_lt, option_and_then, option_map}
use Rattle.std.specs.List.{AllByRecursion, insert, remove}
use Rattle.std.proofs.lemmas.Bool.{cases_Bool, cases_eq}
use Rattle.std.proofs.lemmas.Bool.Decides.{nat_tests}
use Rattle.netlist_schema.specs.Types.{CellId}
use Rattle.netlist_schema.proofs.Lists.{drop_front, take_front}
use Rattle.netlist_schema.proofs.WithCell.{same_id}
use Rattle.edit_rules_spec.specs.Edit.{changed_at}
use Rattle.edit_rules_spec.specs.Paths.{same_cell}
use Rattle.edit_rules_spec.proofs.Edits.{slice_get-changed_other, slice_get-changed_same}
use Rattle.edit_rules_spec.proofs.Levels.{is_same_cell, same_cell-refl}
use Rattle.used_spec.specs.Uses.{Placed, comes_before, users_among, users_at}
use Rattle.used_spec.specs.declared.used_at.UsedAt.{UsedAt}
use Rattle.used_spec.proofs.InOrder.{in_one_cell}
use Rattle.where_used.specs.Rows.{drop_in, drop_use, place_of, put_in, put_use}
use Rattle.where_used.proofs.Adding.{among_both}

abbrev pub Index : Type 0
Index = List (List (List UsedAt))

-- ---- the order of uses

pub lt_false : (a b : ℕ) → b ≤ a → nat_lt a b ≡ false
lt_false a b h = grind (arith, nat_tests)

pub not_itself : (at : UsedAt) → comes_before at at ≡ false
not_itself at = in_one_cell at.cell at.inst at.inst ∙ lt_false at.inst at.inst (omega arith)

-- ---- a list in which a use has a place

abbrev pub AreBefore : UsedAt → List UsedAt → Type 0
AreBefore at us = AllByRecursion (λ u. comes_before u at ≡ true) us

abbrev pub AreBehind : UsedAt → List UsedAt → Type 0
AreBehind at us = AllByRecursion (λ u. comes_before u at ≡ false) us

place_between : (at : UsedAt) (xs ys : List UsedAt) → AreBefore at xs → AreBehind at ys → place_of at (xs ++ ys) ≡ length xs
place_between at [] [] low high = refl
place_between at [] (y ∷ ys) low high = ap (λ b. cond b (suc (place_of at ys)) 0) high.0
place_between at (x ∷ xs) ys low high = ap (λ b. cond b (suc (place_of at (xs ++ ys))) 0) low.0 ∙ ap suc (place_between at xs ys low.1 high)

put_between : (at : UsedAt) (xs ys : List UsedAt) → AreBefore at xs → AreBehind at ys → put_use at (xs ++ ys) ≡ xs ++ at ∷ ys
put_between at xs ys low high =
    ap (λ k. insert (xs ++ ys) k at) (place_between at xs ys low high)
    ∙ (let front = take_front xs ys in let back = drop_front xs ys in λ i. front i ++ at ∷ back i)

drop_behind : (xs ys : List UsedAt) (u : UsedAt) → drop (suc (length xs)) (xs ++ u ∷ ys) ≡ ys
drop_behind [] ys u = refl
drop_behind (x ∷ xs) ys u = drop_behind xs ys u

drop_between : (at : UsedAt) (xs ys : List UsedAt) → AreBefore at xs → drop_use at (xs ++ at ∷ ys) ≡ xs ++ ys
drop_between at xs ys low =
    ap (λ k. remove (xs ++ at ∷ ys) k) (first xs low)
    ∙ (let front = take_front xs (at ∷ ys) in let back = drop_behind xs ys at in λ i. front i ++ back i)
  where
    first : (xs : List UsedAt) → AreBefore at xs → place_of at (xs ++ at ∷ ys) ≡ length xs
    first [] low = ap (λ b. cond b (suc (place_of at ys)) 0) (not_itself at)
    first (x ∷ xs) low = ap (λ b. cond b (suc (place_of at (xs ++ at ∷ ys))) 0) low.0 ∙ ap suc (first xs low.1)

-- ---- the row of a cell is changed

abbrev pub changed_in : CellId → (List UsedAt → List UsedAt) → Index → Index
changed_in of f index = changed_at (λ cells. changed_at f of.slot cells) of.lib.0 index

row_here : (f : List UsedAt → List UsedAt) (o : Option (List (List UsedAt))) (slot : ℕ)
    → option_and_then (λ cells. slice_get cells slot) (option_map (λ cells. changed_at f slot cells) o) ≡ option_map f (option_and_then (λ cells. slice_get cells slot) o)
row_here f None slot = refl
row_here f (Some cells) slot = slice_get-changed_same f slot cells

row_beside : (f : List UsedAt → List UsedAt) (o : Option (List (List UsedAt))) (slot other : ℕ) → other ≢ slot
    → option_and_then (λ cells. slice_get cells other) (option_map (λ cells. changed_at f slot cells) o) ≡ option_and_then (λ cells. slice_get cells other) o
row_beside f None slot other apart = refl
row_beside f (Some cells) slot other apart = slice_get-changed_other f slot cells other apart

pub row_same : (f : List UsedAt → List UsedAt) (index : Index) (of : CellId) → users_at (changed_in of f index) of ≡ option_map f (users_at index of)
row_same f index of =
    ap (option_and_then (λ cells. slice_get cells of.slot)) (slice_get-changed_same (λ cells. changed_at f of.slot cells) of.lib.0 index)
    ∙ row_here f (slice_get index of.lib.0) of.slot

pub row_other : (f : List UsedAt → List UsedAt) (index : Index) (of cell : CellId) → cell ≢ of → users_at (changed_in of f index) cell ≡ users_at index cell
row_other f index of cell apart = ⊎_elim
    (λ (lib : cell.lib.0 ≡ of.lib.0).
    ap (λ k. option_and_then (λ cells. slice_get cells cell.slot) (slice_get (changed_in of f index) k)) lib
    ∙ ap (option_and_then (λ cells. slice_get cells cell.slot)) (slice_get-changed_same (λ cells. changed_at f of.slot cells) of.lib.0 index)
    ∙ row_beside f (slice_get index of.lib.0) of.slot cell.slot (λ slot. apart (same_id cell of lib slot))
    ∙ ap (λ k. option_and_then (λ cells. slice_get cells cell.slot) (slice_get index k)) (sym lib))
    (λ (lib : cell.lib.0 ≢ of.lib.0). ap (option_and_then (λ cells. slice_get cells cell.slot)) (slice_get-changed_other (λ cells. changed_at f of.slot cells) of.lib.0 index cell.lib.0 lib))
    (cases_eq cell.lib.0 of.lib.0)

-- ---- an index over instances

-- The index has for each cell that it has its users among these instances.
pub record IsOver (index : Index) (placed : List Placed) : Type 0 where
  pub each : (cell : CellId) → users_at index cell ≡ option_map (λ _. users_among cell placed) (users_at index cell)

again : (o : Option (List UsedAt)) (f : List UsedAt → List UsedAt) (u v : List UsedAt) → o ≡ option_map (λ _. u) o → f u ≡ v → option_map f o ≡ option_map (λ _. v) (option_map f o)
again None f u v is same = refl
again (Some us) f u v is same = let here : us ≡ u = cc is in ap Some (ap f here ∙ same)

-- all users of a cell that come before a use, where all instances do
abbrev pub AllBefore : UsedAt → List Placed → Type 0
AllBefore at ps = AllByRecursion (λ p. comes_before p.at at ≡ true) ps

abbrev pub AllBehind : UsedAt → List Placed → Type 0
AllBehind at ps = AllByRecursion (λ p. comes_before p.at at ≡ false) ps

all_users : (Q : UsedAt → Type 0) (cell : CellId) (ps : List Placed) → AllByRecursion (λ p. Q p.at) ps → AllByRecursion Q (users_among cell ps)
all_users Q cell [] all = tt
all_users Q cell (p ∷ ps) all = go (same_cell p.of cell) (all_users Q cell ps all.1)
  where
    go : (b : Bool) → AllByRecursion Q (users_among cell ps) → AllByRecursion Q (map (λ (p : Placed). p.at) (cond b (p ∷ filter (λ (q : Placed). same_cell q.of cell) ps) (filter (λ (q : Placed). same_cell q.of cell) ps)))
    go true rest = (all.0, rest)
    go false rest = rest

among_here : (p : Placed) (ps : List Placed) → users_among p.of (p ∷ ps) ≡ p.at ∷ users_among p.of ps
among_here p ps = ap (λ b. map (λ (q : Placed). q.at) (cond b (p ∷ filter (λ (q : Placed). same_cell q.of p.of) ps) (filter (λ (q : Placed). same_cell q.of p.of) ps))) (same_cell-refl p.of)

among_other : (cell : CellId) (p : Placed) (ps : List Placed) → cell ≢ p.of → users_among cell (p ∷ ps) ≡ users_among cell ps
among_other cell p ps apart =
    let miss : same_cell p.of cell ≡ false = ⊎_elim (λ (hit : same_cell p.of cell ≡ true). absurd (apart (sym (is_same_cell p.of cell hit)))) (λ (miss : same_cell p.of cell ≡ false). miss) (cases_Bool (same_cell p.of cell)) in
    ap (λ b. map (λ (q : Placed). q.at) (cond b (p ∷ filter (λ (q : Placed). same_cell q.of cell) ps) (filter (λ (q : Placed). same_cell q.of cell) ps))) miss

cases_same : (a b : CellId) → (a ≡ b) ⊎ (a ≢ b)
cases_same a b = ⊎_elim
    (λ (hit : same_cell a b ≡ true). inl (is_same_cell a b hit))
    (λ (miss : same_cell a b ≡ false). inr (λ same. (let no : true ≡ false = sym (same_cell-refl a) ∙ ap (same_cell a) same ∙ miss in absurd (cc no))))
    (cases_Bool (same_cell a b))

-- one use more
pub put_over : (index : Index) (before rest : List Placed) (p : Placed) → AllBefore p.at before → AllBehind p.at rest → IsOver index (before ++ rest) → IsOver (put_in p.of p.at index) (before ++ p ∷ rest)
put_over index before rest p low high is = record { each = λ cell. go cell (cases_same cell p.of) }
  where
    row : put_use p.at (users_among p.of (before ++ rest)) ≡ users_among p.of (before ++ p ∷ rest)
    row =
        ap (put_use p.at) (among_both p.of before rest)
        ∙ put_between p.at (users_among p.of before) (users_among p.of rest) (all_users (λ u. comes_before u p.at ≡ true) p.of before low) (all_users (λ u. comes_before u p.at ≡ false) p.of rest high)
        ∙ ap (λ us. users_among p.of before ++ us) (sym (among_here p rest))
        ∙ sym (among_both p.of before (p ∷ rest))

    go : (cell : CellId) → (cell ≡ p.of) ⊎ (cell ≢ p.of) → users_at (put_in p.of p.at index) cell ≡ option_map (λ _. users_among cell (before ++ p ∷ rest)) (users_at (put_in p.of p.at index) cell)
    go cell (inl same) = subst (λ (c : CellId). users_at (put_in p.of p.at index) c ≡ option_map (λ _. users_among c (before ++ p ∷ rest)) (users_at (put_in p.of p.at index) c)) (sym same)
        (subst (λ o. o ≡ option_map (λ _. users_among p.of (before ++ p ∷ rest)) o) (sym (row_same (put_use p.at) index p.of))
        (again (users_at index p.of) (put_use p.at) (users_among p.of (before ++ rest)) (users_among p.of (before ++ p ∷ rest)) (is.each p.of) row))
    go cell (inr apart) =
        let same : users_among cell (before ++ rest) ≡ users_among cell (before ++ p ∷ rest) =
        among_both cell before rest ∙ ap (λ us. users_among cell before ++ us) (sym (among_other cell p rest apart)) ∙ sym (among_both cell before (p ∷ rest)) in
        subst (λ o. o ≡ option_map (λ _. users_among cell (before ++ p ∷ rest)) o) (sym (row_other (put_use p.at) index p.of cell apart))
        (subst (λ us. users_at index cell ≡ option_map (λ _. us) (users_at index cell)) same (is.each cell))

-- one use less
pub drop_over : (index : Index) (before rest : List Placed) (p : Placed) → AllBefore p.at before → IsOver index (before ++ p ∷ rest) → IsOver (drop_in p.of p.at index) (before ++ rest)
drop_over index before rest p low is = record { each = λ cell. go cell (cases_same cell p.of) }
  where
    row : drop_use p.at (users_among p.of (before ++ p ∷ rest)) ≡ users_among p.of (before ++ rest)
    row =
        ap (drop_use p.at) (among_both p.of before (p ∷ rest) ∙ ap (λ us. users_among p.of before ++ us) (among_here p rest))
        ∙ drop_between p.at (users_among p.of before) (users_among p.of rest) (all_users (λ u. comes_before u p.at ≡ true) p.of before low)
        ∙ sym (among_both p.of before rest)

    go : (cell : CellId) → (cell ≡ p.of) ⊎ (cell ≢ p.of) → users_at (drop_in p.of p.at index) cell ≡ option_map (λ _. users_among cell (before ++ rest)) (users_at (drop_in p.of p.at index) cell)
    go cell (inl same) = subst (λ (c : CellId). users_at (drop_in p.of p.at index) c ≡ option_map (λ _. users_among c (before ++ rest)) (users_at (drop_in p.of p.at index) c)) (sym same)
        (subst (λ o. o ≡ option_map (λ _. users_among p.of (before ++ rest)) o) (sym (row_same (drop_use p.at) index p.of))
        (again (users_at index p.of) (drop_use p.at) (users_among p.of (before ++ p ∷ rest)) (users_among p.of (before ++ rest)) (is.each p.of) row))
    go cell (inr apart) =
        let same : users_among cell (before ++ p ∷ rest) ≡ users_among cell (before ++ rest) =
        among_both cell before (p ∷ rest) ∙ ap (λ us. users_among cell before ++ us) (among_other cell p rest apart) ∙ sym (among_both cell before rest) in
        subst (λ o. o ≡ option_map (λ _. users_among cell (before ++ rest)) o) (sym (row_other (drop_use p.at) index p.of cell apart))
        (subst (λ us. users_at index cell ≡ option_map (λ _. us) (users_at index cell)) same (is.each cell))

-- two uses at one place may stand in either order
pub swap_over : (index : Index) (before rest : List Placed) (at : UsedAt) (a b : CellId) → IsOver index (before ++ record { at = at; of = a } ∷ record { at = at; of = b } ∷ rest)
    → IsOver index (before ++ record { at = at; of = b } ∷ record { at = at; of = a } ∷ rest)
swap_over index before rest at a b is = record {
  each = λ cell.
      subst (λ us. users_at index cell ≡ option_map (λ _. us) (users_at index cell))
      (among_both cell before (record { at = at; of = a } ∷ record { at = at; of = b } ∷ rest)
      ∙ ap (λ us. users_among cell before ++ us) (two cell (same_cell a cell) (same_cell b cell))
      ∙ sym (among_both cell before (record { at = at; of = b } ∷ record { at = at; of = a } ∷ rest)))
      (is.each cell);
}
  where
    two : (cell : CellId) (s t : Bool) → map (λ (p : Placed). p.at) (cond s (record { at = at; of = a } ∷ cond t (record { at = at; of = b } ∷ filter (λ (q : Placed). same_cell q.of cell) rest) (filter (λ (q : Placed). same_cell q.of cell) rest)) (cond t (record { at = at; of = b } ∷ filter (λ (q : Placed). same_cell q.of cell) rest) (filter (λ (q : Placed). same_cell q.of cell) rest)))
        ≡ map (λ (p : Placed). p.at) (cond t (record { at = at; of = b } ∷ cond s (record { at = at; of = a } ∷ filter (λ (q : Placed). same_cell q.of cell) rest) (filter (λ (q : Placed). same_cell q.of cell) rest)) (cond s (record { at = at; of = a } ∷ filter (λ (q : Placed). same_cell q.of cell) rest) (filter (λ (q : Placed). same_cell q.of cell) rest)))
    two cell true true = refl
    two cell true false = refl
    two cell false true = refl
    two cell false false = refl
