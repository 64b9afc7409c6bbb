-- Instances added to an index, one after the other.
use Rattle.std.proofs.Common.{◌≡◌, ◌≢◌, ◌+◌, ◌≤◌, ◌⊎◌, ⊎_elim, inl, inr, ℕ, zero, suc, arith, Bool, true, false, cond, List, [], ◌∷◌, ◌++◌, length, map, take, Option, Some, None, refl, sym, ap, subst, ◌∙◌, slice_get, append_assoc, append-nil}
use Rattle.std.specs.Prelude.{filter, option_and_then, option_map, slice_set}
use Rattle.std.specs.List.{enumerate_from, flat_map, range_with_len}
use Rattle.std.proofs.lemmas.Bool.{cases_Bool, cases_eq}
use Rattle.std.proofs.lemmas.List.{map-append, take_all}
use Rattle.std.proofs.lemmas.List.FromFn.{map-range_with_len_more}
use Rattle.std.proofs.lemmas.Grind.{flat_map-append}
use Rattle.netlist_schema.specs.Design.{Design}
use Rattle.netlist_schema.specs.Hierarchy.{insts_at}
use Rattle.netlist_schema.specs.Types.{CellId, Inst}
use Rattle.netlist_schema.proofs.Lists.{get_mapped, take_next}
use Rattle.netlist_schema.proofs.WithCell.{same_id}
use Rattle.edit_rules_spec.specs.Edit.{changed_at}
use Rattle.edit_rules_spec.specs.Paths.{same_cell}
use Rattle.edit_rules_spec.proofs.Edits.{slice_get-changed_other, slice_get-changed_same}
use Rattle.edit_rules_spec.proofs.Levels.{is_same_cell, same_cell-refl}
use Rattle.edit_rules_spec.proofs.Lists.{filter_both, length-changed_at}
use Rattle.used_spec.specs.Uses.{Placed, count_in, id_at, ids_of, placed_at, placed_in, placed_in_all, users_among, users_at}
use Rattle.used_spec.specs.declared.used_at.UsedAt.{UsedAt}
use Rattle.used_spec.proofs.Numbered.{range_next}
use Rattle.where_used.specs.Index.{HasAdded, with_use, with_use_in}

abbrev Index : Type 0
Index = List (List (List UsedAt))

-- ---- one use

-- an item that is taken out, changed and put back
pub put_back : {X : Type 0} (f : X → X) (xs : List X) (i : ℕ) (e x y : X) → slice_get xs i ≡ Some x → y ≡ f x → slice_set (slice_set xs i e) i y ≡ changed_at f i xs
put_back f [] i e x y found is = cc
put_back f (z ∷ zs) zero e x y found is = let at : z ≡ x = cc in ap (λ w. w ∷ zs) (is ∙ ap f (sym at))
put_back f (z ∷ zs) (suc i) e x y found is = ap (λ ws. z ∷ ws) (put_back f zs i e x y found is)

-- or put back as it was
pub put_same : {X : Type 0} (xs : List X) (i : ℕ) (e x : X) → slice_get xs i ≡ Some x → slice_set (slice_set xs i e) i x ≡ xs
put_same [] i e x found = cc
put_same (z ∷ zs) zero e x found = let at : z ≡ x = cc in ap (λ w. w ∷ zs) (sym at)
put_same (z ∷ zs) (suc i) e x found = ap (λ ws. z ∷ ws) (put_same zs i e x found)

use_here : (o : Option (List (List UsedAt))) (slot : ℕ) (at : UsedAt)
    → option_and_then (λ cells. slice_get cells slot) (option_map (with_use_in slot at) o) ≡ option_map (λ us. us ++ at ∷ []) (option_and_then (λ cells. slice_get cells slot) o)
use_here None slot at = refl
use_here (Some cells) slot at = slice_get-changed_same (λ us. us ++ at ∷ []) slot cells

use_beside : (o : Option (List (List UsedAt))) (slot other : ℕ) (at : UsedAt) → other ≢ slot
    → option_and_then (λ cells. slice_get cells other) (option_map (with_use_in slot at) o) ≡ option_and_then (λ cells. slice_get cells other) o
use_beside None slot other at apart = refl
use_beside (Some cells) slot other at apart = slice_get-changed_other (λ us. us ++ at ∷ []) slot cells other apart

-- the list of the cell goes on, and no other
pub use_same : (index : Index) (of : CellId) (at : UsedAt) → users_at (with_use of at index) of ≡ option_map (λ us. us ++ at ∷ []) (users_at index of)
use_same index of at =
    ap (option_and_then (λ cells. slice_get cells of.slot)) (slice_get-changed_same (with_use_in of.slot at) of.lib.0 index)
    ∙ use_here (slice_get index of.lib.0) of.slot at

pub use_other : (index : Index) (of : CellId) (at : UsedAt) (cell : CellId) → cell ≢ of → users_at (with_use of at index) cell ≡ users_at index cell
use_other index of at cell apart = ⊎_elim
    (λ (lib : cell.lib.0 ≡ of.lib.0).
    ap (λ k. option_and_then (λ cells. slice_get cells cell.slot) (slice_get (with_use of at index) k)) lib
    ∙ ap (option_and_then (λ cells. slice_get cells cell.slot)) (slice_get-changed_same (with_use_in of.slot at) of.lib.0 index)
    ∙ use_beside (slice_get index of.lib.0) of.slot cell.slot at (λ slot. apart (same_id cell of lib slot))
    ∙ ap (λ k. option_and_then (λ cells. slice_get cells cell.slot) (slice_get index k)) (sym lib))
    (λ (lib : cell.lib.0 ≢ of.lib.0). ap (option_and_then (λ cells. slice_get cells cell.slot)) (slice_get-changed_other (with_use_in of.slot at) of.lib.0 index cell.lib.0 lib))
    (cases_eq cell.lib.0 of.lib.0)

none_more : (o : Option (List UsedAt)) → o ≡ option_map (λ us. us ++ []) o
none_more None = refl
none_more (Some us) = ap Some (sym (append-nil us))

pub added_one : (index : Index) (of : CellId) (at : UsedAt) → HasAdded index (with_use of at index) (record { at = at; of = of } ∷ [])
added_one index of at = record {
  libs = length-changed_at (with_use_in of.slot at) of.lib.0 index;
  each = λ cell. go cell (cases_Bool (same_cell of cell));
}
  where
    among : (cell : CellId) (b : Bool) → same_cell of cell ≡ b → users_among cell (record { at = at; of = of } ∷ []) ≡ map (λ (p : Placed). p.at) (cond b (record { at = at; of = of } ∷ []) [])
    among cell b is = ap (λ (t : Bool). map (λ (p : Placed). p.at) (cond t (record { at = at; of = of } ∷ []) [])) is

    go : (cell : CellId) → (same_cell of cell ≡ true) ⊎ (same_cell of cell ≡ false) → users_at (with_use of at index) cell ≡ option_map (λ us. us ++ users_among cell (record { at = at; of = of } ∷ [])) (users_at index cell)
    go cell (inl is) =
        let same : of ≡ cell = is_same_cell of cell is in
        subst (λ (c : CellId). users_at (with_use of at index) c ≡ option_map (λ us. us ++ at ∷ []) (users_at index c)) same (use_same index of at)
        ∙ ap (λ more. option_map (λ us. us ++ more) (users_at index cell)) (sym (among cell true is))
    go cell (inr is) =
        let apart : cell ≢ of = λ same. (let no : true ≡ false = sym (same_cell-refl of) ∙ ap (same_cell of) (sym same) ∙ is in absurd (cc no)) in
        use_other index of at cell apart
        ∙ none_more (users_at index cell)
        ∙ ap (λ more. option_map (λ us. us ++ more) (users_at index cell)) (sym (among cell false is))

-- ---- several

pub added_none : (index : Index) → HasAdded index index []
added_none index = record { libs = refl; each = λ cell. none_more (users_at index cell) }

pub among_both : (cell : CellId) (ps qs : List Placed) → users_among cell (ps ++ qs) ≡ users_among cell ps ++ users_among cell qs
among_both cell ps qs =
    ap (map (λ (p : Placed). p.at)) (filter_both (λ (p : Placed). same_cell p.of cell) ps qs)
    ∙ map-append (λ (p : Placed). p.at) (filter (λ (p : Placed). same_cell p.of cell) ps) (filter (λ (p : Placed). same_cell p.of cell) qs)

more_twice : (o : Option (List UsedAt)) (a b : List UsedAt) → option_map (λ us. us ++ b) (option_map (λ us. us ++ a) o) ≡ option_map (λ us. us ++ (a ++ b)) o
more_twice None a b = refl
more_twice (Some us) a b = ap Some (append_assoc us a b)

pub added_more : (old middle new : Index) (ps qs : List Placed) → HasAdded old middle ps → HasAdded middle new qs → HasAdded old new (ps ++ qs)
added_more old middle new ps qs first next = record {
  libs = next.libs ∙ first.libs;
  each = λ cell.
      next.each cell
      ∙ ap (option_map (λ us. us ++ users_among cell qs)) (first.each cell)
      ∙ more_twice (users_at old cell) (users_among cell ps) (users_among cell qs)
      ∙ ap (λ more. option_map (λ us. us ++ more) (users_at old cell)) (sym (among_both cell ps qs));
}

-- ---- the instances of a cell

enumerated : {X : Type 0} (xs : List X) (a i : ℕ) (x : X) → slice_get xs i ≡ Some x → slice_get (enumerate_from a xs) i ≡ Some (a + i, x)
enumerated [] a i x e = absurd (cc e)
enumerated (y ∷ xs) a zero x e =
    let same : y ≡ x = cc in
    let here : a ≡ a + 0 = omega arith in
    λ i. Some (here i, same i)
enumerated {X = X} (y ∷ xs) a (suc i) x e =
    let here : a + 1 + i ≡ a + suc i = omega arith in
    enumerated xs (a + 1) i x e ∙ ap (λ (k : ℕ). Some (k, x)) here

pub inst_next : (cell : CellId) (insts : List Inst) (place : ℕ) (inst : Inst) (old middle : Index) → slice_get insts place ≡ Some inst
    → HasAdded old middle (take place (placed_in cell insts)) → HasAdded old (with_use inst.of (record { cell = cell; inst = place }) middle) (take (place + 1) (placed_in cell insts))
inst_next cell insts place inst old middle found so_far =
    let p : Placed = record { at = record { cell = cell; inst = place }; of = inst.of } in
    let here : 0 + place ≡ place = omega arith in
    let there : slice_get (placed_in cell insts) place ≡ Some p =
    get_mapped (placed_at cell) (enumerate_from 0 insts) place (0 + place, inst) (enumerated insts 0 place inst found) ∙ ap (λ (k : ℕ). Some (placed_at cell (k, inst))) here in
    let next : place + 1 ≡ suc place = omega arith in
    let grown : take (place + 1) (placed_in cell insts) ≡ take place (placed_in cell insts) ++ p ∷ [] = ap (λ k. take k (placed_in cell insts)) next ∙ take_next (placed_in cell insts) place p there in
    subst (λ (ps : List Placed). HasAdded old (with_use inst.of p.at middle) ps) (sym grown)
    (added_more old middle (with_use inst.of p.at middle) (take place (placed_in cell insts)) (p ∷ []) so_far (added_one middle inst.of p.at))

placed_long : (cell : CellId) (insts : List Inst) (a : ℕ) → length (map (placed_at cell) (enumerate_from a insts)) ≡ length insts
placed_long cell [] a = refl
placed_long cell (inst ∷ insts) a = ap suc (placed_long cell insts (a + 1))

pub insts_done : (cell : CellId) (insts : List Inst) (place : ℕ) (old new : Index) → length insts ≤ place → HasAdded old new (take place (placed_in cell insts)) → HasAdded old new (placed_in cell insts)
insts_done cell insts place old new past added =
    let long = placed_long cell insts 0 in
    subst (λ (ps : List Placed). HasAdded old new ps) (take_all place (placed_in cell insts) (omega (arith, long, past))) added

-- ---- the cells of a library, and the libraries

pub ids_next : (lib count : ℕ) → ids_of lib (count + 1) ≡ ids_of lib count ++ id_at lib count ∷ []
ids_next lib count = map-range_with_len_more (id_at lib) 0 count count (omega arith)

placed_next : (d : Design) (cells : List CellId) (cell : CellId) → placed_in_all d (cells ++ cell ∷ []) ≡ placed_in_all d cells ++ placed_in cell (insts_at d cell)
placed_next d cells cell =
    flat_map-append (λ (c : CellId). placed_in c (insts_at d c)) cells (cell ∷ [])
    ∙ ap (λ ps. placed_in_all d cells ++ ps) (append-nil (placed_in cell (insts_at d cell)))

pub cell_next : (d : Design) (lib slot : ℕ) (old middle new : Index) → HasAdded old middle (placed_in_all d (ids_of lib slot)) → HasAdded middle new (placed_in (id_at lib slot) (insts_at d (id_at lib slot)))
    → HasAdded old new (placed_in_all d (ids_of lib (slot + 1)))
cell_next d lib slot old middle new so_far next =
    let grown : placed_in_all d (ids_of lib (slot + 1)) ≡ placed_in_all d (ids_of lib slot) ++ placed_in (id_at lib slot) (insts_at d (id_at lib slot)) =
    ap (placed_in_all d) (ids_next lib slot) ∙ placed_next d (ids_of lib slot) (id_at lib slot) in
    subst (λ (ps : List Placed). HasAdded old new ps) (sym grown) (added_more old middle new (placed_in_all d (ids_of lib slot)) (placed_in (id_at lib slot) (insts_at d (id_at lib slot))) so_far next)

-- the cells of the first so many libraries
abbrev pub cells_upto : Design → ℕ → List CellId
cells_upto d count = flat_map (λ lib. ids_of lib (count_in d lib)) (range_with_len 0 count)

pub upto_next : (d : Design) (count : ℕ) → cells_upto d (count + 1) ≡ cells_upto d count ++ ids_of count (count_in d count)
upto_next d count =
    let e : 0 + count ≡ count = omega arith in
    ap (flat_map (λ lib. ids_of lib (count_in d lib))) (range_next 0 count ∙ ap (λ k. range_with_len 0 count ++ k ∷ []) e)
    ∙ flat_map-append (λ lib. ids_of lib (count_in d lib)) (range_with_len 0 count) (count ∷ [])
    ∙ ap (λ ids. cells_upto d count ++ ids) (append-nil (ids_of count (count_in d count)))

pub lib_next : (d : Design) (lib : ℕ) (old middle new : Index) → HasAdded old middle (placed_in_all d (cells_upto d lib)) → HasAdded middle new (placed_in_all d (ids_of lib (count_in d lib)))
    → HasAdded old new (placed_in_all d (cells_upto d (lib + 1)))
lib_next d lib old middle new so_far next =
    let grown : placed_in_all d (cells_upto d (lib + 1)) ≡ placed_in_all d (cells_upto d lib) ++ placed_in_all d (ids_of lib (count_in d lib)) =
    ap (placed_in_all d) (upto_next d lib) ∙ flat_map-append (λ (c : CellId). placed_in c (insts_at d c)) (cells_upto d lib) (ids_of lib (count_in d lib)) in
    subst (λ (ps : List Placed). HasAdded old new ps) (sym grown) (added_more old middle new (placed_in_all d (cells_upto d lib)) (placed_in_all d (ids_of lib (count_in d lib))) so_far next)
