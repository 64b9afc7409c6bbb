-- A cell without instances is added: the index gets an empty list.
use Rattle.std.proofs.Common.{◌≡◌, ◌≢◌, ◌+◌, ◌-◌, ◌⊎◌, ⊎_elim, ℕ, zero, suc, arith, true, false, List, [], ◌∷◌, ◌++◌, length, map, take, Option, Some, None, refl, sym, ap, subst, ◌∙◌, slice_get, append-nil}
use Rattle.std.specs.Prelude.{IsSome, IsSomeAnd, option_and_then, option_map, option_to_list}
use Rattle.std.specs.List.{Contains, flat_map, range_with_len}
use Rattle.std.specs.Option.{option_map_or}
use Rattle.std.proofs.lemmas.Bool.{cases_eq}
use Rattle.std.proofs.lemmas.Grind.{flat_map-append}
use Rattle.std.proofs.lemmas.List.{length-map}
use Rattle.std.proofs.lemmas.List.FromFn.{length-map-range_with_len}
use Rattle.std.proofs.lemmas.Option.{slice_get_past}
use Rattle.netlist_schema.specs.Design.{Design, cell_at, cells_in, insts_of, lib_at}
use Rattle.netlist_schema.specs.Hierarchy.{IsCell, insts_at}
use Rattle.netlist_schema.specs.Types.{CellBody, CellId, Inst, Lib, LibId}
use Rattle.netlist_schema.specs.Valid.{IsValid}
use Rattle.netlist_schema.proofs.WithCell.{cases_cell, same_id}
use Rattle.edit_rules_spec.specs.Edit.{edited, lib_with_more, noted, with_more_cell}
use Rattle.edit_rules_spec.proofs.Closed.{valid_is_closed}
use Rattle.edit_rules_spec.proofs.Edits.{cells_of, directory_of, last_of, more_other, more_same, new_cell_at, other_cell_at, slice_get-changed_other, slice_get-changed_same}
use Rattle.edit_rules_spec.proofs.Lists.{length-changed_at}
use Rattle.edit_cells.specs.Change.{CanAllBeMade, cell_edits, edits_of}
use Rattle.edit_cells.specs.declared.change.Change.{Change}
use Rattle.edit_cells.specs.declared.change.CellChange.{CellChange}
use Rattle.flat_spec.proofs.ListLemmas.{slice_get-contains}
use Rattle.used_spec.specs.Uses.{Placed, all_cells, all_placed, count_in, id_at, ids_of, placed_in, placed_in_all, users, users_among, users_at, uses}
use Rattle.used_spec.specs.declared.used_at.UsedAt.{UsedAt}
use Rattle.used_spec.proofs.Entries.{row_at, used_entry}
use Rattle.used_spec.proofs.InOrder.{users_are_instances}
use Rattle.where_used.specs.Rows.{IsBlank, with_row, without_last, without_row}
use Rattle.where_used.proofs.Adding.{ids_next}
use Rattle.where_used.proofs.Entries.{same_index}
use Rattle.where_used.proofs.Moving.{changed_twice}
use Rattle.where_used.proofs.Turning.{Index}

-- ---- lists

not_last : {X : Type 0} (xs : List X) (x : X) (k : ℕ) → k ≢ length xs → slice_get (xs ++ x ∷ []) k ≡ slice_get xs k
not_last [] x zero apart = absurd (apart refl)
not_last [] x (suc k) apart = refl
not_last (y ∷ ys) x zero apart = refl
not_last (y ∷ ys) x (suc k) apart = not_last ys x k (λ same. apart (ap suc same))

last_off : (xs : List (List UsedAt)) (x : List UsedAt) → take (length (xs ++ x ∷ []) - 1) (xs ++ x ∷ []) ≡ xs
last_off xs x = let e : length (xs ++ x ∷ []) - 1 ≡ length xs = omega (arith, long xs) in ap (λ k. take k (xs ++ x ∷ [])) e ∙ front xs
  where
    long : (xs : List (List UsedAt)) → length (xs ++ x ∷ []) ≡ suc (length xs)
    long [] = refl
    long (y ∷ ys) = ap suc (long ys)

    front : (xs : List (List UsedAt)) → take (length xs) (xs ++ x ∷ []) ≡ xs
    front [] = refl
    front (y ∷ ys) = ap (λ zs. y ∷ zs) (front ys)

pub row_again : (lib : LibId) (index : Index) → without_row lib (with_row lib index) ≡ index
row_again lib index = changed_twice (λ cells. cells ++ [] ∷ []) without_last lib.0 index (λ cells. last_off cells [])

flat_flat : {X Y Z : Type 0} (f : Y → List Z) (g : X → List Y) (xs : List X) → flat_map f (flat_map g xs) ≡ flat_map (λ x. flat_map f (g x)) xs
flat_flat f g [] = refl
flat_flat f g (x ∷ xs) = flat_map-append f (g x) (flat_map g xs) ∙ ap (λ zs. flat_map f (g x) ++ zs) (flat_flat f g xs)

-- ---- the design afterwards

abbrev more : Design → CellId → CellBody → Design
more d id body = with_more_cell d id.lib body

-- behind the last cell of a library there is none
none_past : (d : Design) (lib : ℕ) → cell_at d (id_at lib (count_in d lib)) ≡ None
none_past d lib = slice_get_past (cells_in d (record { 0 = lib })) (count_in d lib) (omega arith)

none_next : (d : Design) (id : CellId) → id.slot ≡ length (cells_in d id.lib) → cell_at d id ≡ None
none_next d id next = slice_get_past (cells_in d id.lib) id.slot (omega (arith, next))

insts_same : (d : Design) (id : CellId) (body : CellBody) → id.slot ≡ length (cells_in d id.lib) → insts_of body ≡ [] → (c : CellId) → insts_at (more d id body) c ≡ insts_at d c
insts_same d id body next blank c = ⊎_elim
    (λ (same : c ≡ id). subst (λ (v : CellId). insts_at (more d id body) v ≡ insts_at d v) (sym same)
    (ap (λ (o : Option CellBody). option_map_or insts_of o []) (new_cell_at d id body next)
    ∙ nothing (lib_at d id.lib)
    ∙ sym (ap (λ (o : Option CellBody). option_map_or insts_of o []) (none_next d id next))))
    (λ (apart : c ≢ id). ap (λ (o : Option CellBody). option_map_or insts_of o []) (other_cell_at d id body c next apart))
    (cases_cell c id)
  where
    nothing : (o : Option Lib) → option_map_or insts_of (option_map (λ (_ : List (List ℕ)). body) (directory_of o)) [] ≡ []
    nothing None = refl
    nothing (Some l) = blank

abbrev placed_by : Design → CellId → List Placed
placed_by d c = placed_in c (insts_at d c)

-- the instances of a library
lib_same : (d : Design) (id : CellId) (body : CellBody) (lib : ℕ) → placed_in_all d (ids_of lib (count_in (more d id body) lib)) ≡ placed_in_all d (ids_of lib (count_in d lib))
lib_same d id body lib = ⊎_elim
    (λ (same : lib ≡ id.lib.0). ap (λ (o : Option Lib). placed_in_all d (ids_of lib (length (cells_of o)))) (more_same d id.lib body (record { 0 = lib }) same) ∙ go (lib_at d (record { 0 = lib })) refl)
    (λ (apart : lib ≢ id.lib.0). ap (λ (o : Option Lib). placed_in_all d (ids_of lib (length (cells_of o)))) (more_other d id.lib body (record { 0 = lib }) apart))
    (cases_eq lib id.lib.0)
  where
    long : (cells : List CellBody) → length (cells ++ body ∷ []) ≡ length cells + 1
    long [] = refl
    long (c ∷ cells) = let e = long cells in omega (arith, e)

    go : (o : Option Lib) → lib_at d (record { 0 = lib }) ≡ o → placed_in_all d (ids_of lib (length (cells_of (option_map (lib_with_more body) o)))) ≡ placed_in_all d (ids_of lib (length (cells_of (lib_at d (record { 0 = lib })))))
    go None e = sym (ap (λ (o : Option Lib). placed_in_all d (ids_of lib (length (cells_of o)))) e)
    go (Some l) e =
        let count : count_in d lib ≡ length l.cells = ap (λ (o : Option Lib). length (cells_of o)) e in
        let n : ℕ = count_in d lib in
        ap (λ k. placed_in_all d (ids_of lib k)) (long l.cells ∙ ap (λ k. k + 1) (sym count))
        ∙ ap (placed_in_all d) (ids_next lib n)
        ∙ flat_map-append (placed_by d) (ids_of lib n) (id_at lib n ∷ [])
        ∙ ap (λ (is : List Inst). placed_in_all d (ids_of lib n) ++ (placed_in (id_at lib n) is ++ [])) (ap (λ (o : Option CellBody). option_map_or insts_of o []) (none_past d lib))
        ∙ append-nil (placed_in_all d (ids_of lib n))

placed_same : (d : Design) (id : CellId) (body : CellBody) → id.slot ≡ length (cells_in d id.lib) → insts_of body ≡ [] → all_placed (more d id body) ≡ all_placed d
placed_same d id body next blank =
    let e : Design = more d id body in
    (λ i. flat_map (λ c. placed_in c (insts_same d id body next blank c i)) (all_cells e))
    ∙ flat_flat (placed_by d) (λ lib. ids_of lib (count_in e lib)) (range_with_len 0 (length e.libs))
    ∙ (λ i. flat_map (λ lib. lib_same d id body lib i) (range_with_len 0 (length-changed_at (lib_with_more body) id.lib.0 d.libs i)))
    ∙ sym (flat_flat (placed_by d) (λ lib. ids_of lib (count_in d lib)) (range_with_len 0 (length d.libs)))

-- nothing is of the new cell
no_users : (d : Design) (id : CellId) → IsValid d → cell_at d id ≡ None → users d id ≡ []
no_users d id valid none = go (users d id) refl
  where
    never : (u : UsedAt) (o : Option Inst) → slice_get (insts_at d u.cell) u.inst ≡ o → IsSomeAnd o (λ inst. inst.of ≡ id) → ⊥
    never u None e is = is
    never u (Some inst) e is =
        let there : IsCell d inst.of = valid_is_closed d valid u.cell inst (slice_get-contains (insts_at d u.cell) u.inst inst e) in
        let here : IsSome (cell_at d id) = subst (λ (c : CellId). IsCell d c) is there in
        let no : false ≡ true = subst (λ (o : Option CellBody). IsSome o) none here in
        cc no

    go : (us : List UsedAt) → users d id ≡ us → users d id ≡ []
    go [] e = e
    go (u ∷ us) e =
        let has : Contains (users d id) u = subst (λ (vs : List UsedAt). Contains vs u) (sym e) (slice_get-contains (u ∷ us) 0 u refl) in
        absurd (never u (slice_get (insts_at d u.cell) u.inst) refl ((users_are_instances d id u).0 has))

-- ---- the index

abbrev row_of : Design → ℕ → List (List UsedAt)
row_of d lib = map (users d) (ids_of lib (count_in d lib))

row_long : (d : Design) (lib : ℕ) → length (row_of d lib) ≡ count_in d lib
row_long d lib = length-map (ids_of lib (count_in d lib)) (users d) ∙ length-map-range_with_len (id_at lib) 0 (count_in d lib)

row_is : (d : Design) (lib : ℕ) → slice_get (uses d) lib ≡ option_map (λ _. row_of d lib) (slice_get d.libs lib)
row_is d lib = row_at (λ lib count. map (users d) (ids_of lib count)) d lib

-- the list of the new cell
new_row : (d : Design) (id : CellId) (body : CellBody) → IsValid d → IsSome (lib_at d id.lib) → id.slot ≡ length (cells_in d id.lib) → insts_of body ≡ []
    → users_at (with_row id.lib (uses d)) id ≡ users_at (uses (more d id body)) id
new_row d id body valid has next blank =
    let e : Design = more d id body in
    let none : users e id ≡ [] = ap (users_among id) (placed_same d id body next blank) ∙ no_users d id valid (none_next d id next) in
    ap (option_and_then (λ cells. slice_get cells id.slot)) (slice_get-changed_same (λ cells. cells ++ [] ∷ []) id.lib.0 (uses d) ∙ ap (option_map (λ cells. cells ++ [] ∷ [])) (row_is d id.lib.0))
    ∙ go (lib_at d id.lib) has
    ∙ ap (option_map (λ _. [])) (sym (new_cell_at d id body next))
    ∙ ap (λ (us : List UsedAt). option_map (λ _. us) (cell_at e id)) (sym none)
    ∙ sym (used_entry e id)
  where
    go : (o : Option Lib) → IsSome o → option_and_then (λ cells. slice_get cells id.slot) (option_map (λ cells. cells ++ [] ∷ []) (option_map (λ _. row_of d id.lib.0) o))
        ≡ option_map (λ _. []) (option_map (λ (_ : List (List ℕ)). body) (directory_of o))
    go None never = let no : false ≡ true = never in cc no
    go (Some l) is = last_of (row_of d id.lib.0) [] id.slot (next ∙ sym (row_long d id.lib.0))

-- the lists of others
old_row : (d : Design) (id : CellId) (c : CellId) → id.slot ≡ length (cells_in d id.lib) → c ≢ id → users_at (with_row id.lib (uses d)) c ≡ users_at (uses d) c
old_row d id c next apart = ⊎_elim
    (λ (same : c.lib.0 ≡ id.lib.0).
    let past : c.slot ≢ length (row_of d id.lib.0) = λ slot. apart (same_id c id same (slot ∙ row_long d id.lib.0 ∙ sym next)) in
    ap (λ k. option_and_then (λ cells. slice_get cells c.slot) (slice_get (with_row id.lib (uses d)) k)) same
    ∙ ap (option_and_then (λ cells. slice_get cells c.slot)) (slice_get-changed_same (λ cells. cells ++ [] ∷ []) id.lib.0 (uses d) ∙ ap (option_map (λ cells. cells ++ [] ∷ [])) (row_is d id.lib.0))
    ∙ go (slice_get d.libs id.lib.0) past
    ∙ sym (ap (option_and_then (λ cells. slice_get cells c.slot)) (row_is d id.lib.0))
    ∙ ap (λ k. option_and_then (λ cells. slice_get cells c.slot) (slice_get (uses d) k)) (sym same))
    (λ (other : c.lib.0 ≢ id.lib.0). ap (option_and_then (λ cells. slice_get cells c.slot)) (slice_get-changed_other (λ cells. cells ++ [] ∷ []) id.lib.0 (uses d) c.lib.0 other))
    (cases_eq c.lib.0 id.lib.0)
  where
    go : (o : Option Lib) → c.slot ≢ length (row_of d id.lib.0) → option_and_then (λ cells. slice_get cells c.slot) (option_map (λ cells. cells ++ [] ∷ []) (option_map (λ _. row_of d id.lib.0) o))
        ≡ option_and_then (λ cells. slice_get cells c.slot) (option_map (λ _. row_of d id.lib.0) o)
    go None past = refl
    go (Some l) past = not_last (row_of d id.lib.0) [] c.slot past

with_more : (d : Design) (id : CellId) (body : CellBody) → IsValid d → IsSome (lib_at d id.lib) → id.slot ≡ length (cells_in d id.lib) → insts_of body ≡ [] → with_row id.lib (uses d) ≡ uses (more d id body)
with_more d id body valid has next blank =
    let e : Design = more d id body in
    same_index e (with_row id.lib (uses d))
    (length-changed_at (λ cells. cells ++ [] ∷ []) id.lib.0 (uses d)
    ∙ length-map-range_with_len (row_of d) 0 (length d.libs)
    ∙ sym (length-changed_at (lib_with_more body) id.lib.0 d.libs))
    (λ c. ⊎_elim
    (λ (same : c ≡ id). subst (λ (v : CellId). users_at (with_row id.lib (uses d)) v ≡ users_at (uses e) v) (sym same) (new_row d id body valid has next blank))
    (λ (apart : c ≢ id).
    old_row d id c next apart
    ∙ used_entry d c
    ∙ (λ i. option_map (λ _. users_among c (sym (placed_same d id body next blank) i)) (sym (other_cell_at d id body c next apart) i))
    ∙ sym (used_entry e c))
    (cases_cell c id))

-- the change
pub blank_is : (d : Design) (change : Change) (lib : LibId) → IsValid d → CanAllBeMade d change.cells → IsBlank change lib → with_row lib (uses d) ≡ uses (edited d (edits_of d change))
blank_is d change lib valid can is =
    let can_one = subst (λ (cs : List CellChange). CanAllBeMade d cs) is.only can in
    let only = is.only in
    let notes = is.notes in
    let here = is.here in
    ap (λ (l : LibId). with_row l (uses d)) (sym here)
    ∙ with_more d is.id is.body valid can_one.0.0 can_one.0.1 is.blank
    ∙ ap uses (sym (λ i. edited d (cell_edits d (only i) ++ option_to_list (option_map noted (notes i)))))
