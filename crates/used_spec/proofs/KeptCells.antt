-- Which cells are kept, and where they stand then.
use Rattle.std.proofs.Common.{◌≡◌, ◌⊎◌, ◌↔◌, inl, inr, ℕ, arith, Bool, true, List, [], ◌∷◌, length, Option, Some, None, refl, sym, ap, subst, ◌∙◌, slice_get, slice_index_or}
use Rattle.std.specs.Prelude.{is_some, nat_eq, option_map, unwrap_or}
use Rattle.std.specs.List.{All, AllByRecursion, Contains, enumerate_from, list_any}
use Rattle.std.specs.Option.{option_map_or}
use Rattle.std.proofs.lemmas.Bool.{or_cases, or_left, or_right}
use Rattle.std.proofs.lemmas.List.Elements.{Contains-get_or}
use Rattle.std.proofs.lemmas.Option.{slice_get-get_or, slice_get-map, slice_get_within}
use Rattle.netlist_schema.specs.Design.{Design, cell_at, insts_of}
use Rattle.netlist_schema.specs.Hierarchy.{HasInst, IsBelow, IsCell, NoCellIsBelowItself, deeper, insts_at, placed}
use Rattle.netlist_schema.specs.Types.{CellBody, CellId, Inst, Lib, TopHead}
use Rattle.netlist_schema.proofs.Lists.{all_at, all_weaker, get_there, some_of}
use Rattle.netlist_schema.proofs.Ranks.{below_trans}
use Rattle.netlist_order_spec.proofs.Places.{lib_of_cell}
use Rattle.netlist_order_spec.proofs.WholeOrder.{IsNew, cell_found}
use Rattle.edif_spec.specs.Arranged.{new_cell, new_cells, new_id, place_in}
use Rattle.edif_spec.proofs.Arrange.{AllThere, new_there, place_found}
use Rattle.edit_rules_spec.specs.Paths.{same_cell}
use Rattle.edit_rules_spec.proofs.Levels.{is_same_cell, same_cell-refl}
use Rattle.flat_spec.specs.Occurrences.{Occurrence, occurrences}
use Rattle.flat_spec.specs.Paths.{Reaches}
use Rattle.flat_spec.proofs.ListLemmas.{Member, slice_get-contains}
use Rattle.flat_spec.proofs.OccurrenceLemmas.{occurrences-member, occurrences-reaches}
use Rattle.flat_spec.proofs.PathLemmas.{Reaches-cons, Reaches-parts}
use Rattle.used_spec.specs.Kept.{is_kept, kept, kept_below, kept_libs, kept_places, kept_slots, lib_with}
use Rattle.used_spec.specs.Laws.{ComesFrom}
use Rattle.used_spec.specs.Uses.{count_in, id_at}
use Rattle.used_spec.proofs.Numbered.{IsPicked, enumerated, numbered, picked_are, picked_has, picked_new}
use Rattle.used_spec.proofs.Renumbered.{old_there, place_at}

-- ---- the cells that are kept are the top and those below it

pub any_from_member : {A : Type 0} (test : A → Bool) (xs : List A) (x : A) → Member xs x → test x ≡ true → list_any test xs ≡ true
any_from_member test [] x m passes = absurd m
any_from_member test (y ∷ xs) x (inl same) passes = or_left (test y) (list_any test xs) (ap test same ∙ passes)
any_from_member test (y ∷ xs) x (inr later) passes = or_right (test y) (list_any test xs) (any_from_member test xs x later passes)

pub member_from_any : {A : Type 0} (test : A → Bool) (xs : List A) → list_any test xs ≡ true → (x : A) × Member xs x × (test x ≡ true)
member_from_any test [] has = absurd (cc has)
member_from_any test (y ∷ xs) has = elim (or_cases (test y) (list_any test xs) has) [
  | inl here ↦ (y, inl refl, here)
  | inr later ↦ let r = member_from_any test xs later in (r.0, inr r.1, r.2)
]

-- a path leads to the cell itself, or to one below it
reaches_below : (d : Design) (path : List ℕ) (c end : CellId) → Reaches d c path end → (end ≡ c) ⊎ IsBelow d end c
reaches_below d [] c end is = let same : c ≡ end = cc is in inl (sym same)
reaches_below d (i ∷ path) c end is =
    let parts = Reaches-parts d c i path end is in
    let has : HasInst d c parts.0 = slice_get-contains (insts_at d c) i parts.0 parts.1 in
    elim (reaches_below d path parts.0.of end parts.2) [
      | inl same ↦ inr (subst (λ (k : CellId). IsBelow d k c) (sym same) (placed parts.0 has))
      | inr below ↦ inr (deeper parts.0 has below)
    ]

pub contains_place : {A : Type 0} (xs : List A) (x : A) → Contains xs x → (i : ℕ) × (slice_get xs i ≡ Some x)
contains_place xs x (i, within, is) = (i, slice_get-get_or xs i x within ∙ ap Some is)

-- and to each cell below some path leads
below_reaches : (d : Design) (inner outer : CellId) → IsBelow d inner outer → (path : List ℕ) × Reaches d outer path inner
below_reaches d inner outer (placed inst has) =
    let at = contains_place (insts_at d outer) inst has in
    (at.0 ∷ [], Reaches-cons d outer at.0 inst [] inst.of at.1 refl)
below_reaches d inner outer (deeper inst has below) =
    let at = contains_place (insts_at d outer) inst has in
    let rest = below_reaches d inner inst.of below in
    (at.0 ∷ rest.0, Reaches-cons d outer at.0 inst rest.0 inner at.1 rest.1)

pub kept_is_below : (d : Design) (top c : CellId) → NoCellIsBelowItself d → is_kept d top c ≡ true → (c ≡ top) ⊎ IsBelow d c top
kept_is_below d top c acyclic kept =
    let found = member_from_any (λ (o : Occurrence). same_cell o.cell c) (occurrences d top) kept in
    subst (λ (k : CellId). (k ≡ top) ⊎ IsBelow d k top) (is_same_cell found.0.cell c found.2)
    (reaches_below d found.0.path top found.0.cell (occurrences-reaches d acyclic top found.0 found.1))

reached_is_kept : (d : Design) (top c : CellId) → NoCellIsBelowItself d → (path : List ℕ) → Reaches d top path c → is_kept d top c ≡ true
reached_is_kept d top c acyclic path reaches =
    any_from_member (λ (o : Occurrence). same_cell o.cell c) (occurrences d top) (record { path = path; cell = c })
    (occurrences-member d acyclic top (record { path = path; cell = c }) reaches) (same_cell-refl c)

pub top_is_kept : (d : Design) (top : CellId) → NoCellIsBelowItself d → is_kept d top top ≡ true
top_is_kept d top acyclic = reached_is_kept d top top acyclic [] refl

pub below_is_kept : (d : Design) (top c : CellId) → NoCellIsBelowItself d → (c ≡ top) ⊎ IsBelow d c top → is_kept d top c ≡ true
below_is_kept d top c acyclic (inl same) = ap (is_kept d top) same ∙ top_is_kept d top acyclic
below_is_kept d top c acyclic (inr below) = let r = below_reaches d c top below in reached_is_kept d top c acyclic r.0 r.1

pub kept_if_below : (d : Design) (top c : CellId) → NoCellIsBelowItself d → (is_kept d top c ≡ true) ↔ ((c ≡ top) ⊎ IsBelow d c top)
kept_if_below d top c acyclic = (kept_is_below d top c acyclic, below_is_kept d top c acyclic)

-- a cell that a path reaches is kept
pub reached_kept : (d : Design) (top c : CellId) → NoCellIsBelowItself d → (path : List ℕ) → Reaches d top path c → is_kept d top c ≡ true
reached_kept d top c acyclic path reaches = reached_is_kept d top c acyclic path reaches

-- with a cell the cells of its instances are kept
pub inst_is_kept : (d : Design) (top c : CellId) (inst : Inst) → NoCellIsBelowItself d → is_kept d top c ≡ true → HasInst d c inst → is_kept d top inst.of ≡ true
inst_is_kept d top c inst acyclic kept has = below_is_kept d top inst.of acyclic (go (kept_is_below d top c acyclic kept))
  where
    go : (c ≡ top) ⊎ IsBelow d c top → (inst.of ≡ top) ⊎ IsBelow d inst.of top
    go (inl same) = inr (subst (λ (k : CellId). IsBelow d inst.of k) same (placed inst has))
    go (inr below) = inr (below_trans d (placed inst has) below)

-- ---- the places of a library

abbrev at_top : Design → CellId → ℕ → ℕ → Bool
at_top d top lib slot = is_kept d top (id_at lib slot)

pub slots_new : (d : Design) (top : CellId) (lib : ℕ) → IsNew (kept_slots d top lib)
slots_new d top lib = picked_new (at_top d top lib) 0 (count_in d lib)

pub count_is : (d : Design) (lib : ℕ) (l : Lib) → slice_get d.libs lib ≡ Some l → count_in d lib ≡ length l.cells
count_is d lib l e = ap (λ (o : Option Lib). length (option_map_or (λ (x : Lib). x.cells) o [])) e

pub slots_are : (d : Design) (top : CellId) (lib : ℕ) → AllByRecursion (IsPicked (at_top d top lib) (count_in d lib)) (kept_slots d top lib)
slots_are d top lib = picked_are (at_top d top lib) 0 (count_in d lib) (count_in d lib) (omega arith)

pub slots_there : (d : Design) (top : CellId) (lib : ℕ) (l : Lib) → slice_get d.libs lib ≡ Some l → AllThere l.cells (kept_slots d top lib)
slots_there d top lib l e =
    all_weaker (IsPicked (at_top d top lib) (count_in d lib)) (λ k. (c : CellBody) × (slice_get l.cells k ≡ Some c)) (kept_slots d top lib)
    (λ k is. get_there l.cells k (let less = is.within in let long = count_is d lib l e in omega (arith, less, long))) (slots_are d top lib)

pub slot_listed : (d : Design) (top id : CellId) (l : Lib) (c : CellBody) → slice_get d.libs id.lib.0 ≡ Some l → slice_get l.cells id.slot ≡ Some c → is_kept d top id ≡ true
    → list_any (nat_eq id.slot) (kept_slots d top id.lib.0) ≡ true
slot_listed d top id l c e f kept =
    let within = slice_get_within l.cells id.slot c f in
    let long = count_is d id.lib.0 l e in
    picked_has (at_top d top id.lib.0) 0 (count_in d id.lib.0) id.slot (omega arith) (omega (arith, within, long)) kept

-- ---- libraries and places of the kept design

pub lib_kept : (d : Design) (top : CellId) (lib : ℕ) → slice_get (kept_libs d top) lib ≡ option_map (λ l. lib_with (kept_places d top) l (kept_slots d top lib)) (slice_get d.libs lib)
lib_kept d top lib =
    slice_get-map (λ (p : ℕ × Lib). lib_with (kept_places d top) p.1 (kept_slots d top p.0)) (enumerate_from 0 d.libs) lib
    ∙ ap (option_map (λ (p : ℕ × Lib). lib_with (kept_places d top) p.1 (kept_slots d top p.0))) (enumerated d.libs lib)
    ∙ twice (slice_get d.libs lib)
  where
    twice : (o : Option Lib) → option_map (λ (p : ℕ × Lib). lib_with (kept_places d top) p.1 (kept_slots d top p.0)) (option_map (λ l. (lib, l)) o)
        ≡ option_map (λ l. lib_with (kept_places d top) l (kept_slots d top lib)) o
    twice None = refl
    twice (Some l) = refl

pub places_kept : (d : Design) (top : CellId) (lib : ℕ) → slice_get (kept_places d top) lib ≡ option_map (λ _. kept_slots d top lib) (slice_get d.libs lib)
places_kept d top lib = numbered (kept_slots d top) d.libs (length d.libs) lib refl

pub slot_is : (d : Design) (top id : CellId) (l : Lib) → slice_get d.libs id.lib.0 ≡ Some l → (new_id (kept_places d top) id).slot ≡ place_in id.slot (kept_slots d top id.lib.0)
slot_is d top id l e = ap (λ o. unwrap_or (option_map (place_in id.slot) o) id.slot) (places_kept d top id.lib.0 ∙ ap (option_map (λ _. kept_slots d top id.lib.0)) e)

-- a cell that is kept stands at its new id
pub cell_moved : (d : Design) (top : TopHead) (id : CellId) (c : CellBody) → cell_at d id ≡ Some c → is_kept d top.cell id ≡ true
    → cell_at (kept_below d top) (new_id (kept_places d top.cell) id) ≡ Some (new_cell (kept_places d top.cell) c)
cell_moved d top id c e kept =
    let places = kept_places d top.cell in
    let order = kept_slots d top.cell id.lib.0 in
    let l = lib_of_cell d id c e in
    let full = slot_listed d top.cell id l.0 c l.1 l.2 kept in
    let at_place : slice_get (new_cells places l.0.cells order) (place_in id.slot order) ≡ Some (new_cell places c) =
    new_there places l.0.cells order (place_in id.slot order) id.slot c (slots_there d top.cell id.lib.0 l.0 l.1) (place_found id.slot order full) l.2 in
    let lib : slice_get (kept_libs d top.cell) id.lib.0 ≡ Some (lib_with places l.0 order) = lib_kept d top.cell id.lib.0 ∙ ap (option_map (λ l. lib_with places l order)) l.1 in
    ap (λ (o : Option Lib). slice_get (option_map_or (λ (x : Lib). x.cells) o []) (new_id places id).slot) lib
    ∙ ap (slice_get (new_cells places l.0.cells order)) (slot_is d top.cell id l.0 l.1)
    ∙ at_place

pub moved_some : (d : Design) (top : TopHead) (id : CellId) → IsCell d id → is_kept d top.cell id ≡ true → IsCell (kept_below d top) (new_id (kept_places d top.cell) id)
moved_some d top id is kept = let c = some_of (cell_at d id) is in ap is_some (cell_moved d top id c.0 c.1 kept)

-- and each cell of the kept design comes from one
pub cell_from : (d : Design) (top : TopHead) (id : CellId) (n : CellBody) → cell_at (kept_below d top) id ≡ Some n → ComesFrom d top id n
cell_from d top id n e =
    let k = lib_of_cell (kept_below d top) id n e in
    go (slice_get d.libs id.lib.0) refl k.0 k.1 k.2
  where
    go : (o : Option Lib) → slice_get d.libs id.lib.0 ≡ o → (k : Lib) → slice_get (kept_libs d top.cell) id.lib.0 ≡ Some k → slice_get k.cells id.slot ≡ Some n → ComesFrom d top id n
    go None f k is at = let no : None ≡ Some k = sym (lib_kept d top.cell id.lib.0 ∙ ap (option_map (λ l. lib_with (kept_places d top.cell) l (kept_slots d top.cell id.lib.0))) f) ∙ is in cc
    go (Some l) f k is at =
        let places' = kept_places d top.cell in
        let order' = kept_slots d top.cell id.lib.0 in
        let both : Some (lib_with places' l order') ≡ Some k = sym (lib_kept d top.cell id.lib.0 ∙ ap (option_map (λ l. lib_with places' l order')) f) ∙ is in
        let same : lib_with places' l order' ≡ k = cc both in
        let in_new : slice_get (new_cells places' l.cells order') id.slot ≡ Some n = ap (λ (x : Lib). slice_get x.cells id.slot) same ∙ at in
        let c = old_there places' l.cells order' id.slot n (slots_there d top.cell id.lib.0 l f) in_new in
        let old = id_at id.lib.0 c.slot in
        let place : place_in c.slot order' ≡ id.slot = place_at order' id.slot c.slot (slots_new d top.cell id.lib.0) c.listed in
        let slot : (new_id places' old).slot ≡ id.slot = slot_is d top.cell old l f ∙ place in
        let picked = all_at (IsPicked (at_top d top.cell id.lib.0) (count_in d id.lib.0)) order' id.slot c.slot (slots_are d top.cell id.lib.0) c.listed in
        record {
          old_id = old;
          old = c.old;
          found = cell_found d id.lib.0 c.slot l c.old f c.there;
          kept = picked.passes;
          at = λ i. record { lib = id.lib; slot = sym slot i };
          is = c.is;
        }

-- what holds of each instance of a cell that is there
pub all_has : (P : Inst → Type 0) (d : Design) (id : CellId) (c : CellBody) → cell_at d id ≡ Some c → ((inst : Inst) → HasInst d id inst → P inst) → All P (insts_of c)
all_has P d id c e f = λ k x within.
    let same : insts_at d id ≡ insts_of c = ap (λ (o : Option CellBody). option_map_or insts_of o []) e in
    f (slice_index_or (insts_of c) k x) (subst (λ (is : List Inst). Contains is (slice_index_or (insts_of c) k x)) (sym same) (Contains-get_or (insts_of c) k x within))

-- the same of the kept design of a design with this top
pub stands_anew : (d : Design) (top : TopHead) (id : CellId) (c : CellBody) → d.top ≡ Some top → cell_at d id ≡ Some c → is_kept d top.cell id ≡ true
    → cell_at (kept d) (new_id (kept_places d top.cell) id) ≡ Some (new_cell (kept_places d top.cell) c)
stands_anew d top id c has found kept =
    ap (λ (o : Option TopHead). cell_at (option_map_or (kept_below d) o d) (new_id (kept_places d top.cell) id)) has ∙ cell_moved d top id c found kept

pub stood_before : (d : Design) (top : TopHead) (id : CellId) (n : CellBody) → d.top ≡ Some top → cell_at (kept d) id ≡ Some n → ComesFrom d top id n
stood_before d top id n has found = cell_from d top id n (sym (ap (λ (o : Option TopHead). cell_at (option_map_or (kept_below d) o d) id) has) ∙ found)
