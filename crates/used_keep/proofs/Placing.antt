-- Places and libraries of the kept design, as they are made.
use Rattle.std.proofs.Common.{◌≡◌, ◌+◌, ◌<◌, ◌≤◌, ℕ, suc, arith, Bool, List, [], ◌∷◌, ◌++◌, length, take, Option, Some, None, refl, sym, ap, subst, ◌∙◌, slice_get}
use Rattle.std.specs.Prelude.{option_map, unwrap_or}
use Rattle.std.specs.List.{All, enumerate_from, list_any}
use Rattle.std.specs.Option.{option_map_or}
use Rattle.std.specs.BTreeSet.{BTreeSet, contains}
use Rattle.std.proofs.lemmas.List.{length-map}
use Rattle.std.proofs.lemmas.List.Elements.{All-from_recursion}
use Rattle.std.proofs.lemmas.List.FromFn.{length-enumerate_from}
use Rattle.std.proofs.lemmas.Option.{slice_get-map}
use Rattle.netlist_schema.specs.Design.{Design, cells_in, lib_at}
use Rattle.netlist_schema.specs.Order.{cell_cmp}
use Rattle.netlist_schema.specs.Types.{CellId, Inst, Lib, LibHead, Name, Note, TopHead}
use Rattle.netlist_schema.specs.Valid.{IsValid}
use Rattle.netlist_schema.proofs.Cells.{All-slice_get}
use Rattle.netlist_schema.proofs.Lists.{all_from_places, get_there, same_test, take_next}
use Rattle.edif_spec.specs.Arranged.{new_cells, new_id, new_inst, new_top}
use Rattle.edit_rules_spec.specs.Paths.{same_cell}
use Rattle.edit_rules_spec.proofs.Levels.{is_same_cell, same_cell-refl}
use Rattle.flat_cells.specs.Below.{AreCellsBelow}
use Rattle.flat_spec.proofs.ListLemmas.{Contains-member, Member, Member-contains}
use Rattle.used_spec.specs.Kept.{is_kept, kept_below, kept_libs, kept_places, kept_slots, lib_with}
use Rattle.used_spec.specs.Uses.{count_in}
use Rattle.used_spec.proofs.KeptCells.{any_from_member, below_is_kept, count_is, kept_is_below, lib_kept, member_from_any, places_kept}
use Rattle.used_spec.proofs.Numbered.{enumerated, numbered, same_list}
use Rattle.used_keep.specs.Places.{IsRow, libs_by, places_by, row_at, slots_by}
use Rattle.used_keep.proofs.Picking.{slots_few, slots_rise}

-- ---- places

-- each library's places are a row
pub rows_fit : (d : Design) (test : CellId → Bool) → IsValid d → All IsRow (places_by d test)
rows_fit d test v = All-from_recursion IsRow (places_by d test) (all_from_places IsRow (places_by d test) (λ lib row e. go lib row (slice_get d.libs lib) refl e))
  where
    go : (lib : ℕ) (row : List ℕ) (o : Option Lib) → slice_get d.libs lib ≡ o → slice_get (places_by d test) lib ≡ Some row → IsRow row
    go lib row None none e =
        let never : None ≡ Some row = sym (numbered (λ lib. slots_by test lib (count_in d lib)) d.libs (length d.libs) lib refl ∙ ap (option_map (λ _. slots_by test lib (count_in d lib))) none) ∙ e in
        cc
    go lib row (Some l) there e =
        let both : Some (slots_by test lib (count_in d lib)) ≡ Some row = sym (numbered (λ lib. slots_by test lib (count_in d lib)) d.libs (length d.libs) lib refl ∙ ap (option_map (λ _. slots_by test lib (count_in d lib))) there) ∙ e in
        let same : slots_by test lib (count_in d lib) ≡ row = cc both in
        let few = slots_few test lib (count_in d lib) in
        let count = count_is d lib l there in
        let most : length l.cells ≤ 65536 = All-slice_get (λ (l : Lib). length l.cells ≤ 65536) d.libs lib l v.limits.cells there in
        subst IsRow same (record { rising = slots_rise test lib (count_in d lib); few = omega (arith, few, count, most) })

-- a set of the cells at and below the top tests which are kept
pub set_is_kept : (d : Design) (top : CellId) (cells : List CellId) (set : BTreeSet CellId) → IsValid d → AreCellsBelow d top cells → ((id : CellId) → contains cell_cmp set id ≡ list_any (λ c. same_cell c id) cells)
    → (id : CellId) → contains cell_cmp set id ≡ is_kept d top id
set_is_kept d top cells set v below is id = is id ∙ same_test (list_any (λ c. same_cell c id) cells) (is_kept d top id)
    (λ has.
    let found = member_from_any (λ (c : CellId). same_cell c id) cells has in
    let same = is_same_cell found.0 id found.2 in
    below_is_kept d top id v.no_cycle ((below.each id).0 (Member-contains cells id (subst (λ (c : CellId). Member cells c) same found.1))))
    (λ kept. any_from_member (λ (c : CellId). same_cell c id) cells id (Contains-member cells id ((below.each id).1 (kept_is_below d top id v.no_cycle kept))) (same_cell-refl id))

pub places_are : (d : Design) (top : CellId) (test : CellId → Bool) → ((id : CellId) → test id ≡ is_kept d top id) → places_by d test ≡ kept_places d top
places_are d top test same = λ i. places_by d (λ id. same id i)

-- ---- libraries

libs_at : (d : Design) (places : List (List ℕ)) (lib : ℕ) → slice_get (libs_by d places) lib ≡ option_map (λ l. lib_with places l (row_at places lib)) (slice_get d.libs lib)
libs_at d places lib =
    slice_get-map (λ (p : ℕ × Lib). lib_with places p.1 (row_at places p.0)) (enumerate_from 0 d.libs) lib
    ∙ ap (option_map (λ (p : ℕ × Lib). lib_with places p.1 (row_at places p.0))) (enumerated d.libs lib)
    ∙ twice (slice_get d.libs lib)
  where
    twice : (o : Option Lib) → option_map (λ (p : ℕ × Lib). lib_with places p.1 (row_at places p.0)) (option_map (λ l. (lib, l)) o) ≡ option_map (λ l. lib_with places l (row_at places lib)) o
    twice None = refl
    twice (Some l) = refl

pub libs_long : (d : Design) (places : List (List ℕ)) → length (libs_by d places) ≡ length d.libs
libs_long d places = length-map (enumerate_from 0 d.libs) (λ (p : ℕ × Lib). lib_with places p.1 (row_at places p.0)) ∙ length-enumerate_from 0 d.libs

-- one library more
pub lib_next : (d : Design) (places : List (List ℕ)) (lib : ℕ) (head : LibHead) (made : List Lib) → Some head ≡ option_map (λ l. l.head) (lib_at d (record { 0 = lib })) → made ≡ take lib (libs_by d places)
    → made ++ record { head = head; cells = new_cells places (cells_in d (record { 0 = lib })) (row_at places lib) } ∷ [] ≡ take (lib + 1) (libs_by d places)
lib_next d places lib head made is so_far = go (slice_get d.libs lib) refl is
  where
    go : (o : Option Lib) → slice_get d.libs lib ≡ o → Some head ≡ option_map (λ l. l.head) o
        → made ++ record { head = head; cells = new_cells places (cells_in d (record { 0 = lib })) (row_at places lib) } ∷ [] ≡ take (lib + 1) (libs_by d places)
    go None there is = cc
    go (Some l) there is =
        let same : head ≡ l.head = cc is in
        let cells : cells_in d (record { 0 = lib }) ≡ l.cells = ap (λ (o : Option Lib). option_map_or (λ (x : Lib). x.cells) o []) there in
        let next : lib + 1 ≡ suc lib = omega arith in
        let at : slice_get (libs_by d places) lib ≡ Some (lib_with places l (row_at places lib)) = libs_at d places lib ∙ ap (option_map (λ l. lib_with places l (row_at places lib))) there in
        (λ i. so_far i ++ record { head = same i; cells = new_cells places (cells i) (row_at places lib) } ∷ [])
        ∙ sym (ap (λ k. take k (libs_by d places)) next ∙ take_next (libs_by d places) lib (lib_with places l (row_at places lib)) at)

pub no_lib : (d : Design) (lib : ℕ) → lib < length d.libs → None ≡ option_map (λ (l : Lib). l.head) (lib_at d (record { 0 = lib })) → ⊥
no_lib d lib within is =
    let l = get_there d.libs lib within in
    let never : None ≡ Some l.0.head = is ∙ ap (option_map (λ (l : Lib). l.head)) l.1 in
    cc

-- with the places of the kept design they are its libraries
pub libs_are : (d : Design) (top : CellId) → libs_by d (kept_places d top) ≡ kept_libs d top
libs_are d top = same_list (libs_by d (kept_places d top)) (kept_libs d top) (λ lib.
    libs_at d (kept_places d top) lib ∙ each lib (slice_get d.libs lib) refl ∙ sym (lib_kept d top lib))
  where
    each : (lib : ℕ) (o : Option Lib) → slice_get d.libs lib ≡ o → option_map (λ l. lib_with (kept_places d top) l (row_at (kept_places d top) lib)) (slice_get d.libs lib)
        ≡ option_map (λ l. lib_with (kept_places d top) l (kept_slots d top lib)) (slice_get d.libs lib)
    each lib None none = ap (option_map (λ l. lib_with (kept_places d top) l (row_at (kept_places d top) lib))) none ∙ sym (ap (option_map (λ l. lib_with (kept_places d top) l (kept_slots d top lib))) none)
    each lib (Some l) there =
        let row : row_at (kept_places d top) lib ≡ kept_slots d top lib = ap (λ o. unwrap_or o []) (places_kept d top lib ∙ ap (option_map (λ _. kept_slots d top lib)) there) in
        ap (λ slots. option_map (λ l. lib_with (kept_places d top) l slots) (slice_get d.libs lib)) row

-- the parts of the kept design
pub parts_are : (d : Design) (top : TopHead) (places : List (List ℕ)) (title : Name) (libs : List Lib) (head : TopHead) (notes : List Note) → title ≡ d.title → libs ≡ libs_by d places → head ≡ new_top places top → notes ≡ d.notes
    → places ≡ kept_places d top.cell → record { title = title; libs = libs; top = Some head; notes = notes } ≡ kept_below d top
parts_are d top places title libs head notes same_title same_libs same_head same_notes same =
    let all = same_libs ∙ ap (libs_by d) same ∙ libs_are d top.cell in
    let first = same_head ∙ ap (λ p. new_top p top) same in
    λ i. record { title = same_title i; libs = all i; top = Some (first i); notes = same_notes i }

-- an instance whose cell keeps its id stays as it is
pub inst_stays : (places : List (List ℕ)) (inst : Inst) → new_id places inst.of ≡ inst.of → inst ≡ new_inst places inst
inst_stays places inst same = λ i. record { name = inst.name; of = sym same i; designator = inst.designator; properties = inst.properties }
