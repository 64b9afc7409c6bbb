-- Places found in a list, and in the list of its names.
use Rattle.std.proofs.Common.{◌≡◌, ◌≤◌, ℕ, arith, ◌+◌, ◌||◌, Bool, true, not, cond, List, [], ◌∷◌, map, Option, Some, None, refl, sym, ap, ◌∙◌}
use Rattle.std.specs.Prelude.{position, nat_lt, length}
use Rattle.std.specs.Option.{option_copied, option_map, option_map_or}
use Rattle.std.specs.Borrow.{Bor}
use Rattle.std.specs.Prelude.{IfSome}
use Rattle.netlist_schema.specs.Valid.{IsValid}
use Rattle.netlist_schema.proofs.Cells.{All-slice_get}
use Rattle.std.specs.List.{position_from, position_or_len, list_any}
use Rattle.netlist_schema.specs.Design.{Design, lib_at, cells_in}
use Rattle.netlist_schema.specs.Names.{cell_names}
use Rattle.netlist_schema.specs.Types.{CellBody, CellId, Lib, LibId}
use Rattle.edit_rules_spec.specs.Find.{cell_in, is_name, is_same, lib_named, place_of}
use Rattle.edit_rules_spec.proofs.Positions.{position_from-position, position_from-map}

-- the place of a name is the position of the first item that has it
pub place_is_position : {X : Type 0} (f : X → List ℕ) (name : List ℕ) (xs : List X) → place_of name (map f xs) ≡ position (λ x. is_name (f x) name) xs
place_is_position f name xs =
    let here : 0 + position_or_len (λ x. is_name (f x) name) xs ≡ position_or_len (λ x. is_name (f x) name) xs = omega arith in
    position_from-map (λ other. is_name other name) f 0 xs ∙ position_from-position (λ x. is_name (f x) name) 0 xs
    ∙ ap (λ k. cond (nat_lt (position_or_len (λ x. is_name (f x) name) xs) (length xs)) (Some k) None) here

pub lib_place : (d : Design) (name : List ℕ) (found : Option ℕ) → found ≡ position (λ lib. is_name lib.head.name.id name) d.libs → lib_named d name ≡ option_map (λ place. let l : LibId = record { 0 = place } in l) found
lib_place d name found is = ap (option_map (λ place. let l : LibId = record { 0 = place } in l)) (place_is_position (λ (lib : Lib). lib.head.name.id) name d.libs ∙ sym is)

pub cell_place : (d : Design) (lib : LibId) (l : Lib) (name : List ℕ) (found : Option ℕ) → lib_at d lib ≡ Some l → found ≡ position (λ cell. is_name cell.name.id name) l.cells → cell_in d name lib ≡ option_map (λ slot. let c : CellId = record { lib = lib; slot = slot } in c) found
cell_place d lib l name found there is =
    ap (λ (o : Option Lib). option_map (λ slot. let c : CellId = record { lib = lib; slot = slot } in c) (place_of name (cell_names (option_map_or (λ (x : Lib). x.cells) o [])))) there
    ∙ ap (option_map (λ slot. let c : CellId = record { lib = lib; slot = slot } in c)) (place_is_position (λ (cell : CellBody). cell.name.id) name l.cells ∙ sym is)

pub any_name : (test : List ℕ → Bool) (cells : List CellBody) → list_any test (cell_names cells) ≡ list_any (λ cell. test cell.name.id) cells
any_name test [] = refl
any_name test (cell ∷ cells) = ap (λ rest. test cell.name.id || rest) (any_name test cells)

-- no cell of a library that is there has a name, or of one that is not there
pub free_found : (d : Design) (lib : LibId) (l : Lib) (name : List ℕ) → lib_at d lib ≡ Some l → not (list_any (λ cell. is_same cell.name.id name) l.cells) ≡ not (list_any (λ other. is_same other name) (cell_names (cells_in d lib)))
free_found d lib l name there =
    ap not (sym (any_name (λ other. is_same other name) l.cells) ∙ ap (λ (o : Option Lib). list_any (λ other. is_same other name) (cell_names (option_map_or (λ (x : Lib). x.cells) o []))) (sym there))

pub free_missing : (d : Design) (lib : LibId) (name : List ℕ) → lib_at d lib ≡ None → true ≡ not (list_any (λ other. is_same other name) (cell_names (cells_in d lib)))
free_missing d lib name none =
    ap (λ (o : Option Lib). not (list_any (λ other. is_same other name) (cell_names (option_map_or (λ (x : Lib). x.cells) o [])))) (sym none)

-- a library of a valid design has few cells
pub few_cells : (d : Design) (lib : LibId) (lent : Option (Bor Lib)) → IsValid d → option_copied lent ≡ lib_at d lib → IfSome lent (λ found. length found.now.cells ≤ 65536)
few_cells d lib None valid is = tt
few_cells d lib (Some found) valid is = All-slice_get (λ (l : Lib). length l.cells ≤ 65536) d.libs lib.0 found.now valid.limits.cells (sym is)

-- the first that passes, by recursion, is std's position
pub first_is_position : {X : Type 0} (test : X → Bool) (xs : List X) → position_from test 0 xs ≡ position test xs
first_is_position test xs =
    let here : 0 + position_or_len test xs ≡ position_or_len test xs = omega arith in
    position_from-position test 0 xs ∙ ap (λ k. cond (nat_lt (position_or_len test xs) (length xs)) (Some k) None) here
