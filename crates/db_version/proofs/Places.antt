-- Places of names: the first equal one, and names that differ.
use Rattle.std.proofs.Common.{◌≡◌, ℕ, zero, suc, arith, ◌+◌, ◌<◌, Bool, false, cond, List, [], ◌∷◌, ◌++◌, map, length, take, nat_eq, Option, Some, None, refl, sym, ap, ◌∙◌, get_or, slice_get, option_map, Global}
use Rattle.std.specs.Prelude.{position, nat_lt}
use Rattle.std.specs.Cmp.Lexicographic.{pointwise, bytes_decides, nat_list_eq_equiv}
use Rattle.std.specs.List.{All, list_any}
use Rattle.indexmap.specs.IndexSet.{insert_key}
use Rattle.std.proofs.lemmas.List.{get_or-take, take-map, map-append, length-take}
use Rattle.std.proofs.lemmas.List.Folds.{list_any_none}
use Rattle.std.proofs.lemmas.Option.{slice_get_within, get_or_from_slice_get}
use Rattle.std.proofs.lemmas.Bool.{false_from_ne_true}
use Rattle.netlist_schema.specs.Names.{AreDistinct, cell_names, lib_names}
use Rattle.std.specs.Arc.{arc_value}
use Rattle.std.specs.declared.sync.Arc.{Arc}
use Rattle.netlist_schema.proofs.Lists.{take_next}
use Rattle.edit_rules_spec.proofs.Positions.{position_from-position, position_from-map}
use Rattle.db_version.specs.Shelves.{shelf_name}
use Rattle.netlist_schema.specs.Types.{CellBody, Lib, LibId}
use Rattle.std.specs.List.{position_from, position_or_len}
use Rattle.edit_rules_spec.specs.Find.{is_name, lib_named, place_of}
use Rattle.netlist_schema.specs.Design.{Design}

position_from-flip : (name : List ℕ) (i : ℕ) (names : List (List ℕ)) → position_from (λ other. is_name other name) i names ≡ position_from (pointwise nat_eq name) i names
position_from-flip name i [] = refl
position_from-flip name i (x ∷ names) =
    ap (λ b. cond b (Some i) (position_from (λ other. is_name other name) (i + 1) names)) (nat_list_eq_equiv.symm x name)
    ∙ ap (λ rest. cond (pointwise nat_eq name x) (Some i) rest) (position_from-flip name (i + 1) names)

pub place_of-position : (name : List ℕ) (names : List (List ℕ)) → place_of name names ≡ position (pointwise nat_eq name) names
place_of-position name names =
    let here : 0 + position_or_len (pointwise nat_eq name) names ≡ position_or_len (pointwise nat_eq name) names = omega arith in
    position_from-flip name 0 names ∙ position_from-position (pointwise nat_eq name) 0 names
    ∙ ap (λ (k : ℕ). cond (nat_lt (position_or_len (pointwise nat_eq name) names) (length names)) (Some k) None) here

pub place_found : (name : List ℕ) (names keys : List (List ℕ)) (found : Option ℕ) → keys ≡ names → found ≡ position (pointwise nat_eq name) keys → found ≡ place_of name names
place_found name names keys found same is = is ∙ ap (position (pointwise nat_eq name)) same ∙ sym (place_of-position name names)

-- a name that is none of the names before it
pub is_new : (names : List (List ℕ)) (i : ℕ) (name : List ℕ) → AreDistinct names → slice_get names i ≡ Some name → list_any (pointwise nat_eq name) (take i names) ≡ false
is_new names i name distinct found = list_any_none (pointwise nat_eq name) (take i names) each
  where
    within : i < length names
    within = slice_get_within names i name found

    each : All (λ other. pointwise nat_eq name other ≡ false) (take i names)
    each k d low =
        let before : k < i = omega (arith, length-take i names) in
        let here : get_or (take i names) k d ≡ get_or names k d = get_or-take i names k d before in
        let last : get_or names i d ≡ name = get_or_from_slice_get names i name d found in
        false_from_ne_true (pointwise nat_eq name (get_or (take i names) k d)) (λ same. distinct k i d before within (sym here ∙ sym ((bytes_decides name (get_or (take i names) k d)).0 same) ∙ sym last))

pub got_name : (cells : List CellBody) (i : ℕ) (cell : CellBody) → slice_get cells i ≡ Some cell → slice_get (cell_names cells) i ≡ Some cell.name.id
got_name [] i cell found = cc
got_name (c ∷ cells) zero cell found = let same : c ≡ cell = cc in ap (λ (b : CellBody). Some b.name.id) same
got_name (c ∷ cells) (suc i) cell found = got_name cells i cell found

pub got_item : {X : Type 0} (xs : List X) (i : ℕ) (x : X) → i < length xs → x ≡ get_or xs i x → slice_get xs i ≡ Some x
got_item [] i x within is = absurd (omega arith)
got_item (y ∷ xs) zero x within is = ap (λ z. Some z) (sym is)
got_item (y ∷ xs) (suc i) x within is = got_item xs i x (omega arith) is

-- one more name of a directory
pub named_next : (cells : List CellBody) (i : ℕ) (cell : CellBody) (id : List ℕ) (keys new : List (List ℕ)) → AreDistinct (cell_names cells) → slice_get cells i ≡ Some cell → id ≡ cell.name.id
    → keys ≡ cell_names (take i cells) → new ≡ insert_key (pointwise nat_eq) keys id → new ≡ cell_names (take (i + 1) cells)
named_next cells i cell id keys new distinct found same before is =
    let name : CellBody → List ℕ = λ c. c.name.id in
    let all : keys ≡ take i (cell_names cells) = before ∙ sym (take-map name i cells) in
    let none : list_any (pointwise nat_eq id) keys ≡ false =
    ap (list_any (pointwise nat_eq id)) all ∙ ap (λ n. list_any (pointwise nat_eq n) (take i (cell_names cells))) same ∙ is_new (cell_names cells) i cell.name.id distinct (got_name cells i cell found) in
    is ∙ ap (λ b. cond b keys (keys ++ id ∷ [])) none
    ∙ ap (λ ks. ks ++ id ∷ []) before ∙ ap (λ n. cell_names (take i cells) ++ n ∷ []) same
    ∙ sym (map-append name (take i cells) (cell ∷ []))
    ∙ ap cell_names (sym (take_next cells i cell found))
    ∙ ap (λ n. cell_names (take n cells)) (add-one i)
  where
    add-one : (n : ℕ) → suc n ≡ n + 1
    add-one n = omega arith

-- ---- libraries by name

names_of_shelves : (shelves : List (Arc Lib Global)) → lib_names (map arc_value shelves) ≡ map shelf_name shelves
names_of_shelves [] = refl
names_of_shelves (s ∷ shelves) = ap (λ ns. shelf_name s ∷ ns) (names_of_shelves shelves)

pub lib_place : (name : List ℕ) (shelves : List (Arc Lib Global)) (found : Option ℕ) → found ≡ position (λ shelf. is_name (shelf_name shelf) name) shelves → found ≡ place_of name (lib_names (map arc_value shelves))
lib_place name shelves found is =
    let test : Arc Lib Global → Bool = λ s. is_name (shelf_name s) name in
    let here : 0 + position_or_len test shelves ≡ position_or_len test shelves = omega arith in
    is ∙ sym (ap (place_of name) (names_of_shelves shelves)
    ∙ position_from-map (λ (other : List ℕ). is_name other name) shelf_name 0 shelves
    ∙ position_from-position test 0 shelves
    ∙ ap (λ (k : ℕ). cond (nat_lt (position_or_len test shelves) (length shelves)) (Some k) None) here)

abbrev lib_id : ℕ → LibId
lib_id place = record { 0 = place }

-- the library that is found, in a design of these libraries
pub lib_found : (d : Design) (name : List ℕ) (shelves lent : List (Arc Lib Global)) (found : Option ℕ) → map arc_value shelves ≡ d.libs → lent ≡ shelves
    → found ≡ position (λ shelf. is_name (shelf_name shelf) name) lent → option_map (λ place. lib_id place) found ≡ lib_named d name
lib_found d name shelves lent found libs same is =
    ap (option_map (λ place. lib_id place)) (lib_place name lent found is ∙ ap (λ ss. place_of name (lib_names (map arc_value ss))) same ∙ ap (λ ls. place_of name (lib_names ls)) libs)
