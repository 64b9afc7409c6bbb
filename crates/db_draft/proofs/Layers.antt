-- Cells of a library with a layer over it, by place and by name.
use Rattle.std.proofs.Common.{◌≡◌, ℕ, zero, suc, arith, ◌+◌, ◌-◌, ◌<◌, ◌≤◌, Bool, true, false, cond, ◌||◌, List, [], ◌∷◌, ◌++◌, length, Option, Some, None, refl, sym, ap, ◌∙◌, slice_get, unwrap_or, option_map}
use Rattle.std.specs.Prelude.{IsSomeAnd}
use Rattle.std.specs.List.{list_any, position_from}
use Rattle.std.proofs.lemmas.List.Folds.{list_any-append}
use Rattle.std.proofs.lemmas.List.{map-append, length-map, length-append}
use Rattle.netlist_schema.specs.Types.{CellBody}
use Rattle.netlist_schema.specs.Names.{cell_names}
use Rattle.netlist_schema.proofs.Lists.{get_there, get_front}
use Rattle.edit_rules_spec.specs.Find.{is_name, place_of}
use Rattle.edit_rules_spec.proofs.Same.{position_from-append}
use Rattle.db_draft.specs.Laid.{Over, Fits, cells_changed, cells_laid}

pub length_changed : (f : ℕ → Option CellBody) (slot : ℕ) (cells : List CellBody) → length (cells_changed f slot cells) ≡ length cells
length_changed f slot [] = refl
length_changed f slot (c ∷ cells) = ap suc (length_changed f (suc slot) cells)

pub get_changed : (f : ℕ → Option CellBody) (from slot at : ℕ) (cells : List CellBody) → at ≡ from + slot → slice_get (cells_changed f from cells) slot ≡ option_map (λ old. unwrap_or (f at) old) (slice_get cells slot)
get_changed f from slot at [] is = refl
get_changed f from zero at (c ∷ cells) is = let here : from ≡ at = omega arith in ap (λ n. Some (unwrap_or (f n) c)) here
get_changed f from (suc slot) at (c ∷ cells) is = get_changed f (suc from) slot at cells (omega arith)

get_right : {X : Type 0} (xs ys : List X) (i k : ℕ) → i ≡ length xs + k → slice_get (xs ++ ys) i ≡ slice_get ys k
get_right [] ys i k is = let same : i ≡ k = omega arith in ap (slice_get ys) same
get_right (x ∷ xs) ys zero k is = absurd (omega arith)
get_right (x ∷ xs) ys (suc i) k is = get_right xs ys i k (omega arith)

-- a cell that the library has
pub laid_old : (over : Over) (cells : List CellBody) (slot : ℕ) → slot < length cells → slice_get (cells_laid over cells) slot ≡ option_map (λ old. unwrap_or (over.changed slot) old) (slice_get cells slot)
laid_old over cells slot within =
    get_front (cells_changed over.changed 0 cells) over.added slot (omega (arith, length_changed over.changed 0 cells))
    ∙ get_changed over.changed 0 slot slot cells (omega arith)

-- a cell that the layer adds
pub laid_new : (over : Over) (cells : List CellBody) (slot : ℕ) → length cells ≤ slot → slice_get (cells_laid over cells) slot ≡ slice_get over.added (slot - length cells)
laid_new over cells slot past =
    get_right (cells_changed over.changed 0 cells) over.added slot (slot - length cells) (omega (arith, length_changed over.changed 0 cells))

-- the same, said of what a look-up gives
pub new_cell : (over : Over) (cells : List CellBody) (slot : ℕ) (given : Option CellBody) → length cells ≤ slot → given ≡ slice_get over.added (slot - length cells) → given ≡ slice_get (cells_laid over cells) slot
new_cell over cells slot given past is = is ∙ sym (laid_new over cells slot past)

pub changed_cell : (over : Over) (cells : List CellBody) (slot : ℕ) (body : CellBody) → slot < length cells → Some body ≡ over.changed slot → Some body ≡ slice_get (cells_laid over cells) slot
changed_cell over cells slot body within is =
    let there = get_there cells slot within in
    sym (laid_old over cells slot within ∙ ap (option_map (λ old. unwrap_or (over.changed slot) old)) there.1 ∙ ap (λ o. Some (unwrap_or o there.0)) (sym is))

pub same_cell : (over : Over) (cells : List CellBody) (slot : ℕ) (given : Option CellBody) → slot < length cells → None ≡ over.changed slot → given ≡ slice_get cells slot → given ≡ slice_get (cells_laid over cells) slot
same_cell over cells slot given within none is =
    let there = get_there cells slot within in
    is ∙ there.1 ∙ sym (laid_old over cells slot within ∙ ap (option_map (λ old. unwrap_or (over.changed slot) old)) there.1 ∙ ap (λ o. Some (unwrap_or o there.0)) (sym none))

-- ---- by name

names_changed : (f : ℕ → Option CellBody) (from : ℕ) (cells : List CellBody)
    → ((slot : ℕ) (body : CellBody) → f (from + slot) ≡ Some body → IsSomeAnd (slice_get cells slot) (λ old. body.name.id ≡ old.name.id))
    → cell_names (cells_changed f from cells) ≡ cell_names cells
names_changed f from [] fits = refl
names_changed f from (c ∷ cells) fits =
    let rest : cell_names (cells_changed f (suc from) cells) ≡ cell_names cells =
    names_changed f (suc from) cells (λ slot body is. let at : from + suc slot ≡ suc from + slot = omega arith in fits (suc slot) body (ap f at ∙ is)) in
    λ i. first (f from) refl i ∷ rest i
  where
    here : from ≡ from + 0
    here = omega arith

    first : (o : Option CellBody) → f from ≡ o → (unwrap_or o c).name.id ≡ c.name.id
    first None is = refl
    first (Some body) is = fits 0 body (ap f (sym here) ∙ is)

pub names_laid : (over : Over) (cells : List CellBody) → Fits cells over → cell_names (cells_laid over cells) ≡ cell_names cells ++ cell_names over.added
names_laid over cells fits =
    map-append (λ (c : CellBody). c.name.id) (cells_changed over.changed 0 cells) over.added
    ∙ ap (λ ns. ns ++ cell_names over.added) (names_changed over.changed 0 cells (λ slot body is. let at : 0 + slot ≡ slot = omega arith in fits slot body (ap over.changed (sym at) ∙ is)))

found_later : {X : Type 0} (test : X → Bool) (i : ℕ) (xs ys : List X) → position_from test i xs ≡ None → position_from test i (xs ++ ys) ≡ position_from test (i + length xs) ys
found_later test i [] ys is = let here : i ≡ i + 0 = omega arith in ap (λ n. position_from test n ys) here
found_later {X} test i (x ∷ xs) ys is = one (test x) (found_later test (i + 1) xs ys) is
  where
    one : (b : Bool) → (position_from test (i + 1) xs ≡ None → position_from test (i + 1) (xs ++ ys) ≡ position_from test (i + 1 + length xs) ys) → cond b (Some i) (position_from test (i + 1) xs) ≡ None → cond b (Some i) (position_from test (i + 1) (xs ++ ys)) ≡ position_from test (i + suc (length xs)) ys
    one true more e = cc
    one false more e = let at : i + 1 + length xs ≡ i + suc (length xs) = omega arith in more e ∙ ap (λ n. position_from test n ys) at

shifted : {X : Type 0} (test : X → Bool) (n i : ℕ) (xs : List X) → position_from test (n + i) xs ≡ option_map (λ k. n + k) (position_from test i xs)
shifted test n i [] = refl
shifted test n i (x ∷ xs) = let next : n + i + 1 ≡ n + (i + 1) = omega arith in one (test x) (ap (λ m. position_from test m xs) next ∙ shifted test n (i + 1) xs)
  where
    one : (b : Bool) → position_from test (n + i + 1) xs ≡ option_map (λ k. n + k) (position_from test (i + 1) xs)
        → cond b (Some (n + i)) (position_from test (n + i + 1) xs) ≡ option_map (λ k. n + k) (cond b (Some i) (position_from test (i + 1) xs))
    one true e = refl
    one false e = e

pub old_place : (over : Over) (cells : List CellBody) (name : List ℕ) (k : ℕ) → Fits cells over → Some k ≡ place_of name (cell_names cells) → Some k ≡ place_of name (cell_names (cells_laid over cells))
old_place over cells name k fits is =
    sym (ap (place_of name) (names_laid over cells fits) ∙ position_from-append (λ (other : List ℕ). is_name other name) 0 k (cell_names cells) (cell_names over.added) (sym is))

pub new_place : (over : Over) (cells : List CellBody) (name : List ℕ) (found : Option ℕ) → Fits cells over → None ≡ place_of name (cell_names cells) → found ≡ place_of name (cell_names over.added)
    → option_map (λ k. length cells + k) found ≡ place_of name (cell_names (cells_laid over cells))
new_place over cells name found fits none is =
    let long : 0 + length (cell_names cells) ≡ length cells + 0 = omega (arith, length-map cells (λ (c : CellBody). c.name.id)) in
    sym (ap (place_of name) (names_laid over cells fits)
    ∙ found_later (λ (other : List ℕ). is_name other name) 0 (cell_names cells) (cell_names over.added) (sym none)
    ∙ ap (λ n. position_from (λ (other : List ℕ). is_name other name) n (cell_names over.added)) long
    ∙ shifted (λ (other : List ℕ). is_name other name) (length cells) 0 (cell_names over.added)
    ∙ ap (option_map (λ k. length cells + k)) (sym is))

pub length_laid : (over : Over) (cells : List CellBody) → length (cells_laid over cells) ≡ length cells + length over.added
length_laid over cells = length-append (cells_changed over.changed 0 cells) over.added ∙ ap (λ n. n + length over.added) (length_changed over.changed 0 cells)

-- ---- names that are the same

joined : (test : List ℕ → Bool) (over : Over) (cells : List CellBody) → Fits cells over → list_any test (cell_names (cells_laid over cells)) ≡ (list_any test (cell_names cells) || list_any test (cell_names over.added))
joined test over cells fits = ap (list_any test) (names_laid over cells fits) ∙ list_any-append test (cell_names cells) (cell_names over.added)

pub any_old : (test : List ℕ → Bool) (over : Over) (cells : List CellBody) (old : Bool) (names : List (List ℕ)) → Fits cells over → names ≡ cell_names cells → old ≡ list_any test names → old ≡ true → old ≡ list_any test (cell_names (cells_laid over cells))
any_old test over cells old names fits same is was =
    was ∙ sym (joined test over cells fits ∙ ap (λ b. b || list_any test (cell_names over.added)) (sym (is ∙ ap (list_any test) same) ∙ was))

pub any_new : (test : List ℕ → Bool) (over : Over) (cells : List CellBody) (old new : Bool) (names added : List (List ℕ)) → Fits cells over → names ≡ cell_names cells → added ≡ cell_names over.added → old ≡ list_any test names → old ≡ false → new ≡ list_any test added
    → new ≡ list_any test (cell_names (cells_laid over cells))
any_new test over cells old new names added fits same like is off new_is =
    new_is ∙ ap (list_any test) like ∙ sym (joined test over cells fits ∙ ap (λ b. b || list_any test (cell_names over.added)) (sym (is ∙ ap (list_any test) same) ∙ off))
