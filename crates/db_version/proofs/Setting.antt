-- Tables and names of libraries with other bodies for some of their cells, and with more cells.
use Rattle.std.proofs.Common.{◌≡◌, ℕ, zero, suc, arith, ◌+◌, ◌<◌, List, [], ◌∷◌, ◌++◌, map, length, take, Some, refl, sym, ap, subst, ◌∙◌, slice_get, append_assoc, append-nil, cond, Global}
use Rattle.std.specs.Prelude.{slice_set, nat_eq}
use Rattle.std.specs.Cmp.Lexicographic.{pointwise}
use Rattle.std.specs.Ordering.{nat_cmp}
use Rattle.std.specs.FinMap.{FinMap, values}
use Rattle.std.specs.Arc.{arc_value}
use Rattle.std.specs.declared.sync.Arc.{Arc}
use Rattle.indexmap.specs.IndexSet.{insert_key}
use Rattle.std.specs.List.{list_any}
use Rattle.std.proofs.lemmas.List.{length-map, length-take, take-map, map-append}
use Rattle.std.proofs.lemmas.Option.{slice_get_within}
use Rattle.netlist_schema.specs.Names.{AreDistinct, cell_names}
use Rattle.netlist_schema.specs.Types.{CellBody}
use Rattle.netlist_schema.proofs.Lists.{get_behind, get_mapped, take_next}
use Rattle.ver_table.specs.Entries.{pairs_of}
use Rattle.ver_table.specs.Rows.{Lists, numbered, set_all}
use Rattle.ver_table.specs.declared.entries.Entry.{Entry}
use Rattle.ver_table.proofs.Listed.{Lists-set, Lists-push, values-Lists, numbered-push}
use Rattle.db_version.specs.Changes.{cells_set, KeepNames}
use Rattle.db_version.proofs.Places.{is_new}

set_here : {X : Type 0} (xs : List X) (i : ℕ) (x : X) → slice_get xs i ≡ Some x → slice_set xs i x ≡ xs
set_here [] i x is = refl
set_here (y ∷ xs) zero x is = let same : y ≡ x = cc in ap (λ z. z ∷ xs) (sym same)
set_here (y ∷ xs) (suc i) x is = ap (λ rest. y ∷ rest) (set_here xs i x is)

names_of_set : (cells : List CellBody) (i : ℕ) (body : CellBody) → cell_names (slice_set cells i body) ≡ slice_set (cell_names cells) i body.name.id
names_of_set [] i body = refl
names_of_set (c ∷ cells) zero body = refl
names_of_set (c ∷ cells) (suc i) body = ap (λ rest. c.name.id ∷ rest) (names_of_set cells i body)

pub one_name_kept : (cells : List CellBody) (i : ℕ) (body : CellBody) → slice_get (cell_names cells) i ≡ Some body.name.id → cell_names (slice_set cells i body) ≡ cell_names cells
one_name_kept cells i body is = names_of_set cells i body ∙ set_here (cell_names cells) i body.name.id is

pub names_kept : (changes : List (ℕ × CellBody)) (cells : List CellBody) → KeepNames (cell_names cells) changes → cell_names (cells_set cells changes) ≡ cell_names cells
names_kept [] cells keep = refl
names_kept (change ∷ changes) cells keep =
    let one = one_name_kept cells change.0 change.1 keep.0 in
    names_kept changes (slice_set cells change.0 change.1) (subst (λ (ns : List (List ℕ)). KeepNames ns changes) (sym one) keep.1) ∙ one

pub lists_all : (changes : List (ℕ × CellBody)) (table : FinMap nat_cmp CellBody) (cells : List CellBody) → KeepNames (cell_names cells) changes → Lists table cells → Lists (set_all table changes) (cells_set cells changes)
lists_all [] table cells keep lists = lists
lists_all (change ∷ changes) table cells keep lists =
    let one = one_name_kept cells change.0 change.1 keep.0 in
    let named = slice_get_within (cell_names cells) change.0 change.1.name.id keep.0 in
    let within : change.0 < length cells = omega (arith, length-map cells (λ (c : CellBody). c.name.id)) in
    lists_all changes _ (slice_set cells change.0 change.1) (subst (λ (ns : List (List ℕ)). KeepNames ns changes) (sym one) keep.1) (Lists-set table cells change.0 change.1 within lists)

pub lists_more : (more : List CellBody) (table : FinMap nat_cmp CellBody) (cells : List CellBody) (from : ℕ) → from ≡ length cells → Lists table cells → Lists (set_all table (numbered from more)) (cells ++ more)
lists_more [] table cells from is lists = subst (λ (cs : List CellBody). Lists table cs) (sym (append-nil cells)) lists
lists_more (body ∷ more) table cells from is lists =
    let one : Lists (set_all table ((from, body) ∷ [])) (cells ++ body ∷ []) = subst (λ (n : ℕ). Lists (set_all table ((n, body) ∷ [])) (cells ++ body ∷ [])) (sym is) (Lists-push table cells body lists) in
    let next : suc from ≡ length (cells ++ body ∷ []) = omega (arith, long cells) in
    subst (λ (cs : List CellBody). Lists (set_all table (numbered from (body ∷ more))) cs) (append_assoc cells (body ∷ []) more)
    (lists_more more _ (cells ++ body ∷ []) (suc from) next one)
  where
    long : (xs : List CellBody) → length (xs ++ body ∷ []) ≡ suc (length xs)
    long [] = refl
    long (x ∷ xs) = ap suc (long xs)

-- one more name of a set
pub name_next : (names : List (List ℕ)) (i : ℕ) (name id : List ℕ) (keys new : List (List ℕ)) → AreDistinct names → slice_get names i ≡ Some name → id ≡ name
    → keys ≡ take i names → new ≡ insert_key (pointwise nat_eq) keys id → new ≡ take (i + 1) names
name_next names i name id keys new distinct found same before is =
    let none = ap (list_any (pointwise nat_eq id)) before ∙ ap (λ n. list_any (pointwise nat_eq n) (take i names)) same ∙ is_new names i name distinct found in
    let more : suc i ≡ i + 1 = omega arith in
    is ∙ ap (λ b. cond b keys (keys ++ id ∷ [])) none ∙ ap (λ ks. ks ++ id ∷ []) before ∙ ap (λ n. take i names ++ n ∷ []) same
    ∙ sym (take_next names i name found) ∙ ap (λ n. take n names) more

-- ---- what a table with changes stands for

pub record IsMade (made : FinMap nat_cmp CellBody) (cells : List CellBody) : Type 0 where
  pub values_are : values made ≡ cells
  pub listed : Lists made (values made)

is_made : (made table : FinMap nat_cmp CellBody) (cells : List CellBody) → made ≡ table → Lists table cells → IsMade made cells
is_made made table cells is lists =
    let here : Lists made cells = subst (λ (t : FinMap nat_cmp CellBody). Lists t cells) (sym is) lists in
    let same = values-Lists made cells here in
    record { values_are = same; listed = subst (λ (cs : List CellBody). Lists made cs) (sym same) here }

pub made_changed : (table made : FinMap nat_cmp CellBody) (changes : List (ℕ × CellBody)) → Lists table (values table) → KeepNames (cell_names (values table)) changes → made ≡ set_all table changes → IsMade made (cells_set (values table) changes)
made_changed table made changes lists keep is = is_made made (set_all table changes) (cells_set (values table) changes) is (lists_all changes table (values table) keep lists)

pub made_more : (table made : FinMap nat_cmp CellBody) (from : ℕ) (more : List CellBody) (pairs : List (ℕ × CellBody)) → Lists table (values table) → from ≡ length (values table) → pairs ≡ numbered from more → made ≡ set_all table pairs → IsMade made (values table ++ more)
made_more table made from more pairs lists at numbers is =
    is_made made (set_all table (numbered from more)) (values table ++ more) (is ∙ ap (set_all table) numbers) (lists_more more table (values table) from at lists)

-- ---- lists that are gone through

pub map_twice : {X Y Z : Type 0} (f : X → Y) (g : Y → Z) (xs : List X) → map g (map f xs) ≡ map (λ x. g (f x)) xs
map_twice f g [] = refl
map_twice f g (x ∷ xs) = ap (λ rest. g (f x) ∷ rest) (map_twice f g xs)

take_right : {X : Type 0} (old xs : List X) (k : ℕ) → take (length old + k) (old ++ xs) ≡ old ++ take k xs
take_right [] xs k = let none : 0 + k ≡ k = omega arith in ap (λ n. take n xs) none
take_right (x ∷ old) xs k = let one : suc (length old) + k ≡ suc (length old + k) = omega arith in ap (λ n. take n ((x ∷ old) ++ xs)) one ∙ ap (λ rest. x ∷ rest) (take_right old xs k)

-- one more of the names behind others
pub more_known : (old list : List (List ℕ)) (k : ℕ) (name id : List ℕ) (keys new : List (List ℕ)) → AreDistinct (old ++ list) → slice_get list k ≡ Some name → id ≡ name
    → keys ≡ old ++ take k list → new ≡ insert_key (pointwise nat_eq) keys id → new ≡ old ++ take (k + 1) list
more_known old list k name id keys new distinct found same before is =
    let next : length old + k + 1 ≡ length old + (k + 1) = omega arith in
    name_next (old ++ list) (length old + k) name id keys new distinct (get_behind old list k ∙ found) same (before ∙ sym (take_right old list k)) is
    ∙ ap (λ n. take n (old ++ list)) next ∙ take_right old list (k + 1)

abbrev Shared : Type 0
Shared = Arc CellBody Global

abbrev id_of : Shared → List ℕ
id_of cell = (arc_value cell).name.id

names_of : (cells : List Shared) → cell_names (map arc_value cells) ≡ map id_of cells
names_of cells = map_twice arc_value (λ (body : CellBody). body.name.id) cells

pub more_name : (old : List (List ℕ)) (cells : List Shared) (k : ℕ) (cell : Shared) (id : List ℕ) (keys new : List (List ℕ)) → AreDistinct (old ++ cell_names (map arc_value cells)) → slice_get cells k ≡ Some cell → id ≡ (arc_value cell).name.id
    → keys ≡ old ++ cell_names (map arc_value (take k cells)) → new ≡ insert_key (pointwise nat_eq) keys id → new ≡ old ++ cell_names (map arc_value (take (k + 1) cells))
more_name old cells k cell id keys new distinct found same before is =
    let names = old ++ map id_of cells in
    let apart : AreDistinct names = subst (λ (ns : List (List ℕ)). AreDistinct (old ++ ns)) (names_of cells) distinct in
    let part : (n : ℕ) → take (length old + n) names ≡ old ++ cell_names (map arc_value (take n cells)) =
    λ n. take_right old (map id_of cells) n ∙ ap (λ ns. old ++ ns) (take-map id_of n cells ∙ sym (names_of (take n cells))) in
    let next : length old + k + 1 ≡ length old + (k + 1) = omega arith in
    name_next names (length old + k) (id_of cell) id keys new apart (get_behind old (map id_of cells) k ∙ get_mapped id_of cells k cell found) same (before ∙ sym (part k)) is
    ∙ ap (λ n. take n names) next ∙ part (k + 1)

pub more_pair : (first : ℕ) (bodies : List Shared) (k : ℕ) (body : Shared) (entries new : List (Entry CellBody)) (entry : Entry CellBody) → slice_get bodies k ≡ Some body → pairs_of entries ≡ numbered first (map arc_value (take k bodies))
    → entry.slot ≡ first + k → arc_value entry.item ≡ arc_value body → new ≡ entries ++ entry ∷ [] → pairs_of new ≡ numbered first (map arc_value (take (k + 1) bodies))
more_pair first bodies k body entries new entry found before slot item is =
    let within = slice_get_within bodies k body found in
    let count : first + length (map arc_value (take k bodies)) ≡ first + k = omega (arith, length-map (take k bodies) (λ (b : Shared). arc_value b), length-take k bodies) in
    let next : suc k ≡ k + 1 = omega arith in
    let pair : (entry.slot, arc_value entry.item) ≡ (first + length (map arc_value (take k bodies)), arc_value body) = λ i. ((slot ∙ sym count) i, item i) in
    ap pairs_of is ∙ map-append (λ (e : Entry CellBody). (e.slot, arc_value e.item)) entries (entry ∷ [])
    ∙ ap (λ ps. ps ++ (entry.slot, arc_value entry.item) ∷ []) before
    ∙ ap (λ p. numbered first (map arc_value (take k bodies)) ++ p ∷ []) pair
    ∙ sym (numbered-push first (map arc_value (take k bodies)) (arc_value body))
    ∙ ap (numbered first) (sym (map-append (λ (b : Shared). arc_value b) (take k bodies) (body ∷ [])) ∙ ap (map arc_value) (sym (take_next bodies k body found) ∙ ap (λ n. take n bodies) next))
