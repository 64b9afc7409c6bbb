-- What is kept of cells, by library and place.
use Rattle.std.proofs.Common.{◌≡◌, ◌≢◌, ◌<◌, ◌≤◌, ◌⊎◌, ℕ, zero, suc, List, [], ◌∷◌, ◌++◌, length, map, get_or, set, refl, sym, ap, subst, ◌∙◌, inl, inr, arith, Some, None, Option, slice_get}
use Rattle.std.specs.Prelude.{IfSome, IsSome, is_some, option_and_then}
use Rattle.std.specs.Option.{option_map}
use Rattle.std.proofs.lemmas.Bool.{cases_eq, false≢true}
use Rattle.std.proofs.lemmas.Option.{slice_get-get_or, slice_get-map, slice_get_past, slice_get_within}
use Rattle.netlist_schema.specs.Design.{Design, cells_in}
use Rattle.netlist_schema.specs.Hierarchy.{IsCell}
use Rattle.netlist_schema.specs.Types.{CellId}
use Rattle.flat_spec.proofs.PathLemmas.{slice_get-is}
use Rattle.net_classes.specs.declared.joints.Joint.{Joint}
use Rattle.net_ways.proofs.PlaceLemmas.{cell_place}
use Rattle.net_rows.specs.Rows.{AreSetAt, Table, lists_at}

pub set_here : {A : Type 0} (xs : List A) (i : ℕ) (x : A) → i < length xs → slice_get (set xs i x) i ≡ Some x
set_here [] i x l = absurd (omega (arith, l))
set_here (y ∷ xs) zero x l = refl
set_here (y ∷ xs) (suc i) x l = set_here xs i x (omega (arith, l))

pub set_other : {A : Type 0} (xs : List A) (i j : ℕ) (x : A) → j ≢ i → slice_get (set xs i x) j ≡ slice_get xs j
set_other [] i j x n = refl
set_other (y ∷ xs) zero zero x n = absurd (n refl)
set_other (y ∷ xs) zero (suc j) x n = refl
set_other (y ∷ xs) (suc i) zero x n = refl
set_other (y ∷ xs) (suc i) (suc j) x n = set_other xs i j x (λ e. n (ap suc e))

-- what holds of each row by its place, one row more
pub each_push : {R : Type 0} (P : ℕ → R → Type 0) (rows : List R) (row : R) → ((k : ℕ) → IfSome (slice_get rows k) (P k)) → P (length rows) row
    → (k : ℕ) → IfSome (slice_get (rows ++ row ∷ []) k) (P k)
each_push P [] row each here zero = here
each_push P [] row each here (suc k) = tt
each_push P (r ∷ rows) row each here zero = each 0
each_push P (r ∷ rows) row each here (suc k) = each_push (λ n. P (suc n)) rows row (λ n. each (suc n)) here k

module _ {R T : Type 0} (items : R → List T) (lists : T → List (List Joint)) where
  abbrev pub table : List R → Table
  table rows = map (λ row. map lists (items row)) rows

  abbrev at : List R → CellId → Option T
  at rows c = option_and_then (λ row. slice_get (items row) c.slot) (slice_get rows c.lib.0)

  through : (rows : List R) (c : CellId) → lists_at (table rows) c ≡ option_map lists (at rows c)
  through rows c = ap (option_and_then (λ (row : List (List (List Joint))). slice_get row c.slot)) (slice_get-map (λ row. map lists (items row)) rows c.lib.0) ∙ go (slice_get rows c.lib.0)
    where
      go : (o : Option R) → option_and_then (λ (row : List (List (List Joint))). slice_get row c.slot) (option_map (λ row. map lists (items row)) o) ≡ option_map lists (option_and_then (λ row. slice_get (items row) c.slot) o)
      go None = refl
      go (Some row) = slice_get-map lists (items row) c.slot

  mapped : (o : Option T) → IsSome o → IsSome (option_map lists o)
  mapped None is = is
  mapped (Some t) is = refl

  unmapped : (o : Option T) → IsSome (option_map lists o) → IsSome o
  unmapped None is = is
  unmapped (Some t) is = refl

  -- there is room for each cell of the design where the rows are as long as its libraries
  pub has_room : (d : Design) (rows : List R) → length rows ≡ length d.libs
      → ((lib : ℕ) → IfSome (slice_get rows lib) (λ row. length (items row) ≡ length (cells_in d (record { 0 = lib })))) → (c : CellId) → IsCell d c → IsSome (lists_at (table rows) c)
  has_room d rows long each c is =
      let place = cell_place d c is in
      let there = slice_get-is rows c.lib.0 (omega (arith, place.0, long)) in
      subst (λ o. IsSome o) (sym (through rows c)) (mapped (at rows c) (go (slice_get rows c.lib.0) there (each c.lib.0) place.1))
    where
      go : (o : Option R) → IsSome o → IfSome o (λ row. length (items row) ≡ length (cells_in d c.lib)) → c.slot < length (cells_in d c.lib) → IsSome (option_and_then (λ row. slice_get (items row) c.slot) o)
      go None is long less = absurd (false≢true is)
      go (Some row) is long less = slice_get-is (items row) c.slot (omega (arith, long, less))

  module _ (rows : List R) (c : CellId) (t : T) where
    -- past the libraries nothing is set
    pub table_past : length rows ≤ c.lib.0 → AreSetAt (table rows) c (lists t) (table rows)
    table_past past = record {
      room = λ other is. is;
      here = λ is. absurd (false≢true (sym (ap is_some (through rows c ∙ ap (λ o. option_map lists (option_and_then (λ row. slice_get (items row) c.slot) o)) (slice_get_past rows c.lib.0 past))) ∙ is));
      others = λ other apart. refl;
    }

    -- what is kept of a cell is set in the row of its library
    pub table_set : (new : List R) (row changed : R) → c.lib.0 < length rows → row ≡ get_or rows c.lib.0 row → items changed ≡ set (items row) c.slot t → new ≡ set rows c.lib.0 changed
        → AreSetAt (table rows) c (lists t) (table new)
    table_set new row changed within is set_items set_rows =
        let there : slice_get rows c.lib.0 ≡ Some row = slice_get-get_or rows c.lib.0 row within ∙ ap Some (sym is) in
        let here_row : slice_get new c.lib.0 ≡ Some changed = ap (λ v. slice_get v c.lib.0) set_rows ∙ set_here rows c.lib.0 changed within in
        let same : (other : CellId) → (other.lib.0 ≢ c.lib.0) ⊎ (other.slot ≢ c.slot) → lists_at (table new) other ≡ lists_at (table rows) other = λ other apart.
        through new other ∙ ap (option_map lists) (elsewhere new row changed there here_row set_items set_rows other apart) ∙ sym (through rows other) in
        let here : IsSome (lists_at (table rows) c) → lists_at (table new) c ≡ Some (lists t) = λ is.
        let inside : c.slot < length (items row) = in_row (items row) (subst (λ o. IsSome o) (through rows c ∙ ap (λ o. option_map lists (option_and_then (λ row. slice_get (items row) c.slot) o)) there) is) in
        through new c
        ∙ ap (λ o. option_map lists (option_and_then (λ row. slice_get (items row) c.slot) o)) here_row
        ∙ ap (λ v. option_map lists (slice_get v c.slot)) set_items
        ∙ ap (option_map lists) (set_here (items row) c.slot t inside) in
        record {
          room = λ other is. elim (cases_eq other.lib.0 c.lib.0) [
            | inl lib ↦ elim (cases_eq other.slot c.slot) [
              | inl slot ↦
                  let one : other ≡ c = λ i. record { lib = record { 0 = lib i }; slot = slot i } in
                  subst (λ v. IsSome (lists_at (table new) v)) (sym one) (subst (λ o. IsSome o) (sym (here (subst (λ v. IsSome (lists_at (table rows) v)) one is))) refl)
              | inr slot ↦ subst (λ o. IsSome o) (sym (same other (inr slot))) is
            ]
            | inr lib ↦ subst (λ o. IsSome o) (sym (same other (inl lib))) is
          ];
          here = here;
          others = λ other apart. elim (cases_eq other.lib.0 c.lib.0) [
            | inl lib ↦ elim (cases_eq other.slot c.slot) [
              | inl slot ↦ absurd (apart (λ i. record { lib = record { 0 = lib i }; slot = slot i }))
              | inr slot ↦ same other (inr slot)
            ]
            | inr lib ↦ same other (inl lib)
          ];
        }
      where
        in_row : (xs : List T) → IsSome (option_map lists (slice_get xs c.slot)) → c.slot < length xs
        in_row xs is = go (slice_get xs c.slot) refl is
          where
            go : (o : Option T) → slice_get xs c.slot ≡ o → IsSome (option_map lists o) → c.slot < length xs
            go None e is = absurd (false≢true is)
            go (Some x) e is = slice_get_within xs c.slot x e

        elsewhere : (new : List R) (row changed : R) → slice_get rows c.lib.0 ≡ Some row → slice_get new c.lib.0 ≡ Some changed → items changed ≡ set (items row) c.slot t → new ≡ set rows c.lib.0 changed
            → (other : CellId) → (other.lib.0 ≢ c.lib.0) ⊎ (other.slot ≢ c.slot) → at new other ≡ at rows other
        elsewhere new row changed there here_row set_items set_rows other apart = elim (cases_eq other.lib.0 c.lib.0) [
          | inl same ↦ elim apart [
            | inl lib ↦ absurd (lib same)
            | inr slot ↦
                ap (option_and_then (λ row. slice_get (items row) other.slot)) (ap (slice_get new) same ∙ here_row)
                ∙ ap (λ v. slice_get v other.slot) set_items
                ∙ set_other (items row) c.slot other.slot t slot
                ∙ sym (ap (option_and_then (λ row. slice_get (items row) other.slot)) (ap (slice_get rows) same ∙ there))
          ]
          | inr lib ↦ ap (option_and_then (λ row. slice_get (items row) other.slot)) (ap (λ v. slice_get v other.lib.0) set_rows ∙ set_other rows c.lib.0 other.lib.0 changed lib)
        ]
