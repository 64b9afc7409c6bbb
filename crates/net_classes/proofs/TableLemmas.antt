-- What is kept of cells, by library and place, and what is known of them at first.
use Rattle.std.proofs.Common.{◌≡◌, ◌≢◌, ◌<◌, ◌≤◌, ◌⊎◌, ℕ, zero, suc, List, [], ◌∷◌, ◌++◌, length, map, get_or, set, refl, sym, ap, subst, ◌∙◌, inl, inr, arith, Some, None, Option, slice_get}
use Rattle.std.specs.Prelude.{IfSome, IsSome, is_some, option_and_then}
use Rattle.std.specs.List.{All}
use Rattle.std.specs.Option.{option_map}
use Rattle.std.proofs.lemmas.Bool.{cases_eq, false≢true}
use Rattle.std.proofs.lemmas.Option.{slice_get-map, slice_get_past, slice_get_within, slice_get-get_or}
use Rattle.netlist_schema.specs.Design.{Design, cell_at, cells_in}
use Rattle.netlist_schema.specs.Types.{CellId}
use Rattle.netlist_schema.proofs.Lists.{some_of}
use Rattle.netlist_order_spec.proofs.Places.{lib_of_cell}
use Rattle.flat_spec.proofs.PathLemmas.{slice_get-is}
use Rattle.net_classes.specs.Facts.{CellFacts, Facts, entry, facts_at, no_facts}
use Rattle.net_classes.specs.Known.{AreKnown, AreSetAt}
use Rattle.net_classes.proofs.NestedLemmas.{nested_here, nested_other}

-- a row of so many cells of which nothing is known
abbrev pub IsBlankRow : {T : Type 0} → (T → CellFacts) → ℕ → List T → Type 0
IsBlankRow facts count row = (length row ≡ count) × All (λ t. facts t ≡ no_facts) row

module _ {R T : Type 0} (items : R → List T) (facts : T → CellFacts) where
  abbrev pub told : List R → Facts
  told rows = map (λ row. map facts (items row)) rows

  -- what is kept of a cell, through the table
  pub facts_through : (rows : List R) (c : CellId) → facts_at (told rows) c ≡ option_map facts (option_and_then (λ row. slice_get (items row) c.slot) (slice_get rows c.lib.0))
  facts_through rows c = ap (option_and_then (λ (row : List CellFacts). slice_get row c.slot)) (slice_get-map (λ row. map facts (items row)) rows c.lib.0) ∙ go (slice_get rows c.lib.0)
    where
      go : (o : Option R) → option_and_then (λ (row : List CellFacts). slice_get row c.slot) (option_map (λ row. map facts (items row)) o) ≡ option_map facts (option_and_then (λ row. slice_get (items row) c.slot) o)
      go None = refl
      go (Some row) = slice_get-map facts (items row) c.slot

  -- one row more
  pub rows_more : (xs : List R) (x : R) (counts : ℕ → ℕ) → ((k : ℕ) → IfSome (slice_get xs k) (λ row. IsBlankRow facts (counts k) (items row)))
      → IsBlankRow facts (counts (length xs)) (items x) → (k : ℕ) → IfSome (slice_get (xs ++ x ∷ []) k) (λ row. IsBlankRow facts (counts k) (items row))
  rows_more [] x counts f h zero = h
  rows_more [] x counts f h (suc k) = tt
  rows_more (y ∷ xs) x counts f h zero = f 0
  rows_more (y ∷ xs) x counts f h (suc k) = rows_more xs x (λ n. counts (suc n)) (λ n. f (suc n)) h k

  row_room : (o : Option R) (count slot : ℕ) → IfSome o (λ row. IsBlankRow facts count (items row)) → IsSome o → slot < count
      → IsSome (option_map facts (option_and_then (λ row. slice_get (items row) slot) o))
  row_room None count slot h is l = absurd (false≢true is)
  row_room (Some r) count slot h is l = mapped (slice_get (items r) slot) (slice_get-is (items r) slot (omega (arith, l, h.0)))
    where
      mapped : (o : Option T) → IsSome o → IsSome (option_map facts o)
      mapped None is = is
      mapped (Some t) is = refl

  row_none : (o : Option R) (count slot bit : ℕ) → IfSome o (λ row. IsBlankRow facts count (items row))
      → option_and_then (λ (f : CellFacts). entry f.least bit) (option_map facts (option_and_then (λ row. slice_get (items row) slot) o)) ≡ None
  row_none None count slot bit h = refl
  row_none (Some r) count slot bit h = at (slice_get (items r) slot) refl
    where
      at : (o : Option T) → slice_get (items r) slot ≡ o → option_and_then (λ (f : CellFacts). entry f.least bit) (option_map facts o) ≡ None
      at None is = refl
      at (Some t) is =
          let within = slice_get_within (items r) slot t is in
          let same : get_or (items r) slot t ≡ t = Some-t (sym (slice_get-get_or (items r) slot t within) ∙ is) in
          let none : facts t ≡ no_facts = sym (ap facts same) ∙ h.1 slot t within in
          ap (λ (f : CellFacts). entry f.least bit) none
        where
          Some-t : {a b : T} → Some a ≡ Some b → a ≡ b
          Some-t e = cc e

  pub known_none : (d : Design) (rows : List R) → length rows ≡ length d.libs
      → ((lib : ℕ) → IfSome (slice_get rows lib) (λ row. IsBlankRow facts (length (cells_in d (record { 0 = lib }))) (items row))) → AreKnown d [] (told rows)
  known_none d rows long each = record {
    room = λ c is.
        let body = some_of (cell_at d c) is in
        let lib = lib_of_cell d c body.0 body.1 in
        let low : c.lib.0 < length d.libs = slice_get_within d.libs c.lib.0 lib.0 lib.1 in
        let slot : c.slot < length (cells_in d c.lib) = slice_get_within (cells_in d c.lib) c.slot body.0 body.1 in
        subst (λ o. IsSome o) (sym (facts_through rows c))
        (row_room (slice_get rows c.lib.0) (length (cells_in d c.lib)) c.slot (each c.lib.0) (slice_get-is rows c.lib.0 (omega (arith, low, long))) slot);
    told = λ c has. absurd (omega (arith, has.1));
    others = λ c bit none.
        ap (option_and_then (λ (f : CellFacts). entry f.least bit)) (facts_through rows c)
        ∙ row_none (slice_get rows c.lib.0) (length (cells_in d c.lib)) c.slot bit (each c.lib.0);
  }

  module _ (rows : List R) (c : CellId) (t : T) where
    -- past the libraries nothing is set
    pub set_past : length rows ≤ c.lib.0 → AreSetAt (told rows) c (facts t) (told rows)
    set_past past = record {
      room = λ other is. is;
      here = λ is. absurd (false≢true (sym (ap is_some (facts_through rows c ∙ ap (λ o. option_map facts (option_and_then (λ row. slice_get (items row) c.slot) o)) (slice_get_past rows c.lib.0 past))) ∙ is));
      others = λ other apart. refl;
    }

    -- the facts of a cell are set in the row of its library
    pub set_row : (new : List R) (row changed : R) → c.lib.0 < length rows → row ≡ get_or rows c.lib.0 row → items changed ≡ set (items row) c.slot t → new ≡ set rows c.lib.0 changed
        → AreSetAt (told rows) c (facts t) (told new)
    set_row new row changed within is set_items set_rows =
        let at : slice_get rows c.lib.0 ≡ Some row = slice_get-get_or rows c.lib.0 row within ∙ ap Some (sym is) in
        let same : (other : CellId) → (other.lib.0 ≢ c.lib.0) ⊎ (other.slot ≢ c.slot) → facts_at (told new) other ≡ facts_at (told rows) other = λ other apart.
        facts_through new other ∙ ap (option_map facts) (nested_other items rows new c.lib.0 c.slot row changed t within at set_items set_rows other.lib.0 other.slot apart) ∙ sym (facts_through rows other) in
        let here : IsSome (facts_at (told rows) c) → facts_at (told new) c ≡ Some (facts t) = λ is.
        let inside : c.slot < length (items row) = in_row (items row) (subst (λ o. IsSome o) (facts_through rows c ∙ ap (λ o. option_map facts (option_and_then (λ row. slice_get (items row) c.slot) o)) at) is) in
        facts_through new c ∙ ap (option_map facts) (nested_here items rows new c.lib.0 c.slot row changed t within at set_items set_rows inside) in
        record {
          room = λ other is. elim (cases_eq other.lib.0 c.lib.0) [
            | inl lib ↦ elim (cases_eq other.slot c.slot) [
              | inl slot ↦
                  let one : other ≡ c = λ i. record { lib = record { 0 = lib i }; slot = slot i } in
                  subst (λ v. IsSome (facts_at (told new) v)) (sym one) (subst (λ o. IsSome o) (sym (here (subst (λ v. IsSome (facts_at (told rows) v)) one is))) refl)
              | inr slot ↦ subst (λ o. IsSome o) (sym (same other (inr slot))) is
            ]
            | inr lib ↦ subst (λ o. IsSome o) (sym (same other (inl lib))) is
          ];
          here = here;
          others = λ other apart. elim (cases_eq other.lib.0 c.lib.0) [
            | inl lib ↦ elim (cases_eq other.slot c.slot) [
              | inl slot ↦ absurd (apart (λ i. record { lib = record { 0 = lib i }; slot = slot i }))
              | inr slot ↦ same other (inr slot)
            ]
            | inr lib ↦ same other (inl lib)
          ];
        }
      where
        in_row : (xs : List T) → IsSome (option_map facts (slice_get xs c.slot)) → c.slot < length xs
        in_row xs is = go (slice_get xs c.slot) refl is
          where
            go : (o : Option T) → slice_get xs c.slot ≡ o → IsSome (option_map facts o) → c.slot < length xs
            go None e is = absurd (false≢true is)
            go (Some x) e is = slice_get_within xs c.slot x e
