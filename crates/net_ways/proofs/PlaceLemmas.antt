-- A cell's place among the libraries and the cells of its own.
use Rattle.std.proofs.Common.{◌≡◌, ◌<◌, ◌⊎◌, ◌++◌, ℕ, zero, suc, List, [], ◌∷◌, Some, length, refl, ap, inl, inr, slice_get}
use Rattle.std.proofs.lemmas.Bool.{cases_eq}
use Rattle.std.proofs.lemmas.Option.{none-some, slice_get_within}
use Rattle.netlist_schema.specs.Design.{Design, cell_at, cells_in}
use Rattle.netlist_schema.specs.Hierarchy.{IsCell}
use Rattle.netlist_schema.specs.Types.{CellId}
use Rattle.netlist_schema.proofs.Lists.{some_of}
use Rattle.netlist_order_spec.proofs.Places.{lib_of_cell}

-- what stands in a list stays, and one element more stands behind it
pub get_behind : {A : Type 0} (xs : List A) (x : A) → slice_get (xs ++ x ∷ []) (length xs) ≡ Some x
get_behind [] x = refl
get_behind (y ∷ xs) x = get_behind xs x

pub get_still : {A : Type 0} (xs : List A) (x y : A) (k : ℕ) → slice_get xs k ≡ Some y → slice_get (xs ++ x ∷ []) k ≡ Some y
get_still [] x y k e = absurd (none-some y e)
get_still (z ∷ xs) x y zero e = e
get_still (z ∷ xs) x y (suc k) e = get_still xs x y k e

-- a cell of the design has its place among the libraries and the cells of its own
pub cell_place : (d : Design) (c : CellId) → IsCell d c → (c.lib.0 < length d.libs) × (c.slot < length (cells_in d c.lib))
cell_place d c is =
    let body = some_of (cell_at d c) is in
    let lib = lib_of_cell d c body.0 body.1 in
    (slice_get_within d.libs c.lib.0 lib.0 lib.1, slice_get_within (cells_in d c.lib) c.slot body.0 body.1)

-- two places of cells are one, or not
pub same_id : (a b : CellId) → (a ≡ b) ⊎ (a ≡ b → ⊥)
same_id a b = elim (cases_eq a.lib.0 b.lib.0) [
  | inl lib ↦ elim (cases_eq a.slot b.slot) [
    | inl slot ↦ inl (λ i. record { lib = record { 0 = lib i }; slot = slot i })
    | inr other ↦ inr (λ e. other (ap (λ (v : CellId). v.slot) e))
  ]
  | inr other ↦ inr (λ e. other (ap (λ (v : CellId). v.lib.0) e))
]
