-- Elements at places of lists, and cells at ids.
use Rattle.std.proofs.Common.{◌≡◌, ◌∙◌, ℕ, suc, List, [], ◌∷◌, ◌++◌, length, refl, ap, Option, Some, None, slice_get}
use Rattle.std.specs.Prelude.{IsSomeAnd}
use Rattle.std.specs.Option.{option_map_or}
use Rattle.std.specs.List.{AllByRecursion}
pub use Rattle.netlist_order_spec.proofs.Places.{any_append}
use Rattle.netlist_order_spec.proofs.WholeOrder.{id_at}
use Rattle.edif_spec.specs.Design as design

pub get_after : {A : Type 0} (front : List A) (x : A) (rest : List A) → slice_get (front ++ x ∷ rest) (length front) ≡ Some x
get_after [] x rest = refl
get_after (y ∷ front) x rest = get_after front x rest

pub length_last : {A : Type 0} (xs : List A) (x : A) → length (xs ++ x ∷ []) ≡ suc (length xs)
length_last [] x = refl
length_last (y ∷ xs) x = ap suc (length_last xs x)

-- the library in which a cell stands
pub lib_of_cell : (libs : List design.Lib) (id : design.CellId) (c : design.CellBody) → design.cell_at libs id ≡ Some c → (l : design.Lib) × (slice_get libs id.lib.0 ≡ Some l) × (slice_get l.cells id.slot ≡ Some c)
lib_of_cell libs id c e = go (slice_get libs id.lib.0) refl e
  where
    go : (o : Option design.Lib) → slice_get libs id.lib.0 ≡ o → slice_get (option_map_or (λ (l : design.Lib). l.cells) o []) id.slot ≡ Some c → (l : design.Lib) × (slice_get libs id.lib.0 ≡ Some l) × (slice_get l.cells id.slot ≡ Some c)
    go None f h = absurd (cc h)
    go (Some l) f h = (l, f, h)

pub some_and : {A : Type 0} (o : Option A) (P : A → Type 0) → IsSomeAnd o P → (x : A) × (o ≡ Some x) × P x
some_and None P h = absurd h
some_and (Some x) P h = (x, refl, h)

pub all_append_parts : {A : Type 0} (P : A → Type 0) (xs ys : List A) → AllByRecursion P (xs ++ ys) → AllByRecursion P xs × AllByRecursion P ys
all_append_parts P [] ys h = (tt, h)
all_append_parts P (x ∷ xs) ys h = let t = all_append_parts P xs ys h.1 in ((h.0, t.0), t.1)

-- the cell at a place of a library
pub cell_found : (libs : List design.Lib) (own slot : ℕ) (l : design.Lib) (c : design.CellBody) → slice_get libs own ≡ Some l → slice_get l.cells slot ≡ Some c → design.cell_at libs (id_at own slot) ≡ Some c
cell_found libs own slot l c e f = ap (λ o. slice_get (option_map_or (λ (x : design.Lib). x.cells) o []) slot) e ∙ f
