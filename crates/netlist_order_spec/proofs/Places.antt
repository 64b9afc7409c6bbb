-- Elements at places of lists, and cells at ids.
use Rattle.std.proofs.Common.{◌≡◌, ℕ, zero, suc, List, [], ◌∷◌, ◌++◌, refl, Bool, true, false, Option, Some, None, slice_get}
use Rattle.std.specs.Prelude.{◌||◌}
use Rattle.std.specs.Option.{option_map_or}
use Rattle.std.specs.List.{list_any}
use Rattle.netlist_schema.specs.Design.{Design, cell_at}
use Rattle.netlist_schema.specs.Types.{CellBody, CellId, Lib}

abbrev pub range : ℕ → ℕ → List ℕ
range k zero = []
range k (suc n) = k ∷ range (suc k) n

pub any_append : (p : ℕ → Bool) (a b : List ℕ) → list_any p (a ++ b) ≡ (list_any p a || list_any p b)
any_append p [] b = refl
any_append p (x ∷ a) b = go (p x) (any_append p a b)
  where
    go : (t : Bool) → list_any p (a ++ b) ≡ (list_any p a || list_any p b) → (t || list_any p (a ++ b)) ≡ ((t || list_any p a) || list_any p b)
    go true e = refl
    go false e = e

-- the library in which a cell stands
pub lib_of_cell : (d : Design) (id : CellId) (c : CellBody) → cell_at d id ≡ Some c → (l : Lib) × (slice_get d.libs id.lib.0 ≡ Some l) × (slice_get l.cells id.slot ≡ Some c)
lib_of_cell d id c e = go (slice_get d.libs id.lib.0) refl e
  where
    go : (o : Option Lib) → slice_get d.libs id.lib.0 ≡ o → slice_get (option_map_or (λ (l : Lib). l.cells) o []) id.slot ≡ Some c → (l : Lib) × (slice_get d.libs id.lib.0 ≡ Some l) × (slice_get l.cells id.slot ≡ Some c)
    go None f h = absurd (cc h)
    go (Some l) f h = (l, f, h)
