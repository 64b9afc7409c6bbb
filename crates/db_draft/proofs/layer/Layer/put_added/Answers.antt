use Rattle.std.proofs.Common.{◌≡◌, ℕ, zero, suc, List, [], ◌∷◌, map, refl, ap, Global}
use Rattle.std.specs.Prelude.{slice_set}
use Rattle.std.specs.Arc.{arc_value}
use Rattle.std.specs.declared.sync.Arc.{Arc}
use Rattle.netlist_schema.specs.Types.{CellBody}
use Rattle.db_draft.proofs.layer.Layer.put_added.Goals as goal

map_set : (xs : List (Arc CellBody Global)) (k : ℕ) (x : Arc CellBody Global) → map arc_value (slice_set xs k x) ≡ slice_set (map arc_value xs) k (arc_value x)
map_set [] k x = refl
map_set (y ∷ xs) zero x = refl
map_set (y ∷ xs) (suc k) x = ap (λ rest. arc_value y ∷ rest) (map_set xs k x)

pub returns : goal.returns
returns c = record {
  changed = λ slot. refl;
  added_are = map_set c.args.self.now.cells.items c.args.place c.args.body;
  names_are = refl;
}
