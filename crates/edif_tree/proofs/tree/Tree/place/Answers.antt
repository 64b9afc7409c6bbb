use Rattle.std.proofs.Common.{◌≡◌, ap, subst, length, Some, arith}
use Rattle.std.specs.Prelude.{option_map, slice_get}
use Rattle.edif_tree.specs.Nodes.{NodeRow, Table}
use Rattle.edif_tree.proofs.tree.Tree.place.Goals as goal

pub place-requires : goal.place-requires
place-requires c = (let same = ap (λ t. length t.rows) c.self.view_is in omega (arith, c.requires))

pub returns : goal.returns
returns c =
    let P : Table → Type 0 = λ v. option_map (λ (r : NodeRow). r.place) (slice_get v.rows c.args.id.0) ≡ Some c.place.result in
    subst P c.self.view_is c.place.ensures
