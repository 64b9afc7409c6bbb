use Rattle.std.proofs.Common.{◌≡◌, ap, subst, length, Some, arith}
use Rattle.std.specs.Prelude.{option_map, slice_get}
use Rattle.edif_tree.specs.Nodes.{NodeRow, Table, seen}
use Rattle.edif_tree.proofs.tree.Tree.shape.Goals as goal

pub shape-requires : goal.shape-requires
shape-requires c = (let same = ap (λ t. length t.rows) c.self.view_is in omega (arith, c.requires))

pub returns : goal.returns
returns c =
    let P : Table → Type 0 = λ v. option_map (λ (r : NodeRow). r.shape) (slice_get v.rows c.args.id.0) ≡ Some (seen c.shape.result) in
    subst P c.self.view_is c.shape.ensures
