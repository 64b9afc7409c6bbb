use Rattle.std.proofs.Common.{ℕ, List, subst}
use Rattle.edif_spec.specs.Means.{meant}
use Rattle.edif_parts.specs.Names.{Tells, ids}
use Rattle.edif_parts.proofs.NameTables.{tells}
use Rattle.edif_parts.proofs.name_table.NameTable.meant.Goals as goal

pub returns : goal.returns
returns c =
    let P : List (List ℕ × ℕ) → Type 0 = λ v. Tells (meant (ids v) c.args.name.now) c.meant.result in
    subst P c.self.view_is (tells c.self.inside.scope c.args.name.now c.meant.result c.self.invariant.0 c.meant.ensures)
