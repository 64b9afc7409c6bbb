-- Single operations: all but those that give cells of their own and those that dissolve an instance.
use Rattle.edit_spec.specs.declared.ops.Op.{Op}
use Rattle.edit_spec.specs.declared.ops.Op.TheVariants.{Ungroup, UniquePath, Uniquify}

abbrev pub IsSingle : Op → Type 0
IsSingle Uniquify = ⊥
IsSingle (UniquePath path) = ⊥
IsSingle (Ungroup cell inst) = ⊥
IsSingle op = Unit {0}
