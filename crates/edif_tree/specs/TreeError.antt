-- What a tree error says.
use Rattle.std.specs.Prelude.{◌≡◌, Option}
use Rattle.edif_spelling_spec.specs.TreeFaults.{TreeFault, fault_at}
use Rattle.edif_tree.specs.declared.errors.TreeError.{TreeError}
use Rattle.edif_tree.specs.declared.errors.TreeError.TheVariants.{At, NoMemory}

-- a fault that is named is this one; want of memory says nothing
abbrev pub Names : TreeError → Option TreeFault → Type 0
Names (At kind place) found = found ≡ fault_at kind place
Names NoMemory found = Unit {0}
