-- Libraries that are shared.
use Rattle.std.specs.Prelude.{ℕ, List}
use Rattle.std.specs.Arc.{arc_value}
use Rattle.std.specs.declared.sync.Arc.{Arc}
use Rattle.std.specs.declared.alloc.Global.{Global}
use Rattle.netlist_schema.specs.Types.{Lib}

-- the name of a shared library
abbrev pub shelf_name : Arc Lib Global → List ℕ
shelf_name shelf = (arc_value shelf).head.name.id
