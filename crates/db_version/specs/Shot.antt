-- A version of a design, as its readers see it.
use Rattle.std.specs.Prelude.{ℕ}
use Rattle.netlist_schema.specs.Design.{Design}

-- the number of the version, and its design
pub record Shot : Type 0 where
  pub version : ℕ
  pub design : Design
