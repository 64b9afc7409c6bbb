-- A design that has some objects of another one.
use Rattle.std.specs.Prelude.{◌≡◌, map}
use Rattle.netlist_schema.specs.Design.{Design}
use Rattle.netlist_schema.specs.Types.{Object}
use Rattle.edit_rules_spec.specs.Objects.{AgreesOn}

-- title, heads of libraries and top are the same
pub record HasSameHeads (d e : Design) : Type 0 where
  pub title : d.title ≡ e.title
  pub libs : map (λ lib. lib.head) d.libs ≡ map (λ lib. lib.head) e.libs
  pub top : d.top ≡ e.top

-- the result has these objects of the one design, and all others of the base
pub record IsOverlaid (base over : Design) (Objects : Object → Type 0) (result : Design) : Type 0 where
  pub heads : HasSameHeads base result
  pub laid : AgreesOn over result Objects
  pub others : AgreesOn base result (λ o. ¬ Objects o)
