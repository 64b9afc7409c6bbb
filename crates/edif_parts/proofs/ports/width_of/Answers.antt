use Rattle.std.proofs.Common.{ℤ, sym, ◌∙◌, subst}
use Rattle.std.proofs.lemmas.Int.{to_z-of_z}
use Rattle.std.specs.Int.{w64, FitsUnsignedBits}
use Rattle.edif_parts.proofs.PortForms.{too_wide, fitting, width_none, width_some}
use Rattle.edif_parts.proofs.ports.width_of.Goals as goal

pub returns-in_default-clause-none : goal.returns-in_default-clause-none
returns-in_default-clause-none c =
    λ n e w.
    let Q : ℤ → Type 0 = λ v. FitsUnsignedBits 32 v → ⊥ in
    too_wide c.args.bits n (subst Q (to_z-of_z w64 c.args.bits c.ranges.bits) c.in_default.ensures) e w

pub returns-clause-none : goal.returns-clause-none
returns-clause-none c =
    let z = to_z-of_z w64 c.args.bits c.ranges.bits in
    let e = sym z ∙ fitting _ c.in-Ok.bits c.in-Ok.ensures.0 c.in-Ok.ensures.1 in
    width_none c.of.result c.in-Ok.bits c.args.bits c.of.ensures.some.1 e

pub returns-clause-some : goal.returns-clause-some
returns-clause-some c =
    let z = to_z-of_z w64 c.args.bits c.ranges.bits in
    let e = sym z ∙ fitting _ c.in-Ok.bits c.in-Ok.ensures.0 c.in-Ok.ensures.1 in
    width_some c.of.result c.in-Ok.bits c.args.bits c.of.ensures.some.0 c.of.ensures.value e
