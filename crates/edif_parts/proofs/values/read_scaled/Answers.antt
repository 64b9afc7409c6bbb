use Rattle.std.proofs.Common.{ℤ, sym, ap, ◌∙◌, subst, to_z, of_z, arith}
use Rattle.std.specs.Prelude.{FitsSigned}
use Rattle.std.specs.Int.{w32, w64}
use Rattle.std.proofs.lemmas.Int.{to_z-of_z}
use Rattle.edif_spelling_spec.specs.Tree.{Integer', bare}
use Rattle.netlist_schema.specs.declared.property.Num.TheVariants as numbers
use Rattle.edif_spec.specs.Means.{MeansNumber}
use Rattle.edif_spec.proofs.KnownForms.{only}
use Rattle.edif_tree.specs.Nodes.{place_of}
use Rattle.edif_tree.specs.Handles.{here}
use Rattle.edif_parts.proofs.ValueForms.{scaled_nodes, scaled_means, exponent_fault}
use Rattle.edif_parts.proofs.values.read_scaled.Goals as goal

pub at-power-requires : goal.at-power-requires
at-power-requires c = omega (arith, (scaled_nodes (here c.args.node) c.in_ok-parts.parts c.in_ok-parts.ensures).count)

pub at-requires : goal.at-requires
at-requires c = omega (arith, (scaled_nodes (here c.args.node) c.in_ok-parts.parts c.in_ok-parts.ensures).count)

pub integer_at-mantissa-requires : goal.integer_at-mantissa-requires
integer_at-mantissa-requires c = only _ ((scaled_nodes (here c.args.node) c.in_ok-parts.parts c.in_ok-parts.ensures).a (here c.at.result) c.at.ensures).is

pub integer_at-requires : goal.integer_at-requires
integer_at-requires c = only _ ((scaled_nodes (here c.args.node) c.in_ok-parts.parts c.in_ok-parts.ensures).b (here c.at-power.result) c.at-power.ensures).is

pub returns-in_default : goal.returns-in_default
returns-in_default c =
    let t = here c.args.node in
    let v = here c.at-power.result in
    let n = scaled_nodes t c.in_ok-parts.parts c.in_ok-parts.ensures in
    let f = c.integer_at.ensures.typed in
    let z = to_z-of_z w64 c.integer_at.result f in
    let Q : ℤ → Type 0 = λ v. FitsSigned w32 v → ⊥ in
    rw c.bad_form.ensures (exponent_fault t v c.place.result c.integer_at.result c.requires (n.b v c.at-power.ensures).at
    (c.integer_at.ensures.value ∙ ap (λ q. Integer' q c.integer_at.result) (sym c.place.ensures))
    (subst Q z c.in_default.ensures))

pub returns : goal.returns
returns c =
    let t = here c.args.node in
    let u = here c.at.result in
    let v = here c.at-power.result in
    let n = scaled_nodes t c.in_ok-parts.parts c.in_ok-parts.ensures in
    let f = c.integer_at-mantissa.ensures.typed in
    let g = c.integer_at.ensures.typed in
    let z = sym (to_z-of_z w64 c.integer_at-mantissa.result f) in
    let e = c.in-Ok.ensures.1 ∙ to_z-of_z w64 c.integer_at.result g in
    let R : ℤ → Type 0 = FitsSigned w32 in
    let h : FitsSigned w32 c.integer_at.result = subst R (to_z-of_z w64 c.integer_at.result g) c.in-Ok.ensures.0 in
    let k : FitsSigned w32 c.in-Ok.exponent = subst R (sym e) h in
    let x = sym e ∙ sym (to_z-of_z w32 c.in-Ok.exponent k) in
    let Q : ℤ → ℤ → Type 0 = λ m v. MeansNumber (bare t) (numbers.Scaled m v) × (FitsSigned w64 m × FitsSigned w32 v) in
    subst (λ m. Q m (to_z w32 (of_z w32 c.in-Ok.exponent))) z (subst (λ v. Q c.integer_at-mantissa.result v) x
    (scaled_means t u v (place_of u) (place_of v) c.integer_at-mantissa.result c.integer_at.result (n.form u v c.at.ensures c.at-power.ensures) c.integer_at-mantissa.ensures.value c.integer_at.ensures.value h, (f, h)))
