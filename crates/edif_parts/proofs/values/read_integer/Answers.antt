use Rattle.std.proofs.Common.{ℤ, sym, subst, arith}
use Rattle.std.specs.Prelude.{FitsSigned}
use Rattle.std.specs.Int.{w64}
use Rattle.std.proofs.lemmas.Int.{to_z-of_z}
use Rattle.edif_spelling_spec.specs.Tree.{bare}
use Rattle.netlist_schema.specs.declared.property.Value.TheVariants as values
use Rattle.edif_spec.specs.Means.{MeansValue}
use Rattle.edif_spec.proofs.KnownForms.{only}
use Rattle.edif_tree.specs.Nodes.{place_of}
use Rattle.edif_tree.specs.Handles.{here}
use Rattle.edif_parts.proofs.ValueForms.{integer_node, integer_means}
use Rattle.edif_parts.proofs.values.read_integer.Goals as goal

pub at-requires : goal.at-requires
at-requires c = omega (arith, (integer_node (here c.args.node) c.in_ok-parts.parts c.in_ok-parts.ensures).count)

pub integer_at-requires : goal.integer_at-requires
integer_at-requires c = only _ ((integer_node (here c.args.node) c.in_ok-parts.parts c.in_ok-parts.ensures).a (here c.at.result) c.at.ensures).is

pub returns : goal.returns
returns c =
    let t = here c.args.node in
    let u = here c.at.result in
    let n = integer_node t c.in_ok-parts.parts c.in_ok-parts.ensures in
    let f = c.integer_at.ensures.typed in
    let Q : ℤ → Type 0 = λ v. MeansValue (bare t) (values.Integer v) × FitsSigned w64 v in
    subst Q (sym (to_z-of_z w64 c.integer_at.result f)) (integer_means t u (place_of u) c.integer_at.result (n.form u c.at.ensures) c.integer_at.ensures.value, f)
