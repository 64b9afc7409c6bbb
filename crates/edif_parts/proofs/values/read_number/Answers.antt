use Rattle.std.proofs.Common.{ℤ, sym, subst, arith}
use Rattle.std.specs.Int.{w64}
use Rattle.std.proofs.lemmas.Int.{to_z-of_z}
use Rattle.edif_spelling_spec.specs.Tree.{bare}
use Rattle.netlist_schema.specs.declared.property.Value.TheVariants as values
use Rattle.netlist_schema.specs.declared.property.Num.TheVariants as numbers
use Rattle.netlist_schema.specs.Typed.{IsTypedNum}
use Rattle.edif_spec.specs.Means.{MeansNumber, MeansValue}
use Rattle.edif_spec.specs.Stands.{InValue, NumberFault}
use Rattle.edif_spec.specs.Stands as stands
use Rattle.edif_tree.specs.Nodes.{place_of}
use Rattle.edif_tree.specs.Handles.{here}
use Rattle.edif_parts.proofs.Answering.{answers_more}
use Rattle.edif_parts.proofs.ValueForms.{number_node, is_integer, number_means, plain_number}
use Rattle.edif_parts.proofs.values.read_number.Goals as goal

pub at-number-requires : goal.at-number-requires
at-number-requires c = omega (arith, (number_node (here c.args.node) c.in_ok-parts.parts c.in_ok-parts.ensures).count)

pub integer_at-requires : goal.integer_at-requires
integer_at-requires c =
    let u = here c.at-number.result in
    is_integer (bare u) ((number_node (here c.args.node) c.in_ok-parts.parts c.in_ok-parts.ensures).a u c.at-number.ensures).is (sym c.if-is_form_of.ensures)

pub returns-then-is_form_of : goal.returns-then-is_form_of
returns-then-is_form_of c =
    let t = here c.args.node in
    let u = here c.at-number.result in
    let n = number_node t c.in_ok-parts.parts c.in_ok-parts.ensures in
    answers_more (λ x. MeansNumber (bare u) x × IsTypedNum x) (λ x. MeansValue (bare t) (values.Number x) × IsTypedNum x) (NumberFault u) (InValue t) c.read_scaled.result
    (λ x h. (number_means t u x (n.form u c.at-number.ensures) h.0, h.1))
    (λ f h. stands.number_scaled c.requires (u, (n.a u c.at-number.ensures).at, h))
    c.read_scaled.ensures

pub returns-else-is_form_of : goal.returns-else-is_form_of
returns-else-is_form_of c =
    let t = here c.args.node in
    let u = here c.at-number.result in
    let n = number_node t c.in_ok-parts.parts c.in_ok-parts.ensures in
    let f = c.integer_at.ensures.typed in
    let Q : ℤ → Type 0 = λ v. MeansValue (bare t) (values.Number (numbers.Int v)) × IsTypedNum (numbers.Int v) in
    subst Q (sym (to_z-of_z w64 c.integer_at.result f)) (number_means t u (numbers.Int c.integer_at.result) (n.form u c.at-number.ensures) (plain_number u (place_of u) c.integer_at.result c.integer_at.ensures.value), f)
