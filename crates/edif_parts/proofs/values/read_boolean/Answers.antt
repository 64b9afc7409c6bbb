use Rattle.std.proofs.Common.{sym, true, false, arith}
use Rattle.edif_spelling_spec.specs.Tree.{bare}
use Rattle.netlist_schema.specs.declared.property.Value.TheVariants as values
use Rattle.edif_spec.specs.Faults.{RowFault}
use Rattle.edif_spec.specs.Means.{MeansValue}
use Rattle.edif_spec.specs.Stands.{InValue}
use Rattle.edif_spec.specs.Stands as stands
use Rattle.edif_spec.specs.declared.keyword.Keyword.TheVariants as keywords
use Rattle.edif_tree.specs.Handles.{here}
use Rattle.edif_parts.proofs.Answering.{hand_on}
use Rattle.edif_parts.proofs.ValueForms.{boolean_node, boolean_means, is_false, true_means, false_means}
use Rattle.edif_parts.proofs.values.read_boolean.Goals as goal

pub at-truth-requires : goal.at-truth-requires
at-truth-requires c = omega (arith, (boolean_node (here c.args.node) c.in_ok-parts.parts c.in_ok-parts.ensures).count)

pub read_parts-requires-else-is_form_of : goal.read_parts-requires-else-is_form_of
read_parts-requires-else-is_form_of c =
    let u = here c.at-truth.result in
    is_false (bare u) ((boolean_node (here c.args.node) c.in_ok-parts.parts c.in_ok-parts.ensures).a u c.at-truth.ensures).is (sym c.if-is_form_of.ensures)

pub returns-in_err-read_parts : goal.returns-in_err-read_parts
returns-in_err-read_parts c =
    let t = here c.args.node in
    let u = here c.at-truth.result in
    let n = boolean_node t c.in_ok-parts.parts c.in_ok-parts.ensures in
    hand_on (λ b. MeansValue (bare t) (values.Boolean b)) (RowFault keywords.True u) (InValue t) c.from_residual-in_err-read_parts.result c.in_err-read_parts.field-0.0 c.from_residual-in_err-read_parts.ensures.1
    (λ f h. stands.boolean_truth c.requires (u, (n.a u c.at-truth.ensures).at, stands.true_row (sym c.if-is_form_of.ensures) h))
    c.in_err-read_parts.ensures

pub returns-in_err-read_parts-2 : goal.returns-in_err-read_parts-2
returns-in_err-read_parts-2 c =
    let t = here c.args.node in
    let u = here c.at-truth.result in
    let n = boolean_node t c.in_ok-parts.parts c.in_ok-parts.ensures in
    let a = n.a u c.at-truth.ensures in
    hand_on (λ b. MeansValue (bare t) (values.Boolean b)) (RowFault keywords.False u) (InValue t) c.from_residual-in_err-read_parts-2.result c.in_err-read_parts-2.field-0.0 c.from_residual-in_err-read_parts-2.ensures.1
    (λ f h. stands.boolean_truth c.requires (u, a.at, stands.false_row (is_false (bare u) a.is (sym c.if-is_form_of.ensures)) h))
    c.in_err-read_parts-2.ensures

pub returns-in_ok-read_parts : goal.returns-in_ok-read_parts
returns-in_ok-read_parts c =
    let t = here c.args.node in
    let u = here c.at-truth.result in
    boolean_means t u true ((boolean_node t c.in_ok-parts.parts c.in_ok-parts.ensures).form u c.at-truth.ensures) (true_means u _ c.in_ok-read_parts.ensures)

pub returns-in_ok-read_parts-2 : goal.returns-in_ok-read_parts-2
returns-in_ok-read_parts-2 c =
    let t = here c.args.node in
    let u = here c.at-truth.result in
    boolean_means t u false ((boolean_node t c.in_ok-parts.parts c.in_ok-parts.ensures).form u c.at-truth.ensures) (false_means u _ c.in_ok-read_parts-2.ensures)
