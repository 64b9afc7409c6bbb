use Rattle.std.proofs.Common.{sym}
use Rattle.edif_spelling_spec.specs.Tree.{bare}
use Rattle.netlist_schema.specs.Typed.{IsTypedValue}
use Rattle.edif_spec.specs.Faults.{RowFault}
use Rattle.edif_spec.specs.Means.{MeansValue}
use Rattle.edif_spec.specs.Stands.{InValue}
use Rattle.edif_spec.specs.Stands as stands
use Rattle.edif_spec.specs.declared.keyword.Keyword.TheVariants as keywords
use Rattle.edif_tree.specs.Handles.{here}
use Rattle.edif_parts.proofs.Answering.{hand_on}
use Rattle.edif_parts.proofs.ValueForms.{is_string}
use Rattle.edif_parts.proofs.values.read_value.Goals as goal

pub returns-in_err-truth : goal.returns-in_err-truth
returns-in_err-truth c =
    let t = here c.args.node in
    hand_on (λ v. MeansValue (bare t) v × IsTypedValue v) (InValue t) (InValue t) c.from_residual.result c.in_err-truth.field-0.0 c.from_residual.ensures.1 (λ f h. h) c.in_err-truth.ensures

pub returns-in_err-value : goal.returns-in_err-value
returns-in_err-value c =
    let t = here c.args.node in
    hand_on (λ v. MeansValue (bare t) v × IsTypedValue v) (InValue t) (InValue t) c.from_residual-in_err-value.result c.in_err-value.field-0.0 c.from_residual-in_err-value.ensures.1 (λ f h. h) c.in_err-value.ensures

pub returns-in_err-number : goal.returns-in_err-number
returns-in_err-number c =
    let t = here c.args.node in
    hand_on (λ v. MeansValue (bare t) v × IsTypedValue v) (InValue t) (InValue t) c.from_residual-in_err-number.result c.in_err-number.field-0.0 c.from_residual-in_err-number.ensures.1 (λ f h. h) c.in_err-number.ensures

pub read_text-requires-clause-keyword : goal.read_text-requires-clause-keyword
read_text-requires-clause-keyword c = is_string (bare (here c.args.node)) c.requires (sym (c.if-is_form_of.ensures)) (sym (c.if-is_form_of-2.ensures)) (sym (c.if-is_form_of-3.ensures))

pub returns-in_err-text : goal.returns-in_err-text
returns-in_err-text c =
    let t = here c.args.node in
    let k = is_string (bare t) c.requires (sym (c.if-is_form_of.ensures)) (sym (c.if-is_form_of-2.ensures)) (sym (c.if-is_form_of-3.ensures)) in
    hand_on (λ v. MeansValue (bare t) v × IsTypedValue v) (RowFault keywords.String t) (InValue t) c.from_residual-in_err-text.result c.in_err-text.field-0.0 c.from_residual-in_err-text.ensures.1 (λ f h. stands.string_row k h) c.in_err-text.ensures
