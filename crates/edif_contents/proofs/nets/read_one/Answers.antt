use Rattle.std.proofs.Common.{None, refl, inl, inr}
use Rattle.edif_spec.specs.Faults.{Among, those_of}
use Rattle.edif_spec.specs.Nets.{single_form}
use Rattle.edif_spec.specs.Stands.{PropertiesFault}
use Rattle.edif_spec.specs.declared.keyword.Keyword.TheVariants.{Property}
use Rattle.edif_tree.specs.Handles.{all}
use Rattle.edif_parts.proofs.Answering.{hand_on}
use Rattle.edif_contents.specs.Nets.{HasParts, PartFault, WideEndFault}
use Rattle.edif_contents.proofs.NetLemmas.{bits_wide}
use Rattle.edif_contents.proofs.nets.read_one.Goals as goal

pub returns-in_err-ends : goal.returns-in_err-ends
returns-in_err-ends c =
    let s = c.args.around.now in
    let us = all c.args.nodes in
    let inner = all c.args.inner in
    hand_on (λ n. HasParts s c.args.name None us inner (single_form n)) (Among (WideEndFault s None) us) (PartFault s None us inner) c.from_residual.result c.in_err-ends.field-0.0 c.from_residual.ensures.1 (λ f h. inl h) c.in_err-ends.ensures

pub returns-in_err-properties : goal.returns-in_err-properties
returns-in_err-properties c =
    let s = c.args.around.now in
    let us = all c.args.nodes in
    let inner = all c.args.inner in
    hand_on (λ n. HasParts s c.args.name None us inner (single_form n)) (PropertiesFault (those_of Property inner)) (PartFault s None us inner) c.from_residual-in_err-properties.result c.in_err-properties.field-0.0 c.from_residual-in_err-properties.ensures.1 (λ f h. inr h) c.in_err-properties.ensures

pub returns : goal.returns
returns c = record {
  name = refl;
  array = refl;
  ends = bits_wide c.args.around.now (all c.args.nodes) c.in_ok-ends.ends c.in_ok-ends.ensures;
  properties = c.in_ok-properties.ensures;
}
