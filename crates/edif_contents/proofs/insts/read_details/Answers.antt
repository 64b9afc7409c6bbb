use Rattle.std.proofs.Common.{inl, inr}
use Rattle.edif_spec.specs.Faults.{Among, RowFault, those_of}
use Rattle.edif_spec.specs.Stands.{PropertiesFault}
use Rattle.edif_spec.specs.declared.keyword.Keyword.TheVariants.{Designator, Property}
use Rattle.edif_tree.specs.Handles.{all}
use Rattle.edif_parts.proofs.Answering.{hand_on}
use Rattle.edif_contents.specs.Inners.{DetailsFault}
use Rattle.edif_contents.proofs.insts.read_details.Goals as goal

pub returns-in_err-designator : goal.returns-in_err-designator
returns-in_err-designator c =
    let ts = all c.args.inner in
    hand_on _ (Among (RowFault Designator) (those_of Designator ts)) (DetailsFault ts) c.from_residual.result c.in_err-designator.field-0.0 c.from_residual.ensures.1 (λ f b. inl b) c.in_err-designator.ensures

pub returns-in_err-properties : goal.returns-in_err-properties
returns-in_err-properties c =
    let ts = all c.args.inner in
    hand_on _ (PropertiesFault (those_of Property ts)) (DetailsFault ts) c.from_residual-in_err-properties.result c.in_err-properties.field-0.0 c.from_residual-in_err-properties.ensures.1 (λ f b. inr b) c.in_err-properties.ensures

pub returns : goal.returns
returns c = record { designator = c.in_ok-designator.ensures; properties = c.in_ok-properties.ensures }
