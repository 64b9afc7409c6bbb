use Rattle.std.proofs.Common.{inl, inr}
use Rattle.edif_spec.specs.Faults.{those_of}
use Rattle.edif_spec.specs.Stands.{NameFault, PropertiesFault}
use Rattle.edif_spec.specs.declared.keyword.Keyword.TheVariants.{Property}
use Rattle.edif_tree.specs.Handles.{here, all}
use Rattle.edif_build.specs.Headings.{HeadingFault, ReadHeading}
use Rattle.edif_parts.proofs.Answering.{hand_on}
use Rattle.edif_build.proofs.headings.read_heading.Goals as goal

pub returns-in_err-name : goal.returns-in_err-name
returns-in_err-name c =
    let t = here c.args.node in
    let ts = all c.args.inner in
    hand_on (ReadHeading t ts) (NameFault t) (HeadingFault t ts) c.from_residual.result c.in_err-name.field-0.0 c.from_residual.ensures.1 (λ f b. inl b) c.in_err-name.ensures

pub returns-in_err-properties : goal.returns-in_err-properties
returns-in_err-properties c =
    let t = here c.args.node in
    let ts = all c.args.inner in
    hand_on (ReadHeading t ts) (PropertiesFault (those_of Property ts)) (HeadingFault t ts) c.from_residual-in_err-properties.result c.in_err-properties.field-0.0 c.from_residual-in_err-properties.ensures.1 (λ f b. inr b) c.in_err-properties.ensures

pub returns : goal.returns
returns c = record { name = c.in_ok-name.ensures; properties = c.in_ok-properties.ensures }
