use Rattle.std.proofs.Common.{refl, inl, inr}
use Rattle.edif_spec.specs.Faults.{Among, those_of}
use Rattle.edif_spec.specs.Stands.{PropertiesFault}
use Rattle.edif_spec.specs.declared.keyword.Keyword.TheVariants.{Property}
use Rattle.edif_tree.specs.Handles.{all}
use Rattle.edif_parts.proofs.Answering.{hand_on}
use Rattle.edif_contents.specs.Nets.{HasParts, PartFault, WideEndFault}
use Rattle.edif_contents.proofs.nets.read_row.Goals as goal

pub returns-in_err-joined : goal.returns-in_err-joined
returns-in_err-joined c =
    let s = c.args.around.now in
    let n = c.args.named in
    let us = all c.args.nodes in
    let inner = all c.args.inner in
    hand_on (HasParts s n.name n.array us inner) (Among (WideEndFault s n.array) us) (PartFault s n.array us inner) c.from_residual.result c.in_err-joined.field-0.0 c.from_residual.ensures.1 (λ f h. inl h) c.in_err-joined.ensures

pub returns-in_err-properties : goal.returns-in_err-properties
returns-in_err-properties c =
    let s = c.args.around.now in
    let n = c.args.named in
    let us = all c.args.nodes in
    let inner = all c.args.inner in
    hand_on (HasParts s n.name n.array us inner) (PropertiesFault (those_of Property inner)) (PartFault s n.array us inner) c.from_residual-in_err-properties.result c.in_err-properties.field-0.0 c.from_residual-in_err-properties.ensures.1 (λ f h. inr h) c.in_err-properties.ensures

pub returns : goal.returns
returns c = record { name = refl; array = refl; ends = c.in_ok-joined.ensures; properties = c.in_ok-properties.ensures }
