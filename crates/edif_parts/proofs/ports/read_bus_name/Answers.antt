use Rattle.std.proofs.Common.{sym}
use Rattle.edif_spelling_spec.specs.Tree.{bare}
use Rattle.edif_spec.specs.Stands.{NameFault, BusNameFault}
use Rattle.edif_spec.specs.Stands as stands
use Rattle.edif_tree.specs.Handles.{here}
use Rattle.edif_parts.specs.Ports.{ReadBusName}
use Rattle.edif_parts.proofs.Answering.{hand_on}
use Rattle.edif_parts.proofs.PortForms.{plain_choice, plain_means}
use Rattle.edif_parts.proofs.ports.read_bus_name.Goals as goal

pub read_name-requires : goal.read_name-requires
read_name-requires c = plain_choice (bare (here c.args.node)) c.requires (sym c.if-is_form_of.ensures)

pub returns-in_err-name : goal.returns-in_err-name
returns-in_err-name c =
    let t = here c.args.node in
    hand_on (ReadBusName t) (NameFault t) (BusNameFault t) c.from_residual.result c.in_err-name.field-0.0 c.from_residual.ensures.1 (λ f h. stands.scalar_name h) c.in_err-name.ensures

pub returns : goal.returns
returns c =
    let m = c.in_ok-name.ensures in
    plain_means (here c.args.node) c.in_ok-name.field-0.name c.in_ok-name.field-0.place m.0 m.1 m.2
