use Rattle.std.proofs.Common.{List, map, sym, ap, ◌∙◌, subst, inl, inr}
use Rattle.edif_spelling_spec.specs.Tree.{bare}
use Rattle.edif_spec.specs.Design as design
use Rattle.edif_spec.specs.Faults.{Among, followers, those_of}
use Rattle.edif_spec.specs.Means.{MeansPort}
use Rattle.edif_spec.specs.Rows.{Each, those}
use Rattle.edif_spec.specs.Stands.{ContentsFault, InterfaceFault}
use Rattle.edif_spec.specs.declared.keyword.Keyword.TheVariants as keywords
use Rattle.edif_tree.specs.Handles.{here, all}
use Rattle.edif_build.specs.Cells.{ReadOnce, ReadViewBody, ViewBodyFault}
use Rattle.edif_contents.specs.Insides.{ReadContents}
use Rattle.edif_parts.proofs.Answering.{hand_on}
use Rattle.edif_build.proofs.cells.read_view_body.Goals as goal

pub returns-in_err-interface : goal.returns-in_err-interface
returns-in_err-interface c =
    let t = here c.args.node in
    let libs = c.args.libs.now.libs in
    hand_on (ReadViewBody libs c.args.own t (all c.args.inner)) (InterfaceFault t) (ViewBodyFault libs c.args.own t (all c.args.inner)) c.from_residual.result c.in_err-interface.field-0.0 c.from_residual.ensures.1 (λ f b. inl b) c.in_err-interface.ensures

pub read_contents_among-requires-clause-names : goal.read_contents_among-requires-clause-names
read_contents_among-requires-clause-names c = c.in_ok-interface.ensures.names ∙ ap design.port_ids (sym c.as_slice-ports.ensures)

pub returns-in_err-inside : goal.returns-in_err-inside
returns-in_err-inside c =
    let t = here c.args.node in
    let libs = c.args.libs.now.libs in
    let ports = c.as_slice-ports.result.now in
    let P : List design.Port → Type 0 = λ v. Each MeansPort (those keywords.Port (map bare (followers keywords.Interface t))) v in
    hand_on (ReadViewBody libs c.args.own t (all c.args.inner)) (Among (ContentsFault libs c.args.own ports) (those_of keywords.Contents (all c.args.inner))) (ViewBodyFault libs c.args.own t (all c.args.inner))
    c.from_residual-in_err-inside.result c.in_err-inside.field-0.0 c.from_residual-in_err-inside.ensures.1
    (λ f b. inr (ports, subst P (sym c.as_slice-ports.ensures) c.in_ok-interface.ensures.ports, b)) c.in_err-inside.ensures

pub returns : goal.returns
returns c =
    let P : List design.Port → Type 0 = λ v. ReadOnce (ReadContents c.args.libs.now.libs c.args.own v) (those_of keywords.Contents (all c.args.inner)) c.in_ok-inside.inside in
    record { interface = c.in_ok-interface.ensures; inside = subst P c.as_slice-ports.ensures c.in_ok-inside.ensures }
