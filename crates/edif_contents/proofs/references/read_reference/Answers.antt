use Rattle.std.proofs.Common.{arith}
use Rattle.edif_spec.proofs.KnownForms.{only}
use Rattle.edif_tree.specs.Handles.{here}
use Rattle.edif_contents.proofs.RefLemmas.{reference_node, reference_means}
use Rattle.edif_contents.proofs.references.read_reference.Goals as goal

pub at-requires : goal.at-requires
at-requires c = omega (arith, (reference_node c.args.keyword (here c.args.node) c.in_ok-parts.parts c.requires.is_a_ref c.in_ok-parts.ensures).count)

pub reference_at-requires : goal.reference_at-requires
reference_at-requires c = only _ ((reference_node c.args.keyword (here c.args.node) c.in_ok-parts.parts c.requires.is_a_ref c.in_ok-parts.ensures).a (here c.at.result) c.at.ensures).is

pub returns : goal.returns
returns c =
    let t = here c.args.node in
    let u = here c.at.result in
    let n = reference_node c.args.keyword t c.in_ok-parts.parts c.requires.is_a_ref c.in_ok-parts.ensures in
    reference_means c.args.keyword t u c.reference_at.result.name.now c.reference_at.result.place c.requires.is_a_ref (n.a u c.at.ensures).at (n.form u c.at.ensures) c.reference_at.ensures
