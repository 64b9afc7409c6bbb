use Rattle.std.proofs.Common.{sym, ap, ◌∙◌, arith}
use Rattle.edif_spelling_spec.specs.Tree.{Word'}
use Rattle.edif_spec.proofs.KnownForms.{only}
use Rattle.edif_tree.specs.Nodes.{place_of}
use Rattle.edif_tree.specs.Handles.{here}
use Rattle.edif_parts.proofs.PortForms.{direction_node, direction_means, direction_fault}
use Rattle.edif_parts.proofs.ports.read_direction.Goals as goal

pub at-word-requires : goal.at-word-requires
at-word-requires c = omega (arith, (direction_node (here c.args.node) c.in_ok-parts.parts c.in_ok-parts.ensures).count)

pub word_at-requires : goal.word_at-requires
word_at-requires c = only _ ((direction_node (here c.args.node) c.in_ok-parts.parts c.in_ok-parts.ensures).a (here c.at-word.result) c.at-word.ensures).is

pub returns-in_default : goal.returns-in_default
returns-in_default c =
    let t = here c.args.node in
    let u = here c.at-word.result in
    let n = direction_node t c.in_ok-parts.parts c.in_ok-parts.ensures in
    rw c.bad_form.ensures (direction_fault t u c.place.result c.word_at.result.now (n.a u c.at-word.ensures).at (c.word_at.ensures ∙ ap (λ v. Word' v c.word_at.result.now) (sym c.place.ensures)) c.in_default.ensures.none)

pub returns : goal.returns
returns c =
    let t = here c.args.node in
    let u = here c.at-word.result in
    let n = direction_node t c.in_ok-parts.parts c.in_ok-parts.ensures in
    direction_means t u (place_of u) c.word_at.result.now c.in-Some.direction (n.form u c.at-word.ensures) c.word_at.ensures c.in-Some.ensures.some
