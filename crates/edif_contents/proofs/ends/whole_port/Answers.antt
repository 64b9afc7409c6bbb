use Rattle.edif_spelling_spec.specs.Tree.{Word', bare}
use Rattle.edif_spec.specs.Design as design
use Rattle.edif_spec.specs.Means.{MeansBits}
use Rattle.edif_spec.specs.Stands.{BitFault, Dangles}
use Rattle.edif_contents.specs.Ends.{ports_for}
use Rattle.edif_contents.specs.declared.ends.Bits.{Bits}
use Rattle.edif_contents.proofs.EndLemmas.{whole_means, word_dangles}
use Rattle.edif_parts.proofs.Answering.{hand_on}
use Rattle.edif_contents.proofs.ends.whole_port.Goals as goal

pub returns-in_err-port : goal.returns-in_err-port
returns-in_err-port c = λ t e.
    let ports = ports_for c.args.around.now c.args.inst in
    let name = c.args.name.name.now in
    let scope = design.port_ids ports in
    hand_on (λ (b : Bits). MeansBits ports (bare t) b.port b.first b.width) (Dangles scope (Word' c.args.name.place name)) (BitFault ports t) c.from_residual.result c.in_err-port.field-0.0 c.from_residual.ensures.1
    (λ f b. word_dangles ports t name c.args.name.place f e b) (c.in_err-port.ensures scope name c.port_meant.ensures)

pub returns : goal.returns
returns c = λ t e.
    let ports = ports_for c.args.around.now c.args.inst in
    let name = c.args.name.name.now in
    whole_means ports t name c.args.name.place c.in_ok-port.port c.port_width-width.result e (c.in_ok-port.ensures (design.port_ids ports) name c.port_meant.ensures) c.port_width-width.ensures
