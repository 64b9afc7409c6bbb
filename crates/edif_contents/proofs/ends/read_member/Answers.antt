use Rattle.std.proofs.Common.{◌≡◌, ◌<◌, ℤ, ℕ, pos, ◌∙◌, ap, sym, subst, arith}
use Rattle.std.specs.Int.{w64}
use Rattle.std.proofs.lemmas.Int.{to_z-of_z}
use Rattle.edif_spelling_spec.specs.Tree.{Integer', Word', bare}
use Rattle.edif_spec.specs.Design as design
use Rattle.edif_spec.specs.Means.{MeansBits}
use Rattle.edif_spec.specs.Stands.{BitFault, Dangles}
use Rattle.edif_spec.proofs.KnownForms.{only}
use Rattle.edif_tree.specs.Handles.{here}
use Rattle.edif_parts.proofs.Answering.{hand_on}
use Rattle.edif_contents.specs.Ends.{ports_for}
use Rattle.edif_contents.specs.declared.ends.Bits.{Bits}
use Rattle.edif_contents.proofs.EndLemmas.{index_fails, member_dangles, member_means, member_nodes}
use Rattle.edif_contents.proofs.ends.read_member.Goals as goal

pub at-requires : goal.at-requires
at-requires c = omega (arith, (member_nodes (here c.args.node) c.in_ok-parts.parts c.in_ok-parts.ensures).count)

pub reference_at-name-requires : goal.reference_at-name-requires
reference_at-name-requires c = only _ ((member_nodes (here c.args.node) c.in_ok-parts.parts c.in_ok-parts.ensures).a (here c.at.result) c.at.ensures).is

pub returns-in_err-port : goal.returns-in_err-port
returns-in_err-port c =
    let t = here c.args.node in
    let u = here c.at.result in
    let a = (member_nodes t c.in_ok-parts.parts c.in_ok-parts.ensures).a u c.at.ensures in
    let ports = ports_for c.args.around.now c.args.inst in
    let name = c.reference_at-name.result in
    let scope = design.port_ids ports in
    hand_on (λ (b : Bits). MeansBits ports (bare t) b.port b.first b.width) (Dangles scope (Word' name.place name.name.now)) (BitFault ports t) c.from_residual-in_err-port.result c.in_err-port.field-0.0 c.from_residual-in_err-port.ensures.1
    (λ f b. member_dangles ports t u name.name.now name.place f c.requires.keyword a.at c.reference_at-name.ensures b) (c.in_err-port.ensures scope name.name.now c.port_meant.ensures)

pub at-index-requires : goal.at-index-requires
at-index-requires c = omega (arith, (member_nodes (here c.args.node) c.in_ok-parts.parts c.in_ok-parts.ensures).count)

pub integer_at-requires : goal.integer_at-requires
integer_at-requires c = only _ ((member_nodes (here c.args.node) c.in_ok-parts.parts c.in_ok-parts.ensures).b (here c.at-index.result) c.at-index.ensures).is

pub returns-in-Some : goal.returns-in-Some
returns-in-Some c =
    let t = here c.args.node in
    let u = here c.at.result in
    let v = here c.at-index.result in
    let n = member_nodes t c.in_ok-parts.parts c.in_ok-parts.ensures in
    let ports = ports_for c.args.around.now c.args.inst in
    let name = c.reference_at-name.result in
    let width = c.port_width.result in
    let z = to_z-of_z w64 c.integer_at.result c.integer_at.ensures.typed in
    member_means ports t u v name.name.now name.place _ c.in_ok-port.port c.in-Some.first width c.integer_at.result (n.form u v c.at.ensures c.at-index.ensures) c.reference_at-name.ensures c.integer_at.ensures.value
    (c.in_ok-port.ensures (design.port_ids ports) name.name.now c.port_meant.ensures) c.port_width.ensures (subst (λ v. (v ≡ pos c.in-Some.first) × (c.in-Some.first < width)) z c.in-Some.ensures.some)

pub returns-in-None : goal.returns-in-None
returns-in-None c =
    let t = here c.args.node in
    let u = here c.at.result in
    let v = here c.at-index.result in
    let n = member_nodes t c.in_ok-parts.parts c.in_ok-parts.ensures in
    let ports = ports_for c.args.around.now c.args.inst in
    let name = c.reference_at-name.result in
    let width = c.port_width.result in
    let z = to_z-of_z w64 c.integer_at.result c.integer_at.ensures.typed in
    let Q : ℤ → Type 0 = λ v. (n : ℕ) → v ≡ pos n → n < width → ⊥ in
    rw c.fault_at.ensures (index_fails ports t u v name.name.now name.place c.place.result c.in_ok-port.port width c.integer_at.result c.requires.keyword (n.a u c.at.ensures).at (n.b v c.at-index.ensures).at c.reference_at-name.ensures
    (c.integer_at.ensures.value ∙ ap (λ q. Integer' q c.integer_at.result) (sym c.place.ensures)) (c.in_ok-port.ensures (design.port_ids ports) name.name.now c.port_meant.ensures) c.port_width.ensures (subst Q z c.in-None.ensures.none))
