use Rattle.std.proofs.Common.{◌≡◌, ℕ, ℤ, pos, sym, ap, ◌∙◌, subst, arith}
use Rattle.std.proofs.lemmas.Int.{to_z-of_z}
use Rattle.std.specs.Int.{w64}
use Rattle.edif_spelling_spec.specs.Tree.{Integer'}
use Rattle.netlist_schema.specs.Width.{IsWidth}
use Rattle.edif_spec.specs.Stands.{NameFault, BusNameFault}
use Rattle.edif_spec.specs.Stands as stands
use Rattle.edif_spec.proofs.KnownForms.{only}
use Rattle.edif_tree.specs.Nodes.{place_of}
use Rattle.edif_tree.specs.Handles.{here}
use Rattle.edif_parts.specs.Ports.{ReadBusName}
use Rattle.edif_parts.proofs.Answering.{hand_on}
use Rattle.edif_parts.proofs.PortForms.{array_nodes, array_means, size_fault}
use Rattle.edif_parts.proofs.ports.read_array.Goals as goal

pub at-size-requires : goal.at-size-requires
at-size-requires c = omega (arith, (array_nodes (here c.args.node) c.in_ok-parts.parts c.in_ok-parts.ensures).count)

pub at-requires : goal.at-requires
at-requires c = omega (arith, (array_nodes (here c.args.node) c.in_ok-parts.parts c.in_ok-parts.ensures).count)

pub read_name-requires : goal.read_name-requires
read_name-requires c = ((array_nodes (here c.args.node) c.in_ok-parts.parts c.in_ok-parts.ensures).a (here c.at.result) c.at.ensures).is

pub integer_at-requires : goal.integer_at-requires
integer_at-requires c = only _ ((array_nodes (here c.args.node) c.in_ok-parts.parts c.in_ok-parts.ensures).b (here c.at-size.result) c.at-size.ensures).is

pub returns-in_err-name : goal.returns-in_err-name
returns-in_err-name c =
    let t = here c.args.node in
    let u = here c.at.result in
    let n = array_nodes t c.in_ok-parts.parts c.in_ok-parts.ensures in
    hand_on (ReadBusName t) (NameFault u) (BusNameFault t) c.from_residual-in_err-name.result c.in_err-name.field-0.0 c.from_residual-in_err-name.ensures.1
    (λ f h. stands.array_name c.requires (u, (n.a u c.at.ensures).at, h))
    c.in_err-name.ensures

pub returns-in_default : goal.returns-in_default
returns-in_default c =
    let t = here c.args.node in
    let v = here c.at-size.result in
    let n = array_nodes t c.in_ok-parts.parts c.in_ok-parts.ensures in
    let z = to_z-of_z w64 c.integer_at.result c.integer_at.ensures.typed in
    let Q : ℤ → Type 0 = λ v. (w : ℕ) → v ≡ pos w → IsWidth w → ⊥ in
    rw c.fault_at.ensures (stands.array_size c.requires (size_fault t v c.place.result c.integer_at.result (n.b v c.at-size.ensures).at (c.integer_at.ensures.value ∙ ap (λ q. Integer' q c.integer_at.result) (sym c.place.ensures)) (subst Q z c.in_default.ensures.none)))

pub returns : goal.returns
returns c =
    let t = here c.args.node in
    let u = here c.at.result in
    let v = here c.at-size.result in
    let n = array_nodes t c.in_ok-parts.parts c.in_ok-parts.ensures in
    let z = to_z-of_z w64 c.integer_at.result c.integer_at.ensures.typed in
    let m = c.in_ok-name.ensures in
    array_means t u v c.in_ok-name.field-0.name (place_of v) c.integer_at.result c.in-Some.width c.in_ok-name.field-0.place c.requires (n.form u v c.at.ensures c.at-size.ensures) (n.a u c.at.ensures).at
    m.0 m.1 m.2 c.integer_at.ensures.value (sym z ∙ c.in-Some.ensures.some.0) c.in-Some.ensures.some.1
