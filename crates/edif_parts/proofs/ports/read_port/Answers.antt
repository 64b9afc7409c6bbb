use Rattle.std.proofs.Common.{◌≡◌, sym, Some, subst, arith, length, List}
use Rattle.std.specs.Prelude.{◌∷◌, [], ◌≤◌, map}
use Rattle.edif_spelling_spec.specs.Tree.{Placed, bare}
use Rattle.netlist_schema.specs.Names.{HasDistinctKeys}
use Rattle.netlist_schema.specs.Types.{Port}
use Rattle.netlist_schema.specs.Typed.{IsTypedPort}
use Rattle.edif_spec.specs.Faults.{Among, RowFault, defined, followers, those_of}
use Rattle.edif_spec.specs.Means.{MeansDirection, MeansPort, MeansProperties, MeansText}
use Rattle.edif_spec.specs.Rows.{Perhaps, those}
use Rattle.edif_spec.specs.Stands.{DirectionFault, PortFault, BusNameFault, PropertiesFault}
use Rattle.edif_spec.specs.Stands as stands
use Rattle.edif_spec.specs.declared.keyword.Keyword.TheVariants as keywords
use Rattle.edif_spec.proofs.FaultsApart.{defined_bus, keyword_of, port_may}
use Rattle.edif_tree.specs.Handles.{here, all}
use Rattle.edif_parts.proofs.Answering.{hand_on}
use Rattle.edif_parts.proofs.PortForms.{port_node, one_direction, one_designator, port_means}
use Rattle.edif_parts.proofs.ports.read_port.Goals as goal

pub at-requires : goal.at-requires
at-requires c = omega (arith, (port_node (here c.args.node) c.in_ok-parts.parts c.in_ok-parts.ensures).count)

pub read_bus_name-requires : goal.read_bus_name-requires
read_bus_name-requires c = ((port_node (here c.args.node) c.in_ok-parts.parts c.in_ok-parts.ensures).a (here c.at.result) c.at.ensures).is

pub read_direction_among-requires : goal.read_direction_among-requires
read_direction_among-requires c =
    let P : List Placed → Type 0 = λ v. length (those_of keywords.Direction v) ≤ 1 in
    subst P (sym c.in_ok-parts.ensures.inner) (one_direction (here c.args.node) c.in_ok-parts.parts c.in_ok-parts.ensures)

pub read_text_among-requires-clause-few : goal.read_text_among-requires-clause-few
read_text_among-requires-clause-few c =
    let P : List Placed → Type 0 = λ v. length (those_of keywords.Designator v) ≤ 1 in
    subst P (sym c.in_ok-parts.ensures.inner) (one_designator (here c.args.node) c.in_ok-parts.parts c.in_ok-parts.ensures)

pub returns-in_err-named : goal.returns-in_err-named
returns-in_err-named c =
    let t = here c.args.node in
    let u = here c.at.result in
    let n = port_node t c.in_ok-parts.parts c.in_ok-parts.ensures in
    hand_on (λ x. MeansPort (bare t) x.port × (IsTypedPort x.port × HasDistinctKeys x.port.properties) × (defined t ≡ Some (x.port.name.id, x.place))) (BusNameFault u) (PortFault t) c.from_residual-in_err-named.result c.in_err-named.field-0.0 c.from_residual-in_err-named.ensures.1 (λ f h. stands.port_name (u, (n.a u c.at.ensures).at, h)) c.in_err-named.ensures

pub returns-in_err-direction : goal.returns-in_err-direction
returns-in_err-direction c =
    let t = here c.args.node in
    hand_on (λ x. MeansPort (bare t) x.port × (IsTypedPort x.port × HasDistinctKeys x.port.properties) × (defined t ≡ Some (x.port.name.id, x.place))) (Among DirectionFault (those_of keywords.Direction (all c.in_ok-parts.parts.inner))) (PortFault t) c.from_residual-in_err-direction.result c.in_err-direction.field-0.0 c.from_residual-in_err-direction.ensures.1
    (λ f h. stands.port_direction (let P : List Placed → Type 0 = λ v. Among DirectionFault (those_of keywords.Direction v) f in subst P c.in_ok-parts.ensures.inner h))
    c.in_err-direction.ensures

pub returns-in_err-designator : goal.returns-in_err-designator
returns-in_err-designator c =
    let t = here c.args.node in
    hand_on (λ x. MeansPort (bare t) x.port × (IsTypedPort x.port × HasDistinctKeys x.port.properties) × (defined t ≡ Some (x.port.name.id, x.place))) (Among (RowFault keywords.Designator) (those_of keywords.Designator (all c.in_ok-parts.parts.inner))) (PortFault t) c.from_residual-in_err-designator.result c.in_err-designator.field-0.0 c.from_residual-in_err-designator.ensures.1
    (λ f h. stands.port_designator (let P : List Placed → Type 0 = λ v. Among (RowFault keywords.Designator) (those_of keywords.Designator v) f in subst P c.in_ok-parts.ensures.inner h))
    c.in_err-designator.ensures

pub returns-in_err-properties : goal.returns-in_err-properties
returns-in_err-properties c =
    let t = here c.args.node in
    hand_on (λ x. MeansPort (bare t) x.port × (IsTypedPort x.port × HasDistinctKeys x.port.properties) × (defined t ≡ Some (x.port.name.id, x.place))) (PropertiesFault (those_of keywords.Property (all c.in_ok-parts.parts.inner))) (PortFault t) c.from_residual-in_err-properties.result c.in_err-properties.field-0.0 c.from_residual-in_err-properties.ensures.1
    (λ f h. stands.port_properties (let P : List Placed → Type 0 = λ v. PropertiesFault (those_of keywords.Property v) f in subst P c.in_ok-parts.ensures.inner h))
    c.in_err-properties.ensures

pub returns : goal.returns
returns c =
    let t = here c.args.node in
    let u = here c.at.result in
    let n = port_node t c.in_ok-parts.parts c.in_ok-parts.ensures in
    let inner = c.in_ok-parts.ensures.inner in
    let m = c.in_ok-named.ensures in
    let D : List Placed → Type 0 = λ v. Perhaps MeansDirection (those keywords.Direction (map bare v)) c.in_ok-direction.direction in
    let G : List Placed → Type 0 = λ v. Perhaps (MeansText keywords.Designator) (those keywords.Designator (map bare v)) c.in_ok-designator.designator in
    let Q : List Placed → Type 0 = λ v. MeansProperties (map bare v) c.in_ok-properties.properties in
    let g = c.in_ok-designator.ensures in
    let ps = c.in_ok-properties.ensures in
    let x : Port = record { name = c.in_ok-named.named.name; array = c.in_ok-named.named.array; direction = c.in_ok-direction.direction; designator = c.in_ok-designator.designator; properties = c.in_ok-properties.properties } in
    (port_means t u x (n.form u c.at.ensures) m.means (subst D inner c.in_ok-direction.ensures) (subst G inner g.0) (subst Q inner ps.0), (record { name = m.typed; array = m.width; designator = g.1; properties = ps.1 }, ps.2), defined_bus t u _ (port_may t (keyword_of keywords.Port (bare t) (bare u ∷ []) (map bare (followers keywords.Port t)) (n.form u c.at.ensures))) (n.a u c.at.ensures).at m.at)
