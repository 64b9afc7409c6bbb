use Rattle.std.proofs.Common.{◌≡◌, ap, sym, Some, subst, arith, length, List}
use Rattle.std.specs.Prelude.{◌≤◌, map}
use Rattle.edif_spelling_spec.specs.Tree.{Placed, bare}
use Rattle.netlist_schema.specs.Types.{Property}
use Rattle.netlist_schema.specs.Typed.{IsTypedProperty}
use Rattle.edif_spec.specs.Faults.{Among, RowFault, defined, those_of}
use Rattle.edif_spec.specs.Means.{MeansProperty, MeansText}
use Rattle.edif_spec.specs.Rows.{Perhaps, those}
use Rattle.edif_spec.specs.Stands.{InValue, NameFault, PropertyFault}
use Rattle.edif_spec.specs.Stands as stands
use Rattle.edif_spec.specs.declared.keyword.Keyword.TheVariants as keywords
use Rattle.edif_spec.proofs.FaultsApart.{defined_first}
use Rattle.edif_tree.specs.Handles.{here, all}
use Rattle.edif_parts.proofs.Answering.{hand_on}
use Rattle.edif_parts.proofs.PropertyForms.{property_nodes, one_owner, property_means}
use Rattle.edif_parts.proofs.properties.read_property.Goals as goal

pub at-requires : goal.at-requires
at-requires c = omega (arith, (property_nodes (here c.args.node) c.in_ok-parts.parts c.in_ok-parts.ensures).count)

pub at-requires-2 : goal.at-requires-2
at-requires-2 c = omega (arith, (property_nodes (here c.args.node) c.in_ok-parts.parts c.in_ok-parts.ensures).count)

pub read_name-requires : goal.read_name-requires
read_name-requires c = ((property_nodes (here c.args.node) c.in_ok-parts.parts c.in_ok-parts.ensures).a (here c.at.result) c.at.ensures).is

pub read_value-requires : goal.read_value-requires
read_value-requires c = ((property_nodes (here c.args.node) c.in_ok-parts.parts c.in_ok-parts.ensures).b (here c.at-2.result) c.at-2.ensures).is

pub read_text_among-requires-clause-few : goal.read_text_among-requires-clause-few
read_text_among-requires-clause-few c =
    let P : List Placed → Type 0 = λ v. length (those_of keywords.Owner v) ≤ 1 in
    subst P (sym c.in_ok-parts.ensures.inner) (one_owner (here c.args.node) c.in_ok-parts.parts c.in_ok-parts.ensures)

pub returns-in_err-key : goal.returns-in_err-key
returns-in_err-key c =
    let t = here c.args.node in
    let u = here c.at.result in
    let n = property_nodes t c.in_ok-parts.parts c.in_ok-parts.ensures in
    hand_on (λ x. MeansProperty (bare t) x.property × IsTypedProperty x.property × (defined t ≡ Some (x.property.key.id, x.place))) (NameFault u) (PropertyFault t) c.from_residual-in_err-key.result c.in_err-key.field-0.0 c.from_residual-in_err-key.ensures.1 (λ f h. stands.property_key (u, (n.a u c.at.ensures).at, h)) c.in_err-key.ensures

pub returns-in_err-value : goal.returns-in_err-value
returns-in_err-value c =
    let t = here c.args.node in
    let v = here c.at-2.result in
    let n = property_nodes t c.in_ok-parts.parts c.in_ok-parts.ensures in
    hand_on (λ x. MeansProperty (bare t) x.property × IsTypedProperty x.property × (defined t ≡ Some (x.property.key.id, x.place))) (InValue v) (PropertyFault t) c.from_residual-in_err-value.result c.in_err-value.field-0.0 c.from_residual-in_err-value.ensures.1 (λ f h. stands.property_value (v, (n.b v c.at-2.ensures).at, h)) c.in_err-value.ensures

pub returns-in_err-owner : goal.returns-in_err-owner
returns-in_err-owner c =
    let t = here c.args.node in
    let e = ap (those_of keywords.Owner) c.in_ok-parts.ensures.inner in
    hand_on (λ x. MeansProperty (bare t) x.property × IsTypedProperty x.property × (defined t ≡ Some (x.property.key.id, x.place))) (Among (RowFault keywords.Owner) (those_of keywords.Owner (all c.in_ok-parts.parts.inner))) (PropertyFault t) c.from_residual-in_err-owner.result c.in_err-owner.field-0.0 c.from_residual-in_err-owner.ensures.1
    (λ f h. stands.property_owner (let P : List Placed → Type 0 = λ v. Among (RowFault keywords.Owner) v f in subst P e h))
    c.in_err-owner.ensures

pub returns : goal.returns
returns c =
    let t = here c.args.node in
    let u = here c.at.result in
    let v = here c.at-2.result in
    let n = property_nodes t c.in_ok-parts.parts c.in_ok-parts.ensures in
    let k = c.in_ok-key.ensures in
    let y = c.in_ok-value.ensures in
    let O : List Placed → Type 0 = λ v. Perhaps (MeansText keywords.Owner) (those keywords.Owner (map bare v)) c.in_ok-owner.owner in
    let o = subst O c.in_ok-parts.ensures.inner c.in_ok-owner.ensures.0 in
    let x : Property = record { key = c.in_ok-key.key.name; value = c.in_ok-value.value; owner = c.in_ok-owner.owner } in
    (property_means t u v x (n.form u v c.at.ensures c.at-2.ensures) k.0 y.0 o, record { key = k.1; value = y.1; owner = c.in_ok-owner.ensures.1 }, defined_first t u _ (n.a u c.at.ensures).at k.2)
