use Rattle.std.proofs.Common.{[], ◌∷◌, List, map, refl, inl, inr, subst}
use Rattle.edif_spelling_spec.specs.Tree.{Placed, bare}
use Rattle.edif_spec.specs.Faults.{those_of}
use Rattle.edif_spec.specs.Keyword.{Many}
use Rattle.edif_spec.specs.Means.{MeansProperties}
use Rattle.edif_spec.specs.Stands.{InterfaceFault, PropertiesFault}
use Rattle.edif_spec.specs.Stands as stands
use Rattle.edif_spec.specs.declared.keyword.Keyword.TheVariants as keywords
use Rattle.edif_tree.specs.Handles.{here, all}
use Rattle.edif_parts.specs.Interfaces.{PortsFault, ReadInterface, ReadPorts}
use Rattle.edif_parts.proofs.Answering.{hand_on}
use Rattle.edif_grammar.proofs.FormLemmas.{fit0}
use Rattle.edif_parts.proofs.interface.read_interface.Goals as goal

pub returns-in_err-ports : goal.returns-in_err-ports
returns-in_err-ports c =
    let t = here c.args.node in
    hand_on (ReadInterface t) (PortsFault (those_of keywords.Port (all c.in_ok-parts.parts.inner))) (InterfaceFault t) c.from_residual-in_err-ports.result c.in_err-ports.field-0.0 c.from_residual-in_err-ports.ensures.1
    (λ f h.
    let Q : List Placed → Type 0 = λ v. PortsFault (those_of keywords.Port v) f in
    elim (subst Q c.in_ok-parts.ensures.inner h) [ inl x ↦ stands.interface_port x | inr x ↦ elim x [ inl y ↦ stands.port_again y | inr y ↦ elim y [ inl z ↦ stands.many_ports z | inr z ↦ stands.many_bits z ] ] ])
    c.in_err-ports.ensures

pub returns-in_err-properties : goal.returns-in_err-properties
returns-in_err-properties c =
    let t = here c.args.node in
    hand_on (ReadInterface t) (PropertiesFault (those_of keywords.Property (all c.in_ok-parts.parts.inner))) (InterfaceFault t) c.from_residual-in_err-properties.result c.in_err-properties.field-0.0 c.from_residual-in_err-properties.ensures.1
    (λ f h. stands.interface_properties (let Q : List Placed → Type 0 = λ v. PropertiesFault (those_of keywords.Property v) f in subst Q c.in_ok-parts.ensures.inner h))
    c.in_err-properties.ensures

pub returns : goal.returns
returns c =
    let t = here c.args.node in
    let p = c.in_ok-parts.ensures in
    let x = fit0 keywords.Interface (Many keywords.Port ∷ Many keywords.Property ∷ Many keywords.Comment ∷ Many keywords.UserData ∷ []) t refl refl refl p.fits in
    let R : List Placed → Type 0 = λ v. ReadPorts v c.in_ok-ports.field-0 in
    let Q : List Placed → Type 0 = λ v. MeansProperties (map bare v) c.in_ok-properties.properties in
    let r = subst R p.inner c.in_ok-ports.ensures in
    let q = c.in_ok-properties.ensures in
    record {
      form = x.form;
      ports = r.ports;
      typed = r.typed;
      port_keys = r.port_keys;
      distinct = r.distinct;
      count = r.count;
      bits = r.bits;
      names = r.names;
      properties = subst Q p.inner q.0;
      typed_properties = q.1;
      keys = q.2;
    }
