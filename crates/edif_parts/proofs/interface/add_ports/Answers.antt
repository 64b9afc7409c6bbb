use Rattle.std.proofs.Common.{◌≡◌, ◌≤◌, ◌+◌, List, [], ◌∷◌, ◌++◌, refl, sym, ap, ◌∙◌, subst, ◌⊎◌, inl, inr, arith, length}
use Rattle.std.specs.Prelude.{sum_by}
use Rattle.edif_spelling_spec.specs.Tree.{Placed}
use Rattle.netlist_schema.specs.Design.{port_width}
use Rattle.edif_spec.specs.Faults.{those_of}
use Rattle.edif_spec.specs.Means.{MeansPort}
use Rattle.edif_spec.specs.Stands.{PortFault}
use Rattle.edif_spec.specs.declared.keyword.Keyword.TheVariants as keywords
use Rattle.edif_tree.specs.Handles.{here, all}
use Rattle.edif_tree.specs.Eaches.{left}
use Rattle.edif_grammar.proofs.Misplaced.{place_is}
use Rattle.edif_parts.specs.Interfaces.{PassesLimit, PortsFault}
use Rattle.edif_parts.specs.Names.{IsAgain}
use Rattle.edif_parts.proofs.Answering.{hand_on}
use Rattle.edif_parts.proofs.NamedForms.{forms_start, forms_push, forms_skip, forms_again}
use Rattle.edif_parts.proofs.PortLists.{PortForms, IsFinePort, port_id, passes, within, ports_read}
use Rattle.edif_parts.proofs.Steps.{ended, fault_here, here_first, stepped}
use Rattle.edif_parts.proofs.interface.add_ports.Goals as goal

pub loop-node-init : goal.loop-node-init
loop-node-init c =
    record {
      can_next = tt;
      is_finite = tt;
      forms = ([], sym (ap left c.into_iter-node-iterator.ensures.into_iter_gives ∙ c.iter-node-items.ensures), rw (c.in_ok-ports.ensures, c.requires) (forms_start MeansPort IsFinePort port_id keywords.Port));
      count = rw c.in_ok-ports.ensures (omega arith);
      sum = rw c.in_ok-ports.ensures refl;
      bits = omega arith;
    }

pub returns-in_err-read : goal.returns-in_err-read
returns-in_err-read c =
    let t = here c.in-Some.node in
    let ts = all c.args.inner in
    let b = c.loop-node.invariant.forms in
    hand_on _ (PortFault t) (PortsFault (those_of keywords.Port ts)) c.from_residual-in_err-read.result c.in_err-read.field-0.0 c.from_residual-in_err-read.ensures.1
    (λ f h. inl (fault_here PortFault keywords.Port ts b.0 (left c.loop-node.node-iterator) (left c.next.new.self) t f b.1 c.in-Some.ensures.steps (sym c.if-is_form_of.ensures) h))
    c.in_err-read.ensures

pub returns-in_err-bits : goal.returns-in_err-bits
returns-in_err-bits c =
    let t = here c.in-Some.node in
    let ts = all c.args.inner in
    let b = c.loop-node.invariant.forms in
    let read = c.in_ok-read.read in
    let e = here_first keywords.Port ts b.0 (left c.loop-node.node-iterator) (left c.next.new.self) t b.1 c.in-Some.ensures.steps (sym c.if-is_form_of.ensures) in
    let l : sum_by port_width c.loop-node.ports.items ≤ 1048576 = omega (arith, c.loop-node.invariant.sum, c.loop-node.invariant.bits) in
    hand_on _ (λ f. IsAgain c.loop-node.names read.port.name.id read.place f ⊎ PassesLimit (length c.loop-node.ports.items) (c.loop-node.bits + port_width read.port) c.place.result f) (PortsFault (those_of keywords.Port ts)) c.from_residual-in_err-bits.result c.in_err-bits.field-0.0 c.from_residual-in_err-bits.ensures.1
    (λ f h.
    elim h [
      | inl x ↦ inr (inl (forms_again MeansPort IsFinePort port_id keywords.Port ts b.0 (left c.next.new.self) t c.loop-node.ports.items c.loop-node.names read.port.name.id read.place f e c.in_ok-read.ensures.2 b.2 x))
      | inr x ↦ inr (inr (passes ts b.0 (left c.next.new.self) t c.loop-node.ports.items c.loop-node.names read.port (length c.loop-node.ports.items) (c.loop-node.bits + port_width read.port) c.place.result f refl (ap (λ v. v + port_width read.port) c.loop-node.invariant.sum) e c.in_ok-read.ensures.0 (c.place.ensures ∙ place_is t) b.2 c.loop-node.invariant.count l x))
    ])
    c.in_err-bits.ensures

pub loop-node-preserved-then-is_form_of : goal.loop-node-preserved-then-is_form_of
loop-node-preserved-then-is_form_of c =
    let t = here c.in-Some.node in
    let b = c.loop-node.invariant.forms in
    let a = c.in_ok-bits.ensures in
    let e : c.add_port.new.ports.items ≡ c.loop-node.ports.items ++ c.in_ok-read.read.port ∷ [] = a.list in
    let y = within c.loop-node.ports.items c.add_port.new.ports.items c.in_ok-read.read.port (length c.loop-node.ports.items) c.loop-node.bits (port_width c.in_ok-read.read.port) e refl a.count c.loop-node.invariant.sum refl in
    let m = c.in_ok-read.ensures in
    let g = forms_push MeansPort IsFinePort port_id keywords.Port b.0 t c.loop-node.ports.items c.in_ok-read.read.port c.loop-node.names c.add_port.new.names c.in_ok-read.read.place (sym c.if-is_form_of.ensures) m.0 m.1 m.2 a.name b.2 in
    record {
      can_next = tt;
      is_finite = tt;
      forms = (b.0 ++ t ∷ [], stepped (all c.args.inner) b.0 (left c.loop-node.node-iterator) (left c.next.new.self) t b.1 c.in-Some.ensures.steps, rw e g);
      count = y.0;
      sum = a.sum ∙ y.1;
      bits = a.most;
    }

pub loop-node-preserved : goal.loop-node-preserved
loop-node-preserved c =
    let t = here c.in-Some.node in
    let b = c.loop-node.invariant.forms in
    let g = forms_skip MeansPort IsFinePort port_id keywords.Port b.0 t c.loop-node.ports.items c.loop-node.names (sym c.if-is_form_of.ensures) b.2 in
    record {
      can_next = tt;
      is_finite = tt;
      forms = (b.0 ++ t ∷ [], stepped (all c.args.inner) b.0 (left c.loop-node.node-iterator) (left c.next.new.self) t b.1 c.in-Some.ensures.steps, g);
      count = c.loop-node.invariant.count;
      sum = c.loop-node.invariant.sum;
      bits = c.loop-node.invariant.bits;
    }

pub returns : goal.returns
returns c =
    let ts = all c.args.inner in
    let b = c.loop-node.invariant.forms in
    let F : List Placed → Type 0 = λ v. PortForms v c.loop-node.ports.items c.loop-node.names in
    let f = subst F (ended ts b.0 (left c.loop-node.node-iterator) b.1 c.in-None.ensures.steps.0) b.2 in
    rw c.of.ensures (ports_read ts (record { ports = c.loop-node.ports.items; names = c.loop-node.names }) f c.loop-node.invariant.count (omega (arith, c.loop-node.invariant.sum, c.loop-node.invariant.bits)))
