use Rattle.std.proofs.Common.{List, [], ◌∷◌, ◌++◌, sym, ap, ◌∙◌, subst, ◌⊎◌, inl, inr}
use Rattle.std.specs.Prelude.{map}
use Rattle.std.specs.List.{All}
use Rattle.edif_spelling_spec.specs.Tree.{Placed, bare}
use Rattle.netlist_schema.specs.Names.{HasDistinctKeys}
use Rattle.netlist_schema.specs.Types.{Property}
use Rattle.netlist_schema.specs.Typed.{IsTypedProperty}
use Rattle.edif_spec.specs.Faults.{those_of}
use Rattle.edif_spec.specs.Means.{MeansProperties, MeansProperty}
use Rattle.edif_spec.specs.Stands.{PropertiesFault, PropertyFault}
use Rattle.edif_spec.specs.Stands as stands
use Rattle.edif_spec.specs.declared.keyword.Keyword.TheVariants as keywords
use Rattle.edif_tree.specs.Handles.{here, all}
use Rattle.edif_tree.specs.Eaches.{left}
use Rattle.edif_parts.specs.Adding.{DefinesAgain}
use Rattle.edif_parts.proofs.Answering.{hand_on}
use Rattle.edif_parts.proofs.NamedForms.{NamedForms, forms_start, forms_add, forms_skip, forms_twice, forms_each, forms_valid, forms_distinct}
use Rattle.edif_parts.proofs.Steps.{ended, fault_here, here_first, stepped}
use Rattle.edif_parts.proofs.properties.add_properties.Goals as goal

pub loop-node-init : goal.loop-node-init
loop-node-init c = (tt, tt, ([], sym (ap left c.into_iter-node-iterator.ensures.into_iter_gives ∙ c.iter-node-items.ensures), rw (c.in_ok-properties.ensures, c.requires) (forms_start MeansProperty IsTypedProperty (λ (p : Property). p.key.id) keywords.Property)))

pub returns-in_err-add_property : goal.returns-in_err-add_property
returns-in_err-add_property c =
    let t = here c.in-Some.node in
    let ts = all c.args.inner in
    let b = c.loop-node.invariant.2 in
    let s = sym c.if-is_form_of.ensures in
    hand_on (λ ps. MeansProperties (map bare ts) ps × All IsTypedProperty ps × HasDistinctKeys ps) (λ f. PropertyFault t f ⊎ DefinesAgain c.loop-node.names t f) (PropertiesFault (those_of keywords.Property ts)) c.from_residual-in_err-add_property.result c.in_err-add_property.field-0.0 c.from_residual-in_err-add_property.ensures.1
    (λ f h.
    elim h [
      | inl x ↦ stands.one_property (fault_here PropertyFault keywords.Property ts b.0 (left c.loop-node.node-iterator) (left c.next.new.self) t f b.1 c.in-Some.ensures.steps s x)
      | inr x ↦ stands.key_again (forms_twice MeansProperty IsTypedProperty (λ (p : Property). p.key.id) keywords.Property ts b.0 (left c.next.new.self) t c.loop-node.properties.items c.loop-node.names f (here_first keywords.Property ts b.0 (left c.loop-node.node-iterator) (left c.next.new.self) t b.1 c.in-Some.ensures.steps s) b.2 x)
    ])
    c.in_err-add_property.ensures

pub loop-node-preserved-in-Continue-branch-2 : goal.loop-node-preserved-in-Continue-branch-2
loop-node-preserved-in-Continue-branch-2 c =
    let t = here c.in-Some.node in
    let b = c.loop-node.invariant.2 in
    (tt, tt, (b.0 ++ t ∷ [], stepped (all c.args.inner) b.0 (left c.loop-node.node-iterator) (left c.next.new.self) t b.1 c.in-Some.ensures.steps, forms_add MeansProperty IsTypedProperty (λ (p : Property). p.key.id) keywords.Property b.0 t c.loop-node.properties.items c.add_property.new.properties.items c.loop-node.names c.add_property.new.names (sym c.if-is_form_of.ensures) c.in_ok-add_property.ensures b.2))

pub loop-node-preserved : goal.loop-node-preserved
loop-node-preserved c =
    let t = here c.in-Some.node in
    let b = c.loop-node.invariant.2 in
    let g = forms_skip MeansProperty IsTypedProperty (λ (p : Property). p.key.id) keywords.Property b.0 t c.loop-node.properties.items c.loop-node.names (sym c.if-is_form_of.ensures) b.2 in
    (tt, tt, (b.0 ++ t ∷ [], stepped (all c.args.inner) b.0 (left c.loop-node.node-iterator) (left c.next.new.self) t b.1 c.in-Some.ensures.steps, g))

pub returns : goal.returns
returns c =
    let ts = all c.args.inner in
    let b = c.loop-node.invariant.2 in
    let F : List Placed → Type 0 = λ v. NamedForms MeansProperty IsTypedProperty (λ (p : Property). p.key.id) keywords.Property v c.loop-node.properties.items c.loop-node.names in
    let f = subst F (ended ts b.0 (left c.loop-node.node-iterator) b.1 c.in-None.ensures.steps.0) b.2 in
    rw c.of.ensures (forms_each MeansProperty IsTypedProperty (λ (p : Property). p.key.id) keywords.Property ts c.loop-node.properties.items c.loop-node.names f, forms_valid MeansProperty IsTypedProperty (λ (p : Property). p.key.id) keywords.Property ts c.loop-node.properties.items c.loop-node.names f, forms_distinct MeansProperty IsTypedProperty (λ (p : Property). p.key.id) keywords.Property ts c.loop-node.properties.items c.loop-node.names f)
