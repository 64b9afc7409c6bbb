use Rattle.std.proofs.Common.{◌≡◌, List, [], ◌∷◌, sym, ap, ◌∙◌, subst, inl}
use Rattle.std.specs.Prelude.{map}
use Rattle.std.specs.List.{All}
use Rattle.edif_spelling_spec.specs.Tree.{Placed, bare}
use Rattle.netlist_schema.specs.Names.{HasDistinctKeys}
use Rattle.netlist_schema.specs.Types.{Property}
use Rattle.netlist_schema.specs.Typed.{IsTypedProperty}
use Rattle.edif_spec.specs.Faults.{Among, those_of}
use Rattle.edif_spec.specs.Means.{MeansProperties, MeansProperty}
use Rattle.edif_spec.specs.Stands.{PropertiesFault, PropertyFault}
use Rattle.edif_spec.specs.Stands as stands
use Rattle.edif_spec.specs.declared.keyword.Keyword.TheVariants as keywords
use Rattle.edif_tree.specs.Handles.{here, all}
use Rattle.edif_parts.specs.Adding.{MeansOne}
use Rattle.edif_parts.proofs.Answering.{answers_more}
use Rattle.edif_parts.proofs.NamedForms.{no_forms, one_form}
use Rattle.edif_parts.proofs.properties.read_properties.Goals as goal

pub returns-in_default : goal.returns-in_default
returns-in_default c = rw (c.of.ensures ∙ c.new.ensures.items) (no_forms MeansProperty IsTypedProperty (λ (p : Property). p.key.id) keywords.Property (all c.args.inner) c.in_default.ensures.none)

pub returns-in-None : goal.returns-in-None
returns-in-None c =
    let t = here c.in-Some.first in
    let ts = all c.args.inner in
    let only : those_of keywords.Property ts ≡ t ∷ [] = c.in-Some.ensures.some.0 ∙ ap (λ v. t ∷ v) c.in-None.ensures.none in
    answers_more (MeansOne MeansProperty IsTypedProperty t) (λ ps. MeansProperties (map bare ts) ps × All IsTypedProperty ps × HasDistinctKeys ps) (PropertyFault t) (PropertiesFault (those_of keywords.Property ts)) c.one_property.result
    (λ ps h. one_form MeansProperty IsTypedProperty (λ (p : Property). p.key.id) keywords.Property ts t ps only h)
    (λ f h. (let P : List Placed → Type 0 = λ v. Among PropertyFault v f in stands.one_property (subst P (sym only) (inl h))))
    c.one_property.ensures
