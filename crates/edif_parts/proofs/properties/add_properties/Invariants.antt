use Rattle.std.proofs.Common.{◌≡◌, ◌++◌, List}
use Rattle.edif_spelling_spec.specs.Tree.{Placed}
use Rattle.netlist_schema.specs.Types.{Property}
use Rattle.netlist_schema.specs.Typed.{IsTypedProperty}
use Rattle.edif_spec.specs.Means.{MeansProperty}
use Rattle.edif_spec.specs.declared.keyword.Keyword.TheVariants as keywords
use Rattle.edif_tree.specs.Handles.{all}
use Rattle.edif_tree.specs.Eaches.{left}
use Rattle.edif_parts.proofs.NamedForms.{NamedForms}
use Rattle.edif_parts.proofs.properties.add_properties.Given as goal

abbrev pub invariant-loop-node : goal.invariant-loop-node
invariant-loop-node l =
    (goal.iterator-loop-node).can_next l.node-iterator ×
    (goal.iterator-loop-node).is_finite l.node-iterator ×
    ((before : List Placed) × (all l.fn.inner ≡ before ++ left l.node-iterator) × NamedForms MeansProperty IsTypedProperty (λ (p : Property). p.key.id) keywords.Property before l.properties.items l.names)
