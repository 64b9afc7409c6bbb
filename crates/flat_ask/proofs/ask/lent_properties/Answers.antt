use Rattle.std.proofs.Common.{◌≡◌, List, sym, ap, subst, ◌∙◌}
use Rattle.std.specs.Option.{option_copied}
use Rattle.netlist_schema.specs.Types.{Note, Property}
use Rattle.flat_spec.specs.Effective.{base_properties, merged, names_along, notes_for}
use Rattle.flat_spec.specs.Paths.{Reaches}
use Rattle.flat_items.specs.Placed.{properties_at}
use Rattle.flat_items.specs.Stand.{top_of}
use Rattle.flat_items.specs.declared.steps.Steps.{Steps}
use Rattle.flat_ask.specs.Asks.{IsBase}
use Rattle.flat_ask.proofs.AskLemmas.{no_properties, some_properties}
use Rattle.flat_ask.proofs.ask.lent_properties.Goals as goal

pub returns-in_default : goal.returns-in_default
returns-in_default g c =
    let d = g.S.Shown.design c.args.ground.now.design in
    no_properties d c.requires.top c.args.path.now (subst (λ o. IsBase d c.args.path.now (option_copied o)) c.in_default.is c.base_properties.ensures)

pub returns : goal.returns
returns g c =
    let d = g.S.Shown.design c.args.ground.now.design in
    let path = c.args.path.now in
    let based = subst (λ o. IsBase d path (option_copied o)) c.in-Some.is c.base_properties.ensures in
    let steps : Steps = record { steps = c.in_ok-copied.copied } in
    let reached : Reaches d (top_of d).cell steps.steps.items based.0.0 = subst (λ p. Reaches d (top_of d).cell p based.0.0) (sym c.in_ok-copied.ensures.items) based.0.1 in
    let found : properties_at c.as_slice.result.now c.find.result.now ≡ notes_for (names_along d (top_of d).cell path) d.notes =
    ap (λ (v : List Note). properties_at v c.find.result.now) (c.as_slice.ensures ∙ c.notes.ensures)
    ∙ ap (properties_at d.notes) c.find.ensures
    ∙ c.requires.placed steps based.0.0 reached
    ∙ ap (λ p. notes_for (names_along d (top_of d).cell p) d.notes) c.in_ok-copied.ensures.items in
    some_properties d c.requires.top path based.0.0 (merged c.in-Some.base.now (properties_at c.as_slice.result.now c.find.result.now)) based.0.1
    (ap (λ (v : List Property). merged v (properties_at c.as_slice.result.now c.find.result.now)) based.1
    ∙ ap (λ (v : List Property). merged (base_properties d (top_of d) path) v) found)
