use Rattle.std.proofs.Common.{◌≡◌, List, ap, ◌∙◌}
use Rattle.netlist_schema.specs.Types.{Note, Property}
use Rattle.flat_spec.specs.Effective.{base_properties, merged, names_along, notes_for}
use Rattle.flat_items.specs.Placed.{properties_at}
use Rattle.flat_items.specs.Stand.{top_of}
use Rattle.flat_items.proofs.enter.properties.Goals as goal

pub returns : goal.returns
returns g c =
    let d = g.S.Shown.design c.args.ground.now.design in
    let path = c.args.place.now.path.steps.items in
    let found : properties_at c.as_slice.result.now c.find.result.now ≡ notes_for (names_along d (top_of d).cell path) d.notes =
    ap (λ (v : List Note). properties_at v c.find.result.now) (c.as_slice.ensures ∙ c.notes.ensures)
    ∙ ap (properties_at d.notes) c.find.ensures
    ∙ c.requires.ground.placed c.args.place.now.path c.args.place.now.here.cell c.requires.stands.here.reached in
    ap (λ (v : List Property). merged v (properties_at c.as_slice.result.now c.find.result.now)) c.base_properties.ensures
    ∙ ap (λ (v : List Property). merged (base_properties d (top_of d) path) v) found
