use Rattle.std.proofs.Common.{ap, ◌∙◌, rules, None, Some, ◌+◌}
use Rattle.db_draft.specs.Layers.{over_of}
use Rattle.db_draft.proofs.Layers.{old_place, new_place}
use Rattle.db_draft.proofs.layer.Layer.place.Goals as goal

pub returns-in-Some : goal.returns-in-Some
returns-in-Some c = old_place (over_of c.args.self.now) c.args.shelf.now.cells c.args.name.now c.in-Some.place c.requires.fits (search rules)

pub returns-in-Some-added_place : goal.returns-in-Some-added_place
returns-in-Some-added_place c =
    ap (λ n. Some (n + c.in-Some-added_place.place)) c.cell_count.ensures.value
    ∙ new_place (over_of c.args.self.now) c.args.shelf.now.cells c.args.name.now (Some c.in-Some-added_place.place) c.requires.fits (search rules) c.in-Some-added_place.ensures.value

pub returns-in-None : goal.returns-in-None
returns-in-None c = new_place (over_of c.args.self.now) c.args.shelf.now.cells c.args.name.now None c.requires.fits (search rules) c.in-None.ensures.value
