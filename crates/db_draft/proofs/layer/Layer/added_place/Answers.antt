use Rattle.std.proofs.Common.{◌<◌, ℕ, length, ap, subst, ◌∙◌}
use Rattle.std.specs.Prelude.{IfSome}
use Rattle.std.proofs.lemmas.List.{length-map}
use Rattle.edit_rules_spec.specs.Find.{place_of}
use Rattle.netlist_schema.specs.Types.{CellBody}
use Rattle.db_draft.specs.Layers.{over_of}
use Rattle.db_draft.proofs.layer.Layer.added_place.Goals as goal

pub returns-clause-value : goal.returns-clause-value
returns-clause-value c = c.place.ensures.value ∙ ap (place_of c.args.name.now) c.requires.named

pub returns-clause-within : goal.returns-clause-within
returns-clause-within c =
    subst (λ (n : ℕ). IfSome c.place.result (λ place. place < n)) (ap length c.requires.named ∙ length-map (over_of c.args.self.now).added (λ (b : CellBody). b.name.id)) c.place.ensures.within
