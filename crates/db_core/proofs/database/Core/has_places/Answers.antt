use Rattle.std.proofs.Common.{◌≡◌, ◌+◌, length, ap, ◌∙◌, arith}
use Rattle.std.proofs.lemmas.Bool.{leb-true, le-leb}
use Rattle.db_spec.specs.Answers.{places}
use Rattle.db_spec.proofs.Kept.{events_after}
use Rattle.db_core.specs.Story.{Story, state}
use Rattle.db_core.proofs.Pins.{few_held}
use Rattle.db_core.proofs.Steps.{state_of}
use Rattle.db_core.proofs.database.Core.has_places.Goals as goal

pub returns : goal.returns
returns c =
    let s = state_of c.self.inside in
    let events = events_after c.self.inside.opening.design c.self.inside.log.items in
    let live : length c.self.inside.pins.live ≡ length s.pins = ap length c.self.invariant.stands.live ∙ few_held s.pins in
    let places_are : places s ≡ places (state c.args.self.now) = ap (λ (st : Story). places (state st)) c.self.view_is in
    let sum : c.len.result + c.live.result + c.args.more ≡ places (state c.args.self.now) + c.args.more = omega (arith, c.len.ensures, c.live.ensures) in
    (λ t. let le = leb-true _ _ t in omega arith, λ fits. le-leb _ _ (omega arith))
