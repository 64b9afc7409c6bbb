use Rattle.std.proofs.Common.{◌≡◌, List, map, ap, sym, subst, ◌∙◌, ℕ, Option, unwrap_or, option_map, slice_get}
use Rattle.db_version.specs.Shot.{Shot}
use Rattle.db_spec.specs.Answers.{IsLeastKept}
use Rattle.db_spec.specs.State.{State, head}
use Rattle.db_spec.proofs.Sound.{is_sound}
use Rattle.db_core.specs.Story.{Story, shot, state}
use Rattle.db_core.proofs.Shots.{first_is_least}
use Rattle.db_core.proofs.Steps.{state_of}
use Rattle.db_core.proofs.database.Core.least.Goals as goal

pub returns : goal.returns
returns c =
    let s : State = state_of c.self.inside in
    let sound = is_sound c.self.inside.opening.design c.self.inside.log.items c.self.invariant.history.legal in
    let least = first_is_least s s.kept sound.ascending (head s) sound.head_kept in
    let items : c.as_slice.result.now ≡ map (shot s) s.kept = c.as_slice.ensures.value ∙ c.self.invariant.stands.versions in
    let is : c.unwrap_or.result ≡ unwrap_or (option_map (λ (k : Shot). k.version) (slice_get (map (shot s) s.kept) 0)) 0 =
    c.unwrap_or.ensures ∙ ap (λ (o : Option ℕ). unwrap_or o 0) (c.first_of.ensures ∙ ap (λ (ks : List Shot). option_map (λ (k : Shot). k.version) (slice_get ks 0)) items) in
    subst (λ (st : Story). IsLeastKept (state st) c.unwrap_or.result) c.self.view_is (subst (IsLeastKept s) (sym is) (record { kept = least.0; least = least.1 }))
