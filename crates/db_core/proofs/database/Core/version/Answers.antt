use Rattle.std.proofs.Common.{◌<◌, List, sym, ◌∙◌, subst}
use Rattle.std.specs.List.{AllPairs}
use Rattle.db_version.specs.Shot.{Shot}
use Rattle.db_spec.proofs.Sound.{is_sound}
use Rattle.db_core.specs.Story.{Story, state}
use Rattle.db_core.proofs.Shots.{FoundKept, found_kept, rising_shots}
use Rattle.db_core.proofs.Steps.{state_of}
use Rattle.db_core.proofs.database.Core.version.Goals as goal

pub find-requires : goal.find-requires
find-requires c =
    let s = state_of c.self.inside in
    let sound = is_sound c.self.inside.opening.design c.self.inside.log.items c.self.invariant.history.legal in
    subst (λ (ks : List Shot). AllPairs (λ (k : Shot) (later : Shot). k.version < later.version) ks) (sym (c.as_slice.ensures.value ∙ c.self.invariant.stands.versions)) (rising_shots s s.kept sound.ascending)

pub returns : goal.returns
returns c =
    let s = state_of c.self.inside in
    subst (λ (st : Story). FoundKept (state st) c.args.version c.find.result) c.self.view_is
    (found_kept s c.args.version c.as_slice.result.now c.find.result (c.as_slice.ensures.value ∙ c.self.invariant.stands.versions) c.find.ensures)
