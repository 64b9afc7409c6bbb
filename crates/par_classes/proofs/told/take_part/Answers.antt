use Rattle.std.proofs.Common.{◌++◌, ◌∷◌, [], refl, Some}
use Rattle.std.proofs.lemmas.List.Elements.{All-pop}
use Rattle.par_classes.specs.Telling.{IsTold}
use Rattle.par_classes.proofs.told.take_part.Goals as goal

pub loop-told-preserved : goal.loop-told-preserved
loop-told-preserved c = λ d below telling all.
    let both = All-pop (IsTold d below) (c.loop-told.yielded ++ c.in-Some.told ∷ []) c.loop-told.yielded (Some c.in-Some.told) refl all in
    c.take_one.ensures d below (c.loop-told.invariant d below telling both.0) both.1
