use Rattle.std.proofs.Common.{rules, ◌≡◌, ◌++◌, ◌∷◌, [], Ok, refl, subst, Some}
use Rattle.std.specs.Prelude.{IfOk}
use Rattle.std.specs.List.{All}
use Rattle.std.proofs.lemmas.List.Elements.{All-pop}
use Rattle.par_classes.specs.Telling.{IsTold}
use Rattle.par_classes.proofs.told.take_parts.Goals as goal

pub loop-part-preserved : goal.loop-part-preserved
loop-part-preserved c = λ d below telling all.
    let both = All-pop (λ part. IfOk part (λ told. All (IsTold d below) told.items)) (c.loop-part.yielded ++ c.in-Some.part ∷ []) c.loop-part.yielded
    (Some c.in-Some.part) refl all in
    let is : c.in-Some.part ≡ Ok c.in_ok-told.told = search rules in
    c.take_part.ensures d below (c.loop-part.invariant d below telling both.0) (subst (λ part. IfOk part (λ told. All (IsTold d below) told.items)) is both.1)
