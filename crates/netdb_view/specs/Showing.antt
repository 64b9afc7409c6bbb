-- What a view has left and shows, by where its walk stands.
use Rattle.std.specs.Prelude.{◌≡◌, ◌≢◌, List, [], Option, None, IsSomeAnd, drop, false, slice_get}
use Rattle.std.specs.Option.{option_and_then}
use Rattle.flat_spec.specs.Types.{Item}
use Rattle.occ_walk.specs.Walk.{Rest}
use Rattle.netdb_view.specs.declared.view.Showing.{Showing}
use Rattle.netdb_view.specs.declared.view.Showing.TheVariants.{Nothing, Ahead, Passed}
use Rattle.netdb_view.specs.declared.view.Step.{Step}
use Rattle.netdb_view.specs.declared.view.Step.TheVariants as step

-- what is left: behind the item that is shown, where the walk has not passed over it
abbrev pub left_at : Showing → Rest → List Item
left_at Nothing w = w.left
left_at Ahead w = drop 1 w.left
left_at Passed w = w.left

-- what is shown: nothing, the walk's next item, or the one that is kept
abbrev pub shown_at : Showing → Option Rest → Option Item → Option Item
shown_at Nothing walk kept = None
shown_at Ahead walk kept = option_and_then (λ w. slice_get w.left 0) walk
shown_at Passed walk kept = kept

-- an item that is shown and not passed over is there
abbrev pub MayShow : Showing → Option Rest → Type 0
MayShow Nothing walk = Unit {0}
MayShow Ahead walk = IsSomeAnd walk (λ w. w.over ≡ false)
MayShow Passed walk = Unit {0}

-- the next item is shown and there; none is left, and none is shown; or what is shown is as it was
abbrev pub HasGone : Rest → Showing → Showing → Step → Type 0
HasGone w old new step.Shown = (new ≡ Ahead) × (w.over ≡ false) × (w.left ≢ [])
HasGone w old new step.End = (new ≡ Nothing) × (w.left ≡ [])
HasGone w old new step.NoMemory = new ≡ old
HasGone w old new step.NoWalk = ⊥
