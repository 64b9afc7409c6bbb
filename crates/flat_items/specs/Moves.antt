-- Moves from an occurrence to one below it, and back.
use Rattle.std.specs.Prelude.{◌≡◌, ◌-◌, ℕ, List, [], ◌∷◌, ◌++◌, codes, length, take, Bool, true, false}
use Rattle.flat_items.specs.Stand.{Stand}
use Rattle.flat_items.specs.declared.place.Frame.{Frame}
use Rattle.flat_items.specs.declared.place.Stage.TheVariants.{Whole, Done}

-- the same frame, where that instance is next, whose joints are looked for at that place
abbrev pub going_on : Frame → ℕ → ℕ → Frame
going_on f next near = record { cell = f.cell; next = next; from = f.from; upto = f.upto; near = near; end = f.end; names = f.names }

-- by a step to an instance with that name the occurrence with that frame is entered
pub record HasEntered (old : Stand) (step next : ℕ) (name : List ℕ) (frame : Frame) (new : Stand) : Type 0 where
  pub above : new.above ≡ old.above ++ going_on old.here next frame.upto ∷ []
  pub here : new.here ≡ frame
  pub stage : new.stage ≡ Whole
  pub path : new.path ≡ old.path ++ step ∷ []
  pub text : new.text ≡ old.text ++ (codes "/" ++ name)

-- the parent is gone back to, where there is one
abbrev pub HasLeft : Stand → Stand → Bool → Type 0
HasLeft old new true =
    (old.above ≡ new.above ++ new.here ∷ []) × (new.stage ≡ Done) × (new.path ≡ take (length old.path - 1) old.path) × (new.text ≡ take new.here.end old.text)
HasLeft old new false = (old.above ≡ []) × (new ≡ old)
