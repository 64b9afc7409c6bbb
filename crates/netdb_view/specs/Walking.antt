-- What a walk of a view shows.
use Rattle.std.specs.Prelude.{◌≡◌, ◌≢◌, ℕ, List, [], ◌∷◌, Some, None, Result, Ok, Err}
use Rattle.std.specs.Option.{option_map_or}
use Rattle.flat_lines_spec.specs.Lines.{item_line}
use Rattle.flat_spec.specs.Flattening.{flattening}
use Rattle.flat_spec.specs.Paths.{cell_below_top}
use Rattle.flat_spec.specs.Types.{Item}
use Rattle.occ_walk.specs.At.{items_below}
use Rattle.occ_walk.specs.declared.walk.WalkError.{WalkError}
use Rattle.occ_walk.specs.declared.walk.WalkError.TheVariants as walk
use Rattle.netdb_view.specs.Facts.{ViewFacts}
use Rattle.netdb_view.specs.declared.view.BeginError.{BeginError}
use Rattle.netdb_view.specs.declared.view.BeginError.TheVariants.{NoTop, NoPath, NoMemory}
use Rattle.netdb_view.specs.declared.view.LineStep.{LineStep}
use Rattle.netdb_view.specs.declared.view.LineStep.TheVariants as line
use Rattle.netdb_view.specs.declared.view.Step.{Step}
use Rattle.netdb_view.specs.declared.view.Step.TheVariants as step

-- a walk over these items was begun, and none is shown yet
abbrev pub over : ViewFacts → List Item → ViewFacts
over view items = record { version = view.version; left = Some items; shown = None }

-- over the whole flattening; there is no top; or nothing was changed
abbrev pub Begins : ViewFacts → ViewFacts → Result (Unit {0}) WalkError → Type 0
Begins old new (Ok done) = (new ≡ over old (flattening old.version.design)) × (old.version.design.top ≢ None)
Begins old new (Err walk.NoTop) = (new ≡ old) × (old.version.design.top ≡ None)
Begins old new (Err walk.NoMemory) = (new ≡ old) × (old.version.design.top ≢ None)

-- over what stands at and below the path; there is no top; there is no such occurrence; or nothing was changed
abbrev pub BeginsAt : ViewFacts → ViewFacts → List ℕ → Result (Unit {0}) BeginError → Type 0
BeginsAt old new path (Ok done) = (new ≡ over old (items_below old.version.design path)) × (cell_below_top old.version.design path ≢ None)
BeginsAt old new path (Err NoTop) = (new ≡ old) × (old.version.design.top ≡ None)
BeginsAt old new path (Err NoPath) = (new ≡ old) × (old.version.design.top ≢ None) × (cell_below_top old.version.design path ≡ None)
BeginsAt old new path (Err NoMemory) = (new ≡ old) × (cell_below_top old.version.design path ≢ None)

-- the first item that was left is shown, and the others are left
pub record Shows (old new : ViewFacts) : Type 0 where
  pub item : Item
  pub others : List Item
  pub was : old.left ≡ Some (item ∷ others)
  pub is : new ≡ record { version = old.version; left = Some others; shown = Some item }

-- the next item is shown; none is left; no walk was begun; or nothing was changed of a walk that was
abbrev pub StepsOn : ViewFacts → ViewFacts → Step → Type 0
StepsOn old new step.Shown = Shows old new
StepsOn old new step.End = (old.left ≡ Some []) × (new ≡ record { version = old.version; left = Some []; shown = None })
StepsOn old new step.NoWalk = (old.left ≡ None) × (new ≡ old)
StepsOn old new step.NoMemory = (new ≡ old) × (old.left ≢ None)

-- the line of the item that is shown, nothing where none is
abbrev pub line_shown : ViewFacts → List ℕ
line_shown view = option_map_or (item_line view.version.design) view.shown []

-- the next item is shown, and the text is its line, or empty; or no item came to be shown, and the text stays
abbrev pub StepsOnto : ViewFacts → ViewFacts → List ℕ → List ℕ → LineStep → Type 0
StepsOnto old new before after line.Shown = StepsOn old new step.Shown × (after ≡ line_shown new)
StepsOnto old new before after line.Lost = StepsOn old new step.Shown × (after ≡ [])
StepsOnto old new before after line.End = StepsOn old new step.End × (after ≡ before)
StepsOnto old new before after line.NoWalk = StepsOn old new step.NoWalk × (after ≡ before)
StepsOnto old new before after line.NoMemory = StepsOn old new step.NoMemory × (after ≡ before)
