-- Where a walk over the items of a design may stand.
use Rattle.std.specs.Prelude.{◌≡◌, ◌<◌, ℕ, List, [], ◌∷◌, ◌++◌, Option, Some, None, IsSome, length, slice_get, unwrap_or}
use Rattle.netlist_schema.specs.Design.{Design}
use Rattle.netlist_schema.specs.Types.{TopHead}
use Rattle.netlist_schema.specs.Valid.{IsValid}
use Rattle.flat_spec.specs.Occurrences.{Occurrence}
use Rattle.flat_spec.specs.Paths.{Reaches, nets_at}
use Rattle.net_classes.specs.Facts.{Facts}
use Rattle.net_classes.specs.PortClasses.{AreClasses}
use Rattle.net_names.specs.Names.{AreNames}
use Rattle.path_texts.specs.Texts.{steps_text}
use Rattle.flat_items.specs.Placed.{ArePlaced}
use Rattle.flat_items.specs.declared.notes.PlacedNotes.{PlacedNotes}
use Rattle.flat_items.specs.Ports.{IsPinAt, ports_shown}
use Rattle.flat_items.specs.declared.place.Frame.{Frame}
use Rattle.flat_items.specs.declared.place.Parent.{Parent}
use Rattle.flat_items.specs.declared.place.Place.{Place}
use Rattle.flat_items.specs.declared.place.Stage.{Stage}
use Rattle.flat_items.specs.declared.place.Stage.TheVariants.{Whole, Nets, Pins, Done}

abbrev pub no_top : TopHead
no_top = record { name = record { id = []; shown = None }; cell = record { lib = record { 0 = 0 }; slot = 0 }; properties = [] }

-- the top of a design that has one
abbrev pub top_of : Design → TopHead
top_of d = unwrap_or d.top no_top

-- a place as plain lists: the frames above, that of the occurrence itself, what it gives next, the path to it, and the text of that
pub record Stand : Type 0 where
  pub above : List Frame
  pub here : Frame
  pub stage : Stage
  pub path : List ℕ
  pub text : List ℕ

abbrev pub stand_of : Place → Stand
stand_of place = record { above = place.above.items; here = place.here; stage = place.stage; path = place.path.steps.items; text = place.text.items }

-- the occurrence whose items are given
abbrev pub here_of : Stand → Occurrence
here_of s = record { path = s.path; cell = s.here.cell }

-- a design with a top, what is connected in the trees of its cells, and its notes by their paths
pub record IsGround (d : Design) (facts : Facts) (notes : PlacedNotes) : Type 0 where
  pub valid : IsValid d
  pub top : d.top ≡ Some (top_of d)
  pub classes : AreClasses d (top_of d).cell facts
  pub placed : ArePlaced d (top_of d).cell notes

-- the frame of the occurrence at the path
pub record IsFrame (d : Design) (path : List ℕ) (f : Frame) : Type 0 where
  pub reached : Reaches d (top_of d).cell path f.cell
  pub names : AreNames d (top_of d).cell path f.cell f.names.items
  pub end_is : f.end ≡ length (steps_text d (top_of d).cell path)

-- frames of the occurrences along steps, from the one at the first path down to the one before the last step is made
abbrev pub AreAbove : Design → List ℕ → List ℕ → List Frame → Type 0
AreAbove d start [] [] = Unit {0}
AreAbove d start (step ∷ steps) (f ∷ fs) = IsFrame d start f × AreAbove d (start ++ step ∷ []) steps fs
AreAbove d start [] (f ∷ fs) = ⊥
AreAbove d start (step ∷ steps) [] = ⊥

-- the net or pin that is given next is there
abbrev pub IsStage : Design → Occurrence → Stage → Type 0
IsStage d o Whole = Unit {0}
IsStage d o (Nets n) = n < length (nets_at d o.cell)
IsStage d o (Pins p) = IsPinAt (ports_shown d o) p × IsSome (slice_get (ports_shown d o) p.port)
IsStage d o Done = Unit {0}

-- the frames are those along the path, from the top down, and the text is that of the path
pub record MayStand (d : Design) (s : Stand) : Type 0 where
  pub above : AreAbove d [] s.path s.above
  pub here : IsFrame d s.path s.here
  pub stage : IsStage d (here_of s) s.stage
  pub text_is : s.text ≡ steps_text d (top_of d).cell s.path

-- the frame of the occurrence above, and the last step; none at the top
abbrev pub IsParent : Design → Stand → Option Parent → Type 0
IsParent d s None = s.path ≡ []
IsParent d s (Some parent) = (s.path ≡ parent.path.now ++ parent.step ∷ []) × IsFrame d parent.path.now parent.frame.now
