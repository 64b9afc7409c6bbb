-- Steps from one place to another.
use Rattle.std.specs.Prelude.{◌≡◌, ◌≢◌, ◌+◌, ◌-◌, ◌≤◌, ◌<◌, ℕ, List, [], ◌∷◌, ◌++◌, true, false, is_none, Option, Some, None, length, set, slice_get, slice_index, if◌then◌else◌}
use Rattle.netlist_schema.specs.Design.{Design, cell_at}
use Rattle.netlist_schema.specs.Hierarchy.{insts_at}
use Rattle.netlist_schema.specs.Types.{CellBody, CellId, Inst}
use Rattle.flat_spec.specs.Paths.{Bit, Reaches, cell_along}
use Rattle.flat_items.specs.Stand.{top_of}
use Rattle.net_classes.specs.declared.joints.Joint.{Joint}
use Rattle.net_pins.specs.Levels.{IsNextOf, leads_in}
use Rattle.net_pins.specs.Spots.{Question, Stand, passed}
use Rattle.net_rows.specs.Tops.{IsNextBit, bits_in}
use Rattle.net_pins.specs.declared.levels.Level.{Level}
use Rattle.net_pins.specs.declared.spot.Below.{Below}
use Rattle.net_rows.specs.declared.tops.OwnBit.{OwnBit}

-- the last step of the path
abbrev pub last_step : List ℕ → ℕ
last_step path = slice_index path (length path - 1)

-- the bit at which one stands
abbrev pub bit_at : Stand → Bit
bit_at s = record { port = s.port; bit = s.bit }

-- another bit of the same occurrence
abbrev pub at_bit : Stand → ℕ → ℕ → Stand
at_bit s port bit = record { levels = s.levels; path = s.path; port = port; bit = bit; ready = s.ready }

-- a bit of another instance beside it
abbrev pub moved : Stand → ℕ → ℕ → ℕ → Stand
moved s inst port bit =
    record { levels = s.levels; path = set s.path (length s.path - 1) inst; port = port; bit = bit; ready = s.ready }

abbrev pub at_next : Stand → Stand
at_next s = moved s (last_step s.path + 1) 0 0

-- the next pin is there
abbrev pub made_ready : Stand → Stand
made_ready s = record { levels = s.levels; path = s.path; port = s.port; bit = s.bit; ready = true }

-- before the first instance of the occurrence at the path, whose level this is
abbrev pub entered : Stand → Level → Stand
entered s level =
    record { levels = s.levels ++ level ∷ []; path = s.path ++ 0 ∷ []; port = 0; bit = 0; ready = s.ready }

-- one has passed where the pin was ready, and else stays
abbrev pub passed_by : Stand → Stand
passed_by s = if s.ready then passed s else s

-- the last element was dropped
pub record IsDropped {A : Type 0} (old new : List A) : Type 0 where
  pub last : A
  pub is : old ≡ new ++ last ∷ []

-- the last occurrence was left for the instance behind it
pub record HasLeft (old new : Stand) : Type 0 where
  pub levels : List Level
  pub level : Level
  pub path : List ℕ
  pub step : ℕ
  pub levels_are : old.levels ≡ levels ++ level ∷ []
  pub path_is : old.path ≡ path ++ step ∷ []
  pub new_is : new ≡ at_next (record { levels = levels; path = path; port = old.port; bit = old.bit; ready = old.ready })

-- there is one above, and the step to it is not the last number
pub record CanLeave (s : Stand) : Type 0 where
  pub deep : 2 ≤ length s.levels
  pub long : 2 ≤ length s.path
  pub room : (path : List ℕ) (up step : ℕ) → s.path ≡ path ++ up ∷ step ∷ [] → up < 4294967295

-- of the net's own occurrence: the next bit of the top, and none where it is not the top
abbrev pub IsOwnBit : Question → Stand → Option OwnBit → Type 0
IsOwnBit q s found =
    (q.first.path ≡ [] → IsNextBit (bits_in q.tops q.first.net) (bit_at s) found) × (q.first.path ≢ [] → found ≡ None)

-- its level, none where there is no such occurrence
abbrev pub IsOwnLevel : Question → Option Level → Type 0
IsOwnLevel q None = cell_along q.design (top_of q.design).cell q.first.path ≡ None
IsOwnLevel q (Some l) = (l.firsts.items ≡ q.first.net ∷ []) × Reaches q.design (top_of q.design).cell q.first.path l.cell

-- the cell of an instance, and whether it is a leaf; none where there is none
abbrev pub IsBelowAt : Design → CellId → ℕ → Option Below → Type 0
IsBelowAt d cell inst None = (i : Inst) (body : CellBody) → slice_get (insts_at d cell) inst ≡ Some i → cell_at d i.of ≡ Some body → ⊥
IsBelowAt d cell inst (Some below) =
    (i : Inst) × (body : CellBody) × (slice_get (insts_at d cell) inst ≡ Some i) × (i.of ≡ below.of) × (cell_at d i.of ≡ Some body)
    × (below.leaf ≡ is_none body.contents)

-- the last level, of a cell, and the next joint there that leads to a pin
pub record IsLeadAt (q : Question) (s : Stand) (cell : CellId) (joint : Joint) : Type 0 where
  pub levels : List Level
  pub level : Level
  pub levels_are : s.levels ≡ levels ++ level ∷ []
  pub cell_is : level.cell ≡ cell
  pub next : IsNextOf (leads_in q.cells level.cell level.firsts.items) (last_step s.path) (bit_at s) (Some joint)

-- the joint's instance is of that cell, which has contents
abbrev pub IsBlock : Design → CellId → ℕ → CellId → Type 0
IsBlock d cell inst of =
    (i : Inst) × (body : CellBody) × (slice_get (insts_at d cell) inst ≡ Some i) × (i.of ≡ of) × (cell_at d i.of ≡ Some body)
    × (is_none body.contents ≡ false)

-- in the last occurrence no joint is left that leads to a pin
pub record NothingHere (q : Question) (s : Stand) : Type 0 where
  pub levels : List Level
  pub level : Level
  pub levels_are : s.levels ≡ levels ++ level ∷ []
  pub next : IsNextOf (leads_in q.cells level.cell level.firsts.items) (last_step s.path) (bit_at s) None
