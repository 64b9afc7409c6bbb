-- Where one stands among the pins of a net.
use Rattle.std.specs.Prelude.{◌≡◌, ◌⊎◌, ◌+◌, ℕ, List, [], ◌∷◌, ◌++◌, Bool, true, false, Option, Some, None, Result, Ok, Err, IfNone, IfOk, IfSome, OnErr, drop, is_none}
use Rattle.std.specs.List.{Contains}
use Rattle.netlist_schema.specs.Design.{Design, cell_at}
use Rattle.netlist_pages.specs.declared.memory.NoMemory.{NoMemory}
use Rattle.netlist_schema.specs.Types.{CellBody, CellId}
use Rattle.flat_spec.specs.Paths.{Reaches}
use Rattle.flat_spec.specs.Types.{Item, NetAt}
use Rattle.flat_spec.specs.declared.item.Item.TheVariants.{Pin}
use Rattle.ask_spec.specs.Nets.{first_of}
use Rattle.ask_spec.specs.Roles.{pins_as}
use Rattle.ask_spec.specs.declared.role.Role.{Role}
use Rattle.net_classes.specs.Facts.{Facts}
use Rattle.flat_items.specs.Stand.{IsGround, top_of}
use Rattle.flat_items.specs.declared.notes.PlacedNotes.{PlacedNotes}
use Rattle.net_pins.specs.Levels.{AreLevels}
use Rattle.net_pins.specs.Order.{PinPlace, left_at}
use Rattle.net_pins.specs.declared.kept.Kept.{Kept}
use Rattle.net_rows.specs.Rows.{AreRows, Table}
use Rattle.net_rows.specs.Tops.{AreTops, TopTable}
use Rattle.net_pins.specs.declared.levels.Level.{Level}
use Rattle.net_pins.specs.declared.spot.Found.{Found}
use Rattle.net_pins.specs.declared.spot.Found.TheVariants.{ThePin, Occurrence, Nothing}
use Rattle.net_pins.specs.declared.spot.Spot.{Spot}
use Rattle.flat_items.specs.Lent.{item_of}
use Rattle.flat_items.specs.declared.lent.ItemRef.{ItemRef}
use Rattle.flat_cells.specs.Below.{AreCellsBelow}

-- what is kept of the pins that stand so at their nets
pub record IsKept (role : Role) (d : Design) (facts : Facts) (cells : Table) (bits : TopTable) : Type 0 where
  pub below : List CellId
  pub are_below : AreCellsBelow d (top_of d).cell below
  pub rows : AreRows role d facts below cells
  pub tops : AreTops role d facts (top_of d).cell bits

-- what is asked: the pins of a net, which stand in one role at it, with what is kept of the design
pub record Question : Type 0 where
  pub role : Role
  pub design : Design
  pub facts : Facts
  pub cells : Table
  pub tops : TopTable
  pub first : NetAt

-- the question by what is kept for its role
abbrev pub question : Role → Design → Facts → Kept → NetAt → Question
question role d facts kept first =
    record { role = role; design = d; facts = facts; cells = kept.rows; tops = kept.tops; first = first }

-- it can be answered: the design's ground, what is kept, and a net that is its own first
pub record MayAsk (q : Question) : Type 0 where
  pub notes : PlacedNotes
  pub ground : IsGround q.design q.facts notes
  pub kept : IsKept q.role q.design q.facts q.cells q.tops
  pub first : first_of q.design q.first ≡ q.first

-- as plain lists: the levels, the place before which one stands, and whether the next pin is there
pub record Stand : Type 0 where
  pub levels : List Level
  pub path : List ℕ
  pub port : ℕ
  pub bit : ℕ
  pub ready : Bool

abbrev pub stand_of : Spot → Stand
stand_of s = record { levels = s.levels.items; path = s.path.items; port = s.port; bit = s.bit; ready = s.ready }

abbrev pub place_of : Stand → PinPlace
place_of s = (s.path, record { port = s.port; bit = s.bit })

-- the pins that are left
abbrev pub left : Question → Stand → List Item
left q s = left_at q.role q.design q.first (place_of s)

-- the occurrence at the path is a leaf
abbrev pub IsLowest : Design → List ℕ → Type 0
IsLowest d path = (c : CellId) (body : CellBody) → Reaches d (top_of d).cell path c → cell_at d c ≡ Some body → is_none body.contents ≡ true

-- the pin of the place
abbrev pub pin_of : Question → Stand → Item
pin_of q s = Pin s.path s.port s.bit (Some q.first)

-- the levels are those from the net's own occurrence down to the one above the place, which is an instance's first bit or a leaf's
pub record MayStand (q : Question) (s : Stand) : Type 0 where
  pub steps : List ℕ
  pub path_is : s.path ≡ q.first.path ++ steps
  pub levels : AreLevels q.design q.facts q.cells q.first q.first.path steps s.levels
  pub lowest : (steps ≡ []) ⊎ (((s.port ≡ 0) × (s.bit ≡ 0)) ⊎ IsLowest q.design s.path)
  pub ready : s.ready ≡ true → Contains (pins_as q.role q.design q.first) (pin_of q s)

-- the pin of the place is passed
abbrev pub passed : Stand → Stand
passed s = record { levels = s.levels; path = s.path; port = s.port; bit = s.bit + 1; ready = false }

-- what a step has found: the next pin; another occurrence, or nothing, where none is left
abbrev pub IsFound : Question → Stand → Found → Type 0
IsFound q s ThePin = s.ready ≡ true
IsFound q s Occurrence = s.ready ≡ false
IsFound q s Nothing = (s.ready ≡ false) × (left q s ≡ [])

-- the pins that are left, and whether one has gone on to the next
pub record Rest : Type 0 where
  pub left : List Item
  pub ready : Bool

abbrev pub rest_of : Question → Stand → Rest
rest_of q s = record { left = left q s; ready = s.ready }

-- the next pin is lent, where one has gone on to it
abbrev pub IsLent : Rest → Option ItemRef → Type 0
IsLent rest None = rest.ready ≡ false
IsLent rest (Some item) = (rest.ready ≡ true) × (rest.left ≡ item_of item ∷ drop 1 rest.left)

-- the pins of a net are asked of, and one stands where one may
pub record IsPins (q : Question) (s : Stand) : Type 0 where
  pub asks : MayAsk q
  pub stands : MayStand q s

-- the next pin as an iterator gives it: none, where none is left; the first, where the others are left; or want of memory, where all is as
-- before
abbrev pub GivesNext : Rest → Option (Result Item NoMemory) → Rest → Type 0
GivesNext old None new = (old.left ≡ []) × (new.left ≡ [])
GivesNext old (Some (Ok item)) new = old.left ≡ item ∷ new.left
GivesNext old (Some (Err error)) new = new.left ≡ old.left

-- the next pin is given, and one stands behind it: none, where none is left; the first, where the others are left; or want of memory, where
-- all are left that were
pub record GoesOn (q : Question) (old new : Stand) (given : Result (Option Item) NoMemory) : Type 0 where
  pub stands : MayStand q new
  pub none : IfOk given (λ item. IfNone item ((left q old ≡ []) × (left q new ≡ [])))
  pub some : IfOk given (λ item. IfSome item (λ first. left q old ≡ first ∷ left q new))
  pub err : OnErr given (left q new ≡ left q old)
