-- The cells of a library while they are put in order: which are written, ready, or wait for a child.
use Rattle.std.specs.Prelude.{◌≡◌, ◌<◌, ◌≤◌, ℕ, zero, suc, Bool, true, false, not, ◌||◌, List, [], ◌∷◌, ◌++◌, length, Some, nat_eq, slice_get, unwrap_or}
use Rattle.std.specs.List.{AllByRecursion, list_any}
use Rattle.std.specs.Option.{option_map_or}
use Rattle.std.specs.Ordering.{nat_cmp}
use Rattle.std.specs.BTreeSet.{contains}
use Rattle.netlist_order_spec.specs.Order.{is_written, is_ready}
use Rattle.netlist_schema.specs.Design.{insts_of}
use Rattle.netlist_schema.specs.Types.{CellBody, Inst}
use Rattle.netlist_order.specs.declared.ready_queue.ReadyQueue.{ReadyQueue}
use Rattle.netlist_order.specs.declared.ready_queue.Waiting.{Waiting}

-- the cell is marked as written
abbrev pub flag : ReadyQueue → ℕ → Bool
flag d slot = unwrap_or (slice_get d.written.items slot) false

-- the cell is marked as ready
abbrev pub has : ReadyQueue → ℕ → Bool
has d slot = contains nat_cmp d.ready slot

-- the cells that wait for a child
abbrev pub waits : ReadyQueue → ℕ → List Waiting
waits d child = option_map_or (λ cells. cells.items) (slice_get d.waiting.items child) []

-- it has room for so many cells
pub record IsSized (count : ℕ) (d : ReadyQueue) : Type 0 where
  pub written : length d.written.items ≡ count
  pub waiting : length d.waiting.items ≡ count

-- the placed cell is marked as written, or stands in another library
abbrev pub is_past : ℕ → (ℕ → Bool) → Inst → Bool
is_past own flag i = not (nat_eq i.of.lib.0 own) || flag i.of.slot

-- A cell that waits: it is there and not written, and its instances before a place need no more waiting.
pub record IsWaiting (own : ℕ) (cells : List CellBody) (done : List ℕ) (w : Waiting) : Type 0 where
  pub cell : CellBody
  pub there : slice_get cells w.slot ≡ Some cell
  pub new : list_any (nat_eq w.slot) done ≡ false
  pub passed : (j : ℕ) (i : Inst) → j < w.from → slice_get (insts_of cell) j ≡ Some i → is_written own done i ≡ true

-- The instance at that place is of a child that is not written.
pub record WaitsFor (own : ℕ) (cells : List CellBody) (done : List ℕ) (child : ℕ) (w : Waiting) : Type 0 where
  pub waiting : IsWaiting own cells done w
  pub inst : Inst
  pub at : slice_get (insts_of waiting.cell) w.from ≡ Some inst
  pub missing : is_written own done inst ≡ false
  pub child_is : inst.of.slot ≡ child

-- a cell that may be written next
pub record IsNext (own : ℕ) (cells : List CellBody) (done : List ℕ) (slot : ℕ) : Type 0 where
  pub cell : CellBody
  pub there : slice_get cells slot ≡ Some cell
  pub ready : is_ready own done slot cell ≡ true

-- the cell is one of these
abbrev pub names : ℕ → List Waiting → Bool
names slot ws = list_any (λ w. nat_eq slot w.slot) ws

-- a cell is ready, waits for a child, or has no place yet
pub data IsKept (has : ℕ → Bool) (waits : ℕ → List Waiting) (pending : List Waiting) (slot : ℕ) : Type 0 where
  at_ready : has slot ≡ true → IsKept has waits pending slot
  at_child : (child : ℕ) → names slot (waits child) ≡ true → IsKept has waits pending slot
  at_hand : names slot pending ≡ true → IsKept has waits pending slot

-- What is marked fits the cells that are written so far, and each other cell is kept.
pub record Fits (own : ℕ) (cells : List CellBody) (done : List ℕ) (pending : List Waiting) (flag has : ℕ → Bool) (waits : ℕ → List Waiting) : Type 0 where
  pub flags : (slot : ℕ) → flag slot ≡ list_any (nat_eq slot) done
  pub sound : (slot : ℕ) → has slot ≡ true → IsNext own cells done slot
  pub parked : (child : ℕ) → AllByRecursion (WaitsFor own cells done child) (waits child)
  pub unplaced : AllByRecursion (IsWaiting own cells done) pending
  pub kept : (slot : ℕ) → slot < length cells → list_any (nat_eq slot) done ≡ false → IsKept has waits pending slot

-- the same of a queue
abbrev pub IsReadyQueue : ℕ → List CellBody → List ℕ → List Waiting → ReadyQueue → Type 0
IsReadyQueue own cells done pending d = Fits own cells done pending (flag d) (has d) (waits d)

-- the search for a child that is not written: none from a place on, or the first
abbrev pub AllPast : ℕ → (ℕ → Bool) → List Inst → ℕ → ℕ → Type 0
AllPast own flag insts from to = (j : ℕ) (i : Inst) → from ≤ j → j < to → slice_get insts j ≡ Some i → is_past own flag i ≡ true

pub record IsFirstUnwritten (own : ℕ) (flag : ℕ → Bool) (insts : List Inst) (from at : ℕ) : Type 0 where
  pub inst : Inst
  pub there : slice_get insts at ≡ Some inst
  pub missing : is_past own flag inst ≡ false
  pub earlier : AllPast own flag insts from at

-- the first cells of a library, none of which was looked at
abbrev pub first_cells : ℕ → List Waiting
first_cells zero = []
first_cells (suc n) = first_cells n ++ record { slot = n; from = 0 } ∷ []
