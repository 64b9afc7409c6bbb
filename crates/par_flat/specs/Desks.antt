-- Workers at their desks.
use Rattle.std.specs.Prelude.{◌≡◌, ◌<◌, ◌+◌, ◌*◌, ◌^◌, ◌≤◌, ℕ, List, IfOk, drop, length, get_or, take}
use Rattle.std.specs.List.{flat_map}
use Rattle.std.specs.Option.{ForSome}
use Rattle.netlist_schema.specs.Design.{Design}
use Rattle.flat_spec.specs.Flattening.{flattening}
use Rattle.flat_spec.specs.Types.{Item}
use Rattle.occ_walk.specs.Left.{left}
use Rattle.flat_items.specs.Stand.{MayStand, stand_of}
use Rattle.par_flat.specs.Lines.{IsPart}
use Rattle.par_flat.specs.declared.crew.Crew.{Crew}
use Rattle.par_flat.specs.declared.desks.Desk.{Desk}
use Rattle.par_flat.specs.declared.desks.Lines.{Lines}
use Rattle.par_flat.specs.declared.desks.Most.{Most}
use Rattle.par_flat.specs.declared.desks.Seat.{Seat}
use Rattle.par_flat.specs.declared.rounds.Round.{Round}

-- a walk may stand there, behind so many items of the flattening
pub record IsSeat (d : Design) (seat : Seat) : Type 0 where
  pub stands : MayStand d (stand_of seat.place)
  pub left : left d (stand_of seat.place) ≡ drop seat.before (flattening d)

-- the desk of a worker, who may go on from there
pub record IsDesk (d : Design) (worker : ℕ) (desk : Desk) : Type 0 where
  pub worker_is : desk.worker ≡ worker
  pub seat : ForSome desk.seat (IsSeat d)

-- the desks of workers, in the order of their numbers
abbrev pub AreDesks : Design → List Desk → Type 0
AreDesks d desks = (worker : ℕ) (desk : Desk) → worker < length desks → IsDesk d worker (get_or desks worker desk)

-- a worker of the round, whose items have numbers of 64 bits, and who may go on from where it stands
abbrev pub IsReady : Design → Round → Desk → Type 0
IsReady d round desk = (desk.worker < round.workers) × (round.first + round.workers * round.most.items < 2 ^ 64) × ForSome desk.seat (IsSeat d)

-- the lines that a worker made of items, where there was memory for them
abbrev pub IsMade : Design → List Item → Most → Lines → Type 0
IsMade d items most lines = IfOk lines.made (λ count. IsPart d items most count lines.text.items)

-- the lines of each worker, each of whom begins so many items behind the one before
abbrev pub AreParts : Design → List Item → Most → List Lines → Type 0
AreParts d items most all = (worker : ℕ) (lines : Lines) → worker < length all → IsMade d (drop (worker * most.items) items) most (get_or all worker lines)

-- the same of the lines that stand at the desks of workers
abbrev pub AreMade : Design → List Item → Most → List Desk → Type 0
AreMade d items most desks =
    (worker : ℕ) (desk : Desk) → worker < length desks → IsMade d (drop (worker * most.items) items) most (get_or desks worker desk).lines

-- the text of lines, those of one worker behind those of another
abbrev pub text_of : List Lines → List ℕ
text_of all = flat_map (λ (lines : Lines). lines.text.items) all

-- the text that waits
abbrev pub waiting_text : Crew → List ℕ
waiting_text crew = text_of (take crew.ready crew.waiting.items)

-- so many workers, who may go on from where they stand, and the lines of each from the round before, of which those of some are to be put
pub record IsCrew (d : Design) (workers : ℕ) (crew : Crew) : Type 0 where
  pub desks_len : length crew.desks.items ≡ workers
  pub desks : AreDesks d crew.desks.items
  pub waiting_len : length crew.waiting.items ≡ workers
  pub ready : crew.ready ≤ workers
