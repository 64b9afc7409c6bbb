use Rattle.std.proofs.Common.{◌≡◌, ◌+◌, map, take}
use Rattle.edit_cells.specs.State.{HasReadSome}
use Rattle.uniquify_copies.specs.Changes.{turned_at}
use Rattle.uniquify_copies.specs.Seats.{copies_of, seats}
use Rattle.uniquify_copies.proofs.turn.turn_all.Given as goal

-- instances of the spots so far are turned
abbrev pub invariant-loop-spot : goal.invariant-loop-spot
invariant-loop-spot g l = record {
  turned : l.made ≡ map (turned_at (g.C.Cells.state l.fn.cells).design (copies_of (take (l.spot-index + 1) (seats l.top l.spots)))) (seats l.top l.spots);
  some : HasReadSome (g.C.Cells.state l.fn.cells) (g.C.Cells.state l.cells);
}
