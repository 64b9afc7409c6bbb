use Rattle.std.proofs.Common.{◌≡◌, ◌++◌, drop, length, map, take, Option}
use Rattle.std.specs.List.{flat_map}
use Rattle.netlist_schema.specs.Types.{Contents}
use Rattle.uniquify_copies.specs.Changes.{copied_inner, kept_inner}
use Rattle.uniquify_copies.specs.Seats.{Seat, seats}
use Rattle.uniquify_copies.proofs.change.add_inners.Given as goal

-- the seats so far, and the contents of the others
abbrev pub invariant-loop-number : goal.invariant-loop-number
invariant-loop-number l = record {
  long : length l.contents ≡ length (seats l.top l.spots);
  left : drop l.number l.contents ≡ drop l.number l.fn.contents;
  copied : (f : Seat → Option Contents) → l.fn.contents ≡ map f (seats l.top l.spots) → l.changes.items ≡ l.fn.changes.items ++ flat_map (copied_inner f) (take l.number (seats l.top l.spots));
  kept : (f : Seat → Option Contents) → l.fn.contents ≡ map f (seats l.top l.spots) → l.kept.items ≡ flat_map (kept_inner f) (take l.number (seats l.top l.spots));
}
