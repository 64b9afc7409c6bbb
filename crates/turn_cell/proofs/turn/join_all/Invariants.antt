use Rattle.std.proofs.Common.{◌≡◌, List, ◌++◌, All}
use Rattle.turn_cell.specs.Seats.{SeatFacts}
use Rattle.turn_cell.specs.Views.{IsLive, IsResting, IsIn}
use Rattle.turn_cell.proofs.turn.join_all.Given as goal

abbrev pub invariant-loop-other : goal.invariant-loop-other
invariant-loop-other g l = record {
  own : l.first.table_id ≡ l.shared.table_id;
  first : IsLive 0 l.first.me.0;
  rest : IsResting l.first.me.0;
  kept : (s : SeatFacts g.row.V-Base.Denot g.row.V-Entry.Denot) → IsIn l.initial.first.me.0 s → IsIn l.first.me.0 s;
  gone : (gone : List (SeatFacts g.row.V-Base.Denot g.row.V-Entry.Denot)) × (l.fn.others.items ≡ l.others.items ++ gone) × All (IsIn l.first.me.0) gone;
}

abbrev pub decreases-loop-other : goal.decreases-loop-other
decreases-loop-other g l = goal.left-loop-other g l
