use Rattle.std.proofs.Common.{rules, ◌≡◌, ◌⊎◌, ◌<◌, List, length, All, Contains, sym, subst}
use Rattle.turn_cell.specs.Seats.{SeatFacts}
use Rattle.turn_cell.proofs.Facts.{in_or_taken, in_before}
use Rattle.turn_cell.proofs.turn.take_first.Goals as goal

pub returns-clause-others : goal.returns-clause-others
returns-clause-others g c = let all : List (SeatFacts g.row.V-Base.Denot g.row.V-Entry.Denot) = c.args.seats.now.items in
    let less : c.in-Some.place < length all = search rules in (
      subst (λ left. All (λ s. Contains left s ⊎ (s ≡ c.remove.result)) all) (sym c.remove.ensures.items) (in_or_taken all c.in-Some.place c.remove.result less c.remove.ensures.value),
      subst (λ left. All (Contains all) left) (sym c.remove.ensures.items) (in_before all c.in-Some.place),
    )
