use Rattle.std.proofs.Common.{◌≡◌, ⊎_elim, get_or, sym, subst}
use Rattle.std.proofs.lemmas.List.Elements.{All-contains}
use Rattle.turn_cell.specs.Seats.{SeatFacts, IsAtRest}
use Rattle.turn_cell.specs.Views.{IsIn}
use Rattle.turn_cell.proofs.Facts.{in_own}
use Rattle.turn_cell.proofs.turn.gather.Goals as goal

pub join_all-requires-clause-others : goal.join_all-requires-clause-others
join_all-requires-clause-others g c = λ k d less.
    All-contains (λ (s : SeatFacts g.row.V-Base.Denot g.row.V-Entry.Denot). (s.turn ≡ c.args.shared.now.table_id) × IsAtRest s) c.args.seats.items (get_or c.take_first.new.seats.items k d) c.requires.own (c.take_first.ensures.others.1 k d less)

pub returns-clause-all : goal.returns-clause-all
returns-clause-all g c = λ k d less. ⊎_elim
    (λ left. All-contains (IsIn c.join_all.result.me.0) c.take_first.new.seats.items (get_or c.args.seats.items k d) c.join_all.ensures.others left)
    (λ is. subst (IsIn c.join_all.result.me.0) (sym is) (c.join_all.ensures.first c.take_first.result (in_own _ _ _ _ c.first.invariant.0 c.first.view_is)))
    (c.take_first.ensures.others.0 k d less)
