use Rattle.std.proofs.Common.{◌≡◌, ◌∷◌, All, sym, ap, ◌∙◌, subst}
use Rattle.std.proofs.lemmas.List.Elements.{All-contains, All-cons}
use Rattle.turn_cell.specs.Seats.{SeatFacts, IsAtRest}
use Rattle.turn_cell.specs.Views.{IsLive, IsResting, IsIn, in_hand}
use Rattle.turn_cell.specs.Steps.{with_joined}
use Rattle.turn_cell.proofs.Facts.{taken_more, taken_in, same_phase, resting_of, still_first, still_resting, joined_last, joined_more}
use Rattle.turn_cell.proofs.Calls.{joins_seat}
use Rattle.turn_cell.proofs.turn.join_all.Goals as goal

pub join_seat-requires : goal.join_seat-requires
join_seat-requires g c = let inv = c.loop-other.invariant in let gone = inv.gone in
    let all = taken_more c.args.others.items c.loop-other.others.items c.pop.new.self.items gone.0 c.in-Some.other gone.1 c.in-Some.ensures.items in
    let own = All-contains (λ (s : SeatFacts g.row.V-Base.Denot g.row.V-Entry.Denot). (s.turn ≡ c.args.shared.now.table_id) × IsAtRest s) c.args.others.items c.in-Some.other c.requires.others (taken_in _ _ _ _ all) in
    let rest = same_phase _ _ _ c.other.view_is own.1 in (
      inv.own,
      ap (λ s. s.turn) c.other.view_is ∙ own.0,
      c.other.invariant.1 ∙ ap in_hand rest,
      c.requires.table.1,
      joins_seat g.V.Logged.base g.V.Logged.entries g.V.Logged.made_by _ _ _ _ _ _ inv.first inv.rest (resting_of _ _ c.other.invariant.0 rest),
    )

pub loop-other-preserved : goal.loop-other-preserved
loop-other-preserved g c = let inv = c.loop-other.invariant in let gone = inv.gone in
    let all = taken_more c.args.others.items c.loop-other.others.items c.pop.new.self.items gone.0 c.in-Some.other gone.1 c.in-Some.ensures.items in
    let me = ap (λ m. m.0) c.join_seat.ensures.2 in record {
      own = c.join_seat.ensures.0 ∙ inv.own;
      first = subst (IsLive 0) (sym me) (still_first _ _ inv.first);
      rest = subst IsResting (sym me) (still_resting _ _ inv.rest);
      kept = λ s was. subst (λ v. IsIn v s) (sym me) (joined_more _ _ s (inv.kept s was));
      gone = (
        c.in-Some.other ∷ gone.0,
        all,
        subst (λ v. All (IsIn v) (c.in-Some.other ∷ gone.0)) (sym me)
            (All-cons (IsIn (with_joined c.loop-other.first.me.0 c.other.inside.seat.me.0)) c.in-Some.other gone.0 (joined_last _ _ _ _ _ inv.rest c.other.invariant.0 c.other.view_is)
            (λ k d less. joined_more _ _ _ (gone.2 k d less))),
      );
    }
