use Rattle.std.proofs.Common.{◌<◌, ℕ, Some, All, sym, ap, ◌∙◌, subst}
use Rattle.turn_cell.specs.Seats.{TurnFacts, SeatFacts, AgreeWith}
use Rattle.turn_cell.proofs.Facts.{some_none, some_same}
use Rattle.turn_cell.proofs.Calls.{closes_turn}
use Rattle.turn_cell.proofs.turn.Turn.close.Goals as goal

pub unreachable-requires : goal.unreachable-requires
unreachable-requires g c =
    let seats = ap (λ (t : TurnFacts g.row.V-Base.Denot). t.seats) c.self.view_is in
    let out = closes_turn g.V.Logged.base g.V.Logged.entries g.V.Logged.made_by _ _ _ _ _ _ c.args.seats.items _ c.close_with-closed.ensures.values.2 c.gather-first.ensures.own.1 c.gather-first.ensures.all
    (λ n less. c.requires.all n (subst (λ (k : ℕ). n < k) seats less)) c.take-slot.ensures.value in
    some_none out.0 (sym out.1 ∙ c.in-None.is)

pub returns-clause-base : goal.returns-clause-base
returns-clause-base g c =
    let seats = ap (λ (t : TurnFacts g.row.V-Base.Denot). t.seats) c.self.view_is in
    let base = ap (λ (t : TurnFacts g.row.V-Base.Denot). t.base) c.self.view_is in
    let out = closes_turn g.V.Logged.base g.V.Logged.entries g.V.Logged.made_by _ _ _ _ _ _ c.args.seats.items _ c.close_with-closed.ensures.values.2 c.gather-first.ensures.own.1 c.gather-first.ensures.all
    (λ n less. c.requires.all n (subst (λ (k : ℕ). n < k) seats less)) c.take-slot.ensures.value in
    let same = some_same out.0 c.in-Some.value (sym out.1 ∙ c.in-Some.is) in
    let here = ap g.V.Logged.base (sym same) ∙ out.2 in
    (here ∙ base, λ k d less. out.3 k d less ∙ ap (λ (b : g.row.V-Base.Denot). Some b) (sym here))

pub returns-clause-seats : goal.returns-clause-seats
returns-clause-seats g c =
    let seats = ap (λ (t : TurnFacts g.row.V-Base.Denot). t.seats) c.self.view_is in
    let out = closes_turn g.V.Logged.base g.V.Logged.entries g.V.Logged.made_by _ _ _ _ _ _ c.args.seats.items _ c.close_with-closed.ensures.values.2 c.gather-first.ensures.own.1 c.gather-first.ensures.all
    (λ n less. c.requires.all n (subst (λ (k : ℕ). n < k) seats less)) c.take-slot.ensures.value in
    subst (λ x. All (λ (s : SeatFacts g.row.V-Base.Denot g.row.V-Entry.Denot). AgreeWith g.V.Logged.made_by (g.V.Logged.entries x) s.number s.seen s.own) c.args.seats.items) (some_same out.0 c.in-Some.value (sym out.1 ∙ c.in-Some.is)) out.4

pub returns-clause-others : goal.returns-clause-others
returns-clause-others g c =
    let seats = ap (λ (t : TurnFacts g.row.V-Base.Denot). t.seats) c.self.view_is in
    let out = closes_turn g.V.Logged.base g.V.Logged.entries g.V.Logged.made_by _ _ _ _ _ _ c.args.seats.items _ c.close_with-closed.ensures.values.2 c.gather-first.ensures.own.1 c.gather-first.ensures.all
    (λ n less. c.requires.all n (subst (λ (k : ℕ). n < k) seats less)) c.take-slot.ensures.value in
    subst (λ (x : ℕ × g.row.V.Denot). All (λ e. g.V.Logged.made_by e < x.0) (g.V.Logged.entries x.1)) (λ i. (seats i, some_same out.0 c.in-Some.value (sym out.1 ∙ c.in-Some.is) i)) out.5
