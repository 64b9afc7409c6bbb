use Rattle.std.proofs.Common.{List, sym, ap, ◌∙◌, subst}
use Rattle.db_core.specs.Story.{Story}
use Rattle.netdb_desk.specs.Seats.{DeskFacts, IsDesk, IsPinAt}
use Rattle.netdb_desk.specs.declared.held.Held.{Held}
use Rattle.netdb_desk.proofs.Seating.{desk, desk_commits}
use Rattle.netdb_desk.proofs.Turning.{accepted, goes_on}
use Rattle.netdb_desk.proofs.desk.Desk.commit.Goals as goal

pub invariant_of-self : goal.invariant_of-self
invariant_of-self c =
    let was = c.self.view_is ∙ c.in-Some.ensures.some.1 in
    let own = subst (λ (s : Story). IsPinAt s c.args.seat c.in-Some.tx.pin) (sym (ap (λ (d : DeskFacts). d.story) was)) c.in-Some.ensures.own in
    subst (λ (l : List Held). IsDesk (desk c.commit.new.self l)) (sym c.swap.ensures.put)
    (desk_commits c.self.inside.core c.commit.new.self c.self.inside.seats.items c.args.seat c.in-Some.tx c.in-Ok.version c.in-Ok.pin c.history_is_legal.ensures.history c.in-Ok.ensures own c.self.invariant)

pub returns-in-Ok : goal.returns-in-Ok
returns-in-Ok c =
    accepted c.args.self.now c.self.inside.core c.commit.new.self c.self.inside.seats.items c.swap.new.seats.items c.args.seat c.in-Some.tx c.in-Ok.version c.in-Ok.pin
    c.in-Some.ensures.some.0 (c.self.view_is ∙ c.in-Some.ensures.some.1) c.in-Ok.ensures c.swap.ensures.put

pub returns-in-Err : goal.returns-in-Err
returns-in-Err c =
    goes_on c.args.self.now c.self.inside.core c.commit.new.self c.self.inside.seats.items c.swap-in-Err.new.seats.items c.args.seat c.in-Some.tx c.in-Err.tx c.in-Err.error
    c.in-Some.ensures.some.0 (c.self.view_is ∙ c.in-Some.ensures.some.1) c.in-Err.ensures c.swap-in-Err.ensures.put
