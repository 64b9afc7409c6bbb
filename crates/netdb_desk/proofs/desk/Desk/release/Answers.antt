use Rattle.std.proofs.Common.{List, sym, ap, ◌∙◌, subst}
use Rattle.db_core.specs.Story.{Story}
use Rattle.netdb_desk.specs.Seats.{DeskFacts, IsDesk, IsPinAt}
use Rattle.netdb_desk.specs.declared.held.Held.{Held}
use Rattle.netdb_desk.proofs.Seating.{desk, desk_released}
use Rattle.netdb_desk.proofs.desk.Desk.release.Goals as goal

pub invariant_of-self : goal.invariant_of-self
invariant_of-self c =
    let was = c.self.view_is ∙ c.in-Some.ensures.some.1 in
    let seats = ap (λ (d : DeskFacts). d.seats) was in
    let own = subst (λ (s : Story). IsPinAt s c.args.seat c.in-Some.pin) (sym (ap (λ (d : DeskFacts). d.story) was)) c.in-Some.ensures.own in
    subst (λ (l : List Held). IsDesk (desk c.release.new.self l)) (sym seats)
    (desk_released c.self.inside.core c.release.new.self c.in-Some.pin c.args.seat c.args.self.now.seats c.history_is_legal.ensures.history c.release.ensures own
    (subst (λ (l : List Held). IsDesk (desk c.self.inside.core l)) seats c.self.invariant))
