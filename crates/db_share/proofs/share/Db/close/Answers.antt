use Rattle.std.proofs.Common.{All, ◌<◌, ◌∙◌, ap, sym, subst}
use Rattle.db_spec.specs.declared.event.Event.{Event}
use Rattle.turn_cell.specs.Seats.{AgreeWith}
use Rattle.db_core.specs.Story.{Story}
use Rattle.db_share.specs.Passes.{Pass, Shared, maker}
use Rattle.db_share.proofs.share.Db.close.Goals as goal

pub returns : goal.returns
returns c =
    let same = sym c.core.view_is in
    let db = c.self.view_is in record {
      opening = ap (λ (s : Story). s.opening) c.core.view_is ∙ (c.close.ensures.base.0 ∙ ap (λ (d : Shared). d.base) db);
      history = c.history_is_legal.ensures.history;
      each = subst (λ (s : Story). All (λ (p : Pass). AgreeWith maker s.events p.number p.seen p.own) c.args.passes.items) same c.close.ensures.seats;
      others = subst (λ (x : Story × Shared). All (λ (event : Event). event.caller < x.1.seats) x.0.events) (λ k. (same k, db k)) c.close.ensures.others;
    }
