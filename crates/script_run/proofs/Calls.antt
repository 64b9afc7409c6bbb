-- A call that was not made, and what is held then.
use Rattle.std.proofs.Common.{◌≡◌, ◌∙◌, ℕ, List, [], sym, subst, append-nil}
use Rattle.script_spec.specs.Session.{Exchange}
use Rattle.script_run_spec.specs.Calls.{HoldsJust, Makes}
use Rattle.db_share.specs.Passes.{Shared, Pass, IsReady}
use Rattle.db_share.specs.Calls.{GoesOn, Looks}
use Rattle.script_held.specs.Holding.{IsHeldBy, held_of}
use Rattle.script_held.specs.declared.held.Held.{Held}
use Rattle.script_held.proofs.Calls.{calls_made}
use Rattle.script_run.specs.Holding.{Stands}

-- no call was made
pub no_call : (db : Shared) (old new : Pass) → IsReady db old → Looks db old new → Makes db.base old.number old.seen new.seen []
no_call db old new ready looks = calls_made db old new [] ready looks.on (looks.own ∙ sym (append-nil old.own))

-- a call of the pass's number is one of the number that it had
pub makes_later : (db : Shared) (first old new : Pass) (done : List Exchange) → old.number ≡ first.number → Makes db.base old.number old.seen new.seen done → Makes db.base first.number old.seen new.seen done
makes_later db first old new done same m = subst (λ (n : ℕ). Makes db.base n old.seen new.seen done) same m

-- what is held then, between two lines
pub stands_then : (db : Shared) (old new : Pass) (held : Held) → GoesOn db old new → HoldsJust db.base new.seen old.number (held_of held) → IsHeldBy db new held → Stands db new held
stands_then db old new held on holds mine = record {
  ready = on.ready;
  holds = subst (λ (n : ℕ). HoldsJust db.base new.seen n (held_of held)) (sym on.number) holds;
  mine = mine;
}
