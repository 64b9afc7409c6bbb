-- A call's turn: what the pass knows in it, and what it leaves.
use Rattle.std.proofs.Common.{◌≡◌, ℕ, Bool, List, [], ◌∷◌, ◌++◌, Option, Some, None, refl, ap, sym, ◌∙◌, subst}
use mathlib.Core.List.{IsPrefix}
use Rattle.netlist_schema.specs.Design.{Design}
use Rattle.db_spec.specs.declared.event.Answer.{Answer}
use Rattle.db_spec.specs.declared.event.Call.{Call}
use Rattle.db_spec.specs.declared.event.Event.{Event}
use Rattle.db_spec.specs.Answers.{Admits}
use Rattle.turn_cell.specs.Seats.{AgreeWith, HasTheTurn, IsAtRest, IsSameSeat, entries_of, taken}
use Rattle.db_core.specs.Calls.{Adds, event_of}
use Rattle.db_core.specs.Story.{Story, IsHistory, state}
use Rattle.db_share.specs.Passes.{Shared, Pass, IsReady, maker, story}
use Rattle.db_share.specs.Calls.{GoesOn, Looks, Makes}
use Rattle.db_share.specs.Inside.{Enters, HasTurn, Leaves, Steps}
use Rattle.db_share.proofs.Own.{own_more}

abbrev option_or : Option Design → Design → Design
option_or None d = d
option_or (Some e) d = e

same_opening : (db : Shared) (old new : Pass) (core : Story) → IsReady db old → new.base ≡ Some core.opening → IsSameSeat old new → core.opening ≡ db.base
same_opening db old new core ready base same = ap (λ (o : Option Design). option_or o core.opening) (sym base ∙ (same.2 ∙ ready.base))

pub took : (db : Shared) (old new : Pass) (core : Story) → IsReady db old → new.base ≡ Some core.opening → taken new ≡ core.events → IsSameSeat old new → core ≡ story db (taken new)
took db old new core ready base events same = λ k. record { opening = same_opening db old new core ready base same k; events = (sym events) k }

pub enters : (db : Shared) (old new : Pass) (core : Story) → IsReady db old → new.base ≡ Some core.opening → HasTheTurn new → taken new ≡ core.events → AgreeWith maker core.events new.number new.seen new.own
    → IsSameSeat old new → new.seen ≡ old.seen → new.own ≡ old.own → IsHistory core → Enters db old new
enters db old new core ready base has events agree same seen own history = record {
  turn = record {
    turn = same.0 ∙ ready.turn;
    base = same.2 ∙ ready.base;
    has = has;
    history = subst IsHistory (took db old new core ready base events same) history;
    log = subst (λ (xs : List Event). AgreeWith maker xs new.number new.seen new.own) (sym events) agree;
  };
  number = same.1;
  seen = seen;
  own = own;
}

pub leaves : (db : Shared) (old new : Pass) (core : Story) (added : Bool) → HasTurn db old → Steps old.number added (story db (taken old)) core → IsHistory core → IsAtRest new → IsSameSeat old new → new.seen ≡ core.events
    → IsPrefix old.seen new.seen → new.own ≡ entries_of maker new.number new.seen → Leaves db old new core
leaves db old new core added turn steps history rest same seen prefix own =
    let left : core ≡ story db new.seen = λ k. record { opening = steps.base k; events = (sym seen) k } in record {
      on = record {
        ready = record {
          turn = same.0 ∙ turn.turn;
          base = same.2 ∙ turn.base;
          rest = rest;
          history = subst IsHistory left history;
          own = own;
        };
        number = same.1;
        seen = prefix;
      };
      seen = seen;
      left = left;
    }

-- what the core did, as the turn wants it told
pub steps_at : (number caller : ℕ) (told added : Bool) (story before after : Story) → caller ≡ number → told ≡ added → before ≡ story → Steps caller added before after → Steps number told story after
steps_at number caller told added story before after mine is took steps =
    subst (λ (s : Story). Steps number told s after) took (subst (λ (n : ℕ). Steps n told before after) mine (subst (λ (b : Bool). Steps caller b before after) (sym is) steps))

pub goes_on : (db : Shared) (old mid new : Pass) (core : Story) → Enters db old mid → Leaves db mid new core → GoesOn db old new
goes_on db old mid new core enters leaves = record {
  ready = leaves.on.ready;
  number = leaves.on.number ∙ enters.number;
  seen = subst (λ (xs : List Event). IsPrefix xs new.seen) enters.seen leaves.on.seen;
}

-- the call was no event
pub looks : (db : Shared) (old mid new : Pass) (core : Story) → Enters db old mid → core ≡ story db (taken mid) → Leaves db mid new core → Looks db old new
looks db old mid new core enters same leaves =
    let on = goes_on db old mid new core enters leaves in
    let seen : new.seen ≡ taken mid = leaves.seen ∙ ap (λ (c : Story). c.events) same in record {
      on = on;
      own = on.ready.own ∙ (λ k. entries_of maker (leaves.on.number k) (seen k)) ∙ sym enters.turn.log.1 ∙ enters.own;
    }

-- the call was an event
pub makes : (db : Shared) (old mid new : Pass) (core : Story) (call : Call) (answer : Answer) → Enters db old mid → Adds (story db (taken mid)) core (event_of mid.number call answer) → Leaves db mid new core → Makes db old new call answer
makes db old mid new core call answer enters adds leaves =
    let on = goes_on db old mid new core enters leaves in
    let event : ℕ → Event = λ n. event_of n call answer in
    let seen : new.seen ≡ taken mid ++ event mid.number ∷ [] = leaves.seen ∙ adds.events in
    let own : new.own ≡ mid.own ++ event mid.number ∷ [] =
    on.ready.own ∙ (λ k. entries_of maker (leaves.on.number k) (seen k)) ∙ own_more mid.number (taken mid) (event mid.number) refl
    ∙ ap (λ (xs : List Event). xs ++ event mid.number ∷ []) (sym enters.turn.log.1) in record {
      on = on;
      log = taken mid;
      before = subst (λ (xs : List Event). IsPrefix xs (taken mid)) enters.seen enters.turn.log.0;
      admits = subst (λ (n : ℕ). Admits (state (story db (taken mid))) (event n)) enters.number adds.admits;
      seen = seen ∙ ap (λ (n : ℕ). taken mid ++ event n ∷ []) enters.number;
      own = own ∙ λ k. enters.own k ++ event (enters.number k) ∷ [];
    }
