-- A seat whose thing was taken out, and what is then put there.
use Rattle.std.proofs.Common.{◌≡◌, ℕ, List, sym, ap, ◌∙◌, subst}
use Rattle.std.specs.Prelude.{Some, set, Result, Ok, Err}
use Rattle.std.proofs.lemmas.List.{set-set}
use Rattle.edit_tx.specs.Facts.{PinFacts, TxFacts}
use Rattle.db_core.specs.Calls.{Accepts, IsRefused}
use Rattle.db_core.specs.Story.{Story}
use Rattle.db_core.specs.declared.errors.CommitError.{CommitError}
use Rattle.netdb_desk.specs.Calls.{GoesOn, IsAccepted, RunsIn, RunsSeat}
use Rattle.netdb_desk.specs.Seats.{DeskFacts, held_at, with_seat}
use Rattle.netdb_desk.specs.declared.held.Held.{Held}
use Rattle.netdb_desk.specs.declared.held.Held.TheVariants.{Nothing, OnPin, InTx}
use Rattle.netdb_desk.specs.declared.line.LineError.{LineError}
use Rattle.netdb_desk.proofs.Rows.{set_same}
use Rattle.netdb_desk.proofs.Seating.{desk}

-- another thing is put
pub put_over : (d e f : DeskFacts) (seat : ℕ) (held : Held) → e ≡ with_seat d seat Nothing → f ≡ with_seat e seat held → f ≡ with_seat d seat held
put_over d e f seat held was put = put ∙ (ap (λ (x : DeskFacts). with_seat x seat held) was ∙ ap (λ (l : List Held). desk d.story l) (set-set d.seats seat Nothing held))

-- the same thing is put
pub put_again : (d e f : DeskFacts) (seat : ℕ) (held : Held) → held_at d seat ≡ Some held → e ≡ with_seat d seat Nothing → f ≡ with_seat e seat held → f ≡ d
put_again d e f seat held at was put = put_over d e f seat held was put ∙ ap (λ (l : List Held). desk d.story l) (set_same d.seats seat held at)

-- a line was run, or not, in the transaction that was taken
pub runs : (d e f : DeskFacts) (seat : ℕ) (tx next : TxFacts) (line : List ℕ) (answer : Result (Unit {0}) LineError) → held_at d seat ≡ Some (InTx tx) → e ≡ with_seat d seat Nothing → f ≡ with_seat e seat (InTx next)
    → RunsIn tx next line answer → RunsSeat d f seat line (Ok answer)
runs d e f seat tx next line (Ok done) at was put run = record { tx = tx; held = at; next = next; run = run; holds = put_over d e f seat (InTx next) was put }
runs d e f seat tx next line (Err error) at was put (same, says) =
    ((tx, at), put_again d e f seat (InTx next) (at ∙ ap (λ (t : TxFacts). Some (InTx t)) (sym same)) was put, says)

-- the transaction that was taken is accepted, and its pin put
pub accepted : (d : DeskFacts) (old new : Story) (left seats : List Held) (seat : ℕ) (tx : TxFacts) (version : ℕ) (pin : PinFacts) → held_at d seat ≡ Some (InTx tx) → desk old left ≡ with_seat d seat Nothing
    → Accepts old new tx version pin → seats ≡ set left seat (OnPin pin) → IsAccepted d (desk new seats) seat version
accepted d old new left seats seat tx version pin at was accepts put = record {
  tx = tx;
  held = at;
  accepts = subst (λ (s : Story). Accepts s new tx version tx.pin) (ap (λ (x : DeskFacts). x.story) was) (subst (λ (p : PinFacts). Accepts old new tx version p) accepts.pin_is accepts);
  seats = put ∙ (ap (λ (l : List Held). set l seat (OnPin pin)) (ap (λ (x : DeskFacts). x.seats) was) ∙ (set-set d.seats seat Nothing (OnPin pin) ∙ ap (λ (p : PinFacts). set d.seats seat (OnPin p)) accepts.pin_is));
}

-- it is refused, and put again
pub goes_on : (d : DeskFacts) (old new : Story) (left seats : List Held) (seat : ℕ) (tx back : TxFacts) (error : CommitError) → held_at d seat ≡ Some (InTx tx) → desk old left ≡ with_seat d seat Nothing
    → (back ≡ tx) × IsRefused old new tx error → seats ≡ set left seat (InTx back) → GoesOn d (desk new seats) seat error
goes_on d old new left seats seat tx back error at was (same, refused) put = record {
  tx = tx;
  held = at;
  refused = subst (λ (s : Story). IsRefused s new tx error) (ap (λ (x : DeskFacts). x.story) was) refused;
  seats = put ∙ (ap (λ (l : List Held). set l seat (InTx back)) (ap (λ (x : DeskFacts). x.seats) was)
      ∙ (set-set d.seats seat Nothing (InTx back) ∙ set_same d.seats seat (InTx back) (at ∙ ap (λ (t : TxFacts). Some (InTx t)) (sym same))));
}
