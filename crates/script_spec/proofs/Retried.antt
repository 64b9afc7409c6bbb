-- The worked run of two scripts that set one property.
use Rattle.std.proofs.Common.{◌≡◌, ℕ, ◌++◌, List, [], ◌∷◌, inl, inr, refl, sym, subst, arith, length, ◌<◌}
use Rattle.std.specs.Prelude.{codes, IsTrue}
use Rattle.std.specs.Fmt.{digits}
use Rattle.std.specs.List.{All}
use Rattle.std.specs.Ordering.{is_le}
use Rattle.std.proofs.lemmas.List.Elements.{All-from_recursion}
use Rattle.netlist_schema.specs.Design.{Design}
use Rattle.netlist_schema.specs.Order.{object_cmp}
use Rattle.netlist_schema.specs.Types.{Object}
use Rattle.edit_spec.specs.Needs.{Reads}
use Rattle.edit_rules_spec.specs.declared.reply.Reply.TheVariants.{Done}
use Rattle.flat_spec.specs.ExampleParts.{id_of}
use Rattle.db_spec.specs.Answers.{IsConflict, HasNoConflict}
use Rattle.db_spec.specs.Example.{event}
use Rattle.db_spec.specs.History.{Legal, version_at}
use Rattle.db_spec.specs.State.{State, opening, after}
use Rattle.db_spec.specs.declared.event.Answer.TheVariants as answer
use Rattle.db_spec.specs.declared.event.Call.TheVariants as call
use Rattle.db_spec.specs.declared.event.Event.{Event}
use Rattle.script_spec.specs.Example.{board}
use Rattle.script_spec.specs.ExampleRetry.{set_k, sets, scripts, retry_history, retry_lines, results}
use Rattle.script_spec.specs.Objects.{face_object}
use Rattle.script_spec.specs.Report.{Sessions, SessionResult, HasFilled, head_design, script_texts}
use Rattle.script_spec.specs.Texts.{line, event_texts}
use Rattle.script_spec.specs.Session.{Runs, Nothing, InBlock, Whole, Began, Replied, Committed, Conflict, Told, release}

-- the object that both scripts write
abbrev face : Object
face = face_object (id_of 0 0)

-- the state before the first commit, before the second, and before the third
abbrev pinned : State
pinned = after (after (opening board) (event 0 call.Pin (answer.Pinned 0 0))) (event 1 call.Pin (answer.Pinned 1 0))

abbrev first_done : State
first_done = after (after pinned (event 1 (call.Commit 1 (set_k 2 ∷ [])) (answer.Committed 1 (Done ∷ [])))) (event 1 (call.Release 1) answer.Released)

abbrev pinned_again : State
pinned_again =
    after (after (after first_done (event 0 (call.Commit 0 (set_k 1 ∷ [])) (answer.Conflict face 1))) (event 0 (call.Release 0) answer.Released))
    (event 0 call.Pin (answer.Pinned 2 1))

first_free : HasNoConflict pinned 0 (set_k 2 ∷ [])
first_free object w c = let later = c.later in let there = c.there in omega arith

third_free : HasNoConflict pinned_again 1 (set_k 1 ∷ [])
third_free object w c = let later = c.later in let there = c.there in omega arith

reads_only_face : (object : Object) → Reads board (set_k 1 ∷ []) object → object ≡ face
reads_only_face object (inl e) = e
reads_only_face object (inr none) = absurd none

face_least : (other : Object) → other ≡ face → IsTrue (is_le (object_cmp face other))
face_least other e = subst (λ (o : Object). IsTrue (is_le (object_cmp face o))) (sym e) refl

second_conflicts : IsConflict first_done 0 (set_k 1 ∷ []) face 1
second_conflicts = record {
  clashes = record { read = inl refl; later = omega arith; there = omega arith; written = inl (inl refl) };
  least = λ other u c. face_least other (reads_only_face other c.read);
  greatest = λ u c. c.there;
}

pub legal : Legal board retry_history
legal = (
  record { room = omega arith; callers = tt; answers = (refl, refl) },
  (
    record { room = omega arith; callers = tt; answers = (refl, refl) },
    (
      record { room = omega arith; callers = (0, (1, omega arith, refl)); answers = (0, (1, omega arith, refl), first_free, refl, refl) },
      (
        record { room = tt; callers = (0, (1, omega arith, refl)); answers = tt },
        (
          record { room = omega arith; callers = (0, (0, omega arith, refl)); answers = (0, (0, omega arith, refl), second_conflicts) },
          (
            record { room = tt; callers = (0, (0, omega arith, refl)); answers = tt },
            (
              record { room = omega arith; callers = tt; answers = (refl, refl) },
              (
                record { room = omega arith; callers = (1, (0, omega arith, refl)); answers = (1, (0, omega arith, refl), third_free, refl, refl) },
                (
                  record { room = tt; callers = (1, (0, omega arith, refl)); answers = tt },
                  tt,
                ),
              ),
            ),
          ),
        ),
      ),
    ),
  ),
)

-- the versions of the history
abbrev version : ℕ → Design
version = version_at board retry_history

-- script 0 meets a conflict on pin 0 and is run again on pin 2
run_twice : Runs version Nothing (sets 1)
    (Told call.Pin (answer.Pinned 0 0) ∷ Told (call.Commit 0 (set_k 1 ∷ [])) (answer.Conflict face 1) ∷ release 0
    ∷ Told call.Pin (answer.Pinned 2 1) ∷ Told (call.Commit 2 (set_k 1 ∷ [])) (answer.Committed 2 (Done ∷ [])) ∷ release 2 ∷ [])
    (Began 0 ∷ Replied Done ∷ Conflict face 1 ∷ Began 1 ∷ Replied Done ∷ Committed 2 ∷ []) Whole
run_twice =
    inr (
      InBlock 0 0 1 [],
      Told call.Pin (answer.Pinned 0 0) ∷ [],
      Told (call.Commit 0 (set_k 1 ∷ [])) (answer.Conflict face 1) ∷ release 0 ∷ Told call.Pin (answer.Pinned 2 1) ∷ Told (call.Commit 2 (set_k 1 ∷ [])) (answer.Committed 2 (Done ∷ [])) ∷ release 2 ∷ [],
      Began 0 ∷ [],
      Replied Done ∷ Conflict face 1 ∷ Began 1 ∷ Replied Done ∷ Committed 2 ∷ [],
      refl,
      refl,
      inr (0, 0, (refl, refl, refl)),
      inr (
        InBlock 0 0 1 (set_k 1 ∷ []),
        [],
        Told (call.Commit 0 (set_k 1 ∷ [])) (answer.Conflict face 1) ∷ release 0 ∷ Told call.Pin (answer.Pinned 2 1) ∷ Told (call.Commit 2 (set_k 1 ∷ [])) (answer.Committed 2 (Done ∷ [])) ∷ release 2 ∷ [],
        Replied Done ∷ [],
        Conflict face 1 ∷ Began 1 ∷ Replied Done ∷ Committed 2 ∷ [],
        refl,
        refl,
        (refl, refl, refl),
        inr (
          Nothing,
          Told (call.Commit 0 (set_k 1 ∷ [])) (answer.Conflict face 1) ∷ release 0 ∷ Told call.Pin (answer.Pinned 2 1) ∷ Told (call.Commit 2 (set_k 1 ∷ [])) (answer.Committed 2 (Done ∷ [])) ∷ release 2 ∷ [],
          [],
          Conflict face 1 ∷ Began 1 ∷ Replied Done ∷ Committed 2 ∷ [],
          [],
          refl,
          refl,
          inr (inr (
            face,
            1,
            Told call.Pin (answer.Pinned 2 1) ∷ Told (call.Commit 2 (set_k 1 ∷ [])) (answer.Committed 2 (Done ∷ [])) ∷ release 2 ∷ [],
            Began 1 ∷ Replied Done ∷ Committed 2 ∷ [],
            refl,
            refl,
            inr (
              2,
              1,
              Told (call.Commit 2 (set_k 1 ∷ [])) (answer.Committed 2 (Done ∷ [])) ∷ release 2 ∷ [],
              Committed 2 ∷ [],
              refl,
              refl,
              inr (inl (2, Done ∷ [], (refl, refl, refl))),
            ),
          )),
          (refl, refl, refl),
        ),
      ),
    )

run_once : Runs version Nothing (sets 2)
    (Told call.Pin (answer.Pinned 1 0) ∷ Told (call.Commit 1 (set_k 2 ∷ [])) (answer.Committed 1 (Done ∷ [])) ∷ release 1 ∷ [])
    (Began 0 ∷ Replied Done ∷ Committed 1 ∷ []) Whole
run_once =
    inr (
      InBlock 1 0 1 [],
      Told call.Pin (answer.Pinned 1 0) ∷ [],
      Told (call.Commit 1 (set_k 2 ∷ [])) (answer.Committed 1 (Done ∷ [])) ∷ release 1 ∷ [],
      Began 0 ∷ [],
      Replied Done ∷ Committed 1 ∷ [],
      refl,
      refl,
      inr (1, 0, (refl, refl, refl)),
      inr (
        InBlock 1 0 1 (set_k 2 ∷ []),
        [],
        Told (call.Commit 1 (set_k 2 ∷ [])) (answer.Committed 1 (Done ∷ [])) ∷ release 1 ∷ [],
        Replied Done ∷ [],
        Committed 1 ∷ [],
        refl,
        refl,
        (refl, refl, refl),
        inr (
          Nothing,
          Told (call.Commit 1 (set_k 2 ∷ [])) (answer.Committed 1 (Done ∷ [])) ∷ release 1 ∷ [],
          [],
          Committed 1 ∷ [],
          [],
          refl,
          refl,
          inr (inl (1, Done ∷ [], (refl, refl, refl))),
          (refl, refl, refl),
        ),
      ),
    )

pub fit : Sessions board retry_history 0 scripts results
fit = (run_twice, (run_once, tt))

pub callers : All (λ (event : Event). event.caller < length scripts) retry_history
callers = All-from_recursion (λ (event : Event). event.caller < length scripts) retry_history
    (omega arith, (omega arith, (omega arith, (omega arith, (omega arith, (omega arith, (omega arith, (omega arith, (omega arith, tt)))))))))

pub filled : All (λ (came : SessionResult). HasFilled retry_history came.ending) results
filled = All-from_recursion (λ (came : SessionResult). HasFilled retry_history came.ending) results (tt, (tt, tt))

-- the report where this is the text of the last version
abbrev report_with : List ℕ → List ℕ
report_with last =
    line (codes "history" ∷ [])
    ++ event_texts (head_design board retry_history) 0 retry_history
    ++ script_texts board retry_history 0 results
    ++ line (codes "design" ∷ [])
    ++ last

pub printed : (last : List ℕ) → retry_lines ++ last ≡ report_with last
unfolding digits
printed last = refl
