-- The worked run of two writers and a walk.
use Rattle.std.proofs.Common.{◌≡◌, ◌∙◌, ℕ, ◌++◌, List, None, [], ◌∷◌, inl, inr, refl, sym, ap, subst, arith, length, ◌<◌}
use Rattle.std.specs.Prelude.{codes, decimal}
use Rattle.std.specs.List.{All}
use Rattle.std.proofs.lemmas.List.Elements.{All-from_recursion}
use Rattle.std.specs.Fmt.{digits}
use Rattle.netlist_schema.specs.Design.{Design}
use Rattle.netlist_schema.specs.Types.{Object}
use Rattle.netlist_schema.specs.declared.ids.Object.TheVariants.{Interface, Contents}
use Rattle.edit_spec.specs.Needs.{Reads}
use Rattle.edit_spec.specs.declared.ops.Op.{Op}
use Rattle.edit_spec.specs.declared.ops.Op.TheVariants.{AddNet}
use Rattle.edit_rules_spec.specs.declared.reply.Reply.TheVariants.{Done}
use Rattle.flat_spec.specs.ExampleParts.{id_of}
use Rattle.flat_spec.specs.Flattening.{flattening}
use Rattle.flat_spec.specs.Occurrences.{occurrences}
use Rattle.flat_spec.specs.Representatives.{representative}
use Rattle.flat_spec.specs.Trees.{tree}
use Rattle.flat_spec.specs.Types.{Item}
use Rattle.flat_spec.specs.declared.item.Item.TheVariants.{Enter}
use Rattle.db_spec.specs.Answers.{HasNoConflict}
use Rattle.db_spec.specs.Example.{event, in_w}
use Rattle.db_spec.specs.History.{Legal, version_at}
use Rattle.db_spec.specs.State.{State, opening, after, IsWritten}
use Rattle.db_spec.specs.declared.event.Answer.TheVariants as answer
use Rattle.db_spec.specs.declared.event.Call.TheVariants as call
use Rattle.db_spec.specs.declared.event.Event.{Event}
use Rattle.edif_spelling_spec.proofs.RowLemmas.{identifier-from_is_name}
use Rattle.flat_lines_spec.specs.Lines.{flattening_text, item_lines, last_line, shown_items}
use Rattle.script_spec.specs.Example.{board, text_of}
use Rattle.script_spec.specs.ScriptText.{Says, Block, Free}
use Rattle.script_spec.specs.ExampleParallel.{IsScriptA, n_in_a, m_in_b, scripts, parallel_history, parallel_lines, results}
use Rattle.script_spec.specs.Report.{Sessions, SessionResult, HasFilled, head_design, transcript}
use Rattle.script_spec.specs.Texts.{line, event_texts}
use Rattle.script_spec.specs.Session.{Runs, Nothing, OnPin, InBlock, Whole, Began, Replied, Committed, Pinned, Walked, Released, Told, release, reply_behind}
use Rattle.script_spec.specs.declared.script.Step.TheVariants.{Begin, Run, Commit, Pin, Walk, Release}

-- the state before the first commit, and before the second
abbrev pinned : State
pinned = after (after (after (opening board) (event 2 call.Pin (answer.Pinned 0 0))) (event 0 call.Pin (answer.Pinned 1 0))) (event 1 call.Pin (answer.Pinned 2 0))

abbrev first_done : State
first_done = after (after pinned (event 1 (call.Commit 2 m_in_b) (answer.Committed 1 (Done ∷ [])))) (event 1 (call.Release 2) answer.Released)

first_free : HasNoConflict pinned 0 m_in_b
first_free object w c = let later = c.later in let there = c.there in omega arith

-- the place of a cell among those of its library
abbrev slot : Object → ℕ
slot (Interface id) = id.slot
slot (Contents id) = id.slot
slot object = 0

reads_only_a : (object : Object) → Reads board n_in_a object → slot object ≡ 0
reads_only_a object (inl (inl e)) = ap slot e
reads_only_a object (inl (inr e)) = ap slot e
reads_only_a object (inr none) = absurd none

writes_only_b : (object : Object) → IsWritten first_done 1 object → slot object ≡ 1
writes_only_b object (inl (inl e)) = ap slot e
writes_only_b object (inl (inr none)) = absurd none
writes_only_b object (inr none) = absurd none

second_free : HasNoConflict first_done 0 n_in_a
second_free object w c =
    let later = c.later in
    let there = c.there in
    let at : w ≡ 1 = omega arith in
    let read = reads_only_a object c.read in
    let written = writes_only_b object (subst (λ (u : ℕ). IsWritten first_done u object) at c.written) in omega (arith, read, written)

pub legal : Legal board parallel_history
legal = (
  record { room = omega arith; callers = tt; answers = (refl, refl) },
  (
    record { room = omega arith; callers = tt; answers = (refl, refl) },
    (
      record { room = omega arith; callers = tt; answers = (refl, refl) },
      (
        record { room = omega arith; callers = (0, (2, omega arith, refl)); answers = (0, (2, omega arith, refl), first_free, refl, refl) },
        (
          record { room = tt; callers = (0, (2, omega arith, refl)); answers = tt },
          (
            record { room = omega arith; callers = (0, (1, omega arith, refl)); answers = (0, (1, omega arith, refl), second_free, refl, refl) },
            (
              record { room = tt; callers = (0, (1, omega arith, refl)); answers = tt },
              (
                record { room = tt; callers = (0, (0, omega arith, refl)); answers = tt },
                tt,
              ),
            ),
          ),
        ),
      ),
    ),
  ),
)

-- the versions of the history
abbrev version : ℕ → Design
version = version_at board parallel_history

-- a script that pins, runs one operation and commits it
one_block : (pin w : ℕ) (op : Op) → reply_behind (version 0) [] op ≡ Done
    → Runs version Nothing (Begin 0 ∷ Run op ∷ Commit ∷ [])
    (Told call.Pin (answer.Pinned pin 0) ∷ Told (call.Commit pin (op ∷ [])) (answer.Committed w (Done ∷ [])) ∷ release pin ∷ [])
    (Began 0 ∷ Replied Done ∷ Committed w ∷ []) Whole
one_block pin w op e =
    inr (
      InBlock pin 0 0 [],
      Told call.Pin (answer.Pinned pin 0) ∷ [],
      Told (call.Commit pin (op ∷ [])) (answer.Committed w (Done ∷ [])) ∷ release pin ∷ [],
      Began 0 ∷ [],
      Replied Done ∷ Committed w ∷ [],
      refl,
      refl,
      inr (pin, 0, (refl, refl, refl)),
      inr (
        InBlock pin 0 0 (op ∷ []),
        [],
        Told (call.Commit pin (op ∷ [])) (answer.Committed w (Done ∷ [])) ∷ release pin ∷ [],
        Replied Done ∷ [],
        Committed w ∷ [],
        refl,
        refl,
        (refl, ap (λ reply. Replied reply ∷ []) (sym e), refl),
        inr (
          Nothing,
          Told (call.Commit pin (op ∷ [])) (answer.Committed w (Done ∷ [])) ∷ release pin ∷ [],
          [],
          Committed w ∷ [],
          [],
          refl,
          refl,
          inr (inl (w, Done ∷ [], (refl, refl, refl))),
          (refl, refl, refl),
        ),
      ),
    )

one_walk : Runs version Nothing (Pin ∷ Walk None ∷ Release ∷ [])
    (Told call.Pin (answer.Pinned 0 0) ∷ release 0 ∷ []) (Pinned 0 ∷ Walked 0 None ∷ Released ∷ []) Whole
one_walk =
    inr (
      OnPin 0 0,
      Told call.Pin (answer.Pinned 0 0) ∷ [],
      release 0 ∷ [],
      Pinned 0 ∷ [],
      Walked 0 None ∷ Released ∷ [],
      refl,
      refl,
      inr (0, 0, (refl, refl, refl)),
      inr (
        OnPin 0 0,
        [],
        release 0 ∷ [],
        Walked 0 None ∷ [],
        Released ∷ [],
        refl,
        refl,
        (refl, refl, refl),
        inr (
          Nothing,
          release 0 ∷ [],
          [],
          Released ∷ [],
          [],
          refl,
          refl,
          (refl, refl, refl),
          (refl, refl, refl),
        ),
      ),
    )

pub fit : Sessions board parallel_history 0 scripts results
fit = (one_block 1 2 (AddNet (in_w (codes "A")) (codes "n")) refl, (one_block 2 1 (AddNet (in_w (codes "B")) (codes "m")) refl, (one_walk, tt)))

pub callers : All (λ (event : Event). event.caller < length scripts) parallel_history
callers = All-from_recursion (λ (event : Event). event.caller < length scripts) parallel_history
    (omega arith, (omega arith, (omega arith, (omega arith, (omega arith, (omega arith, (omega arith, (omega arith, tt))))))))

pub filled : All (λ (came : SessionResult). HasFilled parallel_history came.ending) results
filled = All-from_recursion (λ (came : SessionResult). HasFilled parallel_history came.ending) results (tt, (tt, (tt, tt)))

-- the walked version is flattened
flat : flattening board ≡ Enter [] (id_of 0 2) [] ∷ Enter (0 ∷ []) (id_of 0 0) [] ∷ Enter (1 ∷ []) (id_of 0 1) [] ∷ []
unfolding representative occurrences tree
flat = refl

walk_lines : List ℕ
walk_lines = text_of (codes "inst / w T" ∷ codes "inst /a w A" ∷ codes "inst /b w B" ∷ codes "end" ∷ [])

walked : flattening_text board None ≡ walk_lines
unfolding digits walk_lines
walked = ap (λ (items : List Item). item_lines board (shown_items None items) ++ last_line None items) flat ∙ refl

-- the report where the walk says this, and this is the text of the last version
abbrev report_with : List ℕ → List ℕ → List ℕ
report_with walk last =
    line (codes "history" ∷ [])
    ++ event_texts (head_design board parallel_history) 0 parallel_history
    ++ (line (codes "script" ∷ decimal 0 ∷ []) ++ transcript board parallel_history (Began 0 ∷ Replied Done ∷ Committed 2 ∷ [])
    ++ (line (codes "script" ∷ decimal 1 ∷ []) ++ transcript board parallel_history (Began 0 ∷ Replied Done ∷ Committed 1 ∷ [])
    ++ (line (codes "script" ∷ decimal 2 ∷ []) ++ (line (codes "pin" ∷ decimal 0 ∷ []) ++ (walk ++ (line (codes "released" ∷ []) ++ []))) ++ [])))
    ++ line (codes "design" ∷ [])
    ++ last

as_lines : (last : List ℕ) → parallel_lines ++ last ≡ report_with walk_lines last
unfolding digits walk_lines
as_lines last = refl

pub printed : (last : List ℕ) → parallel_lines ++ last ≡ report_with (flattening_text board None) last
printed last = as_lines last ∙ ap (λ walk. report_with walk last) (sym walked)

line_begin : Says (codes "begin") (Begin 0)
line_begin = inl (refl, tt)

line_add : Says (codes "add-net w A n") (Run (AddNet (in_w (codes "A")) (codes "n")))
line_add = ((refl, ((refl, identifier-from_is_name (codes "w") refl), ((refl, identifier-from_is_name (codes "A") refl), ((refl, identifier-from_is_name (codes "n") refl), tt)))), tt)

pub said : IsScriptA
said = record {
  lines = record {
    said = inr (Begin 0, _, refl, line_begin, refl, inr (Run (AddNet (in_w (codes "A")) (codes "n")), _, refl, line_add, refl, inr (Commit, [], refl, (refl, tt), refl, refl)));
    placed = (Block, refl, (Block, refl, (Free, refl, tt)));
  };
  last = refl;
}
