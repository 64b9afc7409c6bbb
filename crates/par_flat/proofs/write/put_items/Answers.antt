use Rattle.std.proofs.Common.{◌≡◌, ◌∙◌, ℕ, List, ap, arith, rules, subst, take}
use Rattle.std.proofs.lemmas.Result.{on_err_weaker}
use Rattle.netdb_outside.specs.Outside.{AppendsFront}
use Rattle.flat_spec.specs.Flattening.{flattening}
use Rattle.par_flat.specs.Desks.{text_of, waiting_text}
use Rattle.par_flat.proofs.TextLemmas.{ahead_front, ahead_more, none_ahead, on_err}
use Rattle.par_flat.proofs.write.put_items.Goals as goal

pub returns-in_err-made-clause-err : goal.returns-in_err-made-clause-err
returns-in_err-made-clause-err g c =
    let d = c.args.ground.now in
    on_err c.from_residual-in_err-made.result _
    (ahead_front d (flattening d) c.rounds.first (g.K.Sink.written c.args.out.now) (g.K.Sink.written c.rounds.out) (g.K.Sink.written c.next_round.new.out)
    (waiting_text c.rounds.crew) c.rounds.invariant.ahead c.in_err-made.ensures.err)

pub rounds-preserved : goal.rounds-preserved
rounds-preserved g c =
    let d = c.args.ground.now in
    record {
      ahead = ahead_more d (flattening d) c.rounds.first c.in_ok-made.made (g.K.Sink.written c.args.out.now) (g.K.Sink.written c.rounds.out) (g.K.Sink.written c.next_round.new.out)
          (waiting_text c.rounds.crew) (waiting_text c.next_round.new.crew) c.rounds.invariant.ahead c.in_ok-made.ensures.ok c.in_ok-made.ensures.text;
      never_falls = omega arith;
      some = c.next_at_once-at_once.ensures.some;
      few = c.next_at_once-at_once.ensures.few;
      crew = c.in_ok-made.ensures.crew;
    }

pub rounds-init : goal.rounds-init
rounds-init g c = record {
  ahead = none_ahead (g.K.Sink.written c.args.out.now) (waiting_text c.in_ok-crew.crew) (ap (λ n. text_of (take n c.in_ok-crew.crew.waiting.items)) c.in_ok-crew.ensures.none);
  never_falls = search rules;
  some = search rules;
  few = search rules;
  crew = c.in_ok-crew.ensures.crew (c.args.ground.now);
}

pub returns-clause-err : goal.returns-clause-err
returns-clause-err g c =
    let d = c.args.ground.now in
    let held : c.as_slice-2.result.now ≡ c.rounds.crew.waiting.items = search rules in
    let same : text_of c.ready_of-2.result.now ≡ waiting_text c.rounds.crew = ap text_of (c.ready_of-2.ensures ∙ ap (take c.rounds.crew.ready) held) in
    on_err_weaker c.put_lines.result
    (λ front.
    ahead_front d (flattening d) c.rounds.first (g.K.Sink.written c.args.out.now) (g.K.Sink.written c.rounds.out) (g.K.Sink.written c.put_lines.new.out) (waiting_text c.rounds.crew)
    c.rounds.invariant.ahead (subst (λ (bytes : List ℕ). AppendsFront (g.K.Sink.written c.rounds.out) (g.K.Sink.written c.put_lines.new.out) bytes) same front))
    c.put_lines.ensures.err
