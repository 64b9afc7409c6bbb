use Rattle.std.proofs.Common.{ap, arith, length, sym, ◌∙◌}
use Rattle.history_check.proofs.Seating.{at_place, count_next, done_next, ends_so, never_one, no_more, place_so, rest_next, seat_known, within_lines}
use Rattle.history_check.proofs.check.finish_all.Goals as goal

pub loop-seat-init : goal.loop-seat-init
loop-seat-init c = record { rest = sym c.into_iter-seat-iterator.ensures.into_iter_gives.0; count = c.new-texts.result.ok.0 ∙ ap length c.new-texts.ensures.items; done = λ k d t less. absurd (omega (arith, less)) }

pub offset_bounds-scripts-place : goal.offset_bounds-scripts-place
offset_bounds-scripts-place c =
    let known = seat_known c.args.scripts.now c.args.seats.items c.loop-seat.yielded c.loop-seat.seat-iterator.rest.items c.next.new.self.rest.items c.in-Some.seat c.loop-seat.texts.items
    c.loop-seat.invariant.rest c.in-Some.ensures.steps.0 (sym c.loop-seat.texts.ok.0 ∙ c.loop-seat.invariant.count) (sym c.args.seats.ok.0 ∙ c.requires.many) in
    omega (arith, known, c.len-place.ensures, c.loop-seat.texts.ok.0)

pub bounds-scripts-place : goal.bounds-scripts-place
bounds-scripts-place c =
    let known = seat_known c.args.scripts.now c.args.seats.items c.loop-seat.yielded c.loop-seat.seat-iterator.rest.items c.next.new.self.rest.items c.in-Some.seat c.loop-seat.texts.items
    c.loop-seat.invariant.rest c.in-Some.ensures.steps.0 (sym c.loop-seat.texts.ok.0 ∙ c.loop-seat.invariant.count) (sym c.args.seats.ok.0 ∙ c.requires.many) in
    omega (arith, known, c.len-place.ensures, c.loop-seat.texts.ok.0)

pub finish-requires-clause-line : goal.finish-requires-clause-line
finish-requires-clause-line c =
    within_lines c.lines-lines.result.now c.in-Some.seat.line (place_so c.args.scripts.now c.args.seats.items c.loop-seat.yielded c.loop-seat.seat-iterator.rest.items c.next.new.self.rest.items c.in-Some.seat c.loop-seat.texts.items
    c.loop-seat.invariant.rest c.in-Some.ensures.steps.0 (sym c.loop-seat.texts.ok.0 ∙ c.loop-seat.invariant.count) (sym c.args.seats.ok.0 ∙ c.requires.many) c.index-scripts-place.result c.lines-lines.result.now
    (at_place c.args.scripts.now c.len-place.result c.loop-seat.texts.items c.index-scripts-place.result (c.len-place.ensures ∙ c.loop-seat.texts.ok.0) c.index-scripts-place.is) c.lines-lines.ensures.value c.requires.lines).within

pub finish-requires-clause-top : goal.finish-requires-clause-top
finish-requires-clause-top c =
    (place_so c.args.scripts.now c.args.seats.items c.loop-seat.yielded c.loop-seat.seat-iterator.rest.items c.next.new.self.rest.items c.in-Some.seat c.loop-seat.texts.items
    c.loop-seat.invariant.rest c.in-Some.ensures.steps.0 (sym c.loop-seat.texts.ok.0 ∙ c.loop-seat.invariant.count) (sym c.args.seats.ok.0 ∙ c.requires.many) c.index-scripts-place.result c.lines-lines.result.now
    (at_place c.args.scripts.now c.len-place.result c.loop-seat.texts.items c.index-scripts-place.result (c.len-place.ensures ∙ c.loop-seat.texts.ok.0) c.index-scripts-place.is) c.lines-lines.ensures.value c.requires.lines).top

pub loop-seat-preserved : goal.loop-seat-preserved
loop-seat-preserved c = record {
  rest = rest_next c.args.scripts.now c.args.seats.items c.loop-seat.yielded c.loop-seat.seat-iterator.rest.items c.next.new.self.rest.items c.in-Some.seat c.loop-seat.texts.items
      c.loop-seat.invariant.rest c.in-Some.ensures.steps.0 (sym c.loop-seat.texts.ok.0 ∙ c.loop-seat.invariant.count) (sym c.args.seats.ok.0 ∙ c.requires.many) c.index-scripts-place.result c.lines-lines.result.now
      (at_place c.args.scripts.now c.len-place.result c.loop-seat.texts.items c.index-scripts-place.result (c.len-place.ensures ∙ c.loop-seat.texts.ok.0) c.index-scripts-place.is) c.lines-lines.ensures.value;
  count = c.push.new.self.ok.0 ∙ count_next c.args.scripts.now c.args.seats.items c.loop-seat.yielded c.loop-seat.seat-iterator.rest.items c.next.new.self.rest.items c.in-Some.seat c.loop-seat.texts.items
      c.loop-seat.invariant.rest c.in-Some.ensures.steps.0 (sym c.loop-seat.texts.ok.0 ∙ c.loop-seat.invariant.count) (sym c.args.seats.ok.0 ∙ c.requires.many) c.index-scripts-place.result c.lines-lines.result.now
      (at_place c.args.scripts.now c.len-place.result c.loop-seat.texts.items c.index-scripts-place.result (c.len-place.ensures ∙ c.loop-seat.texts.ok.0) c.index-scripts-place.is) c.lines-lines.ensures.value c.in-Some-2.text c.push.new.self.items c.in_ok-push-in-Some-2.ensures.items;
  done = done_next c.args.scripts.now c.args.seats.items c.loop-seat.yielded c.loop-seat.seat-iterator.rest.items c.next.new.self.rest.items c.in-Some.seat c.loop-seat.texts.items
      c.loop-seat.invariant.rest c.in-Some.ensures.steps.0 (sym c.loop-seat.texts.ok.0 ∙ c.loop-seat.invariant.count) (sym c.args.seats.ok.0 ∙ c.requires.many) c.index-scripts-place.result c.lines-lines.result.now
      (at_place c.args.scripts.now c.len-place.result c.loop-seat.texts.items c.index-scripts-place.result (c.len-place.ensures ∙ c.loop-seat.texts.ok.0) c.index-scripts-place.is) c.lines-lines.ensures.value c.args.most c.args.events c.in_ok-text.field-0 c.in-Some-2.text c.push.new.self.items c.in_ok-push-in-Some-2.ensures.items c.in-Some-2.is
      (λ story caller stands many legal. c.in_ok-text.ensures story caller stands many legal) c.loop-seat.invariant.done;
}

pub returns-in-None-2 : goal.returns-in-None-2
returns-in-None-2 c = λ story stand many legal.
    never_one c.args.scripts.now c.args.seats.items c.loop-seat.yielded c.loop-seat.seat-iterator.rest.items c.next.new.self.rest.items c.in-Some.seat c.loop-seat.texts.items
    c.loop-seat.invariant.rest c.in-Some.ensures.steps.0 (sym c.loop-seat.texts.ok.0 ∙ c.loop-seat.invariant.count) (sym c.args.seats.ok.0 ∙ c.requires.many) c.index-scripts-place.result c.lines-lines.result.now
    (at_place c.args.scripts.now c.len-place.result c.loop-seat.texts.items c.index-scripts-place.result (c.len-place.ensures ∙ c.loop-seat.texts.ok.0) c.index-scripts-place.is) c.lines-lines.ensures.value c.args.most c.args.events c.in_ok-text.field-0 c.in-None-2.is (λ s k stands so_many so_legal. c.in_ok-text.ensures s k stands so_many so_legal) story stand many legal

pub returns : goal.returns
returns c = λ story stand many legal.
    ends_so c.args.scripts.now c.args.seats.items c.loop-seat.yielded c.loop-seat.seat-iterator.rest.items c.loop-seat.texts.items c.args.events c.loop-seat.invariant.rest
    (no_more c.loop-seat.seat-iterator.rest.items (sym c.loop-seat.seat-iterator.rest.ok.0 ∙ c.in-None.ensures.steps.0)) (sym c.loop-seat.texts.ok.0 ∙ c.loop-seat.invariant.count) c.loop-seat.invariant.done story stand many legal
