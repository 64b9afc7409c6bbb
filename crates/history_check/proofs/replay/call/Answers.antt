use Rattle.std.proofs.Common.{refl, ap, ◌-◌, ◌∙◌}
use Rattle.script_spec.specs.ScriptText.{steps_of}
use Rattle.script_run_spec.specs.Scripts.{all_steps}
use Rattle.history_check.specs.Follow.{said_by}
use Rattle.history_check.proofs.Seating.{is_called_so, is_halted, known_steps, lines_at, stands_at, top_here, within_lines}
use Rattle.history_check.proofs.replay.call.Goals as goal

pub take_turn-requires-clause-at : goal.take_turn-requires-clause-at
take_turn-requires-clause-at c =
    (stands_at c.args.core.now (all_steps c.args.scripts.now) c.args.seats.now.items c.args.next.caller _ c.swap_seat-seat.result _ c.requires.stands (known_steps c.args.scripts.now c.args.next.caller c.requires.known)
    refl c.swap_seat-seat.ensures.left).pin

pub take_turn-requires-clause-line : goal.take_turn-requires-clause-line
take_turn-requires-clause-line c =
    within_lines c.lines-lines.result.now c.swap_seat-seat.result.line
    (stands_at c.args.core.now (all_steps c.args.scripts.now) c.args.seats.now.items c.args.next.caller _ c.swap_seat-seat.result _ c.requires.stands (known_steps c.args.scripts.now c.args.next.caller c.requires.known)
    (lines_at c.args.scripts.now c.args.next.caller c.index-scripts-place.result c.lines-lines.result.now c.requires.known c.index-scripts-place.is c.lines-lines.ensures.value) c.swap_seat-seat.ensures.left).within

pub take_turn-requires-clause-top : goal.take_turn-requires-clause-top
take_turn-requires-clause-top c =
    let known = known_steps c.args.scripts.now c.args.next.caller c.requires.known in
    top_here c.args.core.now (all_steps c.args.scripts.now) c.args.next.caller (steps_of c.lines-lines.result.now) c.swap_seat-seat.result c.history_is_legal.ensures.history.legal c.requires.top known
    (lines_at c.args.scripts.now c.args.next.caller c.index-scripts-place.result c.lines-lines.result.now c.requires.known c.index-scripts-place.is c.lines-lines.ensures.value)
    (stands_at c.args.core.now (all_steps c.args.scripts.now) c.args.seats.now.items c.args.next.caller _ c.swap_seat-seat.result _ c.requires.stands known refl c.swap_seat-seat.ensures.left).pin

pub returns-in-Some : goal.returns-in-Some
returns-in-Some c =
    is_called_so c.args.core.now (all_steps c.args.scripts.now) c.args.seats.now.items c.args.next (steps_of c.lines-lines.result.now) c.swap_seat-seat.result _ c.requires.stands (known_steps c.args.scripts.now c.args.next.caller c.requires.known)
    (lines_at c.args.scripts.now c.args.next.caller c.index-scripts-place.result c.lines-lines.result.now c.requires.known c.index-scripts-place.is c.lines-lines.ensures.value) c.swap_seat-seat.ensures.left
    c.take_turn.new.core c.in-Some.turned c.first_seat.result c.history_is_legal.ensures.history.legal (rw c.in-Some.is at c.in_ok-turned.ensures) c.swap_seat-seat.new.seats.items c.swap_seat.new.seats.items
    c.swap_seat-seat.ensures.put c.swap_seat.ensures.put

pub returns-in-None : goal.returns-in-None
returns-in-None c =
    is_halted c.args.core.now (all_steps c.args.scripts.now) c.args.seats.now.items c.args.next (steps_of c.lines-lines.result.now) c.swap_seat-seat.result _ c.requires.stands (known_steps c.args.scripts.now c.args.next.caller c.requires.known)
    (lines_at c.args.scripts.now c.args.next.caller c.index-scripts-place.result c.lines-lines.result.now c.requires.known c.index-scripts-place.is c.lines-lines.ensures.value) c.swap_seat-seat.ensures.left
    c.args.most c.spare-left.result c.first_seat.result c.swap_seat-seat.new.seats.items c.first_seat.ensures.said_is c.swap_seat-seat.ensures.put (c.spare-left.ensures ∙ ap (λ z. c.args.most - said_by z) c.as_slice.ensures.value) (rw c.in-None.is at c.in_ok-turned.ensures)
