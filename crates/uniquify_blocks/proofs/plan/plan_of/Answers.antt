use Rattle.std.proofs.Common.{[], ap, ◌∙◌, arith}
use Rattle.edit_rules_spec.specs.Rule.{refuse}
use Rattle.edit_rules_spec.specs.declared.reply.Reply.TheVariants.{TooMany}
use Rattle.uniquify_copies.proofs.DraftSeats.{new_of}
use Rattle.uniquify_copies.specs.Seats.{copies_of, seats}
use Rattle.uniquify_blocks.proofs.Chains.{counted}
use Rattle.uniquify_blocks.proofs.Few.{few_copies}
use Rattle.uniquify_blocks.proofs.plan.plan_of.Goals as goal

pub overflow_cast-result : goal.overflow_cast-result
overflow_cast-result g c =
    let d = (g.C.Cells.state c.args.cells.now).design in
    let copies = copies_of (seats c.args.top c.args.spots.now) in
    let few = few_copies d c.requires.valid copies (new_of d copies [] c.requires.seats.last) c.requires.room in
    let same = c.count_copies-copies.ensures ∙ counted c.args.top c.args.spots.now in
    omega (arith, few, same)

pub returns-clause-plan : goal.returns-clause-plan
returns-clause-plan g c = record {
  room = ap (λ b. refuse b (TooMany 65536)) c.requires.room;
  edits = c.in_ok-change.ensures.edits;
  can = c.in_ok-change.ensures.can;
  count = c.count_copies-copies.ensures ∙ counted c.args.top c.args.spots.now;
}
