use Rattle.std.proofs.Common.{Option, sym, ap, ◌∙◌}
use Rattle.uniquify_copies.proofs.InnerLemmas.{set_again}
use Rattle.std.specs.Option.{option_map, option_or}
use Rattle.std.specs.Prelude.{slice_set}
use Rattle.netlist_schema.specs.Types.{Contents}
use Rattle.edit_rules_spec.specs.Seen.{contents_at}
use Rattle.uniquify_copies.proofs.InnerLemmas.{some_same}
use Rattle.uniquify_copies.specs.Changes.{turned_to}
use Rattle.uniquify_copies.proofs.turn.turn.Goals as goal

pub returns-clause-turned : goal.returns-clause-turned
returns-clause-turned g c = λ was at.
    let d = (g.C.Cells.state c.args.cells.now).design in
    let same = some_same c.replace-was.result was (sym c.replace-was.ensures.was ∙ at) in
    c.set.ensures ∙ ap (λ l. slice_set l c.args.spot.now.above c.in_ok-turned.field-0) c.replace-was.ensures.put ∙ set_again c.args.made.now c.args.spot.now.above _ c.in_ok-turned.field-0
    ∙ ap (slice_set c.args.made.now c.args.spot.now.above)
    (c.in_ok-turned.ensures ∙ ap (option_map (turned_to c.args.spot.now.place c.args.id)) (c.in_ok-contents.ensures.value ∙ ap (λ (o : Option Contents). option_or o (contents_at d c.args.cell)) same))
