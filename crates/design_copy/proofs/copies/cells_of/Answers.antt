use Rattle.std.proofs.Common.{◌≤◌, ◌++◌, ◌∷◌, [], arith, length, sym, ap, ◌∙◌}
use Rattle.std.proofs.lemmas.List.{take_all}
use Rattle.std.specs.Option.{option_copied}
use Rattle.netlist_schema.specs.Design.{cells_in}
use Rattle.netlist_schema.specs.Types.{CellBody}
use Rattle.design_copy.proofs.Copying.{item_next, no_item}
use Rattle.design_copy.proofs.copies.cells_of.Goals as goal
use Rattle.design_copy.proofs.copies.cells_of.Goals.{in-Some+in_ok-copy+in_ok-push, in_default}

pub loop-slot-preserved : goal.loop-slot-preserved
loop-slot-preserved g c =
    let cells = cells_in (g.S.Shown.design c.args.design.now) c.args.lib in
    let slot = c.loop-slot.slot in
    elim c.match-cell.branch [
      | in-Some+in_ok-copy+in_ok-push w ↦
          ap (λ v. v.items) w.made-is
          ∙ w.in_ok-push.ensures.items
          ∙ ap (λ (b : CellBody). c.loop-slot.made.items ++ b ∷ []) w.in_ok-copy.ensures.same
          ∙ item_next cells c.loop-slot.made.items slot w.in-Some.body.now (sym (ap option_copied w.in-Some.is) ∙ c.cell.ensures.value) c.loop-slot.invariant
      | in_default w ↦ absurd (no_item cells slot (let count = c.cell_count-slot-end.ensures.value in let within = c.loop-slot-test.true in omega (arith, count, within)) (sym (ap option_copied w.in_default.is) ∙ c.cell.ensures.value))
    ]

pub returns : goal.returns
returns g c =
    let cells = cells_in (g.S.Shown.design c.args.design.now) c.args.lib in
    let past : length cells ≤ c.loop-slot.slot = (let count = c.cell_count-slot-end.ensures.value in let past = c.loop-slot-test.false in omega (arith, count, past)) in
    c.of.ensures ∙ c.loop-slot.invariant ∙ take_all c.loop-slot.slot cells past
