use Rattle.std.proofs.Common.{◌≡◌, ◌+◌, ◌-◌, ℕ, length, get_or, arith, sym, subst, ◌∙◌, Some, slice_get}
use Rattle.std.proofs.lemmas.Option.{slice_get-get_or}
use Rattle.netlist_schema.specs.Types.{CellId}
use Rattle.flat_cells.proofs.MarkLemmas.{AreMarkedFrom, marked_more, marked_same, marked_all}
use Rattle.flat_cells.proofs.below.mark_below.Goals as goal
use Rattle.flat_cells.proofs.below.mark_below.Goals.{then-has, else-has}

pub loop-passed-preserved : goal.loop-passed-preserved
loop-passed-preserved g c =
    let d = g.S.Shown.design c.args.design.now in
    let cells = c.args.cells.now in
    let passed = c.loop-passed.passed in
    let k : ℕ = length cells - 1 - passed in
    let cell : CellId = get_or cells k (record { lib = record { 0 = 0 }; slot = 0 }) in
    let at : slice_get cells k ≡ Some cell = slice_get-get_or cells k (record { lib = record { 0 = 0 }; slot = 0 }) (omega (arith, c.loop-passed-test.true)) in
    let here : k + passed + 1 ≡ length cells = omega (arith, c.loop-passed-test.true) in
    elim c.if-has.branch [
      | then-has w ↦ subst (λ v. AreMarkedFrom d cells (passed + 1) c.args.marks.now v) (sym w.marks-is)
          (marked_more d c.requires.valid cells c.requires.behind c.args.marks.now c.loop-passed.marks c.requires.room passed k cell here at c.loop-passed.invariant
          w.mark_children.new.marks (sym c.has.ensures ∙ w.if-has.true) w.mark_children.ensures)
      | else-has w ↦ subst (λ v. AreMarkedFrom d cells (passed + 1) c.args.marks.now v) (sym w.marks-is)
          (marked_same d c.requires.valid cells c.requires.behind c.args.marks.now c.loop-passed.marks c.requires.room passed k cell here at c.loop-passed.invariant
          (sym c.has.ensures ∙ w.if-has.false))
    ]

pub returns : goal.returns
returns g c = marked_all (g.S.Shown.design c.args.design.now) c.args.cells.now c.loop-passed.passed c.args.marks.now c.loop-passed.marks c.loop-passed-test.false c.loop-passed.invariant
