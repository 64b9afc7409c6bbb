use Rattle.std.proofs.Common.{◌∙◌, ◌+◌, get_or, subst, sym}
use Rattle.std.proofs.lemmas.List.{get_or_default}
use Rattle.netlist_schema.specs.Types.{CellId}
use Rattle.net_classes.specs.Facts.{facts_of}
use Rattle.par_classes.proofs.TellingLemmas.{IsTellingUpto, upto_all, upto_children, upto_marked, upto_none, upto_told}
use Rattle.par_classes.proofs.rest.tell_rest.Goals as goal
use Rattle.par_classes.proofs.rest.tell_rest.Goals.{then-not-has+in_ok-nets, else-not-has}

pub loop-cell-init : goal.loop-cell-init
loop-cell-init g c = upto_none (g.S.Shown.design c.args.design.now) c.args.below.now c.args.telling.marks c.args.telling.classes c.requires.telling

pub loop-cell-preserved : goal.loop-cell-preserved
loop-cell-preserved g c =
    let d = g.S.Shown.design c.args.design.now in
    let below = c.args.below.now in
    let i = c.loop-cell.cell-index in
    let none : CellId = record { lib = record { 0 = 0 }; slot = 0 } in
    let cell : CellId = get_or below i none in
    let is = get_or_default below i none cell c.loop-cell-test.true in
    let marks = c.args.telling.marks in
    let facts = c.loop-cell.classes in
    let old = c.loop-cell.invariant in
    elim c.if-not-has.branch [
      | then-not-has+in_ok-nets w ↦
          let children = upto_children d below i cell marks facts c.loop-cell-test.true is old c.requires.behind in
          let told = w.in_ok-nets.ensures old.telling.done c.requires.valid old.telling.known children in
          subst (λ v. IsTellingUpto d below (i + 1) marks v) (sym w.classes-is)
          (upto_told d below i cell marks facts c.loop-cell-test.true is old (facts_of w.in_ok-nets.nets) w.set.new.self (c.requires.there i none c.loop-cell-test.true) told w.set.ensures)
      | else-not-has w ↦ subst (λ v. IsTellingUpto d below (i + 1) marks v) (sym w.classes-is)
          (upto_marked d below i cell marks facts c.loop-cell-test.true is old (sym c.has.ensures ∙ w.if-not-has.false))
    ]

pub returns : goal.returns
returns g c =
    upto_all (g.S.Shown.design c.args.design.now) c.args.below.now c.loop-cell.cell-index c.args.telling.marks c.loop-cell.classes c.loop-cell-test.false c.loop-cell.invariant
