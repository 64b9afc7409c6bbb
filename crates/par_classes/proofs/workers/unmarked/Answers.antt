use Rattle.std.proofs.Common.{ap, get_or, subst, sym}
use Rattle.std.specs.List.{All, Contains}
use Rattle.std.proofs.lemmas.List.{get_or_default}
use Rattle.std.proofs.lemmas.List.Elements.{All-nil, All-push}
use Rattle.netlist_schema.specs.Types.{CellId}
use Rattle.par_classes.proofs.workers.unmarked.Goals as goal
use Rattle.par_classes.proofs.workers.unmarked.Goals.{then-not-has+in_ok-push, else-not-has}

pub loop-cell-init : goal.loop-cell-init
loop-cell-init c = subst (λ v. All (Contains c.args.below.now) v) (sym c.new-found.ensures.items) (All-nil (Contains c.args.below.now))

pub loop-cell-preserved : goal.loop-cell-preserved
loop-cell-preserved c =
    let below = c.args.below.now in
    let i = c.loop-cell.cell-index in
    let none : CellId = record { lib = record { 0 = 0 }; slot = 0 } in
    let cell : CellId = get_or below i none in
    elim c.if-not-has.branch [
      | then-not-has+in_ok-push w ↦ subst (λ v. All (Contains below) v) (sym (ap (λ v. v.items) w.found-is))
          (subst (λ v. All (Contains below) v) (sym w.in_ok-push.ensures.items)
          (All-push (Contains below) c.loop-cell.found.items cell c.loop-cell.invariant (i, c.loop-cell-test.true, sym (get_or_default below i none cell c.loop-cell-test.true))))
      | else-not-has w ↦ subst (λ v. All (Contains below) v) (sym (ap (λ v. v.items) w.found-is)) c.loop-cell.invariant
    ]
