use Rattle.std.proofs.Common.{arith, subst, sym}
use Rattle.std.specs.List.{All}
use Rattle.std.proofs.lemmas.List.Elements.{All-nil}
use Rattle.netlist_schema.specs.Types.{CellId}
use Rattle.par_classes.specs.Telling.{IsTold}
use Rattle.par_classes.proofs.ready.tell_some.Goals as goal

pub loop-init : goal.loop-init
loop-init g c = λ below telling among.
    subst (All (IsTold (g.S.Shown.design c.args.design.now) below)) (sym c.new-told.ensures.items) (All-nil (IsTold (g.S.Shown.design c.args.design.now) below))

pub add_ready-requires-clause-there : goal.add_ready-requires-clause-there
add_ready-requires-clause-there g c = c.requires.there c.fetch_add-next.result (record { lib = record { 0 = 0 }; slot = 0 }) (omega (arith, c.if-next-pending.false))

pub loop-preserved : goal.loop-preserved
loop-preserved g c = λ below telling among.
    let none : CellId = record { lib = record { 0 = 0 }; slot = 0 } in
    c.in_ok-add_ready.ensures below telling (among c.fetch_add-next.result none (omega (arith, c.if-next-pending.false))) (c.loop.invariant below telling among)
