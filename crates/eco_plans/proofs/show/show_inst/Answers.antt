use Rattle.std.proofs.Common.{Some, None, sym, subst, refl}
use Rattle.edit_spec.specs.declared.ops.Op.TheVariants.{ShowInst}
use Rattle.edit_rules_spec.specs.declared.reply.Reply.TheVariants.{Inst as ShownInst, NoInst}
use Rattle.edit_cells.specs.State.{State}
use Rattle.eco_reads.specs.Done.{IsDone}
use Rattle.eco_reads.proofs.Reading.{found_inside}
use Rattle.eco_plans.proofs.ShowInst.{show_inst_done, show_inst_missing, show_no_inst}
use Rattle.eco_reads.proofs.Outcomes.{missing_or}
use Rattle.eco_plans.proofs.show.show_inst.Goals as goal

pub returns-in_err-id : goal.returns-in_err-id
returns-in_err-id g c =
    missing_or (g.C.Cells.state c.args.cells.now) (g.C.Cells.state c.read_named.new.cells) (ShowInst c.args.name.now c.args.inst.now) c.args.name.now c.from_residual.result c.in_err-id.field-0.0 c.from_residual.ensures.1 c.in_err-id.ensures.found c.in_err-id.ensures.reads
    (λ reply read missing. show_inst_missing (g.C.Cells.state c.args.cells.now) (g.C.Cells.state c.read_named.new.cells) c.args.name.now c.args.inst.now reply read missing)

pub returns-in_default : goal.returns-in_default
returns-in_default g c =
    show_no_inst (g.C.Cells.state c.args.cells.now) (g.C.Cells.state c.contents.follows.lender-at-none) c.args.name.now c.args.inst.now c.in_ok-id.id _
    (found_inside (g.C.Cells.state c.args.cells.now) (g.C.Cells.state c.read_named.new.cells) (g.C.Cells.state c.contents.follows.lender-at-none) c.args.name.now c.in_ok-id.id _ c.in_ok-id.ensures.found c.in_ok-id.ensures.reads c.in_ok-contents.ensures.found (rw c.in_ok-contents.was at c.contents.follows.holds-at-none))
    (rw c.in_default.is at c.in_ok-of.ensures)

pub returns-in-Some-2 : goal.returns-in-Some-2
returns-in-Some-2 g c =
    subst (λ (t : State). IsDone (g.C.Cells.state c.args.cells.now) t (ShowInst c.args.name.now c.args.inst.now) (ShownInst c.in-Some-2.of c.in-Some.properties)) (sym c.in_ok-of-2.ensures.reads)
    (show_inst_done (g.C.Cells.state c.args.cells.now) (g.C.Cells.state c.contents.follows.lender-at-none) c.args.name.now c.args.inst.now c.in_ok-id.id _ (c.in-Some.of, c.in-Some.properties) (Some c.in-Some-2.of) (ShownInst c.in-Some-2.of c.in-Some.properties)
    (found_inside (g.C.Cells.state c.args.cells.now) (g.C.Cells.state c.read_named.new.cells) (g.C.Cells.state c.contents.follows.lender-at-none) c.args.name.now c.in_ok-id.id _ c.in_ok-id.ensures.found c.in_ok-id.ensures.reads c.in_ok-contents.ensures.found (rw c.in_ok-contents.was at c.contents.follows.holds-at-none))
    (rw c.in-Some.is at c.in_ok-of.ensures) (rw c.in-Some-2.is at c.in_ok-of-2.ensures.found) refl)

pub returns-in-None : goal.returns-in-None
returns-in-None g c =
    subst (λ (t : State). IsDone (g.C.Cells.state c.args.cells.now) t (ShowInst c.args.name.now c.args.inst.now) NoInst) (sym c.in_ok-of-2.ensures.reads)
    (show_inst_done (g.C.Cells.state c.args.cells.now) (g.C.Cells.state c.contents.follows.lender-at-none) c.args.name.now c.args.inst.now c.in_ok-id.id _ (c.in-Some.of, c.in-Some.properties) None NoInst
    (found_inside (g.C.Cells.state c.args.cells.now) (g.C.Cells.state c.read_named.new.cells) (g.C.Cells.state c.contents.follows.lender-at-none) c.args.name.now c.in_ok-id.id _ c.in_ok-id.ensures.found c.in_ok-id.ensures.reads c.in_ok-contents.ensures.found (rw c.in_ok-contents.was at c.contents.follows.holds-at-none))
    (rw c.in-Some.is at c.in_ok-of.ensures) (rw c.in-None.is at c.in_ok-of-2.ensures.found) refl)
