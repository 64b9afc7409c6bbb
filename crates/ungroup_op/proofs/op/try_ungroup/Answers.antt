use Rattle.std.proofs.Common.{◌∙◌}
use Rattle.std.specs.Option.{option_copied}
use Rattle.ungroup_plans.specs.Heads.{AreSound}
use Rattle.ungroup_plans.specs.Planned.{IsPlanned}
use Rattle.ungroup_plans.specs.declared.plan.Ungrouped.{Ungrouped}
use Rattle.ungroup_op.proofs.OpLemmas.{lent_too, planned_here, read_long, sound_copied, sound_lent, ungroup_can, ungroup_done, ungroup_missing, ungroup_read, ungroup_refused}
use Rattle.edit_spec.specs.declared.ops.Op.TheVariants.{Ungroup}
use Rattle.eco_reads.proofs.Outcomes.{done_or, missing_or, refused_or}
use Rattle.eco_reads.proofs.Reading.{read_some}
use Rattle.ungroup_op.proofs.op.try_ungroup.Goals as goal

pub returns-in_err-id : goal.returns-in_err-id
returns-in_err-id g c =
    missing_or (g.C.Cells.state c.args.cells.now) (g.C.Cells.state c.read_named.new.cells) (Ungroup c.args.cell.now c.args.inst.now) c.args.cell.now c.from_residual.result c.in_err-id.field-0.0 c.from_residual.ensures.1 c.in_err-id.ensures.found c.in_err-id.ensures.reads
    (λ reply read missing. ungroup_missing (g.C.Cells.state c.args.cells.now) (g.C.Cells.state c.read_named.new.cells) c.args.cell.now c.args.inst.now reply read missing)

pub plan_ungroup-requires-clause-around : goal.plan_ungroup-requires-clause-around
plan_ungroup-requires-clause-around g c =
    lent_too AreSound c.in_ok-contents.field-0
    (sound_lent (g.C.Cells.state c.args.cells.now) (g.C.Cells.state c.read_within.new.cells) c.in_ok-id.id (option_copied c.in_ok-contents.field-0) c.in_ok-id.ensures.valid
    (c.in_ok-within.ensures.reads.design ∙ c.in_ok-of.ensures.reads.design ∙ c.in_ok-read.ensures.reads.design ∙ c.in_ok-id.ensures.reads.design) c.in_ok-contents.ensures.found)

pub plan_ungroup-requires-clause-within : goal.plan_ungroup-requires-clause-within
plan_ungroup-requires-clause-within g c =
    sound_copied (g.C.Cells.state c.args.cells.now) (g.C.Cells.state c.read_inst.new.cells) c.in_ok-of.of c.in_ok-within.within c.in_ok-id.ensures.valid
    (c.in_ok-of.ensures.reads.design ∙ c.in_ok-read.ensures.reads.design ∙ c.in_ok-id.ensures.reads.design) c.in_ok-within.ensures.value

pub put_plan-requires : goal.put_plan-requires
put_plan-requires g c =
    let s = g.C.Cells.state c.args.cells.now in
    let u = g.C.Cells.state c.contents.follows.lender-at-none in
    let around = option_copied c.in_ok-contents.field-0 in
    let has = ungroup_read s (g.C.Cells.state c.read_named.new.cells) (g.C.Cells.state c.read_notes.new.cells) (g.C.Cells.state c.read_inst.new.cells) (g.C.Cells.state c.read_within.new.cells) u
    c.args.cell.now c.args.inst.now c.in_ok-id.id c.in_ok-of.of around c.in_ok-within.within c.in_ok-read.read
    c.in_ok-id.ensures.found c.in_ok-id.ensures.reads c.in_ok-read.ensures.notes c.in_ok-read.ensures.reads c.in_ok-of.ensures.found c.in_ok-of.ensures.reads
    c.in_ok-within.ensures.value c.in_ok-within.ensures.reads c.in_ok-contents.ensures.found (rw c.in_ok-contents.was at c.contents.follows.holds-at-none) in
    ungroup_can s u c.args.cell.now c.args.inst.now c.in_ok-id.id around c.in_ok-within.within c.in_ok-read.read has c.in_ok-made.made c.in_ok-id.ensures.valid
    (planned_here around c.args.inst.now c.in_ok-within.within c.in_ok-read.read c.as_slice-notes.result.now c.as_slice-places.result.now c.in_ok-made.made c.as_slice-notes.ensures c.as_slice-places.ensures.value
    c.in_ok-made.ensures)

pub returns : goal.returns
returns g c =
    let s = g.C.Cells.state c.args.cells.now in
    let u = g.C.Cells.state c.contents.follows.lender-at-none in
    let around = option_copied c.in_ok-contents.field-0 in
    let has = ungroup_read s (g.C.Cells.state c.read_named.new.cells) (g.C.Cells.state c.read_notes.new.cells) (g.C.Cells.state c.read_inst.new.cells) (g.C.Cells.state c.read_within.new.cells) u
    c.args.cell.now c.args.inst.now c.in_ok-id.id c.in_ok-of.of around c.in_ok-within.within c.in_ok-read.read
    c.in_ok-id.ensures.found c.in_ok-id.ensures.reads c.in_ok-read.ensures.notes c.in_ok-read.ensures.reads c.in_ok-of.ensures.found c.in_ok-of.ensures.reads
    c.in_ok-within.ensures.value c.in_ok-within.ensures.reads c.in_ok-contents.ensures.found (rw c.in_ok-contents.was at c.contents.follows.holds-at-none) in
    done_or s (g.C.Cells.state c.put_plan.new.cells) (Ungroup c.args.cell.now c.args.inst.now) c.put_plan.result c.put_plan.ensures.err
    (ungroup_done s u c.args.cell.now c.args.inst.now c.in_ok-id.id around c.in_ok-within.within c.in_ok-read.read has (g.C.Cells.state c.put_plan.new.cells) c.in_ok-made.made c.put_plan.result
    (planned_here around c.args.inst.now c.in_ok-within.within c.in_ok-read.read c.as_slice-notes.result.now c.as_slice-places.result.now c.in_ok-made.made c.as_slice-notes.ensures c.as_slice-places.ensures.value
    c.in_ok-made.ensures)
    c.put_plan.ensures.put)

pub returns-in_err-made : goal.returns-in_err-made
returns-in_err-made g c =
    let s = g.C.Cells.state c.args.cells.now in
    let u = g.C.Cells.state c.contents.follows.lender-at-none in
    let around = option_copied c.in_ok-contents.field-0 in
    let has = ungroup_read s (g.C.Cells.state c.read_named.new.cells) (g.C.Cells.state c.read_notes.new.cells) (g.C.Cells.state c.read_inst.new.cells) (g.C.Cells.state c.read_within.new.cells) u
    c.args.cell.now c.args.inst.now c.in_ok-id.id c.in_ok-of.of around c.in_ok-within.within c.in_ok-read.read
    c.in_ok-id.ensures.found c.in_ok-id.ensures.reads c.in_ok-read.ensures.notes c.in_ok-read.ensures.reads c.in_ok-of.ensures.found c.in_ok-of.ensures.reads
    c.in_ok-within.ensures.value c.in_ok-within.ensures.reads c.in_ok-contents.ensures.found (rw c.in_ok-contents.was at c.contents.follows.holds-at-none) in
    refused_or {T = Ungrouped} s u (Ungroup c.args.cell.now c.args.inst.now) (IsPlanned around c.args.inst.now c.in_ok-within.within c.as_slice-notes.result.now c.as_slice-places.result.now) c.from_residual-in_err-made.result c.in_err-made.field-0.0 c.from_residual-in_err-made.ensures.1 c.in_err-made.ensures (read_some s u _ has.objects)
    (λ reply planned. ungroup_refused s u c.args.cell.now c.args.inst.now c.in_ok-id.id around c.in_ok-within.within c.in_ok-read.read has reply planned)

pub plan_ungroup-requires-clause-long : goal.plan_ungroup-requires-clause-long
plan_ungroup-requires-clause-long g c =
    read_long (g.C.Cells.state c.read_named.new.cells).design c.in_ok-id.id c.args.inst.now c.in_ok-read.read c.as_slice-places.result.now c.as_slice-notes.result.now c.in_ok-read.ensures.notes c.as_slice-places.ensures.value c.as_slice-notes.ensures
