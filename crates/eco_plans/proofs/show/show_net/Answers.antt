use Rattle.std.proofs.Common.{List, map, sym, ap, subst, ◌∙◌}
use Rattle.edit_rules_spec.specs.declared.reply.EndName.{EndName}
use Rattle.edit_rules_spec.specs.declared.reply.Reply.TheVariants.{Net as ShownNet}
use Rattle.edit_spec.specs.declared.ops.Op.TheVariants.{ShowNet}
use Rattle.eco_reads.specs.Done.{IsDone}
use Rattle.eco_reads.proofs.Reading.{found_inside}
use Rattle.eco_plans.specs.Shown.{seen_end}
use Rattle.eco_plans.proofs.ShowNet.{show_net_done, show_net_missing, show_no_net}
use Rattle.eco_reads.proofs.Outcomes.{missing_or}
use Rattle.eco_plans.proofs.show.show_net.Goals as goal

pub returns-in_err-id : goal.returns-in_err-id
returns-in_err-id g c =
    missing_or (g.C.Cells.state c.args.cells.now) (g.C.Cells.state c.read_named.new.cells) (ShowNet c.args.name.now c.args.net.now) c.args.name.now c.from_residual.result c.in_err-id.field-0.0 c.from_residual.ensures.1 c.in_err-id.ensures.found c.in_err-id.ensures.reads
    (λ reply read missing. show_net_missing (g.C.Cells.state c.args.cells.now) (g.C.Cells.state c.read_named.new.cells) c.args.name.now c.args.net.now reply read missing)

pub returns-in_default : goal.returns-in_default
returns-in_default g c =
    show_no_net (g.C.Cells.state c.args.cells.now) (g.C.Cells.state c.contents.follows.lender-at-none) c.args.name.now c.args.net.now c.in_ok-id.id _
    (found_inside (g.C.Cells.state c.args.cells.now) (g.C.Cells.state c.read_named.new.cells) (g.C.Cells.state c.contents.follows.lender-at-none) c.args.name.now c.in_ok-id.id _ c.in_ok-id.ensures.found c.in_ok-id.ensures.reads c.in_ok-contents.ensures.found (rw c.in_ok-contents.was at c.contents.follows.holds-at-none))
    (rw c.in_default.is at c.in_ok-ends.ensures)

pub returns : goal.returns
returns g c =
    let ends = rw c.in-Some.is at c.in_ok-ends.ensures in
    subst (λ (shown : List EndName). IsDone (g.C.Cells.state c.args.cells.now) (g.C.Cells.state c.name_ends.new.cells) (ShowNet c.args.name.now c.args.net.now) (ShownNet shown)) (sym c.of.ensures)
    (show_net_done (g.C.Cells.state c.args.cells.now) (g.C.Cells.state c.contents.follows.lender-at-none) (g.C.Cells.state c.name_ends.new.cells) c.args.name.now c.args.net.now c.in_ok-id.id _ (map seen_end c.as_slice.result.now) c.in_ok-shown.shown.items
    (found_inside (g.C.Cells.state c.args.cells.now) (g.C.Cells.state c.read_named.new.cells) (g.C.Cells.state c.contents.follows.lender-at-none) c.args.name.now c.in_ok-id.id _ c.in_ok-id.ensures.found c.in_ok-id.ensures.reads c.in_ok-contents.ensures.found (rw c.in_ok-contents.was at c.contents.follows.holds-at-none))
    ends.0 (ap (map seen_end) c.as_slice.ensures.value ∙ ends.1) c.in_ok-shown.ensures.named c.in_ok-shown.ensures.reads)
