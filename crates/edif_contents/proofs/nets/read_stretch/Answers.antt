use Rattle.std.proofs.Common.{◌≢◌, sym, ap, ◌∙◌, inl, inr}
use Rattle.edif_spec.specs.Nets.{row_size}
use Rattle.edif_spec.specs.declared.fault.MeaningFault.TheVariants.{At}
use Rattle.edif_tree.specs.Handles.{here}
use Rattle.edif_parts.proofs.Answering.{hand_on}
use Rattle.edif_contents.specs.Ends.{EndFaultIn}
use Rattle.edif_contents.specs.Nets.{IsWideEnd, WideEndFault}
use Rattle.edif_contents.proofs.NetLemmas.{wide_end, width_fails}
use Rattle.edif_contents.proofs.nets.read_stretch.Goals as goal

pub returns-in_err-end : goal.returns-in_err-end
returns-in_err-end c =
    let t = here c.args.node in
    let s = c.args.around.now in
    let array = c.args.array.now in
    hand_on (IsWideEnd s array t) (EndFaultIn s t) (WideEndFault s array t) c.from_residual.result c.in_err-end.field-0.0 c.from_residual.ensures.1 (λ f h. inl h) c.in_err-end.ensures

pub returns-then-end-size : goal.returns-then-end-size
returns-then-end-size c =
    let array = c.args.array.now in
    let end = c.in_ok-end.end in
    let other : end.stretch.width ≢ row_size array = λ e. c.if-end-size.true (e ∙ sym c.row_size-size.ensures) in
    rw c.fault_at.ensures (inr (width_fails c.args.around.now array (here c.args.node) end _ c.in_ok-end.ensures other (ap (λ v. At v end.place) c.width_kind.ensures)))

pub returns : goal.returns
returns c = wide_end c.args.around.now c.args.array.now (here c.args.node) c.in_ok-end.end c.stretch_of.result c.in_ok-end.ensures c.stretch_of.ensures.same c.stretch_of.ensures.within (c.if-end-size.false ∙ c.row_size-size.ensures)
