use Rattle.std.proofs.Common.{ℕ, List, sym, subst}
use Rattle.edif_spec.specs.Faults.{RowFault}
use Rattle.edif_spec.specs.declared.fault.Kind.TheVariants.{BadForm}
use Rattle.edif_spec.specs.declared.fault.MeaningFault.TheVariants.{NotInProfile, At}
use Rattle.edif_tree.specs.Handles.{here}
use Rattle.edif_parts.proofs.parts.read_parts.Goals as goal

pub returns-in_ok-keyword-in-Err-NotInProfile : goal.returns-in_ok-keyword-in-Err-NotInProfile
returns-in_ok-keyword-in-Err-NotInProfile c =
    let P : List ℕ → Type 0 = λ v. RowFault c.args.keyword (here c.args.node) (NotInProfile v c.in-Err-NotInProfile.place) in
    let h : RowFault c.args.keyword (here c.args.node) (NotInProfile c.in-Err-NotInProfile.keyword.now c.in-Err-NotInProfile.place) = rw c.in-Err-NotInProfile.field-0-is at c.in-Err-NotInProfile.ensures.err in
    subst P (sym c.in_ok-keyword-in-Err-NotInProfile.ensures) h

pub returns-in-Err-BadForm : goal.returns-in-Err-BadForm
returns-in-Err-BadForm c =
    let h : RowFault c.args.keyword (here c.args.node) (At BadForm c.in-Err-BadForm.place) = rw c.in-Err-BadForm.field-0-is at c.in-Err-BadForm.ensures.err in
    rw c.bad_form.ensures h
