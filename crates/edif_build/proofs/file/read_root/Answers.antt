use Rattle.std.proofs.Common.{ℕ, List, None, sym, subst}
use Rattle.edif_spec.specs.declared.fault.Kind.TheVariants.{BadForm}
use Rattle.edif_spec.specs.declared.fault.MeaningFault.TheVariants.{NotInProfile, At}
use Rattle.edif_tree.specs.Handles.{here}
use Rattle.edif_grammar.specs.Forms.{Fails}
use Rattle.edif_build.proofs.FileLemmas.{root_fails, root_is}
use Rattle.edif_build.proofs.file.read_root.Goals as goal

pub returns-in-Ok : goal.returns-in-Ok
returns-in-Ok c = root_is (here c.args.root) c.in-Ok.parts c.in-Ok.ensures.ok

pub returns-in_ok-keyword-in-Err-NotInProfile : goal.returns-in_ok-keyword-in-Err-NotInProfile
returns-in_ok-keyword-in-Err-NotInProfile c =
    let t = here c.args.root in
    let P : List ℕ → Type 0 = λ v. Fails None t (NotInProfile v c.in-Err-NotInProfile.place) in
    let h : Fails None t (NotInProfile c.in-Err-NotInProfile.keyword.now c.in-Err-NotInProfile.place) = rw c.in-Err-NotInProfile.field-0-is at c.in-Err-NotInProfile.ensures.err in
    root_fails t (NotInProfile c.in_ok-keyword-in-Err-NotInProfile.keyword c.in-Err-NotInProfile.place) (subst P (sym c.in_ok-keyword-in-Err-NotInProfile.ensures) h)

pub returns-in-Err-BadForm : goal.returns-in-Err-BadForm
returns-in-Err-BadForm c =
    let t = here c.args.root in
    let h : Fails None t (At BadForm c.in-Err-BadForm.place) = rw c.in-Err-BadForm.field-0-is at c.in-Err-BadForm.ensures.err in
    rw c.bad_form.ensures (root_fails t (At BadForm c.in-Err-BadForm.place) h)
