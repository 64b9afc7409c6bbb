use Rattle.std.proofs.Common.{List, subst}
use Rattle.edif_spelling_spec.specs.Tree.{Placed}
use Rattle.edif_spec.specs.Stands.{Stands}
use Rattle.edif_tree.specs.Handles.{here, all}
use Rattle.edif_build.specs.Files.{DesignAt, ReadForm, SecondDesigns}
use Rattle.edif_parts.proofs.Answering.{hand_on}
use Rattle.edif_build.proofs.FileLemmas.{fixed_has, second_stands}
use Rattle.edif_build.proofs.file.read_form.Goals as goal

pub returns-in_err-design : goal.returns-in_err-design
returns-in_err-design c =
    let t = here c.args.root in
    let r = c.in_ok-parts.ensures in
    hand_on (ReadForm t) (SecondDesigns (all c.in_ok-parts.parts.inner)) (Stands t) c.from_residual-in_err-design.result c.in_err-design.field-0.0 c.from_residual-in_err-design.ensures.1
    (λ f b. (let F : List Placed → Type 0 = λ v. SecondDesigns v f in second_stands t f r.fits.keyword (subst F r.inner b))) c.in_err-design.ensures

pub returns : goal.returns
returns c =
    let r = c.in_ok-parts.ensures in
    let D : List Placed → Type 0 = λ v. DesignAt v c.in_ok-design.design in
    let d = subst D r.inner c.in_ok-design.ensures in
    record { fixed = fixed_has (here c.args.root) c.in_ok-parts.parts c.in_ok-design.design r d; inner = r.inner; design = d }
