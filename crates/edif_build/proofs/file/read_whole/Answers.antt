use Rattle.edif_spec.proofs.FaultsApart.{keyword_of}
use Rattle.std.proofs.Common.{◌≡◌, List, Result, sym, ap, ◌∙◌, subst}
use Rattle.netlist_schema.specs.Valid.{IsValid}
use Rattle.edif_spelling_spec.specs.Tree.{Placed, bare}
use Rattle.edif_spec.specs.Design as design
use Rattle.edif_spec.specs.Means.{MeansFile}
use Rattle.edif_spec.specs.Stands.{FileFault, Stands}
use Rattle.edif_spec.specs.Stands as stands
use Rattle.edif_spec.specs.declared.keyword.Keyword.TheVariants.{Edif}
use Rattle.edif_tree.specs.Handles.{here, all}
use Rattle.edif_build.specs.Files.{DesignAt, FollowersFail, ReadFollowers}
use Rattle.edif_parts.proofs.Answering.{hand_on}
use Rattle.edif_parts.specs.Reading.{Answers}
use Rattle.edif_parts.specs.declared.error.EdifError.{EdifError}
use Rattle.edif_build.proofs.FileLemmas.{followers_stand}
use Rattle.edif_build.proofs.FileValid.{file_means, valid_whole, whole}
use Rattle.edif_build.proofs.file.read_whole.Goals as goal

-- the answer for the tree at the root is that for the tree that stands there
at_root : (t u : Placed) (r : Result design.Design EdifError) → u ≡ t → Answers (λ d. MeansFile (bare u) d) (Stands u) r → Answers (λ d. MeansFile (bare t) d) (Stands t) r
at_root t u r e h = let P : Placed → Type 0 = λ v. Answers (λ d. MeansFile (bare v) d) (Stands v) r in subst P e h

pub returns-in_err-form : goal.returns-in_err-form
returns-in_err-form c = λ t a.
    let u = here c.root.result in
    at_root t u c.from_residual.result (c.root.ensures t a) (hand_on (λ d. MeansFile (bare u) d) (Stands u) (Stands u) c.from_residual.result c.in_err-form.field-0.0 c.from_residual.ensures.1 (λ f b. b) c.in_err-form.ensures)

pub read_heads-requires : goal.read_heads-requires
read_heads-requires c = (here c.root.result, c.in_ok-form.ensures.fixed)

pub returns-in_err-title : goal.returns-in_err-title
returns-in_err-title c = λ t a.
    let u = here c.root.result in
    let r = c.in_ok-form.ensures in
    at_root t u c.from_residual-in_err-title.result (c.root.ensures t a) (hand_on (λ d. MeansFile (bare u) d) (FileFault u) (Stands u) c.from_residual-in_err-title.result c.in_err-title.field-0.0 c.from_residual-in_err-title.ensures.1
    (λ f b. stands.in_file (keyword_of Edif (bare u) _ _ r.fixed.form) b) (c.in_err-title.ensures u r.fixed))

pub read_body-requires : goal.read_body-requires
read_body-requires c =
    let r = c.in_ok-form.ensures in
    let P : List Placed → Type 0 = λ v. DesignAt v c.in_ok-form.form.design in
    subst P (sym r.inner) r.design

pub returns-in_err-body : goal.returns-in_err-body
returns-in_err-body c = λ t a.
    let u = here c.root.result in
    let r = c.in_ok-form.ensures in
    at_root t u c.from_residual-in_err-body.result (c.root.ensures t a) (hand_on (λ d. MeansFile (bare u) d) (FollowersFail (all c.in_ok-form.form.inner)) (Stands u) c.from_residual-in_err-body.result c.in_err-body.field-0.0 c.from_residual-in_err-body.ensures.1
    (λ f b. (let F : List Placed → Type 0 = λ v. FollowersFail v f in followers_stand u f (keyword_of Edif (bare u) _ _ r.fixed.form) (subst F r.inner b))) c.in_err-body.ensures)

pub design_of-requires : goal.design_of-requires
design_of-requires c =
    let h = c.in_ok-title.ensures (here c.root.result) c.in_ok-form.ensures.fixed in
    let k = c.in_ok-body.ensures in
    let P : List design.Lib → Type 0 = λ v. IsValid (whole c.in_ok-title.title v c.in_ok-body.body.top) in
    subst P (sym k.2) (valid_whole (all c.in_ok-form.form.inner) c.in_ok-title.title k.0 c.in_ok-body.body.top h.typed k.1)

pub returns : goal.returns
returns c = λ t a.
    let u = here c.root.result in
    let r = c.in_ok-form.ensures in
    let h = c.in_ok-title.ensures u r.fixed in
    let k = c.in_ok-body.ensures in
    let top = c.in_ok-body.body.top in
    let K : List Placed → Type 0 = λ v. ReadFollowers v k.0 top in
    let Q : design.Design → Placed → Type 0 = λ d v. MeansFile (bare v) d in
    let e : whole c.in_ok-title.title k.0.libs top ≡ c.design_of.result = ap (λ v. whole c.in_ok-title.title v top) (sym k.2) ∙ sym c.design_of.ensures in
    subst (λ v. Q c.design_of.result v) (c.root.ensures t a) (subst (λ d. Q d u) e (file_means u c.in_ok-title.title k.0 top h (subst K r.inner k.1)))
