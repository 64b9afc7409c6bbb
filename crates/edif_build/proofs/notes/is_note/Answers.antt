use Rattle.std.proofs.Common.{◌≡◌, ◌∙◌, ap, sym, true, false}
use Rattle.std.specs.Prelude.{slice_get}
use Rattle.edif_spelling_spec.specs.Tree.{bare}
use Rattle.edif_spec.specs.Rows.{has_keyword}
use Rattle.edif_spec.specs.declared.keyword.Keyword.TheVariants.{UserData}
use Rattle.edif_tree.specs.Handles.{here}
use Rattle.edif_build.proofs.NotedLemmas.{mark_tells, no_mark, no_user_data}
use Rattle.edif_build.proofs.notes.is_note.Goals as goal

pub returns-then-not-is_form_of : goal.returns-then-not-is_form_of
returns-then-not-is_form_of c =
    let t = here c.args.node in
    let e = c.is_form_of.ensures in
    let n : has_keyword UserData (bare t) ≡ false = cc in
    no_user_data t n

pub returns-in-Some : goal.returns-in-Some
returns-in-Some c =
    let t = here c.args.node in
    let e = c.is_form_of.ensures in
    let k : has_keyword UserData (bare t) ≡ true = cc in
    mark_tells t (here c.at.result) c.is_mark.result k (ap (λ v. slice_get v 0) (sym c.in-Some.ensures.some.0) ∙ c.at.ensures) c.is_mark.ensures

pub returns-in-None : goal.returns-in-None
returns-in-None c =
    let t = here c.args.node in
    let e = c.is_form_of.ensures in
    let k : has_keyword UserData (bare t) ≡ true = cc in
    no_mark t k c.in-None.ensures.none
