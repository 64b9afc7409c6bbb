use Rattle.std.proofs.Common.{ℕ, List, sym, ◌∙◌, subst}
use Rattle.edif_spec.specs.Means.{meant}
use Rattle.edif_names.specs.declared.scope.Meant.TheVariants as answers
use Rattle.edif_parts.specs.Names.{Tells, ids}
use Rattle.edif_parts.proofs.FewLemmas.{means_absent, means_equal, means_one, means_several}
use Rattle.edif_parts.proofs.few_names.FewNames.meant.Goals as goal

pub returns-in-Some : goal.returns-in-Some
returns-in-Some c =
    let T : List (List ℕ × ℕ) → Type 0 = λ v. Tells (meant (ids v) c.args.name.now) (answers.Found c.in-Some.at) in
    subst T (c.as_slice-names.ensures.value ∙ c.self.view_is) (means_equal (ids c.as_slice-names.result.now) c.args.name.now c.in-Some.at (sym c.first_equal.ensures ∙ c.in-Some.is))

pub returns-in-None : goal.returns-in-None
returns-in-None c =
    let T : List (List ℕ × ℕ) → Type 0 = λ v. Tells (meant (ids v) c.args.name.now) answers.Absent in
    subst T (c.as_slice-names.ensures.value ∙ c.self.view_is) (means_absent (ids c.as_slice-names.result.now) c.args.name.now (sym c.first_equal.ensures ∙ c.in_default.is) (sym c.first_same.ensures ∙ c.in-None.is))

pub returns-then-is_one_same : goal.returns-then-is_one_same
returns-then-is_one_same c =
    let T : List (List ℕ × ℕ) → Type 0 = λ v. Tells (meant (ids v) c.args.name.now) (answers.Found c.in-Some-first_same.at) in
    subst T (c.as_slice-names.ensures.value ∙ c.self.view_is) (means_one (ids c.as_slice-names.result.now) c.args.name.now (sym c.first_equal.ensures ∙ c.in_default.is) c.in-Some-first_same.at (sym c.first_same.ensures ∙ c.in-Some-first_same.is) (sym c.is_one_same.ensures ∙ c.if-is_one_same.true))

pub returns-else-is_one_same : goal.returns-else-is_one_same
returns-else-is_one_same c =
    let T : List (List ℕ × ℕ) → Type 0 = λ v. Tells (meant (ids v) c.args.name.now) answers.Several in
    subst T (c.as_slice-names.ensures.value ∙ c.self.view_is) (means_several (ids c.as_slice-names.result.now) c.args.name.now (sym c.first_equal.ensures ∙ c.in_default.is) c.in-Some-first_same.at (sym c.first_same.ensures ∙ c.in-Some-first_same.is) (sym c.is_one_same.ensures ∙ c.if-is_one_same.false))
