use Rattle.std.proofs.Common.{◌≡◌, ℕ, List, [], ◌∷◌, ◌++◌, None, Some, refl, sym, ap, ◌∙◌, subst, nat_eq}
use Rattle.std.specs.List.{Contains}
use Rattle.std.specs.Map.{lookup}
use Rattle.std.specs.Cmp.Lexicographic.{pointwise}
use Rattle.indexmap.proofs.CallerLemmas.{insert_entry-new}
use Rattle.edif_parts.specs.Names.{DefinesName}
use Rattle.edif_parts.proofs.OwnLemmas.{is_there, not_there}
use Rattle.edif_parts.proofs.own_names.OwnNames.add.Goals as goal

pub returns-in-Some-clause-err : goal.returns-in-Some-clause-err
returns-in-Some-clause-err c =
    let es : List (List ℕ × ℕ) = c.self.inside.places.entries in
    let P : List (List ℕ × ℕ) → Type 0 = λ v. Contains v (c.args.name.now, c.in-Some.earlier) in
    let there : lookup (pointwise nat_eq c.args.name.now) es ≡ Some c.in-Some.earlier = ap (λ n. lookup (pointwise nat_eq n) es) (sym c.in_ok-key.ensures) ∙ (sym c.in_ok-earlier.ensures.old ∙ c.in-Some.is) in
    rw c.clash.ensures (c.in-Some.earlier, subst P c.self.view_is (is_there c.args.name.now es c.in-Some.earlier there), refl)

pub returns-clause-ok : goal.returns-clause-ok
returns-clause-ok c =
    let es : List (List ℕ × ℕ) = c.self.inside.places.entries in
    let name : List ℕ = c.args.name.now in
    let D : List (List ℕ × ℕ) → Type 0 = λ v. DefinesName v name c.args.place c.insert.new.self.entries None in
    let absent : lookup (pointwise nat_eq c.in_ok-key.key) es ≡ None = sym c.in_ok-earlier.ensures.old ∙ c.in_default.is in
    let put = c.in_ok-earlier.ensures.entries ∙ insert_entry-new (pointwise nat_eq) c.self.inside.places c.in_ok-key.key c.args.place absent in
    let told : DefinesName es name c.args.place c.insert.new.self.entries None = (
      λ h. not_there name es (ap (λ n. lookup (pointwise nat_eq n) es) (sym c.in_ok-key.ensures) ∙ absent) h.0 h.1 h.2,
      put ∙ ap (λ n. es ++ (n, c.args.place) ∷ []) c.in_ok-key.ensures,
    ) in
    subst D c.self.view_is told
