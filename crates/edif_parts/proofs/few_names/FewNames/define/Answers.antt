use Rattle.std.proofs.Common.{◌≡◌, ℕ, List, [], ◌∷◌, ◌++◌, None, Some, refl, sym, ap, ◌∙◌, subst, nat_eq}
use Rattle.std.specs.List.{Contains}
use Rattle.std.specs.Map.{lookup}
use Rattle.std.specs.Cmp.Lexicographic.{pointwise}
use Rattle.edif_parts.specs.Names.{DefinesName}
use Rattle.edif_parts.proofs.OwnLemmas.{is_there, not_there}
use Rattle.edif_parts.proofs.few_names.FewNames.define.Goals as goal

pub returns-in-Some-clause-ok : goal.returns-in-Some-clause-ok
returns-in-Some-clause-ok c =
    let few : List (List ℕ × ℕ) = c.self.inside.names.items in
    let P : List (List ℕ × ℕ) → Type 0 = λ v. Contains v (c.args.name.now, c.in-Some.earlier) in
    let found : lookup (pointwise nat_eq c.args.name.now) few ≡ Some c.in-Some.earlier = ap (lookup (pointwise nat_eq c.args.name.now)) (sym c.as_slice.ensures.value) ∙ sym c.place_among.ensures ∙ c.in-Some.is in
    (subst P c.self.view_is (is_there c.args.name.now few c.in-Some.earlier found), refl)

pub returns-clause-ok : goal.returns-clause-ok
returns-clause-ok c =
    let few : List (List ℕ × ℕ) = c.self.inside.names.items in
    let name : List ℕ = c.args.name.now in
    let absent : lookup (pointwise nat_eq name) few ≡ None = ap (lookup (pointwise nat_eq name)) (sym c.as_slice.ensures.value) ∙ sym c.place_among.ensures ∙ c.in_default.is in
    let put : c.push.new.self.items ≡ few ++ (name, c.args.place) ∷ [] = c.in_ok-push.ensures.items ∙ ap (λ n. few ++ (n, c.args.place) ∷ []) c.in_ok-key.ensures in
    let told : DefinesName few name c.args.place c.push.new.self.items None = (λ h. not_there name few absent h.0 h.1 h.2, put) in
    subst (λ v. DefinesName v name c.args.place c.push.new.self.items None) c.self.view_is told
