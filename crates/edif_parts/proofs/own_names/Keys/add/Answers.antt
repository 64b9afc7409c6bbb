use Rattle.std.proofs.Common.{◌≡◌, ℕ, List, [], ◌∷◌, ◌++◌, None, Some, refl, sym, ap, ◌∙◌, subst, nat_eq, arith}
use Rattle.std.specs.List.{Contains}
use Rattle.std.specs.Prelude.{OnOk, IfErr}
use Rattle.std.specs.Map.{lookup}
use Rattle.std.specs.Cmp.Lexicographic.{pointwise}
use Rattle.std.proofs.lemmas.List.Elements.{Contains-append_left}
use Rattle.edif_parts.specs.Names.{DefinesName, IsAgain}
use Rattle.edif_parts.specs.Reading.{Names as FailsBy}
use Rattle.edif_parts.proofs.OwnLemmas.{added_behind, again_behind, is_there, neither, none_in, one_more_few}
use Rattle.edif_parts.proofs.own_names.Keys.add.Goals as goal

pub returns-in-Some-clause-err : goal.returns-in-Some-clause-err
returns-in-Some-clause-err c =
    let few : List (List ℕ × ℕ) = c.self.inside.few.items in
    let P : List (List ℕ × ℕ) → Type 0 = λ v. Contains v (c.args.name.now, c.in-Some.earlier) in
    let found : lookup (pointwise nat_eq c.args.name.now) few ≡ Some c.in-Some.earlier = ap (lookup (pointwise nat_eq c.args.name.now)) (sym c.as_slice.ensures.value) ∙ sym c.place_among.ensures ∙ c.in-Some.is in
    rw c.clash.ensures (c.in-Some.earlier, subst P c.self.view_is (Contains-append_left few c.self.inside.others (c.args.name.now, c.in-Some.earlier) (is_there c.args.name.now few c.in-Some.earlier found)), refl)

pub returns-then-len-ge-FEW-clause-ok : goal.returns-then-len-ge-FEW-clause-ok
returns-then-len-ge-FEW-clause-ok c =
    let few : List (List ℕ × ℕ) = c.self.inside.few.items in
    let absent : lookup (pointwise nat_eq c.args.name.now) few ≡ None = ap (lookup (pointwise nat_eq c.args.name.now)) (sym c.as_slice.ensures.value) ∙ sym c.place_among.ensures ∙ c.in_default.is in
    subst (λ v. OnOk c.add.result (DefinesName v c.args.name.now c.args.place (few ++ c.add.new.self) None)) c.self.view_is
    (added_behind c.add.result c.args.name.now c.args.place few c.self.inside.others c.add.new.self absent c.add.ensures.ok)

pub returns-then-len-ge-FEW-clause-err : goal.returns-then-len-ge-FEW-clause-err
returns-then-len-ge-FEW-clause-err c =
    subst (λ v. IfErr c.add.result (FailsBy (IsAgain v c.args.name.now c.args.place))) c.self.view_is
    (again_behind c.add.result c.args.name.now c.args.place c.self.inside.few.items c.self.inside.others c.add.ensures.err)

pub returns-clause-ok : goal.returns-clause-ok
returns-clause-ok c =
    let few : List (List ℕ × ℕ) = c.self.inside.few.items in
    let others : List (List ℕ × ℕ) = c.self.inside.others in
    let name : List ℕ = c.args.name.now in
    let none : others ≡ [] = c.self.invariant (omega (arith, c.if-len-ge-FEW.false)) in
    let absent : lookup (pointwise nat_eq name) few ≡ None = ap (lookup (pointwise nat_eq name)) (sym c.as_slice.ensures.value) ∙ sym c.place_among.ensures ∙ c.in_default.is in
    let put : c.push.new.self.items ≡ few ++ (name, c.args.place) ∷ [] = c.in_ok-push.ensures.items ∙ ap (λ n. few ++ (n, c.args.place) ∷ []) c.in_ok-key.ensures in
    let told : DefinesName (few ++ others) name c.args.place (c.push.new.self.items ++ others) None = (
      λ h. neither name few others absent (none_in name others none) h.0 h.1 h.2,
      ap (λ v. v ++ others) put ∙ one_more_few few others (name, c.args.place) none,
    ) in
    subst (λ v. DefinesName v name c.args.place (c.push.new.self.items ++ others) None) c.self.view_is told
