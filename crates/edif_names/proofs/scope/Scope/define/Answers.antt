use Rattle.std.proofs.Common.{◌≡◌, List, [], ◌∷◌, ◌++◌, length, sym, ap, refl, subst, ◌∙◌, nat_eq, option_map, arith}
use Rattle.std.specs.Cmp.Lexicographic.{pointwise}
use Rattle.std.specs.Map.{lookup}
use Rattle.std.proofs.lemmas.List.{length-map}
use Rattle.indexmap.proofs.CallerLemmas.{insert_entry-new}
use Rattle.edif_names.specs.Folded.{AreSpotsOf, Numbered}
use Rattle.edif_names.specs.Scope.{equal_to, numbered}
use Rattle.edif_names.proofs.ScopeLemmas.{looked, none_of, one_defined, one_numbered, on_ok}
use Rattle.edif_names.proofs.scope.Scope.define.Goals as goal

pub returns-in-Some-clause-ok : goal.returns-in-Some-clause-ok
returns-in-Some-clause-ok c = (
  ap (λ ds. option_map (λ d. d.place) (equal_to c.args.name.now ds)) (sym c.self.view_is)
      ∙ looked (λ v. v) (λ i q. q) c.args.name.now c.self.inside.exact.entries
      ∙ ap (option_map (λ v. v.place)) (sym c.in-Some.ensures.value),
  refl,
)

pub invariant_of-self-2 : goal.invariant_of-self-2
invariant_of-self-2 c =
    let key : c.in_ok-key.key ≡ c.args.name.now = c.in_ok-key.ensures in
    let kept = c.in_ok-reserve.ensures.entries in
    let absent = ap (λ es. lookup (λ k. pointwise nat_eq c.in_ok-key.key k) es) kept
    ∙ ap (λ n. lookup (λ k. pointwise nat_eq n k) c.self.inside.exact.entries) c.in_ok-key.ensures
    ∙ sym c.in_default.ensures.value in
    let put = on_ok _ _ c.unwrap.ensures c.insert.ensures.entries
    ∙ insert_entry-new (λ x y. pointwise nat_eq x y) c.reserve.new.self c.in_ok-key.key (record { id = c.args.id; place = c.args.place }) absent
    ∙ ap (λ es. es ++ (c.in_ok-key.key, record { id = c.args.id; place = c.args.place }) ∷ []) kept in
    let ns : List Numbered = numbered c.self.inside.exact.entries in
    let n : Numbered = record { name = c.in_ok-key.key; id = c.args.id } in
    let all : numbered c.insert.new.self.entries ≡ ns ++ n ∷ [] = one_numbered (λ v. v) c.self.inside.exact.entries c.insert.new.self.entries c.in_ok-key.key (record { id = c.args.id; place = c.args.place }) put in
    let there : length c.reserve.new.self.entries ≡ c.in-Ok.last = grind arith in
    let long : length ns ≡ c.in-Ok.last = length-map c.self.inside.exact.entries (λ e. record { name = e.0; id = e.1.id }) ∙ sym (ap length kept) ∙ there in
    subst (λ v. AreSpotsOf v c.add.new.self) (sym all) (c.in_ok-add.ensures.ok ns n long key c.self.invariant)

pub returns-clause-ok : goal.returns-clause-ok
returns-clause-ok c =
    let key : c.in_ok-key.key ≡ c.args.name.now = c.in_ok-key.ensures in
    let kept = c.in_ok-reserve.ensures.entries in
    let absent = ap (λ es. lookup (λ k. pointwise nat_eq c.in_ok-key.key k) es) kept
    ∙ ap (λ n. lookup (λ k. pointwise nat_eq n k) c.self.inside.exact.entries) c.in_ok-key.ensures
    ∙ sym c.in_default.ensures.value in
    let put = on_ok _ _ c.unwrap.ensures c.insert.ensures.entries
    ∙ insert_entry-new (λ x y. pointwise nat_eq x y) c.reserve.new.self c.in_ok-key.key (record { id = c.args.id; place = c.args.place }) absent
    ∙ ap (λ es. es ++ (c.in_ok-key.key, record { id = c.args.id; place = c.args.place }) ∷ []) kept in (
      none_of (λ d. d.place) (equal_to c.args.name.now c.args.self.now)
          (ap (λ ds. option_map (λ d. d.place) (equal_to c.args.name.now ds)) (sym c.self.view_is)
          ∙ looked (λ v. v) (λ i q. q) c.args.name.now c.self.inside.exact.entries
          ∙ ap (option_map (λ v. v.place)) (sym c.in_default.ensures.value)),
      one_defined (λ v. v) c.self.inside.exact.entries c.insert.new.self.entries c.in_ok-key.key (record { id = c.args.id; place = c.args.place }) put
          ∙ ap (λ ds. ds ++ record { name = c.in_ok-key.key; id = c.args.id; place = c.args.place } ∷ []) c.self.view_is
          ∙ ap (λ n. c.args.self.now ++ record { name = n; id = c.args.id; place = c.args.place } ∷ []) key,
    )
