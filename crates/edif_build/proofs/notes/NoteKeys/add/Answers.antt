use Rattle.std.proofs.Common.{ℕ, List, [], ◌∷◌, ◌++◌, refl, sym, ap, ◌∙◌, subst, nat_eq}
use Rattle.std.specs.Cmp.Lexicographic.{pointwise}
use Rattle.std.specs.List.{Contains}
use Rattle.std.specs.Map.{lookup}
use Rattle.indexmap.proofs.CallerLemmas.{insert_entry-new}
use Rattle.edif_parts.specs.Names.{ids}
use Rattle.edif_build.proofs.NoteKeyLemmas.{keyed, keyed_at, keyed_push, not_keyed}
use Rattle.edif_build.proofs.notes.NoteKeys.add.Goals as goal

pub returns-in-Some-clause-err : goal.returns-in-Some-clause-err
returns-in-Some-clause-err c =
    let es = c.self.inside.places.entries in
    let P : List (List ℕ × ℕ) → Type 0 = λ v. Contains v (c.args.key.items, c.in-Some.earlier) in
    let Q : List ℕ → Type 0 = λ v. Contains (keyed (λ k. k.items) es) (v, c.in-Some.earlier) in
    rw c.clash.ensures (c.in-Some.earlier, subst P c.self.view_is (subst Q c.as_slice.ensures.value (keyed_at (λ k. k.items) c.as_slice.result.now es c.in-Some.earlier (sym c.get.ensures.value ∙ sym c.in-Some.ensures))), refl)

pub returns-clause-ok : goal.returns-clause-ok
returns-clause-ok c =
    let es = c.self.inside.places.entries in
    let P : List (List ℕ × ℕ) → Type 0 = λ v. Contains (ids v) c.args.key.items → ⊥ in
    let none = sym c.get.ensures.value ∙ sym c.in_default.ensures in
    let absent = ap (λ n. lookup (λ k. pointwise nat_eq n k.items) es) (sym c.as_slice.ensures.value) ∙ none in
    let put = c.in_ok-insert.ensures.entries ∙ insert_entry-new (λ x y. pointwise nat_eq x.items y.items) c.self.inside.places c.args.key c.args.place absent in (
      subst P c.self.view_is (λ h. not_keyed (λ k. k.items) c.args.key.items es absent h.0 c.args.key.items h.1 h.2),
      keyed_push (λ k. k.items) es c.insert.new.self.entries c.args.key c.args.place put ∙ ap (λ v. v ++ (c.args.key.items, c.args.place) ∷ []) c.self.view_is,
    )
