use Rattle.std.proofs.Common.{ℕ, List, [], ◌∷◌, ◌++◌, refl, sym, ap, ◌∙◌, subst}
use Rattle.std.specs.List.{Contains}
use Rattle.std.proofs.lemmas.List.{map-append}
use Rattle.indexmap.proofs.CallerLemmas.{insert_entry-new}
use Rattle.edif_spec.specs.Design as design
use Rattle.edif_nets.specs.Joins.{bits}
use Rattle.edif_nets.specs.declared.joins.Key.{Key}
use Rattle.edif_nets.proofs.JoinKeys.{eq, end_of, joined, joined_at, key_of, not_joined}
use Rattle.edif_nets.proofs.joins.Joins.add.Goals as goal

pub returns-in-Some-clause-err : goal.returns-in-Some-clause-err
returns-in-Some-clause-err c =
    let P : List (design.End × ℕ) → Type 0 = λ v. Contains v (c.args.end, c.in-Some.earlier) in
    rw c.clash.ensures (c.in-Some.earlier, subst P c.self.view_is (joined_at (key_of c.args.end) c.self.inside.places.entries c.in-Some.earlier (sym c.in_ok-earlier.ensures.old ∙ c.in-Some.is)), refl)

pub returns-clause-ok : goal.returns-clause-ok
returns-clause-ok c =
    let P : List (design.End × ℕ) → Type 0 = λ v. Contains (bits v) c.args.end → ⊥ in
    let absent = sym c.in_ok-earlier.ensures.old ∙ c.in_default.is in
    let put = c.in_ok-earlier.ensures.entries ∙ insert_entry-new eq c.self.inside.places (key_of c.args.end) c.args.place absent in (
      subst P c.self.view_is (λ h. not_joined (key_of c.args.end) c.self.inside.places.entries absent h.0 c.args.end h.1 h.2),
      ap joined put ∙ (map-append (λ (e : Key × ℕ). (end_of e.0, e.1)) c.self.inside.places.entries ((key_of c.args.end, c.args.place) ∷ []) ∙ ap (λ v. v ++ (c.args.end, c.args.place) ∷ []) c.self.view_is),
    )
