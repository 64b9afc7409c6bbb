-- Properties that no note changes.
use Rattle.std.proofs.Common.{◌≡◌, ℕ, List, [], ◌∷◌, map, length, refl, ap, ◌∙◌, append-nil, arith, true}
use Rattle.std.specs.Prelude.{nat_eq}
use Rattle.std.proofs.lemmas.Bool.Decides.{nat_tests}
use Rattle.netlist_schema.specs.Types.{Note, Property}
use Rattle.flat_spec.specs.Effective.{merged, replaced}
use Rattle.flat_items.specs.Placed.{properties_at}

kept : (base : List Property) → map (replaced []) base ≡ base
kept [] = refl
kept (p ∷ base) = ap (λ v. p ∷ v) (kept base)

pub unchanged : (base : List Property) → merged base [] ≡ base
unchanged base = append-nil (map (replaced []) base) ∙ kept base

none_long : (places : List ℕ) → length places ≡ 0 → places ≡ []
none_long [] long = refl
none_long (place ∷ places) long = absurd (omega (arith, long))

no_length : (n : ℕ) → nat_eq n 0 ≡ true → n ≡ 0
no_length n is = grind (arith, nat_tests)

pub unchanged_at : (base : List Property) (notes : List Note) (places : List ℕ) → nat_eq (length places) 0 ≡ true → merged base (properties_at notes places) ≡ base
unchanged_at base notes places none =
    ap (λ v. merged base (properties_at notes v)) (none_long places (no_length (length places) none)) ∙ unchanged base
