-- The nets of own bits, when one net more is looked at.
use Rattle.std.proofs.Common.{◌≡◌, ◌<◌, ◌≤◌, ◌+◌, ℕ, List, [], length, get_or, refl, sym, ap, subst, ◌∙◌, inl, inr, arith, Some, None, Option, slice_get}
use Rattle.std.specs.Option.{option_map_or}
use Rattle.std.proofs.lemmas.Bool.{cases_eq}
use Rattle.std.proofs.lemmas.Option.{slice_get-get_or, slice_get_within}
use Rattle.netlist_schema.specs.Types.{End, Net}
use Rattle.net_classes.specs.Own.{AreOwn, AreSet, HasNumber, NetHasNumber, ends_in}

pub own_more : (starts : List ℕ) (nets : List Net) (place : ℕ) (net : Net) (ends : List End) (own new : List (Option ℕ)) → place < length nets
    → net ≡ get_or nets place net → ends ≡ net.ends → length new ≡ length own → AreOwn starts nets place own
    → AreSet starts ends (length ends) place own new → AreOwn starts nets (place + 1) new
own_more starts nets place net ends own new within is ends_are long far set =
    let at : ends_in nets place ≡ ends =
    ap (λ o. option_map_or (λ (v : Net). v.ends) o []) (slice_get-get_or nets place net within ∙ ap Some (sym is)) ∙ sym ends_are in
    λ number inside. let old : number < length own = omega (arith, inside, long) in elim (set number old) [
      | inl same ↦ elim (far number old) [
        | inl none ↦ inl (
          same.0 ∙ none.0,
          λ n less has. elim (cases_eq n place) [
            | inl here ↦
                let moved : NetHasNumber starts nets place number = subst (λ v. NetHasNumber starts nets v number) here has in
                same.1 (subst (λ v. HasNumber starts v (length v) number) at moved)
            | inr other ↦ none.1 n (omega (arith, less, other)) has
          ],
        )
        | inr some ↦ inr (some.0, omega (arith, some.1), same.0 ∙ some.2, some.3)
      ]
      | inr hit ↦ inr (place, omega arith, hit.0, subst (λ v. HasNumber starts v (length v) number) (sym at) hit.1)
    ]

pub own_done : (starts : List ℕ) (nets : List Net) (count : ℕ) (own : List (Option ℕ)) → length nets ≤ count → AreOwn starts nets count own
    → AreOwn starts nets (length nets) own
own_done starts nets count own past far =
    λ number inside. elim (far number inside) [
      | inl none ↦ inl (none.0, λ n less has. none.1 n (omega (arith, less, past)) has)
      | inr some ↦ inr (some.0, there some.0 number (slice_get nets some.0) refl some.3, some.2, some.3)
    ]
  where
    there : (n number : ℕ) (o : Option Net) → slice_get nets n ≡ o → NetHasNumber starts nets n number → n < length nets
    there n number None e has =
        let none : length (ends_in nets n) ≡ 0 = ap (λ v. length (option_map_or (λ (net : Net). net.ends) v [])) e in
        absurd (omega (arith, none, has.1))
    there n number (Some net) e has = slice_get_within nets n net e
