-- Names that are handed down, joint by joint.
use Rattle.std.proofs.Common.{◌≡◌, ◌<◌, ◌≤◌, ◌+◌, ℕ, List, [], ◌∷◌, ◌++◌, length, get_or, take, refl, sym, ap, subst, ◌∙◌, inl, inr, arith, Some, None, Option, slice_get}
use Rattle.std.specs.Prelude.{IsSome}
use Rattle.std.specs.List.{All}
use Rattle.std.proofs.lemmas.Bool.{cases_eq, false≢true}
use Rattle.std.proofs.lemmas.List.{take_more, take_all}
use Rattle.std.proofs.lemmas.List.Elements.{Contains-push, Contains-push_cases, Contains-append_left}
use Rattle.std.proofs.lemmas.Option.{none-some, same_Some}
use Rattle.net_classes.specs.declared.joints.Joint.{Joint}
use Rattle.net_names.specs.Names.{AreHanded, AreOwnNames, IsHanded, IsHandedOne, by_itself, through}
use Rattle.net_names.specs.declared.names.NetName.{NetName}

module _ (first : Joint → Option ℕ) (outside : ℕ → Option NetName) (depth count : ℕ) where
  pub hand_none : (names : List NetName) → AreOwnNames depth count names → AreHanded first outside depth [] count names
  hand_none names own = record {
    long = own.long;
    each = λ n less. (record { depth = depth; net = n }, own.each n less, by_itself refl (λ j has is. absurd (omega (arith, has.1))));
  }

  module _ (joints : List Joint) (j : Joint) where
    -- no joint more is of the net
    still : (n : ℕ) (name : NetName) → (first j ≡ Some n → ⊥) → IsHanded first outside depth joints n name → IsHanded first outside depth (joints ++ j ∷ []) n name
    still n name apart (by_itself own none) =
        by_itself own (λ k has is. elim (Contains-push_cases joints j k has) [
          | inl early ↦ none k early is
          | inr here ↦ apart (ap first here ∙ is)
        ])
    still n name apart (through k has is given) = through k (Contains-append_left joints (j ∷ []) k has) is given

    one_more : (old new : List NetName) → IsSome (outside j.net) → IsHandedOne (first j) (outside j.net) old new → AreHanded first outside depth joints count old
        → AreHanded first outside depth (joints ++ j ∷ []) count new
    one_more old new named one h = record { long = one.long ∙ h.long; each = λ n less. go n less (first j) refl }
      where
        given : (o : Option NetName) → IsSome o → (name : NetName) × (o ≡ Some name)
        given None is = absurd (false≢true is)
        given (Some name) is = (name, refl)

        kept : (n : ℕ) → n < count → (first j ≡ Some n → ⊥) → (name : NetName) × (slice_get new n ≡ Some name) × IsHanded first outside depth (joints ++ j ∷ []) n name
        kept n less apart = let before = h.each n less in (before.0, one.miss n apart ∙ before.1, still n before.0 apart before.2)

        go : (n : ℕ) → n < count → (o : Option ℕ) → first j ≡ o → (name : NetName) × (slice_get new n ≡ Some name) × IsHanded first outside depth (joints ++ j ∷ []) n name
        go n less None is = kept n less (λ e. none-some n (sym is ∙ e))
        go n less (Some m) is = elim (cases_eq m n) [
          | inl same ↦
              let hit : first j ≡ Some n = is ∙ ap Some same in
              let name = given (outside j.net) named in
              (name.0, one.hit n name.0 hit name.1 (omega (arith, less, h.long)), through j (Contains-push joints j) hit name.1)
          | inr other ↦ kept n less (λ e. other (same_Some m n (sym is ∙ e)))
        ]

  pub hand_more : (joints : List Joint) (i : ℕ) (j : Joint) (old new : List NetName) → i < length joints → j ≡ get_or joints i j → All (λ (v : Joint). IsSome (outside v.net)) joints
      → IsHandedOne (first j) (outside j.net) old new → AreHanded first outside depth (take i joints) count old → AreHanded first outside depth (take (i + 1) joints) count new
  hand_more joints i j old new within is named one h =
      let more : take (i + 1) joints ≡ take i joints ++ j ∷ [] = take_more joints i j within ∙ ap (λ v. take i joints ++ v ∷ []) (sym is) in
      let here : IsSome (outside j.net) = subst (λ (v : Joint). IsSome (outside v.net)) (sym is) (named i j within) in
      subst (λ v. AreHanded first outside depth v count new) (sym more) (one_more (take i joints) j old new here one h)

  pub hand_all : (joints : List Joint) (i : ℕ) (names : List NetName) → length joints ≤ i → AreHanded first outside depth (take i joints) count names
      → AreHanded first outside depth joints count names
  hand_all joints i names past h = subst (λ v. AreHanded first outside depth v count names) (take_all i joints past) h
