-- Pairs of nets whose joints are of one class.
use Rattle.std.proofs.Common.{◌≡◌, ◌<◌, ◌≤◌, ◌+◌, ◌⊎◌, ℕ, List, [], ◌∷◌, ◌++◌, Bool, true, false, length, get_or, refl, sym, ap, subst, ◌∙◌, inl, inr, arith, Some, None, Option}
use Rattle.std.specs.List.{Contains}
use Rattle.std.specs.FinMap.{nat_cmp-IsAntisymmetric}
use Rattle.std.specs.Ordering.{is_eq, nat_cmp}
use Rattle.std.proofs.lemmas.Bool.{cases_eq}
use Rattle.std.proofs.lemmas.List.{get_or_default}
use Rattle.std.proofs.lemmas.List.Elements.{Contains-push, Contains-push_cases, Contains-append_left}
use Rattle.netlist_schema.proofs.Objects.{both_are_Equal}
use Rattle.flat_spec.specs.Chains.{Chain}
use Rattle.flat_spec.proofs.ChainLemmas.{Chain-same, Chain-one, Chain-append, Chain-mono, Chain-sym}
use Rattle.flat_joined_numbers.specs.Joined.{AreJoined, IsPairOf}
use Rattle.net_classes.specs.Links.{AreLinkedSoFar, IsEarly, MeetInClass, StandFor, IsLinkAdded, class_cmp}
use Rattle.flat_joined_numbers.specs.declared.joined.Pair.{Pair}
use Rattle.net_classes.specs.declared.joints.Joint.{Joint}
use Rattle.net_classes.specs.declared.links.Class.{Class}
use Rattle.flat_joined_numbers.proofs.JoinedLemmas.{AreJoined-sym}

Some-net : (a b : ℕ) → Some a ≡ Some b → a ≡ b
Some-net a b e = cc e

-- more pairs lead wherever the pairs led
chain-more : (pairs : List Pair) (p : Pair) (m n : ℕ) → Chain (AreJoined pairs) m n → Chain (AreJoined (pairs ++ p ∷ [])) m n
chain-more pairs p m n k =
    Chain-mono (AreJoined pairs) (AreJoined (pairs ++ p ∷ [])) (λ v. v)
    (λ v w j. Chain-one {R = AreJoined (pairs ++ p ∷ [])} (j.0, Contains-append_left pairs (p ∷ []) j.0 j.1, j.2)) m n k

module _ (class : Joint → Option Class) where
  meet-sym : (among : Joint → Type 0) (m n : ℕ) → MeetInClass class among m n → MeetInClass class among n m
  meet-sym among m n h = record {
    first = h.second;
    second = h.first;
    shared = h.shared;
    first_among = h.second_among;
    second_among = h.first_among;
    first_net = h.second_net;
    second_net = h.first_net;
    first_class = h.second_class;
    second_class = h.first_class;
  }

  meet-more : (among later : Joint → Type 0) → ((j : Joint) → among j → later j) → (m n : ℕ) → MeetInClass class among m n → MeetInClass class later m n
  meet-more among later more m n h = record {
    first = h.first;
    second = h.second;
    shared = h.shared;
    first_among = more h.first h.first_among;
    second_among = more h.second h.second_among;
    first_net = h.first_net;
    second_net = h.second_net;
    first_class = h.first_class;
    second_class = h.second_class;
  }

  -- at the end pairs stand for joints of one class
  pub linked-stand : (among : Joint → Type 0) (seen : Class → Option ℕ) (pairs : List Pair) → AreLinkedSoFar class among seen pairs
      → StandFor (MeetInClass class among) pairs
  linked-stand among seen pairs far = record {
    sound = far.sound;
    complete = λ m n h.
        let one = far.known h.first h.shared h.first_among h.first_class in
        let two = far.known h.second h.shared h.second_among h.second_class in
        let same : one.0 ≡ two.0 = Some-net one.0 two.0 (sym one.1 ∙ two.1) in
        let to : Chain (AreJoined pairs) m one.0 = subst (λ v. Chain (AreJoined pairs) v one.0) h.first_net one.2 in
        let from : Chain (AreJoined pairs) n one.0 =
        subst (λ v. Chain (AreJoined pairs) v one.0) h.second_net (subst (λ v. Chain (AreJoined pairs) h.second.net v) (sym same) two.2) in
        Chain-append (AreJoined pairs) to (Chain-sym (AreJoined pairs) (AreJoined-sym pairs) n one.0 from);
  }

  -- one joint more
  module _ (among later : Joint → Type 0) (x : Joint) (more : (j : Joint) → among j → later j) (new : later x)
      (cases : (j : Joint) → later j → among j ⊎ (x ≡ j)) where
    -- which is of no class
    pub linked-none : (seen : Class → Option ℕ) (pairs : List Pair) → AreLinkedSoFar class among seen pairs → class x ≡ None
        → AreLinkedSoFar class later seen pairs
    linked-none seen pairs far none = record {
      noted = λ k net is. let h = far.noted k net is in (h.0, more h.0 h.1, h.2, h.3);
      known = λ j k there is. elim (cases j there) [
        | inl before ↦ far.known j k before is
        | inr same ↦ absurd (cc (none, ap class same, is))
      ];
      sound = λ m n j. meet-more among later more m n (far.sound m n j);
    }

    -- whose class was seen
    pub linked-again : (seen after : Class → Option ℕ) (pairs added : List Pair) (k : Class) (first : ℕ) → AreLinkedSoFar class among seen pairs
        → class x ≡ Some k → seen k ≡ Some first → IsLinkAdded seen pairs k x.net after added (Some first)
        → AreLinkedSoFar class later after added
    linked-again seen after pairs added k first far is known add =
        let pair : Pair = record { first = first; second = x.net } in
        subst (λ v. AreLinkedSoFar class later after v) (sym add.0) (record {
          noted = λ q net at. let h = far.noted q net (sym (add.1 q) ∙ at) in (h.0, more h.0 h.1, h.2, h.3);
          known = λ j q there of. elim (cases j there) [
            | inl before ↦ let h = far.known j q before of in (h.0, add.1 q ∙ h.1, chain-more pairs pair j.net h.0 h.2)
            | inr same ↦
                let q_is : Some k ≡ Some q = sym is ∙ ap class same ∙ of in
                let step : AreJoined (pairs ++ pair ∷ []) j.net first =
                (pair, Contains-push pairs pair, inr (refl, ap (λ (v : Joint). v.net) same)) in
                (first, add.1 q ∙ sym (ap seen (Some-class k q q_is)) ∙ known, Chain-one {R = AreJoined (pairs ++ pair ∷ [])} step)
          ];
          sound = λ m n j. elim (Contains-push_cases pairs pair j.0 j.1) [
            | inl before ↦ meet-more among later more m n (far.sound m n (j.0, before, j.2))
            | inr same ↦
                let h = far.noted k first known in
                let both : MeetInClass class later first x.net = record {
                  first = h.0;
                  second = x;
                  shared = k;
                  first_among = more h.0 h.1;
                  second_among = new;
                  first_net = h.3;
                  second_net = refl;
                  first_class = h.2;
                  second_class = is;
                } in
                let pair_is : IsPairOf pair m n = subst (λ (v : Pair). IsPairOf v m n) (sym same) j.2 in
                elim pair_is [
                  | inl ahead ↦ subst (λ v. MeetInClass class later v n) ahead.0 (subst (λ v. MeetInClass class later first v) ahead.1 both)
                  | inr back ↦ meet-sym later n m (subst (λ v. MeetInClass class later v m) back.0 (subst (λ v. MeetInClass class later first v) back.1 both))
                ]
          ];
        })
      where
        Some-class : (a b : Class) → Some a ≡ Some b → a ≡ b
        Some-class a b e = cc e

    -- whose class was not seen
    pub linked-first : (seen after : Class → Option ℕ) (pairs added : List Pair) (k : Class) → ((q : Class) → is_eq (class_cmp k q) ≡ true → k ≡ q)
        → AreLinkedSoFar class among seen pairs → class x ≡ Some k → seen k ≡ None → IsLinkAdded seen pairs k x.net after added None
        → AreLinkedSoFar class later after added
    linked-first seen after pairs added k same_class far is unseen add =
        subst (λ v. AreLinkedSoFar class later after v) (sym add.0) (record {
          noted = λ q net at. noted_at q net at (is_eq (class_cmp k q)) refl;
          known = λ j q there of. elim (cases j there) [
            | inl before ↦ let h = far.known j q before of in (h.0, known_at q h.0 h.1 (is_eq (class_cmp k q)) refl, h.2)
            | inr same ↦
                let q_is : Some k ≡ Some q = sym is ∙ ap class same ∙ of in
                (x.net, subst (λ v. after v ≡ Some x.net) (cc q_is) add.1, subst (λ (v : Joint). Chain (AreJoined pairs) v.net x.net) same (Chain-same {R = AreJoined pairs} x.net))
          ];
          sound = λ m n j. meet-more among later more m n (far.sound m n j);
        })
      where
        noted_at : (q : Class) (net : ℕ) → after q ≡ Some net → (b : Bool) → is_eq (class_cmp k q) ≡ b → (j : Joint) × later j × (class j ≡ Some q) × (j.net ≡ net)
        noted_at q net at true e =
            let q_is = same_class q e in
            (x, new, is ∙ ap Some q_is, Some-net x.net net (sym add.1 ∙ ap after q_is ∙ at))
        noted_at q net at false e = let h = far.noted q net (sym (add.2 q e) ∙ at) in (h.0, more h.0 h.1, h.2, h.3)

        known_at : (q : Class) (net : ℕ) → seen q ≡ Some net → (b : Bool) → is_eq (class_cmp k q) ≡ b → after q ≡ Some net
        known_at q net at true e = absurd (cc (unseen, ap seen (same_class q e), at))
        known_at q net at false e = add.2 q e ∙ at

-- at the end of the joints pairs stand for joints of one class
pub linked_all : (class : Joint → Option Class) (joints : List Joint) (count : ℕ) (seen : Class → Option ℕ) (pairs : List Pair) → length joints ≤ count
    → AreLinkedSoFar class (IsEarly joints count) seen pairs → StandFor (MeetInClass class (Contains joints)) pairs
linked_all class joints count seen pairs past far =
    let stand = linked-stand class (IsEarly joints count) seen pairs far in
    record {
      sound = λ m n j.
          meet-more class (IsEarly joints count) (Contains joints) (λ v early. (early.0, early.2, early.3)) m n (stand.sound m n j);
      complete = λ m n h.
          stand.complete m n
          (meet-more class (Contains joints) (IsEarly joints count) (λ v there. (there.0, omega (arith, there.1, past), there.1, there.2)) m n h);
    }

-- at the start nothing is seen
pub linked_start : (class : Joint → Option Class) (joints : List Joint) (seen : Class → Option ℕ) → ((k : Class) → seen k ≡ None)
    → AreLinkedSoFar class (IsEarly joints 0) seen []
linked_start class joints seen empty = record {
  noted = λ k net at. absurd (cc (empty k, at));
  known = λ j k early of. absurd (omega (arith, early.1));
  sound = λ m n j. absurd (omega (arith, j.1.1));
}

early_more : (joints : List Joint) (count : ℕ) (j : Joint) → IsEarly joints count j → IsEarly joints (count + 1) j
early_more joints count j e = (e.0, omega (arith, e.1), e.2, e.3)

early_cases : (joints : List Joint) (count : ℕ) (x : Joint) → count < length joints → x ≡ get_or joints count x → (j : Joint) → IsEarly joints (count + 1) j
    → IsEarly joints count j ⊎ (x ≡ j)
early_cases joints count x within at j e =
    elim (cases_eq e.0 count) [
      | inl same ↦ inr (at ∙ get_or_default joints count x j within ∙ sym (ap (λ k. get_or joints k j) same) ∙ e.3)
      | inr other ↦ inl (e.0, omega (arith, e.1, other), e.2, e.3)
    ]

pub same_class : (k q : Class) → is_eq (class_cmp k q) ≡ true → k ≡ q
same_class k q e =
    let both = both_are_Equal (nat_cmp k.inst q.inst) (nat_cmp k.first q.first) e in
    λ i. record { inst = nat_cmp-IsAntisymmetric k.inst q.inst both.0 i; first = nat_cmp-IsAntisymmetric k.first q.first both.1 i }

module _ (class : Joint → Option Class) (joints : List Joint) (count : ℕ) (x : Joint) (within : count < length joints) (at : x ≡ get_or joints count x) where
  last_early : IsEarly joints (count + 1) x
  last_early = (count, omega arith, within, sym at)

  -- a joint of no class
  pub step_none : (seen : Class → Option ℕ) (pairs : List Pair) → AreLinkedSoFar class (IsEarly joints count) seen pairs → class x ≡ None
      → AreLinkedSoFar class (IsEarly joints (count + 1)) seen pairs
  step_none seen pairs far none =
      linked-none class (IsEarly joints count) (IsEarly joints (count + 1)) x (early_more joints count) last_early
      (early_cases joints count x within at) seen pairs far none

  -- a joint of a class
  pub step_some : (seen after : Class → Option ℕ) (pairs added : List Pair) (k : Class) → AreLinkedSoFar class (IsEarly joints count) seen pairs
      → class x ≡ Some k → IsLinkAdded seen pairs k x.net after added (seen k) → AreLinkedSoFar class (IsEarly joints (count + 1)) after added
  step_some seen after pairs added k far is add = go (seen k) refl add
    where
      go : (o : Option ℕ) → seen k ≡ o → IsLinkAdded seen pairs k x.net after added o → AreLinkedSoFar class (IsEarly joints (count + 1)) after added
      go None e add =
          linked-first class (IsEarly joints count) (IsEarly joints (count + 1)) x (early_more joints count) last_early
          (early_cases joints count x within at) seen after pairs added k (same_class k) far is e add
      go (Some first) e add =
          linked-again class (IsEarly joints count) (IsEarly joints (count + 1)) x (early_more joints count) last_early
          (early_cases joints count x within at) seen after pairs added k first far is e add
