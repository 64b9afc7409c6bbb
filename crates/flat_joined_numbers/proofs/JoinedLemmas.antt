-- Labels that are lowered, and what they are when the labels of each pair are equal.
use Rattle.std.proofs.Common.{◌≡◌, ◌<◌, ◌≤◌, ◌+◌, ◌⊎◌, ℕ, suc, zero, List, [], ◌∷◌, length, get_or, set, refl, sym, ap, subst, ◌∙◌, inl, inr, arith}
use Rattle.std.specs.Prelude.{sum}
use Rattle.std.specs.List.{All}
use Rattle.std.proofs.lemmas.Bool.{cases_eq, cases_order}
use Rattle.std.proofs.lemmas.List.Elements.{All-contains}
use Rattle.std.proofs.lemmas.List.Sums.{sum_by-cons}
use Rattle.std.proofs.lemmas.List.{get_or_default, get_or-set_same, get_or-set_other, length-set}
use Rattle.flat_spec.specs.Chains.{Leads, Chain}
use Rattle.flat_spec.proofs.ChainLemmas.{Chain-same, Chain-append}
use Rattle.flat_joined_numbers.specs.Joined.{AreJoined, AreLabels, AreLeastJoined, AreLower, AreSame, IsWithin, LeadDown}
use Rattle.flat_joined_numbers.specs.declared.joined.Pair.{Pair}

pub LeadDown-set : (labels : List ℕ) (at to : ℕ) → at < length labels → to ≤ at → LeadDown labels → LeadDown (set labels at to)
LeadDown-set labels at to within low down n inside =
    let long = length-set labels at to in
    elim (cases_eq n at) [
      | inl same ↦ subst (λ v. get_or (set labels at to) v 0 ≤ v) (sym same) (omega (arith, get_or-set_same labels at to 0 within, low))
      | inr other ↦ omega (arith, get_or-set_other labels at n to 0 other, down n (omega (arith, inside, long)))
    ]

-- a label is lowered to a number to which pairs lead
pub AreLabels-set : (pairs : List Pair) (labels : List ℕ) (at to : ℕ) → at < length labels → to ≤ at → Chain (AreJoined pairs) at to
    → AreLabels pairs labels → AreLabels pairs (set labels at to)
AreLabels-set pairs labels at to within low chain old = record {
  down = LeadDown-set labels at to within low old.down;
  joined = λ n inside. elim (cases_eq n at) [
    | inl same ↦
        subst (λ v. Chain (AreJoined pairs) v (get_or (set labels at to) v 0)) (sym same)
        (subst (λ v. Chain (AreJoined pairs) at v) (sym (get_or-set_same labels at to 0 within)) chain)
    | inr other ↦
        subst (λ v. Chain (AreJoined pairs) n v) (sym (get_or-set_other labels at n to 0 other))
        (old.joined n (omega (arith, inside, length-set labels at to)))
  ];
}

pub AreLower-same : (labels : List ℕ) → AreLower labels labels
AreLower-same labels = record { long = refl; each = λ n. omega arith }

pub AreLower-set : (labels : List ℕ) (at to : ℕ) → at < length labels → to ≤ get_or labels at 0 → AreLower labels (set labels at to)
AreLower-set labels at to within low = record {
  long = length-set labels at to;
  each = λ n. elim (cases_eq n at) [
    | inl same ↦
        subst (λ v. get_or (set labels at to) v 0 ≤ get_or labels v 0) (sym same) (omega (arith, get_or-set_same labels at to 0 within, low))
    | inr other ↦ omega (arith, get_or-set_other labels at n to 0 other)
  ];
}

pub AreLower-append : (a b c : List ℕ) → AreLower a b → AreLower b c → AreLower a c
AreLower-append a b c p q = record { long = q.long ∙ p.long; each = λ n. omega (arith, p.each n, q.each n) }

-- where labels lead down from a number, after some steps
pub record IsOnTheWay (old labels : List ℕ) (from at : ℕ) : Type 0 where
  pub within : at < length labels
  pub down : LeadDown labels
  pub lower : AreLower old labels
  pub low : (at ≡ from) ⊎ (at ≤ get_or old from 0)
  pub kept : (pairs : List Pair) → AreLabels pairs old → AreLabels pairs labels
  pub reached : (pairs : List Pair) → AreLabels pairs old → Chain (AreJoined pairs) from at

pub IsOnTheWay-start : (labels : List ℕ) (from : ℕ) → from < length labels → LeadDown labels → IsOnTheWay labels labels from from
IsOnTheWay-start labels from within down = record {
  within = within;
  down = down;
  lower = AreLower-same labels;
  low = inl refl;
  kept = λ pairs are. are;
  reached = λ pairs are. Chain-same {R = AreJoined pairs} from;
}

-- one step more, which lowers the label to that of its label
pub IsOnTheWay-step : (old labels : List ℕ) (from at : ℕ) → IsOnTheWay old labels from at → get_or labels at 0 < at
    → IsOnTheWay old (set labels at (get_or labels (get_or labels at 0) 0)) from (get_or labels (get_or labels at 0) 0)
IsOnTheWay-step old labels from at way less =
    let up = get_or labels at 0 in
    let next = get_or labels up 0 in
    let inside : up < length labels = omega (arith, way.within, less) in
    let below : next ≤ up = way.down up inside in
    let low : next ≤ at = omega (arith, below, less) in
    let leads : (pairs : List Pair) → AreLabels pairs old → Chain (AreJoined pairs) at next =
    λ pairs are. Chain-append (AreJoined pairs) ((way.kept pairs are).joined at way.within) ((way.kept pairs are).joined up inside) in
    record {
      within = omega (arith, length-set labels at next, below, inside);
      down = LeadDown-set labels at next way.within low way.down;
      lower = AreLower-append old labels (set labels at next) way.lower (AreLower-set labels at next way.within below);
      low = elim way.low [
        | inl same ↦ inr (omega (arith, below, ap (λ v. get_or labels v 0) same, way.lower.each from))
        | inr lesser ↦ inr (omega (arith, low, lesser))
      ];
      kept = λ pairs are. AreLabels-set pairs labels at next way.within low (leads pairs are) (way.kept pairs are);
      reached = λ pairs are. Chain-append (AreJoined pairs) (way.reached pairs are) (leads pairs are);
    }

pub IsOnTheWay-low : (old labels : List ℕ) (from at : ℕ) → IsOnTheWay old labels from at → at ≤ get_or labels at 0 → at ≤ get_or old from 0
IsOnTheWay-low old labels from at way stays =
    elim way.low [
      | inl same ↦ omega (arith, stays, ap (λ v. get_or labels v 0) same, way.lower.each from)
      | inr lesser ↦ lesser
    ]

sum-first : (x : ℕ) (a : List ℕ) → sum (x ∷ a) ≡ x + sum a
sum-first x a = sum_by-cons (λ n. n) x a

sum-cons : (x y : ℕ) (a b : List ℕ) → y + sum b ≤ x + sum a → sum (y ∷ b) ≤ sum (x ∷ a)
sum-cons x y a b h = omega (arith, h, sum-first x a, sum-first y b)

sum-less_cons : (x y : ℕ) (a b : List ℕ) → y + sum b < x + sum a → sum (y ∷ b) < sum (x ∷ a)
sum-less_cons x y a b h = omega (arith, h, sum-first x a, sum-first y b)

-- lists no number of which is greater have no greater sum
pub sum-lower : (a b : List ℕ) → length b ≡ length a → ((n : ℕ) → get_or b n 0 ≤ get_or a n 0) → sum b ≤ sum a
sum-lower [] [] e each = omega arith
sum-lower [] (y ∷ b) e each = absurd (omega (arith, e))
sum-lower (x ∷ a) [] e each = absurd (omega (arith, e))
sum-lower (x ∷ a) (y ∷ b) e each =
    let here : y ≤ x = each 0 in
    let there = sum-lower a b (omega (arith, e)) (λ n. each (suc n)) in
    sum-cons x y a b (omega (arith, here, there))

-- and a lesser one where one of them is less
pub sum-less : (a b : List ℕ) (k : ℕ) → length b ≡ length a → ((n : ℕ) → get_or b n 0 ≤ get_or a n 0) → get_or b k 0 < get_or a k 0 → sum b < sum a
sum-less [] [] k e each less = absurd (omega (arith, less))
sum-less [] (y ∷ b) k e each less = absurd (omega (arith, e))
sum-less (x ∷ a) [] k e each less = absurd (omega (arith, e))
sum-less (x ∷ a) (y ∷ b) zero e each less =
    let there = sum-lower a b (omega (arith, e)) (λ n. each (suc n)) in
    let here : y < x = less in
    sum-less_cons x y a b (omega (arith, here, there))
sum-less (x ∷ a) (y ∷ b) (suc k) e each less =
    let here : y ≤ x = each 0 in
    let there = sum-less a b k (omega (arith, e)) (λ n. each (suc n)) less in
    sum-less_cons x y a b (omega (arith, here, there))

-- two labels that differed and are now not above the lesser
pub join-sum : (old new : List ℕ) (first second least : ℕ) → AreLower old new → (get_or old first 0 ≡ get_or old second 0 → ⊥)
    → get_or new first 0 ≤ least → get_or new second 0 ≤ least → least ≤ get_or old first 0 → least ≤ get_or old second 0 → sum new < sum old
join-sum old new first second least lower differ low_first low_second under_first under_second =
    elim (cases_order (get_or old first 0) (get_or old second 0)) [
      | inl same ↦ absurd (differ same)
      | inr rest ↦ elim rest [
        | inl less ↦ sum-less old new second lower.long lower.each (omega (arith, less, low_second, under_first))
        | inr more ↦ sum-less old new first lower.long lower.each (omega (arith, more, low_first, under_second))
      ]
    ]

-- labels of which each pair has one, along a chain
same-along : (pairs : List Pair) (labels : List ℕ) → All (AreSame labels) pairs → (m n : ℕ) (via : List ℕ) → Leads (AreJoined pairs) m via n
    → get_or labels m 0 ≡ get_or labels n 0
same-along pairs labels same m n [] e = ap (λ k. get_or labels k 0) e
same-along pairs labels same m n (k ∷ via) e =
    let same_pair : get_or labels e.0.0.first 0 ≡ get_or labels e.0.0.second 0 = All-contains (AreSame labels) pairs e.0.0 same e.0.1 in
    let label : ℕ → ℕ = λ k. get_or labels k 0 in
    let step : get_or labels m 0 ≡ get_or labels k 0 = elim e.0.2 [
      | inl there ↦ sym (ap label there.0) ∙ same_pair ∙ ap label there.1
      | inr back ↦ sym (ap label back.1) ∙ sym same_pair ∙ ap label back.0
    ] in
    step ∙ same-along pairs labels same k n via e.1

-- labels of which each pair has one are the least
pub settled_least : (count : ℕ) (pairs : List Pair) (labels : List ℕ) → length labels ≡ count → All (IsWithin count) pairs → AreLabels pairs labels
    → All (AreSame labels) pairs → AreLeastJoined count pairs labels
settled_least count pairs labels long within are same = record {
  long = long;
  each = λ n inside. record {
    reached = are.joined n (omega (arith, inside, long));
    none_less = λ k chain.
        let equal = same-along pairs labels same n k chain.0 chain.1 in
        let there = chain-within count pairs within n k inside chain.0 chain.1 in
        omega (arith, equal, are.down k (omega (arith, there, long)));
  };
}
  where
    chain-within : (count : ℕ) (pairs : List Pair) → All (IsWithin count) pairs → (m n : ℕ) → m < count → (via : List ℕ) → Leads (AreJoined pairs) m via n → n < count
    chain-within count pairs within m n inside [] e = subst (λ k. k < count) e inside
    chain-within count pairs within m n inside (k ∷ via) e =
        let both : IsWithin count e.0.0 = All-contains (IsWithin count) pairs e.0.0 within e.0.1 in
        chain-within count pairs within k n (elim e.0.2 [
          | inl there ↦ subst (λ v. v < count) there.1 both.second
          | inr back ↦ subst (λ v. v < count) back.0 both.first
        ]) via e.1

-- at the start each label is the number itself
pub labels_start : (pairs : List Pair) (labels : List ℕ) → ((n : ℕ) → n < length labels → get_or labels n 0 ≡ n) → AreLabels pairs labels
labels_start pairs labels same = record {
  down = λ n inside. omega (arith, same n inside);
  joined = λ n inside. subst (λ v. Chain (AreJoined pairs) n v) (sym (same n inside)) (Chain-same {R = AreJoined pairs} n);
}

pub AreJoined-sym : (pairs : List Pair) (m n : ℕ) → AreJoined pairs m n → AreJoined pairs n m
AreJoined-sym pairs m n t = (t.0, t.1, elim t.2 [ inl a ↦ inr a | inr a ↦ inl a ])

-- the least numbers are below the count
pub least_within : (count : ℕ) (pairs : List Pair) (labels : List ℕ) → AreLeastJoined count pairs labels → All (λ label. label < length labels) labels
least_within count pairs labels least k d inside =
    let itself = (least.each k (omega (arith, inside, least.long))).none_less k (Chain-same {R = AreJoined pairs} k) in
    omega (arith, get_or_default labels k d 0 inside, itself, inside)
