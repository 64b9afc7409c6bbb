-- Numbers that differ since each has a slot of its own, or is among others that differ.
use Rattle.std.proofs.Common.{◌≡◌, ◌≢◌, ◌⊎◌, ℕ, suc, ◌+◌, ◌<◌, List, [], ◌∷◌, ◌++◌, length, get_or, set, take, sym, ap, ◌∙◌, subst, inl, inr, arith}
use Rattle.std.specs.List.{Contains}
use Rattle.std.proofs.lemmas.Bool.{cases_eq, cases_lt}
use Rattle.std.proofs.lemmas.List.{get_or-set_other, get_or-set_same, get_or_default, length-append}
use Rattle.std.proofs.Math.ListN.{get_or-append}
use Rattle.std.proofs.Math.Seq.{get_or-append_seam, take-suc}
use Rattle.std.proofs.lemmas.List.Quantifiers.{all_pairs_push}
use Rattle.netlist_schema.specs.Names.{AreDistinct}
use Rattle.edif_nets.specs.Slots.{slot_of}

-- what stands in a slot to which no number came
abbrev pub empty : ℕ
empty = 18446744073709551615

-- the number stands in its slot, or it is one of the others, and its slot has another one
abbrev pub IsPut : List ℕ → List ℕ → ℕ → Type 0
IsPut slots others x = ((get_or slots (slot_of x) 0 ≡ x) × (x ≢ empty)) ⊎ (Contains others x × (get_or slots (slot_of x) 0 ≢ empty))

-- the numbers so far are put, and they differ where the others do
pub record ArePut (slots others seen : List ℕ) : Type 0 where
  pub put : (k : ℕ) → k < length seen → IsPut slots others (get_or seen k 0)
  pub differ : AreDistinct others → AreDistinct seen

-- no numbers
pub none_put : (slots : List ℕ) → ArePut slots [] []
none_put slots = record { put = λ k l. absurd (omega (arith, l)); differ = λ d. d }

-- numbers differ without the last one, which is not among them
fewer : (xs : List ℕ) (x : ℕ) → AreDistinct (xs ++ x ∷ []) → AreDistinct xs
fewer xs x h = λ i j d l m e.
    let long : length (xs ++ x ∷ []) ≡ length xs + 1 = length-append xs (x ∷ []) in
    h i j d l (omega (arith, long, m)) (get_or-append xs (x ∷ []) d i (omega (arith, l, m)) ∙ (e ∙ sym (get_or-append xs (x ∷ []) d j m)))

last_alone : (xs : List ℕ) (x : ℕ) → AreDistinct (xs ++ x ∷ []) → Contains xs x → ⊥
last_alone xs x h c =
    let long : length (xs ++ x ∷ []) ≡ length xs + 1 = length-append xs (x ∷ []) in
    h c.0 (length xs) x c.1 (omega (arith, long)) (get_or-append xs (x ∷ []) x c.0 c.1 ∙ (c.2 ∙ sym (get_or-append_seam xs x [] x)))

-- one number more
with_one : (slots others seen : List ℕ) (x : ℕ) → ((k : ℕ) → k < length seen → IsPut slots others (get_or seen k 0)) → IsPut slots others x → (k : ℕ) → k < length (seen ++ x ∷ []) → IsPut slots others (get_or (seen ++ x ∷ []) k 0)
with_one slots others seen x h p k l =
    let P : ℕ → Type 0 = IsPut slots others in
    let long : length (seen ++ x ∷ []) ≡ length seen + 1 = length-append seen (x ∷ []) in
    elim (cases_lt k (length seen)) [
      | inl early ↦ subst P (sym (get_or-append seen (x ∷ []) 0 k early)) (h k early)
      | inr late ↦ (let e : k ≡ length seen = omega (arith, late, l, long) in subst P (sym (ap (λ n. get_or (seen ++ x ∷ []) n 0) e ∙ get_or-append_seam seen x [] 0)) p)
    ]

with_one_apart : (seen : List ℕ) (x : ℕ) → AreDistinct seen → ((k : ℕ) → k < length seen → get_or seen k 0 ≡ x → ⊥) → AreDistinct (seen ++ x ∷ [])
with_one_apart seen x h n = all_pairs_push (λ a b. a ≢ b) seen x h (λ k d l e. n k l (get_or_default seen k 0 d l ∙ e))

module _ (slots others seen : List ℕ) (x : ℕ) (h : ArePut slots others seen) where
  abbrev there : ℕ → ℕ
  there v = get_or slots (slot_of v) 0

  -- to an empty slot
  pub put_in_slot : slot_of x < length slots → there x ≡ empty → x ≢ empty → ArePut (set slots (slot_of x) x) others (seen ++ x ∷ [])
  put_in_slot room free some =
      let now : List ℕ = set slots (slot_of x) x in
      let new : (k : ℕ) → k < length seen → get_or seen k 0 ≡ x → ⊥ = λ k l e. elim (h.put k l) [
        | inl a ↦ a.1 (sym a.0 ∙ (ap there e ∙ free))
        | inr b ↦ b.1 (ap there e ∙ free)
      ] in
      let stays : (k : ℕ) → k < length seen → IsPut now others (get_or seen k 0) = λ k l.
      let y : ℕ = get_or seen k 0 in
      elim (cases_eq (slot_of y) (slot_of x)) [
        | inl same ↦ absurd (elim (h.put k l) [
          | inl a ↦ a.1 (sym a.0 ∙ (ap (λ n. get_or slots n 0) same ∙ free))
          | inr b ↦ b.1 (ap (λ n. get_or slots n 0) same ∙ free)
        ])
        | inr other ↦
            let kept : get_or now (slot_of y) 0 ≡ there y = get_or-set_other slots (slot_of x) (slot_of y) x 0 other in
            elim (h.put k l) [ inl a ↦ inl (kept ∙ a.0, a.1) | inr b ↦ inr (b.0, λ e. b.1 (sym kept ∙ e)) ]
      ] in
      record { put = with_one now others seen x stays (inl (get_or-set_same slots (slot_of x) x 0 room, some)); differ = λ d. with_one_apart seen x (h.differ d) new }

  -- among the others
  pub put_among : there x ≢ x → there x ≢ empty → ArePut slots (others ++ x ∷ []) (seen ++ x ∷ [])
  put_among other taken =
      let all : List ℕ = others ++ x ∷ [] in
      let long : length all ≡ length others + 1 = length-append others (x ∷ []) in
      let stays : (k : ℕ) → k < length seen → IsPut slots all (get_or seen k 0) = λ k l. elim (h.put k l) [
        | inl a ↦ inl a
        | inr b ↦ inr ((b.0.0, omega (arith, long, b.0.1), get_or-append others (x ∷ []) (get_or seen k 0) b.0.0 b.0.1 ∙ b.0.2), b.1)
      ] in
      let P : ℕ → Type 0 = λ v. Contains others v in
      let new : AreDistinct all → (k : ℕ) → k < length seen → get_or seen k 0 ≡ x → ⊥ = λ d k l e. elim (h.put k l) [
        | inl a ↦ other (sym (ap there e) ∙ (a.0 ∙ e))
        | inr b ↦ last_alone others x d (subst P e b.0)
      ] in
      record { put = with_one slots all seen x stays (inr ((length others, omega (arith, long), get_or-append_seam others x [] x), taken)); differ = λ d. with_one_apart seen x (h.differ (fewer others x d)) (new d) }

-- one number more, whatever its slot holds
pub more_put : (slots others numbers : List ℕ) (k slot : ℕ) → slot ≡ slot_of (get_or numbers k 0) → k < length numbers → length slots ≡ 4096 → get_or slots slot 0 ≢ get_or numbers k 0 → ArePut slots others (take k numbers)
    → (get_or slots slot 0 ≡ empty → ArePut (set slots slot (get_or numbers k 0)) others (take (k + 1) numbers)) × (get_or slots slot 0 ≢ empty → ArePut slots (others ++ get_or numbers k 0 ∷ []) (take (k + 1) numbers))
more_put slots others numbers k slot s l long n h =
    let x : ℕ = get_or numbers k 0 in
    let more : k + 1 ≡ suc k = omega arith in
    let next : take (k + 1) numbers ≡ take k numbers ++ x ∷ [] = ap (λ m. take m numbers) more ∙ take-suc numbers k 0 l in
    let at : get_or slots slot 0 ≡ get_or slots (slot_of x) 0 = ap (λ m. get_or slots m 0) s in
    let room : slot_of x < length slots = omega (arith, long) in
    let S : ℕ → Type 0 = λ m. ArePut (set slots m x) others (take (k + 1) numbers) in
    let F : List ℕ → Type 0 = λ v. ArePut (set slots (slot_of x) x) others v in
    let G : List ℕ → Type 0 = λ v. ArePut slots (others ++ x ∷ []) v in (
      λ free. subst S (sym s) (subst F (sym next) (put_in_slot slots others (take k numbers) x h room (sym at ∙ free) (λ e. n (free ∙ sym e)))),
      λ taken. subst G (sym next) (put_among slots others (take k numbers) x h (λ e. n (at ∙ e)) (λ e. taken (at ∙ e))),
    )
