-- No end stands twice afterwards.
use Rattle.std.proofs.Common.{◌≡◌, ◌≢◌, ◌<◌, ◌+◌, ◌⊎◌, ℕ, zero, suc, List, [], ◌∷◌, ◌++◌, Bool, true, false, length, map, refl, sym, ap, subst, ◌∙◌, inl, inr, arith, Option, Some, None, slice_get}
use Rattle.std.specs.Prelude.{◌==◌, cond, flat_map}
use Rattle.std.specs.Option.{option_map_or}
use Rattle.netlist_schema.specs.Types.{End, Net}
use Rattle.flat_spec.specs.ConnectionTest.{bit_of}
use Rattle.flat_spec.specs.Paths.{Bit, own, on}
use Rattle.flat_spec.proofs.ListLemmas.{Member, Member-append_left, Ascends, Ascends-append, Ascends-filter}
use Rattle.flat_spec.proofs.PinLemmas.{joined_once}
use Rattle.ungroup_spec.specs.Dissolved.{moved_place, outer_end_at, inner_end_at, ends_up, ends_after, nets_after}
use Rattle.ungroup_spec.specs.Groups.{Site, Part, outer, inner, ends_of_net, ends_of_part, parts, is_grouped, group, heads, head_of}
use Rattle.ungroup_spec.proofs.AfterLemmas.{ends-of_nets, after-from}
use Rattle.ungroup_spec.proofs.EndLemmas.{outer-own_from, outer-on_from, inner-own, inner-on_from, outer_at-own, outer_at-on, inner_at-own, inner_at-on, place-moved}
use Rattle.ungroup_spec.proofs.GroupLemmas.{PartBefore, PartBefore-not_both, parts-ascends, heads-ascend, head-is, one_head}
use Rattle.ungroup_spec.proofs.PlaceLemmas.{Member-from_flat_map}

-- no element stands twice
abbrev pub Apart : {A : Type 0} → List A → Type 0
Apart xs = Ascends (λ x y. x ≢ y) xs

pub Ascends-weaker : {A : Type 0} (R S : A → A → Type 0) (xs : List A) → ((x y : A) → R x y → S x y) → Ascends R xs → Ascends S xs
Ascends-weaker R S [] follows p = tt
Ascends-weaker R S (x ∷ xs) follows p = (λ y m. follows x y (p.0 y m), Ascends-weaker R S xs follows p.1)

-- lists that have no element in common, one after the other
pub Apart-flat_map : {A B : Type 0} (f : A → List B) (xs : List A) → Apart xs → ((x : A) → Member xs x → Apart (f x))
    → ((x y : A) (b : B) → Member xs x → Member xs y → Member (f x) b → Member (f y) b → x ≡ y) → Apart (flat_map f xs)
Apart-flat_map f [] p each key = tt
Apart-flat_map f (x ∷ xs) p each key =
    Ascends-append (λ a b. a ≢ b) (f x) (flat_map f xs) (each x (inl refl))
    (Apart-flat_map f xs p.1 (λ y m. each y (inr m)) (λ y z b m k. key y z b (inr m) (inr k)))
    (λ a b m k same.
    let found = Member-from_flat_map f xs b k in
    p.0 found.0 found.1 (key x found.0 b (inl refl) (inr found.1) (subst (λ v. Member (f x) v) same m) found.2))

Apart-left : {A : Type 0} (xs ys : List A) → Apart (xs ++ ys) → Apart xs
Apart-left [] ys p = tt
Apart-left (x ∷ xs) ys p = (λ y m. p.0 y (Member-append_left xs ys y m), Apart-left xs ys p.1)

Apart-right : {A : Type 0} (xs ys : List A) → Apart (xs ++ ys) → Apart ys
Apart-right [] ys p = p
Apart-right (x ∷ xs) ys p = Apart-right xs ys p.1

-- the ends of one net
net-apart : (nets : List Net) (n : ℕ) → Apart (flat_map (λ (net : Net). net.ends) nets) → Apart (ends_of_net nets n)
net-apart nets n p = go (slice_get nets n) refl
  where
    at : (xs : List Net) (i : ℕ) (net : Net) → slice_get xs i ≡ Some net → Apart (flat_map (λ (v : Net). v.ends) xs) → Apart net.ends
    at [] i net e p = absurd (cc e)
    at (x ∷ xs) zero net e p =
        let same : x ≡ net = cc e in
        subst (λ (v : Net). Apart v.ends) same (Apart-left x.ends (flat_map (λ (v : Net). v.ends) xs) p)
    at (x ∷ xs) (suc i) net e p = at xs i net e (Apart-right x.ends (flat_map (λ (v : Net). v.ends) xs) p)

    go : (o : Option Net) → slice_get nets n ≡ o → Apart (option_map_or (λ (net : Net). net.ends) o [])
    go None is = tt
    go (Some net) is = at nets n net is p

-- two nets that join one end are one
net-once : (nets : List Net) (n k : ℕ) (e : End) → Apart (flat_map (λ (net : Net). net.ends) nets) → Member (ends_of_net nets n) e → Member (ends_of_net nets k) e
    → n ≡ k
net-once nets n k e p m l =
    let a = found (slice_get nets n) m in
    let b = found (slice_get nets k) l in
    joined_once nets e p n k a.0 b.0 a.1 b.1 a.2 b.2
  where
    found : (o : Option Net) → Member (option_map_or (λ (net : Net). net.ends) o []) e → (net : Net) × (o ≡ Some net) × Member net.ends e
    found None m = absurd m
    found (Some net) m = (net, refl, m)

pub end-cases : (e : End) → (e ≡ own (bit_of e)) ⊎ ((t : ℕ) × (e ≡ on t (bit_of e)))
end-cases e = go e.inst refl
  where
    go : (i : Option ℕ) → e.inst ≡ i → (e ≡ own (bit_of e)) ⊎ ((t : ℕ) × (e ≡ on t (bit_of e)))
    go None is = inl (λ k. record { inst = is k; port = e.port; bit = e.bit })
    go (Some t) is = inr (t, λ k. record { inst = is k; port = e.port; bit = e.bit })

flat : {A : Type 0} (f : A → List End) (xs : List A) → flat_map (λ (v : List End). v) (map f xs) ≡ flat_map f xs
flat f [] = refl
flat f (x ∷ xs) = ap (λ v. f x ++ v) (flat f xs)

-- all ends afterwards, group by group
pub nets-flat : (s : Site) → flat_map (λ (net : Net). net.ends) (nets_after s) ≡ flat_map (ends_after s) (heads s)
nets-flat s =
    sym (flat (λ (net : Net). net.ends) (nets_after s)) ∙ ap (flat_map (λ (v : List End). v)) (ends-of_nets s) ∙ flat (ends_after s) (heads s)

module _ (s : Site) (around : Apart (flat_map (λ (net : Net). net.ends) s.around.nets)) (within : Apart (flat_map (λ (net : Net). net.ends) s.within.nets))
    (fits : (m j : ℕ) (b : Bit) → Member (ends_of_part s (inner m)) (on j b) → j < length s.within.insts) where
  moved-once : (i k : ℕ) → (i ≡ s.place → ⊥) → (k ≡ s.place → ⊥) → moved_place s i ≡ moved_place s k → i ≡ k
  moved-once i k other other' e =
      elim (place-moved s i other) [
        | inl low ↦ elim (place-moved s k other') [ inl low' ↦ omega (arith, low.0, low.1, low'.0, low'.1, e) | inr high ↦ omega (arith, low.0, low.1, high.0, high.1, e) ]
        | inr high ↦ elim (place-moved s k other') [ inl low ↦ omega (arith, high.0, high.1, low.0, low.1, e) | inr high' ↦ omega (arith, high.0, high.1, high'.0, high'.1, e) ]
      ]

  apart-places : (i j t : ℕ) → (i ≡ s.place → ⊥) → t ≡ moved_place s i → j < length s.within.insts → t ≡ s.place + j → ⊥
  apart-places i j t other e few f =
      elim (place-moved s i other) [ inl low ↦ omega (arith, low.0, low.1, e, f) | inr high ↦ omega (arith, high.0, high.1, few, e, f) ]

  -- two parts with one end afterwards are one
  part-own : (x y : Part) (b : Bit) → Member (ends_up s x) (own b) → Member (ends_up s y) (own b) → x ≡ y
  part-own (outer n) (outer k) b m l = ap outer (net-once s.around.nets n k (own b) around (outer-own_from s n b m) (outer-own_from s k b l))
  part-own (outer n) (inner k) b m l = absurd (inner-own s k b l)
  part-own (inner n) y b m l = absurd (inner-own s n b m)

  part-on : (x y : Part) (t : ℕ) (b : Bit) → Member (ends_up s x) (on t b) → Member (ends_up s y) (on t b) → x ≡ y
  part-on (outer n) (outer k) t b m l =
      let p = outer-on_from s n t b m in
      let r = outer-on_from s k t b l in
      let same : r.0 ≡ p.0 = moved-once r.0 p.0 r.1 p.1 (sym r.2 ∙ p.2) in
      ap outer (net-once s.around.nets n k (on p.0 b) around p.3 (subst (λ v. Member (ends_of_part s (outer k)) (on v b)) same r.3))
  part-on (outer n) (inner k) t b m l =
      let p = outer-on_from s n t b m in
      let r = inner-on_from s k t b l in
      absurd (apart-places p.0 r.0 t p.1 p.2 (fits k r.0 b r.2) r.1)
  part-on (inner n) (outer k) t b m l =
      let p = outer-on_from s k t b l in
      let r = inner-on_from s n t b m in
      absurd (apart-places p.0 r.0 t p.1 p.2 (fits n r.0 b r.2) r.1)
  part-on (inner n) (inner k) t b m l =
      let p = inner-on_from s n t b m in
      let r = inner-on_from s k t b l in
      let same : r.0 ≡ p.0 = omega (arith, p.1, r.1) in
      ap inner (net-once s.within.nets n k (on p.0 b) within p.2 (subst (λ v. Member (ends_of_part s (inner k)) (on v b)) same r.2))

  pub part-once : (x y : Part) (e : End) → Member (ends_up s x) e → Member (ends_up s y) e → x ≡ y
  part-once x y e m l =
      elim (end-cases e) [
        | inl is ↦ part-own x y (bit_of e) (subst (λ v. Member (ends_up s x) v) is m) (subst (λ v. Member (ends_up s y) v) is l)
        | inr is ↦ part-on x y is.0 (bit_of e) (subst (λ v. Member (ends_up s x) v) is.1 m) (subst (λ v. Member (ends_up s y) v) is.1 l)
      ]

  -- two ends that become one were one
  outer_at-once : (e f g : End) → Member (outer_end_at s e e.inst) g → Member (outer_end_at s f f.inst) g → e ≡ f
  outer_at-once e f g m l =
      elim (end-cases g) [
        | inl is ↦
            outer_at-own s e e.inst (bit_of g) (subst (λ v. Member (outer_end_at s e e.inst) v) is m)
            ∙ sym (outer_at-own s f f.inst (bit_of g) (subst (λ v. Member (outer_end_at s f f.inst) v) is l))
        | inr is ↦
            let p = outer_at-on s e e.inst is.0 (bit_of g) refl (subst (λ v. Member (outer_end_at s e e.inst) v) is.1 m) in
            let r = outer_at-on s f f.inst is.0 (bit_of g) refl (subst (λ v. Member (outer_end_at s f f.inst) v) is.1 l) in
            p.was ∙ ap (λ v. on v (bit_of g)) (moved-once p.place r.place p.other r.other (sym p.moved ∙ r.moved)) ∙ sym r.was
      ]

  inner_at-once : (e f g : End) → Member (inner_end_at s e e.inst) g → Member (inner_end_at s f f.inst) g → e ≡ f
  inner_at-once e f g m l =
      elim (end-cases g) [
        | inl is ↦ absurd (inner_at-own s e e.inst (bit_of g) (subst (λ v. Member (inner_end_at s e e.inst) v) is m))
        | inr is ↦
            let p = inner_at-on s e e.inst is.0 (bit_of g) refl (subst (λ v. Member (inner_end_at s e e.inst) v) is.1 m) in
            let r = inner_at-on s f f.inst is.0 (bit_of g) refl (subst (λ v. Member (inner_end_at s f f.inst) v) is.1 l) in
            let same : p.0 ≡ r.0 = omega (arith, p.1, r.1) in
            p.2 ∙ ap (λ v. on v (bit_of g)) same ∙ sym r.2
      ]

  outer_at-apart : (e : End) (i : Option ℕ) → Apart (outer_end_at s e i)
  outer_at-apart e None = (λ y m. absurd m, tt)
  outer_at-apart e (Some i) = go (i == s.place)
    where
      go : (t : Bool) → Apart (cond t [] (record e { inst = Some (moved_place s i) } ∷ []))
      go true = tt
      go false = (λ y m. absurd m, tt)

  inner_at-apart : (e : End) (i : Option ℕ) → Apart (inner_end_at s e i)
  inner_at-apart e None = tt
  inner_at-apart e (Some j) = (λ y m. absurd m, tt)

  ends_up-apart : (x : Part) → Apart (ends_up s x)
  ends_up-apart (outer n) =
      Apart-flat_map (λ (e : End). outer_end_at s e e.inst) (ends_of_part s (outer n)) (net-apart s.around.nets n around)
      (λ e m. outer_at-apart e e.inst) (λ e f g m k. outer_at-once e f g)
  ends_up-apart (inner n) =
      Apart-flat_map (λ (e : End). inner_end_at s e e.inst) (ends_of_part s (inner n)) (net-apart s.within.nets n within)
      (λ e m. inner_at-apart e e.inst) (λ e f g m k. inner_at-once e f g)

  part-apart : (xs : List Part) → Ascends PartBefore xs → Apart xs
  part-apart xs p =
      Ascends-weaker PartBefore (λ x y. x ≢ y) xs
      (λ x y before same. let twice : PartBefore x x = subst (λ v. PartBefore x v) (sym same) before in PartBefore-not_both x x twice twice) p

  ends_after-apart : (h : Part) → Apart (ends_after s h)
  ends_after-apart h =
      Apart-flat_map (ends_up s) (group s h) (part-apart (group s h) (Ascends-filter PartBefore (is_grouped s h) (parts s) (parts-ascends s)))
      (λ x m. ends_up-apart x) (λ x y e m k. part-once x y e)

  heads-once : (g h : Part) (e : End) → Member (heads s) g → Member (heads s) h → Member (ends_after s g) e → Member (ends_after s h) e → g ≡ h
  heads-once g h e gm hm m l =
      let g_is = head-is s g gm in
      let h_is = head-is s h hm in
      let p = after-from s g e m in
      let r = after-from s h e l in
      let same : p.0 ≡ r.0 = part-once p.0 r.0 e p.3 r.3 in
      sym g_is.1 ∙ one_head s g p.0 g_is.0 p.1 p.2 ∙ ap (head_of s) same ∙ sym (one_head s h r.0 h_is.0 r.1 r.2) ∙ h_is.1

  -- no end stands twice in the nets afterwards
  pub after-apart : Apart (flat_map (λ (net : Net). net.ends) (nets_after s))
  after-apart =
      subst (λ v. Apart v) (sym (nets-flat s))
      (Apart-flat_map (ends_after s) (heads s) (part-apart (heads s) (heads-ascend s)) (λ h m. ends_after-apart h) (λ g h e. heads-once g h e))
