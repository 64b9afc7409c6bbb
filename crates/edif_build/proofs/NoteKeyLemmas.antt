-- Paths and keys as bytes, and a table of them.
use Rattle.std.proofs.Common.{◌≡◌, ℕ, zero, suc, ◌<◌, List, [], ◌∷◌, ◌++◌, map, length, drop, get_or, refl, sym, ap, ◌∙◌, Bool, true, false, ◌&&◌, nat_eq, None, Some, arith, true≢false, eqb-true, eq-eqb}
use Rattle.std.specs.Prelude.{cond}
use Rattle.std.specs.Map.{lookup}
use Rattle.std.specs.List.{AllByRecursion, Contains}
use Rattle.std.proofs.lemmas.List.Elements.{recursion_from_All}
use Rattle.std.specs.Cmp.Lexicographic.{pointwise}
use Rattle.std.proofs.lemmas.List.{map-append}
use Rattle.netlist_schema.specs.Ident.{IsIdentifier, is_identifier_byte}
use Rattle.edif_spec.proofs.Both.{both}
use Rattle.edif_parts.specs.Names.{ids}
use Rattle.edif_build.specs.Notes.{flat}

-- equal lists
pointwise_is : (a b : List ℕ) → pointwise nat_eq a b ≡ true → a ≡ b
pointwise_is [] [] h = refl
pointwise_is [] (y ∷ b) h = absurd (cc h)
pointwise_is (x ∷ a) [] h = absurd (cc h)
pointwise_is (x ∷ a) (y ∷ b) h =
    let s = both (nat_eq x y) (pointwise nat_eq a b) h in
    let e : x ≡ y = eqb-true x y s.0 in
    let r = pointwise_is a b s.1 in
    λ i. e i ∷ r i

pointwise_self : (a : List ℕ) → pointwise nat_eq a a ≡ true
pointwise_self [] = refl
pointwise_self (x ∷ a) = ap (λ v. v && pointwise nat_eq a a) (eq-eqb x x refl) ∙ pointwise_self a

module _ {K : Type 0} (f : K → List ℕ) where
  abbrev pub keyed : List (K × ℕ) → List (List ℕ × ℕ)
  keyed es = map (λ (e : K × ℕ). (f e.0, e.1)) es

  -- a key that no entry has
  pub not_keyed : (name : List ℕ) (es : List (K × ℕ)) → lookup (λ k. pointwise nat_eq name (f k)) es ≡ None → (i : ℕ) (d : List ℕ) → i < length (ids (keyed es)) → get_or (ids (keyed es)) i d ≡ name → ⊥
  not_keyed name [] h i d l e = omega arith
  not_keyed name (x ∷ es) h i d l e = by (pointwise nat_eq name (f x.0)) refl h i l e (not_keyed name es)
    where
      by : (b : Bool) → pointwise nat_eq name (f x.0) ≡ b → cond b (Some x.1) (lookup (λ k. pointwise nat_eq name (f k)) es) ≡ None → (i : ℕ) → i < length (ids (keyed (x ∷ es))) → get_or (ids (keyed (x ∷ es))) i d ≡ name
          → (lookup (λ k. pointwise nat_eq name (f k)) es ≡ None → (i : ℕ) (d : List ℕ) → i < length (ids (keyed es)) → get_or (ids (keyed es)) i d ≡ name → ⊥) → ⊥
      by true q h i l e r = cc h
      by false q h zero l e r = true≢false (sym (pointwise_self name) ∙ (ap (pointwise nat_eq name) (sym e) ∙ q))
      by false q h (suc i) l e r = r h i d (omega arith) e

  -- a key that some entry has, with its place
  pub keyed_at : (name : List ℕ) (es : List (K × ℕ)) (place : ℕ) → lookup (λ k. pointwise nat_eq name (f k)) es ≡ Some place → Contains (keyed es) (name, place)
  keyed_at name [] place h = absurd (cc h)
  keyed_at name (x ∷ es) place h = by (pointwise nat_eq name (f x.0)) refl h (keyed_at name es place)
    where
      by : (b : Bool) → pointwise nat_eq name (f x.0) ≡ b → cond b (Some x.1) (lookup (λ k. pointwise nat_eq name (f k)) es) ≡ Some place → (lookup (λ k. pointwise nat_eq name (f k)) es ≡ Some place → Contains (keyed es) (name, place)) → Contains (keyed (x ∷ es)) (name, place)
      by true q h r = let s : name ≡ f x.0 = pointwise_is name (f x.0) q in let p : x.1 ≡ place = cc h in (0, omega arith, λ i. (sym s i, p i))
      by false q h r = let w = r h in (suc w.0, omega (arith, w.1), w.2)

  -- one more entry at the end
  pub keyed_push : (es new : List (K × ℕ)) (k : K) (place : ℕ) → new ≡ es ++ (k, place) ∷ [] → keyed new ≡ keyed es ++ (f k, place) ∷ []
  keyed_push es new k place h = ap keyed h ∙ map-append (λ (e : K × ℕ). (f e.0, e.1)) es ((k, place) ∷ [])

-- bytes without 0
abbrev Free : List ℕ → Type 0
Free bytes = AllByRecursion (λ b. b ≡ 0 → ⊥) bytes

free_byte : (b : ℕ) → is_identifier_byte b ≡ true → b ≡ 0 → ⊥
free_byte b h e = let w : is_identifier_byte 0 ≡ true = ap is_identifier_byte (sym e) ∙ h in cc w

free_bytes : (bytes : List ℕ) → AllByRecursion (λ b. is_identifier_byte b ≡ true) bytes → Free bytes
free_bytes [] h = tt
free_bytes (b ∷ bytes) h = (free_byte b h.0, free_bytes bytes h.1)

free_identifier : (bytes : List ℕ) → IsIdentifier bytes → Free bytes
free_identifier bytes h = free_bytes bytes (recursion_from_All (λ b. is_identifier_byte b ≡ true) bytes h.1)

-- cut at the first 0
cut : (a b r s : List ℕ) → Free a → Free b → a ++ 0 ∷ r ≡ b ++ 0 ∷ s → (a ≡ b) × (r ≡ s)
cut [] [] r s h k e = (refl, cc e)
cut [] (y ∷ b) r s h k e = let w : 0 ≡ y = cc e in absurd (k.0 (sym w))
cut (x ∷ a) [] r s h k e = let w : x ≡ 0 = cc e in absurd (h.0 w)
cut (x ∷ a) (y ∷ b) r s h k e =
    let w : x ≡ y = cc e in
    let t : a ++ 0 ∷ r ≡ b ++ 0 ∷ s = cc e in
    let u = cut a b r s h.1 k.1 t in
    (λ i. w i ∷ u.0 i, u.1)

no_cut : (a b s : List ℕ) → Free a → a ≡ b ++ 0 ∷ s → ⊥
no_cut [] [] s h e = cc e
no_cut [] (y ∷ b) s h e = cc e
no_cut (x ∷ a) [] s h e = let w : x ≡ 0 = cc e in h.0 w
no_cut (x ∷ a) (y ∷ b) s h e = let t : a ≡ b ++ 0 ∷ s = cc e in no_cut a b s h.1 t

-- paths and keys of identifiers differ as bytes where they differ
flat_free : (ps qs : List (List ℕ)) (k m : List ℕ) → AllByRecursion Free ps → AllByRecursion Free qs → Free k → Free m → flat ps k ≡ flat qs m → (ps ≡ qs) × (k ≡ m)
flat_free [] [] k m h g u v e = (refl, e)
flat_free [] (q ∷ qs) k m h g u v e = absurd (no_cut k q (flat qs m) u e)
flat_free (p ∷ ps) [] k m h g u v e = absurd (no_cut m p (flat ps k) v (sym e))
flat_free (p ∷ ps) (q ∷ qs) k m h g u v e =
    let c = cut p q (flat ps k) (flat qs m) h.0 g.0 e in
    let r = flat_free ps qs k m h.1 g.1 u v c.1 in
    (λ i. c.0 i ∷ r.0 i, r.1)

free_all : (ps : List (List ℕ)) → AllByRecursion IsIdentifier ps → AllByRecursion Free ps
free_all [] h = tt
free_all (p ∷ ps) h = (free_identifier p h.0, free_all ps h.1)

pub flat_once : (ps qs : List (List ℕ)) (k m : List ℕ) → AllByRecursion IsIdentifier ps → AllByRecursion IsIdentifier qs → IsIdentifier k → IsIdentifier m → flat ps k ≡ flat qs m → (ps ≡ qs) × (k ≡ m)
flat_once ps qs k m h g u v e = flat_free ps qs k m (free_all ps h) (free_all qs g) (free_identifier k u) (free_identifier m v) e

-- the bytes so far, and those to come
pub flat_step : (ps : List (List ℕ)) (i : ℕ) (d : List ℕ) (q : List ℕ) → i < length ps → flat (drop i ps) q ≡ get_or ps i d ++ 0 ∷ flat (drop (suc i) ps) q
flat_step [] i d q l = absurd (omega arith)
flat_step (p ∷ ps) zero d q l = refl
flat_step (p ∷ ps) (suc i) d q l = flat_step ps i d q (omega arith)

pub flat_end : (ps : List (List ℕ)) (i : ℕ) (q : List ℕ) → length ps ≡ i → flat (drop i ps) q ≡ q
flat_end [] zero q e = refl
flat_end [] (suc i) q e = refl
flat_end (p ∷ ps) zero q e = absurd (omega arith)
flat_end (p ∷ ps) (suc i) q e = flat_end ps i q (omega arith)
