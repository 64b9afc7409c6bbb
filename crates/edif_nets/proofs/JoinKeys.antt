-- The bits that are joined, by their keys in a map.
use Rattle.std.proofs.Common.{◌≡◌, ℕ, zero, suc, ◌<◌, List, [], ◌∷◌, map, length, refl, sym, ap, ◌∙◌, Bool, true, false, ◌&&◌, nat_eq, Option, None, Some, rules, arith, get_or, true≢false, eqb-true}
use Rattle.std.specs.Prelude.{cond}
use Rattle.std.specs.Map.{lookup}
use Rattle.std.specs.List.{Contains}
use Rattle.edif_spec.proofs.Both.{both}
use Rattle.edif_spec.specs.Design as design
use Rattle.edif_nets.specs.Joins.{bits}
use Rattle.edif_nets.specs.declared.joins.Key.{Key}
use Rattle.edif_nets.specs.contracts.joins.KeyPartialEq.TheImpl.{eq-value}

abbrev pub eq : Key → Key → Bool
eq x y = eq-value.it x y

-- equal keys are one key
both_same : (a : Bool) (p q m n : ℕ) → (a && (nat_eq p q && nat_eq m n)) ≡ true → (a ≡ true) × (p ≡ q) × (m ≡ n)
both_same a p q m n h =
    let u = both a (nat_eq p q && nat_eq m n) h in
    let v = both (nat_eq p q) (nat_eq m n) u.1 in
    (u.0, eqb-true p q v.0, eqb-true m n v.1)

parts_same : (a b : Option ℕ) (p q m n : ℕ) → eq (record { inst = a; port = p; bit = m }) (record { inst = b; port = q; bit = n }) ≡ true → (a ≡ b) × (p ≡ q) × (m ≡ n)
parts_same None None p q m n h = let u = both_same true p q m n h in (refl, u.1, u.2)
parts_same None (Some y) p q m n h = absurd (cc h)
parts_same (Some x) None p q m n h = absurd (cc h)
parts_same (Some x) (Some y) p q m n h = let u = both_same (nat_eq x y) p q m n h in (ap (λ v. Some v) (eqb-true x y u.0), u.1, u.2)

eq_same : (x y : Key) → eq x y ≡ true → x ≡ y
eq_same x y h = let u = parts_same x.inst y.inst x.port y.port x.bit y.bit h in λ j. record { inst = u.0 j; port = u.1 j; bit = u.2 j }

eq_self : (x : Key) → eq x x ≡ true
eq_self x = grind rules

-- the bit of a key, and those of entries
abbrev pub end_of : Key → design.End
end_of k = record { inst = k.inst; port = k.port; bit = k.bit }

abbrev pub key_of : design.End → Key
key_of e = record { inst = e.inst; port = e.port; bit = e.bit }

abbrev pub joined : List (Key × ℕ) → List (design.End × ℕ)
joined es = map (λ (e : Key × ℕ). (end_of e.0, e.1)) es

same_end : (x y : Key) → end_of x ≡ end_of y → x ≡ y
same_end x y e = ap key_of e

-- a bit that no entry has
pub not_joined : (k : Key) (es : List (Key × ℕ)) → lookup (eq k) es ≡ None → (i : ℕ) (d : design.End) → i < length (bits (joined es)) → get_or (bits (joined es)) i d ≡ end_of k → ⊥
not_joined k [] h i d l e = omega arith
not_joined k (x ∷ es) h i d l e = by (eq k x.0) refl h i l e (not_joined k es)
  where
    by : (b : Bool) → eq k x.0 ≡ b → cond b (Some x.1) (lookup (eq k) es) ≡ None → (i : ℕ) → i < length (bits (joined (x ∷ es))) → get_or (bits (joined (x ∷ es))) i d ≡ end_of k
        → (lookup (eq k) es ≡ None → (i : ℕ) (d : design.End) → i < length (bits (joined es)) → get_or (bits (joined es)) i d ≡ end_of k → ⊥) → ⊥
    by true q h i l e r = cc h
    by false q h zero l e r = let s : x.0 ≡ k = same_end x.0 k e in true≢false (sym (eq_self k) ∙ (ap (eq k) (sym s) ∙ q))
    by false q h (suc i) l e r = r h i d (omega arith) e

-- a bit that some entry has, with its place
pub joined_at : (k : Key) (es : List (Key × ℕ)) (place : ℕ) → lookup (eq k) es ≡ Some place → Contains (joined es) (end_of k, place)
joined_at k [] place h = absurd (cc h)
joined_at k (x ∷ es) place h = by (eq k x.0) refl h (joined_at k es place)
  where
    by : (b : Bool) → eq k x.0 ≡ b → cond b (Some x.1) (lookup (eq k) es) ≡ Some place → (lookup (eq k) es ≡ Some place → Contains (joined es) (end_of k, place)) → Contains (joined (x ∷ es)) (end_of k, place)
    by true q h r = let s : k ≡ x.0 = eq_same k x.0 q in let p : x.1 ≡ place = cc h in (0, omega arith, λ i. (end_of (sym s i), p i))
    by false q h r = let w = r h in (suc w.0, omega (arith, w.1), w.2)
