-- Bits in order, and what a search among them by halving finds.
use Rattle.std.proofs.Common.{◌≡◌, ◌⊎◌, ℕ, List, true, false, ◌&&◌, sym, subst, ◌∙◌, inl, inr, arith, Some, None, Option, slice_get}
use Rattle.std.specs.Prelude.{nat_eq, nat_lt}
use Rattle.std.specs.List.{AllPairs}
use Rattle.std.proofs.lemmas.Bool.{and_from, and_parts, eq-eqb, eqb-true, false_from_ne_true, lt-ltb, ltb-true, or_cases, or_left, or_right}
use Rattle.flat_spec.specs.Paths.{Bit}
use Rattle.flat_spec.proofs.ListLemmas.{slice_get-contains}
use Rattle.erc_spec.specs.Told.{BitBefore}
use Rattle.net_ways.specs.Counts.{IsCountOf}
use Rattle.net_rows.specs.Tops.{IsNextBit, bit_before, bit_of}
use Rattle.net_rows.specs.declared.tops.OwnBit.{OwnBit}
use Rattle.net_ways.proofs.CountLemmas.{all_before, not_before}

pub bit_before-true : (a b : Bit) → bit_before a b ≡ true → BitBefore a b
bit_before-true a b e = elim (or_cases (nat_lt a.port b.port) (nat_eq a.port b.port && nat_lt a.bit b.bit) e) [
  | inl less ↦ inl (ltb-true a.port b.port less)
  | inr same ↦ let parts = and_parts (nat_eq a.port b.port) (nat_lt a.bit b.bit) same in inr (eqb-true a.port b.port parts.0, ltb-true a.bit b.bit parts.1)
]

pub bit_before-from : (a b : Bit) → BitBefore a b → bit_before a b ≡ true
bit_before-from a b h = elim h [
  | inl less ↦ or_left (nat_lt a.port b.port) (nat_eq a.port b.port && nat_lt a.bit b.bit) (lt-ltb a.port b.port less)
  | inr same ↦ or_right (nat_lt a.port b.port) (nat_eq a.port b.port && nat_lt a.bit b.bit) (and_from (nat_eq a.port b.port) (nat_lt a.bit b.bit) (eq-eqb a.port b.port same.0) (lt-ltb a.bit b.bit same.1))
]

-- bits of the top
pub bit_back : (b : Bit) (v w : OwnBit) → BitBefore (bit_of v) (bit_of w) → bit_before (bit_of w) b ≡ true → bit_before (bit_of v) b ≡ true
bit_back b v w order e = bit_before-from (bit_of v) b (more order (bit_before-true (bit_of w) b e))
  where
    more : BitBefore (bit_of v) (bit_of w) → BitBefore (bit_of w) b → BitBefore (bit_of v) b
    more (inl p) h = elim h [ inl k ↦ inl (omega (arith, p, k)) | inr k ↦ inl (omega (arith, p, k.0)) ]
    more (inr p) h = elim h [ inl k ↦ inl (omega (arith, p.0, k)) | inr k ↦ inr (p.0 ∙ k.0, omega (arith, p.1, k.1)) ]

pub next_bit : (bits : List OwnBit) (b : Bit) (count : ℕ) (o : Option OwnBit) → AllPairs (λ v w. BitBefore (bit_of v) (bit_of w)) bits → IsCountOf (λ own. bit_before (bit_of own) b) bits count
    → o ≡ slice_get bits count → IsNextBit bits b o
next_bit bits b count None order is at = λ own has. all_before (λ v. bit_before (bit_of v) b) bits count is (sym at) own has
next_bit bits b count (Some next) order is at = (
  slice_get-contains bits count next (sym at),
  is.back count next (omega arith) (sym at),
  λ own has not_so. behind own (not_before (λ v. bit_before (bit_of v) b) bits count is next (sym at) own has not_so (λ v w. BitBefore (bit_of v) (bit_of w)) order),
)
  where
    behind : (own : OwnBit) → (next ≡ own) ⊎ BitBefore (bit_of next) (bit_of own) → bit_before (bit_of own) (bit_of next) ≡ false
    behind own h = false_from_ne_true (bit_before (bit_of own) (bit_of next)) (λ e. elim h [
      | inl same ↦ not_itself (bit_before-true (bit_of next) (bit_of next) (subst (λ (v : OwnBit). bit_before (bit_of v) (bit_of next) ≡ true) (sym same) e))
      | inr less ↦ not_itself (both less (bit_before-true (bit_of own) (bit_of next) e))
    ])
      where
        not_itself : BitBefore (bit_of next) (bit_of next) → ⊥
        not_itself h = elim h [ inl p ↦ omega (arith, p) | inr p ↦ omega (arith, p.1) ]

        both : BitBefore (bit_of next) (bit_of own) → BitBefore (bit_of own) (bit_of next) → BitBefore (bit_of next) (bit_of next)
        both (inl p) h = elim h [ inl k ↦ inl (omega (arith, p, k)) | inr k ↦ inl (omega (arith, p, k.0)) ]
        both (inr p) h = elim h [ inl k ↦ inl (omega (arith, p.0, k)) | inr k ↦ inr (p.0 ∙ k.0, omega (arith, p.1, k.1)) ]
