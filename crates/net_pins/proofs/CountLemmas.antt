-- Searches by halving, and what they find.
use Rattle.std.proofs.Common.{◌≡◌, ◌⊎◌, ◌<◌, ◌≤◌, ℕ, List, true, false, ◌&&◌, sym, subst, ◌∙◌, inl, inr, arith, Some, None, Option, slice_get}
use Rattle.std.specs.Prelude.{nat_eq, nat_lt}
use Rattle.std.specs.List.{AllPairs}
use Rattle.std.proofs.lemmas.Bool.{and_from, and_parts, eq-eqb, eqb-true, false_from_ne_true, lt-ltb, ltb-true, or_cases, or_left, or_right}
use Rattle.flat_spec.specs.Paths.{Bit}
use Rattle.flat_spec.proofs.ListLemmas.{slice_get-contains}
use Rattle.erc_spec.specs.Told.{BitBefore}
use Rattle.net_classes.specs.Joints.{IsNotBehind}
use Rattle.net_classes.specs.declared.joints.Joint.{Joint}
use Rattle.net_pins.specs.Levels.{IsNextOf}
use Rattle.net_ways.specs.Counts.{IsCountOf}
use Rattle.net_rows.specs.Tops.{bit_before}
use Rattle.net_pins.specs.Order.{joint_before}
use Rattle.net_ways.proofs.CountLemmas.{all_before, not_before}
use Rattle.net_rows.proofs.BitLemmas.{bit_before-from, bit_before-true}

pub joint_back : (inst : ℕ) (b : Bit) (i j : Joint) → IsNotBehind i j → joint_before inst b j ≡ true → joint_before inst b i ≡ true
joint_back inst b i j order e = go order (or_cases (nat_lt j.inst inst) (nat_eq j.inst inst && bit_before (record { port = j.port; bit = j.bit }) b) e)
  where
    less : i.inst < inst → joint_before inst b i ≡ true
    less l = or_left (nat_lt i.inst inst) (nat_eq i.inst inst && bit_before (record { port = i.port; bit = i.bit }) b) (lt-ltb i.inst inst l)

    same : i.inst ≡ inst → BitBefore (record { port = i.port; bit = i.bit }) b → joint_before inst b i ≡ true
    same s h = or_right (nat_lt i.inst inst) (nat_eq i.inst inst && bit_before (record { port = i.port; bit = i.bit }) b)
        (and_from (nat_eq i.inst inst) (bit_before (record { port = i.port; bit = i.bit }) b) (eq-eqb i.inst inst s) (bit_before-from (record { port = i.port; bit = i.bit }) b h))

    upto : (i.port < j.port) ⊎ ((i.port ≡ j.port) × (i.bit ≤ j.bit)) → BitBefore (record { port = j.port; bit = j.bit }) b → BitBefore (record { port = i.port; bit = i.bit }) b
    upto (inl p) h = elim h [ inl k ↦ inl (omega (arith, p, k)) | inr k ↦ inl (omega (arith, p, k.0)) ]
    upto (inr p) h = elim h [ inl k ↦ inl (omega (arith, p.0, k)) | inr k ↦ inr (p.0 ∙ k.0, omega (arith, p.1, k.1)) ]

    go : IsNotBehind i j → (nat_lt j.inst inst ≡ true) ⊎ ((nat_eq j.inst inst && bit_before (record { port = j.port; bit = j.bit }) b) ≡ true) → joint_before inst b i ≡ true
    go (inl before) (inl l) = let m = ltb-true j.inst inst l in less (omega (arith, before, m))
    go (inl before) (inr h) = let parts = and_parts (nat_eq j.inst inst) (bit_before (record { port = j.port; bit = j.bit }) b) h in let s = eqb-true j.inst inst parts.0 in less (omega (arith, before, s))
    go (inr k) (inl l) = let m = ltb-true j.inst inst l in less (omega (arith, k.0, m))
    go (inr k) (inr h) =
        let parts = and_parts (nat_eq j.inst inst) (bit_before (record { port = j.port; bit = j.bit }) b) h in
        same (k.0 ∙ eqb-true j.inst inst parts.0) (upto k.1 (bit_before-true (record { port = j.port; bit = j.bit }) b parts.1))

pub next_joint : (joints : List Joint) (inst : ℕ) (b : Bit) (count : ℕ) (o : Option Joint) → AllPairs IsNotBehind joints → IsCountOf (joint_before inst b) joints count → o ≡ slice_get joints count → IsNextOf joints inst b o
next_joint joints inst b count None order is at = λ j has. all_before (joint_before inst b) joints count is (sym at) j has
next_joint joints inst b count (Some next) order is at = (
  slice_get-contains joints count next (sym at),
  is.back count next (omega arith) (sym at),
  λ j has not_so. behind j (not_before (joint_before inst b) joints count is next (sym at) j has not_so IsNotBehind order),
)
  where
    behind : (j : Joint) → (next ≡ j) ⊎ IsNotBehind next j → joint_before next.inst (record { port = next.port; bit = next.bit }) j ≡ false
    behind j h = false_from_ne_true (joint_before next.inst (record { port = next.port; bit = next.bit }) j)
        (λ e. not_itself (elim h [
          | inl same ↦ subst (λ (v : Joint). joint_before next.inst (record { port = next.port; bit = next.bit }) v ≡ true) (sym same) e
          | inr order ↦ joint_back next.inst (record { port = next.port; bit = next.bit }) next j order e
        ]))
      where
        not_itself : joint_before next.inst (record { port = next.port; bit = next.bit }) next ≡ true → ⊥
        not_itself e = elim (or_cases (nat_lt next.inst next.inst) (nat_eq next.inst next.inst && bit_before (record { port = next.port; bit = next.bit }) (record { port = next.port; bit = next.bit })) e) [
          | inl l ↦ let m = ltb-true next.inst next.inst l in omega (arith, m)
          | inr k ↦
              let parts = and_parts (nat_eq next.inst next.inst) (bit_before (record { port = next.port; bit = next.bit }) (record { port = next.port; bit = next.bit })) k in
              elim (bit_before-true (record { port = next.port; bit = next.bit }) (record { port = next.port; bit = next.bit }) parts.1) [ inl p ↦ omega (arith, p) | inr p ↦ omega (arith, p.1) ]
        ]
