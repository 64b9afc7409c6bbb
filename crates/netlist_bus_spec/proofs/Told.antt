-- The greatest width of the runs at a place.
use Rattle.std.proofs.Common.{◌≡◌, ℕ, zero, suc, ◌≤◌, List, [], ◌∷◌, take, length, refl, ap, sym, ◌∙◌, ◌⊎◌, inl, inr, Bool, true, false, Option, arith}
use Rattle.std.specs.Prelude.{cond}
use Rattle.netlist_schema.specs.Types.{Net, Port}
use Rattle.netlist_bus_spec.specs.Runs.{BeginsRun, IsGreatest, greatest, is_run, run_width}
use Rattle.netlist_bus_spec.proofs.Rows.{run_passes, run_there}

-- the greatest number that passes does, or none does
pub greatest_passes : (test : ℕ → Bool) (b : ℕ) → (greatest test b ≡ 1) ⊎ ((greatest test b ≤ b) × (test (greatest test b) ≡ true))
greatest_passes test zero = inl refl
greatest_passes test (suc b) = by (test (suc b)) refl (greatest_passes test b)
  where
    by : (r : Bool) → test (suc b) ≡ r → (greatest test b ≡ 1) ⊎ ((greatest test b ≤ b) × (test (greatest test b) ≡ true)) → (cond r (suc b) (greatest test b) ≡ 1) ⊎ ((cond r (suc b) (greatest test b) ≤ suc b) × (test (cond r (suc b) (greatest test b)) ≡ true))
    by true e h = inr (omega arith, e)
    by false e (inl h) = inl h
    by false e (inr h) = let l = h.0 in inr (omega (arith, l), h.1)

less_or_same : (v b : ℕ) → v ≤ suc b → (v ≤ b) ⊎ (v ≡ suc b)
less_or_same v b l = grind arith

none_greater : (test : ℕ → Bool) (b v : ℕ) → v ≤ b → test v ≡ true → v ≤ greatest test b
none_greater test zero v l h = omega (arith, l)
none_greater test (suc b) v l h = by (test (suc b)) refl (less_or_same v b l) (λ k. none_greater test b v k h)
  where
    by : (r : Bool) → test (suc b) ≡ r → (v ≤ b) ⊎ (v ≡ suc b) → (v ≤ b → v ≤ greatest test b) → v ≤ cond r (suc b) (greatest test b)
    by true e s more = l
    by false e (inl k) more = more k
    by false e (inr k) more = let d : true ≡ false = sym h ∙ (ap test k ∙ e) in absurd (cc d)

pub width_is_greatest : (ports : Option ℕ → List Port) (nets : List Net) → IsGreatest ports nets (run_width ports nets)
width_is_greatest ports nets =
    let test : ℕ → Bool = λ w. is_run ports (take w nets) in
    record {
      begins = elim (greatest_passes test (length nets)) [ inl h ↦ inl h | inr h ↦ inr (h.0, run_there ports (take (greatest test (length nets)) nets) h.1) ];
      greatest = λ v r. none_greater test (length nets) v r.0 (run_passes ports (take v nets) r.1);
    }

-- two greatest widths are one
run_is_wide : (ports : Option ℕ → List Port) (nets : List Net) (w : ℕ) → BeginsRun ports nets w → 2 ≤ w
run_is_wide ports nets w r = let l = r.1.least in let m = taken w nets in omega (arith, l, m)
  where
    taken : (w : ℕ) (nets : List Net) → length (take w nets) ≤ w
    taken zero nets = omega arith
    taken (suc w) [] = omega arith
    taken (suc w) (n ∷ nets) = let h = taken w nets in omega (arith, h)

pub one_greatest : (ports : Option ℕ → List Port) (nets : List Net) (v w : ℕ) → IsGreatest ports nets v → IsGreatest ports nets w → v ≡ w
one_greatest ports nets v w a b = by a.begins b.begins
  where
    by : (v ≡ 1) ⊎ BeginsRun ports nets v → (w ≡ 1) ⊎ BeginsRun ports nets w → v ≡ w
    by (inl e) (inl f) = e ∙ sym f
    by (inl e) (inr f) = let l = run_is_wide ports nets w f in let m = a.greatest w f in absurd (omega (arith, e, l, m))
    by (inr e) (inl f) = let l = run_is_wide ports nets v e in let m = b.greatest v e in absurd (omega (arith, f, l, m))
    by (inr e) (inr f) = let l = a.greatest w f in let m = b.greatest v e in omega (arith, l, m)
