-- The forms of nets, from the first net on.
use Rattle.std.proofs.Common.{◌≡◌, ◌≤◌, ◌<◌, ℕ, zero, suc, pred, Bool, true, false, List, [], ◌∷◌, ◌++◌, map, length, take, drop, slice_get, Option, Some, None, refl, ap, sym, ◌∙◌, inl, inr, arith, append_assoc}
use Rattle.std.specs.Prelude.{cond, nat_le}
use Rattle.std.proofs.lemmas.Bool.Decides.{nat_tests}
use Rattle.edif_spelling_spec.specs.Tree.{Bare}
use Rattle.netlist_schema.specs.Design.{Design}
use Rattle.netlist_schema.specs.Types.{Inst, Net, Port}
use Rattle.netlist_bus_spec.specs.Runs.{greatest, is_run, run_width}
use Rattle.netlist_bus_spec.proofs.Told.{greatest_passes}
use Rattle.bus_members.specs.Widths.{ports_among}
use Rattle.edif_spec.specs.Canonical.{layout, new_line, ports_of_end}
use Rattle.edif_spec.specs.Nets.{NetForm, form_of, forms_behind, net_forms, run_form, single_form}
use Rattle.edif_writer.specs.Lines.{lined}

one_at_least : (test : ℕ → Bool) (b : ℕ) → 1 ≤ greatest test b
one_at_least test zero = omega arith
one_at_least test (suc b) = by (test (suc b)) (one_at_least test b)
  where
    by : (r : Bool) → 1 ≤ greatest test b → 1 ≤ cond r (suc b) (greatest test b)
    by true h = omega arith
    by false h = h

-- a run has a net at least
pub width_least : (ports : Option ℕ → List Port) (nets : List Net) → 1 ≤ run_width ports nets
width_least ports nets = one_at_least (λ w. is_run ports (take w nets)) (length nets)

-- and no more than there are
pub width_most : (ports : Option ℕ → List Port) (nets : List Net) → 0 < length nets → run_width ports nets ≤ length nets
width_most ports nets l = elim (greatest_passes (λ w. is_run ports (take w nets)) (length nets)) [ inl h ↦ omega (arith, l, h) | inr h ↦ h.0 ]

-- behind nets that are written already stand the forms of the others
forms_left : (ports : Option ℕ → List Port) (k : ℕ) (nets : List Net) → forms_behind ports k nets ≡ net_forms ports (drop k nets)
forms_left ports zero [] = refl
forms_left ports (suc k) [] = refl
forms_left ports zero (n ∷ ns) = refl
forms_left ports (suc k) (n ∷ ns) = forms_left ports k ns

-- the first form of nets, and the others
first_form : (ports : Option ℕ → List Port) (n : Net) (ns : List Net) (w : ℕ) → run_width ports (n ∷ ns) ≡ w → 1 ≤ w
    → net_forms ports (n ∷ ns) ≡ form_of w n ∷ net_forms ports (drop w (n ∷ ns))
first_form ports n ns zero e l = absurd (omega (arith, l))
first_form ports n ns (suc v) e l = ap (λ u. form_of u n ∷ forms_behind ports (pred u) ns) e ∙ ap (λ fs. form_of (suc v) n ∷ fs) (forms_left ports v ns)

-- the lines of nets: that of the first form, and the others
pub first_line : (level : ℕ) (tree : NetForm → Bare) (ports : Option ℕ → List Port) (nets : List Net) (n : Net) (w : ℕ) → Some n ≡ slice_get nets 0 → w ≡ run_width ports nets
    → new_line level ++ (layout (suc level) (tree (form_of w n)) ++ lined level (map tree (net_forms ports (drop w nets)))) ≡ lined level (map tree (net_forms ports nets))
first_line level tree ports [] n w e g = absurd (cc e)
first_line level tree ports (x ∷ xs) n w e g =
    let same : n ≡ x = cc e in
    let line : Net → List ℕ = λ m. new_line level ++ (layout (suc level) (tree (form_of w m)) ++ lined level (map tree (net_forms ports (drop w (x ∷ xs))))) in
    let l = width_least ports (x ∷ xs) in
    ap line same
    ∙ (sym (append_assoc (new_line level) (layout (suc level) (tree (form_of w x))) (lined level (map tree (net_forms ports (drop w (x ∷ xs))))))
    ∙ ap (λ fs. lined level (map tree fs)) (sym (first_form ports x xs w (sym g) (omega (arith, l, g)))))

-- the ports of ends, by either name
pub same_ports : (d : Design) (own : List Port) (insts : List Inst) → ports_among d own insts ≡ ports_of_end d.libs own insts
same_ports d own insts = λ i o. at o i
  where
    at : (o : Option ℕ) → ports_among d own insts o ≡ ports_of_end d.libs own insts o
    at None = refl
    at (Some place) = refl

-- the width of the greatest run, by either name of the ports
pub width_there : (d : Design) (own given_own : List Port) (insts given : List Inst) (nets : List Net) (w : ℕ) → given_own ≡ own → given ≡ insts → w ≡ run_width (ports_among d given_own given) nets
    → w ≡ run_width (ports_of_end d.libs own insts) nets
width_there d own given_own insts given nets w p q e =
    e ∙ (ap (λ ps. run_width (ports_among d ps given) nets) p ∙ (ap (λ is. run_width (ports_among d own is) nets) q ∙ ap (λ ports. run_width ports nets) (same_ports d own insts)))

-- a net at which no run begins stands by itself
pub single_there : (w : ℕ) (n : Net) → w < 2 → single_form n ≡ form_of w n
single_there w n l = ap (λ b. cond b (run_form w n) (single_form n)) (few w l)
  where
    few : (w : ℕ) → w < 2 → false ≡ nat_le 2 w
    few w l = grind (arith, nat_tests)

-- one at which a run begins is its first
pub run_there : (w : ℕ) (n : Net) → 2 ≤ w → run_form w n ≡ form_of w n
run_there w n l = ap (λ b. cond b (run_form w n) (single_form n)) (many w l)
  where
    many : (w : ℕ) → 2 ≤ w → true ≡ nat_le 2 w
    many w l = grind (arith, nat_tests)

-- where no net is first there is none
pub none_left : (nets : List Net) → None ≡ slice_get nets 0 → nets ≡ []
none_left [] e = refl
none_left (n ∷ ns) e = absurd (cc e)
