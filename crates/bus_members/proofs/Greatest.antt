-- The greatest run that begins with the first of some nets, by its members.
use Rattle.std.proofs.Common.{◌≡◌, ℕ, zero, suc, ◌<◌, ◌≤◌, List, [], ◌∷◌, take, length, refl, ap, sym, ◌∙◌, subst, ◌⊎◌, inl, inr, true, false, Bool, eqb-true, Option, Some, None, arith}
use Rattle.std.specs.Prelude.{◌&&◌, nat_eq, option_and_then, slice_get}
use Rattle.std.specs.Cmp.Lexicographic.{pointwise}
use Rattle.std.proofs.lemmas.Bool.{cases_lt}
use Rattle.std.proofs.lemmas.List.{length-take-le}
use Rattle.netlist_schema.specs.Types.{End, Net, Port}
use Rattle.netlist_bus_spec.specs.Members.{member_name}
use Rattle.netlist_bus_spec.specs.Runs.{BeginsRun, are_members, is_bit, is_member, run_name, run_width, stem}
use Rattle.netlist_bus_spec.specs.Same.{same_name, same_properties}
use Rattle.netlist_bus_spec.proofs.Rows.{passed, run_passes, run_there, some_same, tested}
use Rattle.netlist_bus_spec.proofs.Told.{one_greatest, width_is_greatest}

-- a front of a list of nets that is a run, by its first net
record Front (ports : Option ℕ → List Port) (n : Net) (nets : List Net) (v : ℕ) : Type 0 where
  pub within : v ≤ length nets
  pub least : 2 ≤ v
  pub most : v ≤ 65536
  pub some_byte : 1 ≤ length (stem n.name.id)
  pub members : are_members ports v n 0 (take v nets) ≡ true

no_nets : (ports : Option ℕ → List Port) (nets : List Net) → BeginsRun ports nets 0 → ⊥
no_nets ports nets b = let l = b.1.least in omega (arith, l)

front_of : (ports : Option ℕ → List Port) (n : Net) (nets : List Net) (v : ℕ) → slice_get nets 0 ≡ Some n → BeginsRun ports nets v → Front ports n nets v
front_of ports n [] v g b = absurd (cc g)
front_of ports n (x ∷ ns) zero g b = absurd (no_nets ports (x ∷ ns) b)
front_of ports n (x ∷ ns) (suc v) g b =
    let same : x ≡ n = some_same x n g in
    let t = tested ports x (take v ns) (run_passes ports (x ∷ take v ns) b.1) in
    let count : length (x ∷ take v ns) ≡ suc v = length-take-le (suc v) (x ∷ ns) b.0 in
    let P : ℕ → Type 0 = λ k. are_members ports k x 0 (x ∷ take v ns) ≡ true in
    let Q : Net → Type 0 = λ m. Front ports m (x ∷ ns) (suc v) in
    let l = t.least in
    let m = t.most in
    subst Q same (record { within = b.0; least = omega (arith, l, count); most = omega (arith, m, count); some_byte = t.some_byte; members = subst P count t.members })

run_of : (ports : Option ℕ → List Port) (n : Net) (nets : List Net) (v : ℕ) → slice_get nets 0 ≡ Some n → Front ports n nets v → BeginsRun ports nets v
run_of ports n [] v g f = absurd (cc g)
run_of ports n (x ∷ ns) zero g f = let l = f.least in absurd (omega (arith, l))
run_of ports n (x ∷ ns) (suc v) g f =
    let same : n ≡ x = sym (some_same x n g) in
    let count : length (x ∷ take v ns) ≡ suc v = length-take-le (suc v) (x ∷ ns) f.within in
    let P : ℕ → Type 0 = λ k. are_members ports k x 0 (x ∷ take v ns) ≡ true in
    let Q : Net → Type 0 = λ m. Front ports m (x ∷ ns) (suc v) in
    let h : Front ports x (x ∷ ns) (suc v) = subst Q same f in
    let l = h.least in
    let m = h.most in
    (f.within, run_there ports (x ∷ take v ns) (passed ports x (take v ns) (record { least = omega (arith, l, count); most = omega (arith, m, count); some_byte = h.some_byte; members = subst P (sym count) h.members })))

-- the width of a run is that of the array at which an end of its first net is
first_width : (ports : Option ℕ → List Port) (n : Net) (nets : List Net) (e : End) (v : ℕ) → slice_get nets 0 ≡ Some n → slice_get n.ends 0 ≡ Some e → BeginsRun ports nets v → option_and_then (λ (p : Port). p.array) (slice_get (ports e.inst) e.port) ≡ Some v
first_width ports n [] e v g h b = absurd (cc g)
first_width ports n (x ∷ ns) e zero g h b = absurd (no_nets ports (x ∷ ns) b)
first_width ports n (x ∷ ns) e (suc v) g h b =
    let count : length (x ∷ take v ns) ≡ suc v = length-take-le (suc v) (x ∷ ns) b.0 in
    let bit = (b.1.bits 0 0 n e g h).1 in
    ap (option_and_then (λ (p : Port). p.array)) bit.there ∙ (bit.array ∙ ap Some count)

-- without ends all widths are alike
no_ends : (ports : Option ℕ → List Port) (v w k : ℕ) (ys : List End) → pointwise (is_bit ports v k) [] ys ≡ pointwise (is_bit ports w k) [] ys
no_ends ports v w k [] = refl
no_ends ports v w k (y ∷ ys) = refl

member_alike : (ports : Option ℕ → List Port) (v w : ℕ) (first : Net) (k : ℕ) (n : Net) → first.ends ≡ [] → is_member ports v first k n ≡ is_member ports w first k n
member_alike ports v w first k n e =
    let F : Bool → Bool = λ b. same_name n.name (member_name (run_name first) k) && (same_properties n.properties first.properties && b) in
    let there : pointwise (is_bit ports v k) first.ends n.ends ≡ pointwise (is_bit ports v k) [] n.ends = ap (λ xs. pointwise (is_bit ports v k) xs n.ends) e in
    let back : pointwise (is_bit ports w k) first.ends n.ends ≡ pointwise (is_bit ports w k) [] n.ends = ap (λ xs. pointwise (is_bit ports w k) xs n.ends) e in
    ap F (there ∙ (no_ends ports v w k n.ends ∙ sym back))

members_alike : (ports : Option ℕ → List Port) (v w : ℕ) (first : Net) (k : ℕ) (nets : List Net) → first.ends ≡ [] → are_members ports v first k nets ≡ are_members ports w first k nets
members_alike ports v w first k [] e = refl
members_alike ports v w first k (n ∷ nets) e =
    let a = member_alike ports v w first k n e in
    let b = members_alike ports v w first (suc k) nets e in
    λ j. a j && b j

-- a text is empty, or it has a byte
pub is_empty : (n : ℕ) → nat_eq n 0 ≡ true → n < 1
is_empty n h = let e : n ≡ 0 = eqb-true n 0 h in omega (arith, e)

pub not_empty : (n : ℕ) → nat_eq n 0 ≡ false → 1 ≤ n
not_empty zero h = absurd (cc h)
not_empty (suc n) h = omega arith

-- a list without a first item
pub no_first : {A : Type 0} (xs : List A) → slice_get xs 0 ≡ None → xs ≡ []
no_first [] g = refl
no_first (x ∷ xs) g = absurd (cc g)

-- where no run begins the width is 1
none_begins : (ports : Option ℕ → List Port) (nets : List Net) → ((v : ℕ) → BeginsRun ports nets v → ⊥) → 1 ≡ run_width ports nets
none_begins ports nets f = one_greatest ports nets 1 (run_width ports nets) (record { begins = inl refl; greatest = λ v b. absurd (f v b) }) (width_is_greatest ports nets)

pub no_byte : (ports : Option ℕ → List Port) (n : Net) (nets : List Net) → slice_get nets 0 ≡ Some n → length (stem n.name.id) < 1 → 1 ≡ run_width ports nets
no_byte ports n nets g l = none_begins ports nets (λ v b. let s = (front_of ports n nets v g b).some_byte in omega (arith, l, s))

-- The first nets that are members of a width, and no more of them.
pub record Counted (ports : Option ℕ → List Port) (width : ℕ) (n : Net) (nets : List Net) (count : ℕ) : Type 0 where
  pub most : count ≤ width
  pub within : count ≤ length nets
  pub members : are_members ports width n 0 (take count nets) ≡ true
  pub greatest : (v : ℕ) → v ≤ width → v ≤ length nets → are_members ports width n 0 (take v nets) ≡ true → v ≤ count

-- a first net without ends: the count is the width
few_endless : (ports : Option ℕ → List Port) (n : Net) (nets : List Net) (count v : ℕ) → slice_get nets 0 ≡ Some n → n.ends ≡ [] → Counted ports 65536 n nets count → BeginsRun ports nets v → v ≤ count
few_endless ports n nets count v g e c b =
    let f = front_of ports n nets v g b in
    c.greatest v f.most f.within (sym (members_alike ports v 65536 n 0 (take v nets) e) ∙ f.members)

pub endless_none : (ports : Option ℕ → List Port) (n : Net) (nets : List Net) (count : ℕ) → slice_get nets 0 ≡ Some n → n.ends ≡ [] → Counted ports 65536 n nets count → count < 2 → 1 ≡ run_width ports nets
endless_none ports n nets count g e c l = none_begins ports nets (λ v b. let s = (front_of ports n nets v g b).least in let m = few_endless ports n nets count v g e c b in omega (arith, l, s, m))

pub endless_run : (ports : Option ℕ → List Port) (n : Net) (nets : List Net) (count : ℕ) → slice_get nets 0 ≡ Some n → n.ends ≡ [] → Counted ports 65536 n nets count → 1 ≤ length (stem n.name.id) → 2 ≤ count → count ≡ run_width ports nets
endless_run ports n nets count g e c s l =
    let f : Front ports n nets count = record { within = c.within; least = l; most = c.most; some_byte = s; members = members_alike ports count 65536 n 0 (take count nets) e ∙ c.members } in
    one_greatest ports nets count (run_width ports nets) (record { begins = inr (run_of ports n nets count g f); greatest = λ v b. few_endless ports n nets count v g e c b }) (width_is_greatest ports nets)

-- a first net with an end: only the width of the array there is one of a run
pub no_array : (ports : Option ℕ → List Port) (n : Net) (nets : List Net) (e : End) → slice_get nets 0 ≡ Some n → slice_get n.ends 0 ≡ Some e → option_and_then (λ (p : Port). p.array) (slice_get (ports e.inst) e.port) ≡ None → 1 ≡ run_width ports nets
no_array ports n nets e g h a = none_begins ports nets (λ v b. let d : None ≡ Some v = sym a ∙ first_width ports n nets e v g h b in cc d)

one_width : (ports : Option ℕ → List Port) (n : Net) (nets : List Net) (e : End) (width v : ℕ) → slice_get nets 0 ≡ Some n → slice_get n.ends 0 ≡ Some e → option_and_then (λ (p : Port). p.array) (slice_get (ports e.inst) e.port) ≡ Some width → BeginsRun ports nets v → v ≡ width
one_width ports n nets e width v g h a b = let d : Some v ≡ Some width = sym (first_width ports n nets e v g h b) ∙ a in cc d

pub array_not_full : (ports : Option ℕ → List Port) (n : Net) (nets : List Net) (e : End) (width count : ℕ) → slice_get nets 0 ≡ Some n → slice_get n.ends 0 ≡ Some e
    → option_and_then (λ (p : Port). p.array) (slice_get (ports e.inst) e.port) ≡ Some width → Counted ports width n nets count → count < width → 1 ≡ run_width ports nets
array_not_full ports n nets e width count g h a c l = none_begins ports nets (λ v b.
    let f = front_of ports n nets v g b in
    let same : v ≡ width = one_width ports n nets e width v g h a b in
    let P : ℕ → Type 0 = λ w. are_members ports w n 0 (take v nets) ≡ true in
    let m = c.greatest v (omega (arith, same)) f.within (subst P same f.members) in
    omega (arith, l, m, same))

pub array_run : (ports : Option ℕ → List Port) (n : Net) (nets : List Net) (e : End) (width count : ℕ) → slice_get nets 0 ≡ Some n → slice_get n.ends 0 ≡ Some e
    → option_and_then (λ (p : Port). p.array) (slice_get (ports e.inst) e.port) ≡ Some width → Counted ports width n nets count → 1 ≤ length (stem n.name.id) → 1 ≤ width → width ≤ 65536 → width ≤ count → width ≡ run_width ports nets
array_run ports n nets e width count g h a c s least most l =
    let top = c.most in
    let same : count ≡ width = omega (arith, l, top) in
    let P : ℕ → Type 0 = λ w. w ≤ length nets in
    let Q : ℕ → Type 0 = λ w. are_members ports width n 0 (take w nets) ≡ true in
    by (cases_lt width 2) (subst P same c.within) (subst Q same c.members)
  where
    by : (width < 2) ⊎ (2 ≤ width) → width ≤ length nets → are_members ports width n 0 (take width nets) ≡ true → width ≡ run_width ports nets
    by (inl small) within members =
        let one : width ≡ 1 = omega (arith, small, least) in
        one ∙ none_begins ports nets (λ v b. let f = (front_of ports n nets v g b).least in let only = one_width ports n nets e width v g h a b in omega (arith, f, only, small))
    by (inr two) within members =
        let f : Front ports n nets width = record { within = within; least = two; most = most; some_byte = s; members = members } in
        one_greatest ports nets width (run_width ports nets) (record { begins = inr (run_of ports n nets width g f); greatest = λ v b. let only = one_width ports n nets e width v g h a b in omega (arith, only) }) (width_is_greatest ports nets)
