-- The first members of a list of nets.
use Rattle.std.proofs.Common.{◌≡◌, ℕ, zero, suc, ◌+◌, ◌<◌, ◌≤◌, List, [], ◌∷◌, take, length, get_or, refl, ap, sym, ◌∙◌, subst, ◌⊎◌, inl, inr, true, false, Bool, Option, Some, arith}
use Rattle.std.specs.Prelude.{slice_get}
use Rattle.std.proofs.lemmas.Bool.{cases_lt, and_parts, and_from}
use Rattle.std.proofs.lemmas.Option.{slice_get_read}
use Rattle.netlist_schema.specs.Types.{Net, Port}
use Rattle.netlist_bus_spec.specs.Runs.{are_members, is_member}
use Rattle.netlist_bus_spec.proofs.Rows.{some_same}

-- the members and the one behind them
members_more : (ports : Option ℕ → List Port) (width : ℕ) (first : Net) (k i j : ℕ) (nets : List Net) (n : Net) → j ≡ k + i → slice_get nets i ≡ Some n → are_members ports width first k (take i nets) ≡ true → is_member ports width first j n ≡ true
    → are_members ports width first k (take (suc i) nets) ≡ true
members_more ports width first k zero j [] n e g h m = absurd (cc g)
members_more ports width first k zero j (x ∷ nets) n e g h m =
    let same : n ≡ x = sym (some_same x n g) in
    let number : j ≡ k = omega (arith, e) in
    let P : Net → Type 0 = λ v. is_member ports width first j v ≡ true in
    let Q : ℕ → Type 0 = λ v. is_member ports width first v x ≡ true in
    and_from (is_member ports width first k x) true (subst Q number (subst P same m)) refl
members_more ports width first k (suc i) j [] n e g h m = absurd (cc g)
members_more ports width first k (suc i) j (x ∷ nets) n e g h m =
    let u = and_parts (is_member ports width first k x) (are_members ports width first (suc k) (take i nets)) h in
    and_from (is_member ports width first k x) (are_members ports width first (suc k) (take (suc i) nets)) u.0 (members_more ports width first (suc k) i j nets n (omega (arith, e)) g u.1 m)

-- a member among the first ones
member_among : (ports : Option ℕ → List Port) (width : ℕ) (first : Net) (k i j v : ℕ) (nets : List Net) (n : Net) → j ≡ k + i → i < v → slice_get nets i ≡ Some n → are_members ports width first k (take v nets) ≡ true
    → is_member ports width first j n ≡ true
member_among ports width first k i j zero nets n e l g h = absurd (omega (arith, l))
member_among ports width first k i j (suc v) [] n e l g h = absurd (cc g)
member_among ports width first k zero j (suc v) (x ∷ nets) n e l g h =
    let same : x ≡ n = some_same x n g in
    let number : k ≡ j = omega (arith, e) in
    let P : Net → Type 0 = λ w. is_member ports width first k w ≡ true in
    let Q : ℕ → Type 0 = λ w. is_member ports width first w n ≡ true in
    subst Q number (subst P same (and_parts (is_member ports width first k x) (are_members ports width first (suc k) (take v nets)) h).0)
member_among ports width first k (suc i) j (suc v) (x ∷ nets) n e l g h =
    member_among ports width first (suc k) i j v nets n (omega (arith, e)) (omega (arith, l)) g (and_parts (is_member ports width first k x) (are_members ports width first (suc k) (take v nets)) h).1

-- the net of a number that a loop has come to
there : (nets : List Net) (n : Net) (count i : ℕ) → count ≡ i → i < length nets → n ≡ get_or nets i n → slice_get nets count ≡ Some n
there nets n count i e l g = slice_get_read nets (length nets) count n refl (omega (arith, e, l)) (g ∙ ap (λ k. get_or nets k n) (sym e))

pub one_more : (ports : Option ℕ → List Port) (width : ℕ) (first : Net) (count i : ℕ) (nets : List Net) (n : Net) (passes : Bool) → count ≡ i → i < length nets → n ≡ get_or nets i n → passes ≡ is_member ports width first count n → passes ≡ true
    → are_members ports width first 0 (take count nets) ≡ true → are_members ports width first 0 (take (count + 1) nets) ≡ true
one_more ports width first count i nets n passes e l g t p h =
    let next : suc count ≡ count + 1 = omega arith in
    let P : ℕ → Type 0 = λ k. are_members ports width first 0 (take k nets) ≡ true in
    subst P next (members_more ports width first 0 count count nets n (omega arith) (there nets n count i e l g) h (sym t ∙ p))

-- where a net is no member, no more nets than those before it are members
pub no_more : (ports : Option ℕ → List Port) (width : ℕ) (first : Net) (count i v : ℕ) (nets : List Net) (n : Net) (passes : Bool) → count ≡ i → i < length nets → n ≡ get_or nets i n → passes ≡ is_member ports width first count n → passes ≡ false
    → are_members ports width first 0 (take v nets) ≡ true → v ≤ count
no_more ports width first count i v nets n passes e l g t p h = by (cases_lt count v)
  where
    by : (count < v) ⊎ (v ≤ count) → v ≤ count
    by (inl m) =
        let yes : is_member ports width first count n ≡ true = member_among ports width first 0 count count v nets n (omega arith) m (there nets n count i e l g) h in
        let d : true ≡ false = sym yes ∙ (sym t ∙ p) in
        absurd (cc d)
    by (inr m) = m
