-- What the mark of a net tells of its ends.
use Rattle.std.proofs.Common.{◌≡◌, ◌≤◌, ◌<◌, ◌^◌, ◌*◌, ◌||◌, ◌++◌, ℕ, List, [], ◌∷◌, Bool, true, false, Option, Some, None, max, bit_and, ap, sym, ◌∙◌, refl, subst, arith}
use Rattle.std.specs.Int.{bit_at}
use Rattle.std.specs.Int.Bits.{bit_or}
use Rattle.std.specs.List.{flat_map}
use Rattle.std.specs.Option.{option_map_or}
use Rattle.std.proofs.lemmas.Nat.{pow_pos}
use Rattle.std.proofs.lemmas.Nat.Bits.{and_pow, bit_at_or, bit_at-pow_same}
use Rattle.netlist_schema.specs.Marks.{end_bits, end_place, last_inst}
use Rattle.netlist_schema.specs.Types.{End}
use Rattle.flat_spec.specs.ConnectionTest.{has_end, same_end}
use Rattle.flat_spec.proofs.TestLemmas.{same_end-true}
use Rattle.edit_spec.specs.DropInst.{end_without_inst}
use Rattle.eco_ops.proofs.EndsKept.{kept_before, kept_own}

-- a bit that is set stays set, whichever is set besides
bit_stays : (a b k : ℕ) → bit_at a k ≡ 1 → bit_at (bit_or a b) k ≡ 1
bit_stays a b k set =
    let both = bit_at_or a b k in
    omega (arith, both, set)

bit_comes : (a b k : ℕ) → bit_at b k ≡ 1 → bit_at (bit_or a b) k ≡ 1
bit_comes a b k set =
    let both = bit_at_or a b k in
    omega (arith, both, set)

stays_set : (bits k : ℕ) (ends : List End) → bit_at bits k ≡ 1 → bit_at (end_bits bits ends) k ≡ 1
stays_set bits k [] set = set
stays_set bits k (e ∷ es) set = stays_set (bit_or bits (2 ^ end_place e)) k es (bit_stays bits (2 ^ end_place e) k set)

-- the bit of an end that is there is set
has_set : (bits : ℕ) (ends : List End) (e : End) → has_end ends e ≡ true → bit_at (end_bits bits ends) (end_place e) ≡ 1
has_set bits [] e has = absurd (cc has)
has_set bits (x ∷ xs) e has = by_test (same_end e x) refl (has_set (bit_or bits (2 ^ end_place x)) xs e)
  where
    next : ℕ
    next = bit_or bits (2 ^ end_place x)

    by_test : (b : Bool) → same_end e x ≡ b → (has_end xs e ≡ true → bit_at (end_bits next xs) (end_place e) ≡ 1) → bit_at (end_bits next xs) (end_place e) ≡ 1
    by_test true is others =
        let one : e ≡ x = same_end-true e x is in
        stays_set next (end_place e) xs
        (bit_comes bits (2 ^ end_place x) (end_place e) (subst (λ (f : End). bit_at (2 ^ end_place f) (end_place e) ≡ 1) one (bit_at-pow_same (end_place e))))
    by_test false is others = others (sym (ap (λ (b : Bool). b || has_end xs e) is) ∙ has)

-- where the bit of an end is not among those of a net's mark, the net has it not
pub none_had : (ends : List End) (e : End) → bit_and (end_bits 0 ends) (2 ^ end_place e) ≡ 0 → has_end ends e ≡ false
none_had ends e off = by_test (has_end ends e) refl
  where
    by_test : (b : Bool) → has_end ends e ≡ b → b ≡ false
    by_test false is = refl
    by_test true is =
        let bit : ℕ = 2 ^ end_place e in
        let all : ℕ = end_bits 0 ends in
        let one : bit_and all bit ≡ 1 * bit = and_pow all (end_place e) ∙ ap (λ n. n * bit) (has_set 0 ends e is) in
        let some = pow_pos (end_place e) in
        absurd (omega (arith, one, some, off))

-- the last instance is none before the number that it began with
last_least : (n : ℕ) (ends : List End) → n ≤ last_inst n ends
last_least n [] = omega arith
last_least n (e ∷ es) = by_inst e.inst (λ m. last_least m es)
  where
    by_inst : (inst : Option ℕ) → ((m : ℕ) → m ≤ last_inst m es) → n ≤ last_inst (option_map_or (max n) inst n) es
    by_inst None more = more n
    by_inst (Some i) more = (let least = more (max n i) in omega (arith, least))

-- where the last instance with an end stands before one, the ends stay when that one is gone
pub stay_before : (place n : ℕ) (ends : List End) → last_inst n ends < place → flat_map (end_without_inst place) ends ≡ ends
stay_before place n [] before = refl
stay_before place n (e ∷ es) before = by_inst e.inst refl (stay_before place (option_map_or (max n) e.inst n) es before)
  where
    joined : end_without_inst place e ≡ e ∷ [] → flat_map (end_without_inst place) es ≡ es → flat_map (end_without_inst place) (e ∷ es) ≡ e ∷ es
    joined kept others = ap (λ (l : List End). l ++ flat_map (end_without_inst place) es) kept ∙ ap (λ (l : List End). e ∷ l) others

    by_inst : (inst : Option ℕ) → e.inst ≡ inst → flat_map (end_without_inst place) es ≡ es → flat_map (end_without_inst place) (e ∷ es) ≡ e ∷ es
    by_inst None is others = joined (kept_own place e is) others
    by_inst (Some i) is others =
        let least = last_least (option_map_or (max n) e.inst n) es in
        let with_i : option_map_or (max n) e.inst n ≡ max n i = ap (λ (o : Option ℕ). option_map_or (max n) o n) is in
        joined (kept_before place i e is (omega (arith, least, with_i, before))) others
