-- Names of letters and numbers, and lists that are made of numbers in a row.
use Rattle.std.proofs.Common.{◌≡◌, ◌≢◌, ℕ, zero, suc, ◌+◌, ◌<◌, ◌≤◌, ◌^◌, Bool, true, false, not, List, [], ◌∷◌, ◌++◌, map, length, refl, sym, ap, ◌∙◌, arith}
use Rattle.std.specs.Prelude.{◌&&◌, nat_eq, nat_lt}
use Rattle.std.specs.Fmt.{decimal}
use Rattle.std.specs.List.{All, AllByRecursion, list_all, range_with_len}
use Rattle.std.proofs.lemmas.Bool.{and_parts, ltb-true, eq-eqb}
use Rattle.std.proofs.lemmas.Fmt.{decimal_injective, decimal_is_IsNumeral}
use Rattle.std.proofs.lemmas.List.{get_or-map, length-map}
use Rattle.std.proofs.lemmas.List.Elements.{All-from_recursion}
use Rattle.std.proofs.lemmas.List.FromFn.{get_or-map-range_with_len, map-range_with_len_more, get_or-range_with_len, length-map-range_with_len, length-range_with_len}
use Rattle.netlist_schema.specs.Ident.{IsIdentifier, is_identifier_byte}
use Rattle.netlist_schema.specs.Names.{AreDistinct}
use Rattle.edit_rules_spec.proofs.Lists.{Apart, distinct_of}
use Rattle.edit_rules_spec.proofs.Numbers.{digits_pass}
use Rattle.gen_spec.specs.Generated.{numbered}
use Rattle.design_gen.specs.Letters.{are_letters}

-- ---- identifiers

all_letters : (bs : List ℕ) → list_all is_identifier_byte bs ≡ true → AllByRecursion (λ b. is_identifier_byte b ≡ true) bs
all_letters [] h = tt
all_letters (b ∷ bs) h = let t = and_parts (is_identifier_byte b) (list_all is_identifier_byte bs) h in (t.0, all_letters bs t.1)

pub letters_are_identifier : (bs : List ℕ) → are_letters bs ≡ true → IsIdentifier bs
letters_are_identifier bs h =
    let t = and_parts (nat_lt 0 (length bs)) (list_all is_identifier_byte bs) h in
    (ltb-true 0 (length bs) t.0, All-from_recursion (λ b. is_identifier_byte b ≡ true) bs (all_letters bs t.1))

pub numbered_is_identifier : (letter k : ℕ) → is_identifier_byte letter ≡ true → k < 2 ^ 64 → IsIdentifier (numbered letter k)
numbered_is_identifier letter k passes small =
    (omega arith, All-from_recursion (λ b. is_identifier_byte b ≡ true) (numbered letter k) (passes, digits_pass (decimal k) (decimal_is_IsNumeral k small).0.1))

abbrev tail : List ℕ → List ℕ
tail [] = []
tail (b ∷ bs) = bs

pub numbered_injective : (letter j k : ℕ) → j < 2 ^ 64 → k < 2 ^ 64 → numbered letter j ≡ numbered letter k → j ≡ k
numbered_injective letter j k small least same = decimal_injective j k small least (ap tail same)

-- ---- numbers in a row

pub each_in_row : {X : Type 0} (P : X → Type 0) (f : ℕ → X) (a n : ℕ) → ((k : ℕ) → a ≤ k → k < a + n → P (f k)) → AllByRecursion P (map f (range_with_len a n))
each_in_row P f a zero h = tt
each_in_row P f a (suc n) h =
    (h a (omega arith) (omega arith), each_in_row P f (a + 1) n (λ k low high. h k (omega (arith, low)) (omega (arith, high))))

pub all_in_row : {X : Type 0} (P : X → Type 0) (f : ℕ → X) (n : ℕ) → ((k : ℕ) → k < n → P (f k)) → All P (map f (range_with_len 0 n))
all_in_row P f n h = All-from_recursion P (map f (range_with_len 0 n)) (each_in_row P f 0 n (λ k low high. h k (omega (arith, high))))

pub apart_in_row : {X : Type 0} (f : ℕ → X) (n : ℕ) → ((i j : ℕ) → i < j → j < n → f i ≢ f j) → AreDistinct (map f (range_with_len 0 n))
apart_in_row f n apart i j d below within same =
    let long = length-map-range_with_len f 0 n in
    let high : j < n = omega (arith, within, long) in
    let low : i < n = omega (arith, below, high) in
    let left = get_or-map-range_with_len f 0 n i i d low (omega arith) in
    let right = get_or-map-range_with_len f 0 n j j d high (omega arith) in
    apart i j below high (sym left ∙ same ∙ right)

pub map_in_row : {X Y : Type 0} (g : X → Y) (f : ℕ → X) (a n : ℕ) → map g (map f (range_with_len a n)) ≡ map (λ k. g (f k)) (range_with_len a n)
map_in_row g f a zero = refl
map_in_row g f a (suc n) = ap (λ ys. g (f a) ∷ ys) (map_in_row g f (a + 1) n)

-- one more at the end
pub more_in_row : {X : Type 0} (f : ℕ → X) (n : ℕ) (made new : List X) (x : X) → made ≡ map f (range_with_len 0 n) → x ≡ f n → new ≡ made ++ x ∷ [] → new ≡ map f (range_with_len 0 (n + 1))
more_in_row f n made new x so_far is grows =
    grows ∙ ap (λ xs. xs ++ x ∷ []) so_far ∙ ap (λ y. map f (range_with_len 0 n) ++ y ∷ []) is ∙ sym (map-range_with_len_more f 0 n n (omega arith))

-- ---- lists that differ by a number of each element

pub distinct_by : {X : Type 0} (f : X → ℕ) (xs : List X) → AreDistinct (map f xs) → AreDistinct xs
distinct_by f xs distinct i j d below within same =
    let long = length-map xs f in
    let low : i < length xs = omega (arith, below, within) in
    let left = get_or-map f xs i d (f d) low in
    let right = get_or-map f xs j d (f d) within in
    distinct i j (f d) below (omega (arith, within, long)) (left ∙ ap f same ∙ sym right)

pub row_is_distinct : (a n : ℕ) → AreDistinct (range_with_len a n)
row_is_distinct a n i j d below within same =
    let long = length-range_with_len a n in
    let high : j < n = omega (arith, within, long) in
    let low : i < n = omega (arith, below, high) in
    let left = get_or-range_with_len a n i d low in
    let right = get_or-range_with_len a n j d high in
    absurd (omega (arith, left, right, same, below))

-- a test of numbers
abbrev pub apart : List ℕ → Bool
apart [] = true
apart (n ∷ ns) = list_all (λ m. not (nat_eq n m)) ns && apart ns

unlike : (n m : ℕ) → not (nat_eq n m) ≡ true → n ≢ m
unlike n m h same = let t : nat_eq n m ≡ true = eq-eqb n m same in let c : false ≡ true = sym (ap not t) ∙ h in absurd (cc c)

each_unlike : (n : ℕ) (ns : List ℕ) → list_all (λ m. not (nat_eq n m)) ns ≡ true → AllByRecursion (λ m. n ≢ m) ns
each_unlike n [] h = tt
each_unlike n (m ∷ ns) h = let t = and_parts (not (nat_eq n m)) (list_all (λ m. not (nat_eq n m)) ns) h in (unlike n m t.0, each_unlike n ns t.1)

apart_is_apart : (ns : List ℕ) → apart ns ≡ true → Apart ns
apart_is_apart [] h = tt
apart_is_apart (n ∷ ns) h =
    let t = and_parts (list_all (λ m. not (nat_eq n m)) ns) (apart ns) h in
    (each_unlike n ns t.0, apart_is_apart ns t.1)

-- elements that have numbers that pass
pub passes_by : {X : Type 0} (f : X → ℕ) (xs : List X) → apart (map f xs) ≡ true → AreDistinct xs
passes_by f xs h = distinct_by f xs (distinct_of (map f xs) (apart_is_apart (map f xs) h))
