-- Names that end in a number, in lower case.
use Rattle.std.proofs.Common.{◌≡◌, ◌<◌, ◌≤◌, ◌^◌, ℕ, List, [], ◌∷◌, ◌++◌, map, refl, sym, ap, ◌∙◌, arith, append_assoc, true}
use Rattle.std.specs.Prelude.{decimal}
use Rattle.std.specs.Char.{to_ascii_lowercase}
use Rattle.std.specs.List.{AllByRecursion}
use Rattle.std.specs.Str.Parse.{AllDigits}
use Rattle.std.proofs.lemmas.Bool.{and_from, cond-true, le-leb, lt-ltb, or_left}
use Rattle.std.proofs.lemmas.Fmt.{decimal_injective, decimal_is_IsNumeral}
use Rattle.std.proofs.lemmas.List.{map-append}
use Rattle.std.proofs.lemmas.Str.Parse.{digit_from_value}
use Rattle.netlist_schema.specs.Ident.{is_identifier_byte}

abbrev pub lower : List ℕ → List ℕ
lower name = map to_ascii_lowercase name

lower_digits : (ds : List ℕ) → AllDigits 10 ds → lower ds ≡ ds
lower_digits [] d = refl
lower_digits (c ∷ cs) d =
    let r = digit_from_value c d.0 in
    let here : to_ascii_lowercase c ≡ c = cond-true _ _ _ (lt-ltb c 65 (omega (arith, r))) in
    let rest = lower_digits cs d.1 in
    λ t. here t ∷ rest t

-- the number stays what it is
pub lower_numbered : (name mark : List ℕ) (n : ℕ) → n < 2 ^ 64 → lower (name ++ mark ++ decimal n) ≡ lower name ++ (lower mark ++ decimal n)
lower_numbered name mark n small =
    ap lower (append_assoc name mark (decimal n))
    ∙ map-append to_ascii_lowercase name (mark ++ decimal n)
    ∙ ap (λ v. lower name ++ v) (map-append to_ascii_lowercase mark (decimal n) ∙ ap (λ v. lower mark ++ v) (lower_digits (decimal n) (decimal_is_IsNumeral n small).0.1))

append-left : {X : Type 0} (xs ys zs : List X) → xs ++ ys ≡ xs ++ zs → ys ≡ zs
append-left [] ys zs e = e
append-left (x ∷ xs) ys zs e = let tails : xs ++ ys ≡ xs ++ zs = cc in append-left xs ys zs tails

-- names that differ in their numbers alone are not the same
pub numbers_apart : (name mark : List ℕ) (m n : ℕ) → m < 2 ^ 64 → n < 2 ^ 64 → lower (name ++ mark ++ decimal m) ≡ lower (name ++ mark ++ decimal n) → m ≡ n
numbers_apart name mark m n p q e =
    let both = sym (lower_numbered name mark m p) ∙ e ∙ lower_numbered name mark n q in
    decimal_injective m n p q (append-left (lower mark) (decimal m) (decimal n) (append-left (lower name) _ _ both))

-- ---- digits in identifiers

pub digit_passes : (c : ℕ) → 48 ≤ c → c ≤ 57 → is_identifier_byte c ≡ true
digit_passes c low high = or_left _ _ (or_left _ _ (or_left _ _ (and_from _ _ (le-leb 48 c low) (le-leb c 57 high))))

pub digits_pass : (ds : List ℕ) → AllDigits 10 ds → AllByRecursion (λ b. is_identifier_byte b ≡ true) ds
digits_pass [] d = tt
digits_pass (c ∷ cs) d =
    let r = digit_from_value c d.0 in
    let low : 48 ≤ c = omega (arith, r) in
    let high : c ≤ 57 = omega (arith, r) in
    (digit_passes c low high, digits_pass cs d.1)
