-- Words that are numbers.
use Rattle.std.proofs.Common.{◌≡◌, ◌<◌, ◌^◌, List, sym, ◌∙◌, arith}
use Rattle.std.proofs.lemmas.Fmt.{decimal_injective, parse-decimal}
use Rattle.std.specs.Prelude.{Ok, Result}
use Rattle.std.specs.Str.Parse.{ParsesUnsigned}
use Rattle.std.specs.Fmt.{decimal}
use Prim.Native.Nat.{ℕ}

-- a text is that of one number
pub same_number : (m n : ℕ) → m < 2 ^ 64 → n < 2 ^ 64 → decimal m ≡ decimal n → m ≡ n
same_number m n small other same = decimal_injective m n small other same

-- a word of digits is read as its number
pub read_number : {E : Type 0} (word : List ℕ) (n : ℕ) (r : Result ℕ E) → n < 2 ^ 32 → word ≡ decimal n → ParsesUnsigned 32 10 word r → r ≡ Ok n
read_number word n r small is read = parse-decimal 32 n word r small (omega (arith, small)) is read

-- a word is one number
pub same_number_of : (word : List ℕ) (m n : ℕ) → m < 2 ^ 32 → word ≡ decimal m → n < 2 ^ 32 → word ≡ decimal n → m ≡ n
same_number_of word m n small is other also = same_number m n (omega (arith, small)) (omega (arith, other)) (sym is ∙ also)
