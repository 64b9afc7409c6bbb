-- A table of the bytes that pass a test.
use Rattle.std.proofs.Common.{◌≡◌, ℕ, zero, suc, ◌+◌, ◌<◌, List, [], ◌∷◌, ◌++◌, Bool, true, false, map, replicate, get_or, refl, ap, ◌∙◌, arith}
use Rattle.netlist_schema.specs.Ident.{is_identifier_byte}

-- so many numbers from one on
abbrev pub from : ℕ → ℕ → List ℕ
from n zero = []
from n (suc k) = n ∷ from (suc n) k

-- the table of a test has what the test says
pub told : (f : ℕ → Bool) (n k b : ℕ) (d : Bool) → b < k → get_or (map f (from n k)) b d ≡ f (n + b)
told f n zero b d l = absurd (omega (arith, l))
told f n (suc k) zero d l = ap f (let e : n ≡ n + 0 = omega arith in e)
told f n (suc k) (suc b) d l = told f (suc n) k b d (omega (arith, l)) ∙ ap f (let e : suc n + b ≡ n + suc b = omega arith in e)

pub told_first : (f : ℕ → Bool) (k b : ℕ) (d : Bool) → b < k → get_or (map f (from 0 k)) b d ≡ f b
told_first f k b d l = told f 0 k b d l ∙ ap f (let e : 0 + b ≡ b = omega arith in e)

-- so many that do not pass, and so many that do
abbrev pub no : ℕ → List Bool
no n = replicate n false

abbrev pub yes : ℕ → List Bool
yes n = replicate n true

-- the bytes of identifiers
abbrev pub identifier_table : List Bool
identifier_table = no 48 ++ yes 10 ++ no 7 ++ yes 26 ++ no 4 ++ yes 1 ++ no 1 ++ yes 26 ++ no 133

is_table : identifier_table ≡ map is_identifier_byte (from 0 256)
is_table = refl

pub identifier_told : (b : ℕ) → b < 256 → get_or identifier_table b false ≡ is_identifier_byte b
identifier_told b l = ap (λ t. get_or t b false) is_table ∙ told_first is_identifier_byte 256 b false l
