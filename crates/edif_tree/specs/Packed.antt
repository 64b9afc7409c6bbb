-- What stands at a node, as one number: the place above two bits that say which of the four it is.
use Rattle.std.specs.Prelude.{◌≡◌, ◌+◌, ◌*◌, ◌%◌, ◌/◌, ◌<◌, ℕ}
use Rattle.std.proofs.Common.{zero, suc, refl, ◌∙◌, arith}
use Rattle.std.proofs.Math.Nat.{div-add-mod}
use Rattle.edif_tree.specs.declared.stored.StoredKind.{StoredKind}
use Rattle.edif_tree.specs.declared.stored.StoredKind.TheVariants as kinds

-- the kind of this number, with this place
abbrev pub kind_of : ℕ → ℕ → StoredKind
kind_of zero at = kinds.Form at
kind_of (suc zero) at = kinds.Word at
kind_of (suc (suc zero)) at = kinds.Integer at
kind_of (suc (suc (suc t))) at = kinds.String at

-- a number as a kind, and a kind as a number
abbrev pub unpacked : ℕ → StoredKind
unpacked n = kind_of (n % 4) (n / 4)

abbrev pub packed : StoredKind → ℕ
packed (kinds.Form at) = at * 4
packed (kinds.Word at) = at * 4 + 1
packed (kinds.Integer at) = at * 4 + 2
packed (kinds.String at) = at * 4 + 3

-- a number is that of its kind
pub repacked : (n : ℕ) → packed (unpacked n) ≡ n
repacked n = by (n % 4) (n / 4) (omega arith) ∙ omega (arith, div-add-mod n 4)
  where
    by : (t at : ℕ) → t < 4 → packed (kind_of t at) ≡ at * 4 + t
    by zero at l = omega arith
    by (suc zero) at l = refl
    by (suc (suc zero)) at l = refl
    by (suc (suc (suc zero))) at l = refl
    by (suc (suc (suc (suc t)))) at l = absurd (omega arith)
