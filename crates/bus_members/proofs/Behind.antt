-- What stands behind the front of a text.
use Rattle.std.proofs.Common.{◌≡◌, ℕ, ◌≤◌, ◌<◌, Bool, false, nat_eq, List, [], ◌∷◌, ◌++◌, length, get_or, ap, sym, ◌∙◌, arith, eqb-true}
use Rattle.std.specs.Bool.{Decides}
use Rattle.std.proofs.lemmas.Bool.Decides.{Decides-eqb}
use Rattle.netlist_bus_spec.proofs.Numbers.{left_same}

-- a text is its front with a tail where that tail stands behind the front
pub behind : (text front rest tail : List ℕ) (b : Bool) → text ≡ front ++ rest → Decides b (rest ≡ tail) → Decides b (text ≡ front ++ tail)
behind text front rest tail b e d = (λ h. e ∙ ap (λ v. front ++ v) (d.0 h), λ h. d.1 (left_same front rest tail (sym e ∙ h)))

-- a text that does not begin so is no front with a tail
pub no_front : (text front tail : List ℕ) → ((rest : List ℕ) → text ≡ front ++ rest → ⊥) → Decides false (text ≡ front ++ tail)
no_front text front tail f = (λ h. absurd (cc h), λ h. absurd (f tail h))

-- a text of one byte, by that byte
pub one_byte : (text : List ℕ) (c : ℕ) → 1 ≤ length text → length text < 2 → Decides (nat_eq (get_or text 0 0) c) (text ≡ c ∷ [])
one_byte [] c least most = absurd (omega (arith, least))
one_byte (b ∷ []) c least most = (λ h. ap (λ v. v ∷ []) (eqb-true b c h), λ e. let d : b ≡ c = cc e in (Decides-eqb b c).1 d)
one_byte (b ∷ d ∷ text) c least most = absurd (omega (arith, most))
