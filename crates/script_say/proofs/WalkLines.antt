-- Items of a walk, one after another, within a limit.
use Rattle.std.proofs.Common.{◌≡◌, ◌∙◌, ℕ, zero, suc, ◌+◌, ◌-◌, ◌<◌, List, ◌∷◌, ◌++◌, length, take, ap, sym, append_assoc, arith}
use Rattle.edif_names.specs.Parts.{Grows}
use Rattle.netlist_schema.specs.Design.{Design}
use Rattle.flat_spec.specs.Types.{Item}
use Rattle.flat_lines_spec.specs.Lines.{item_line, item_lines}

-- one item more is said: what was said and what is left are the whole still
pub one_more : (d : Design) (text more whole : List ℕ) (item : Item) (left rest : List Item) → left ≡ item ∷ rest → more ≡ text ++ item_line d item → text ++ item_lines d left ≡ whole
    → more ++ item_lines d rest ≡ whole
one_more d text more whole item left rest at said is =
    ap (λ (xs : List ℕ). xs ++ item_lines d rest) said ∙ append_assoc text (item_line d item) (item_lines d rest)
    ∙ ap (λ (items : List Item). text ++ item_lines d items) (sym at) ∙ is

-- the first items of a list with one more before it
take_next : (n : ℕ) (item : Item) (rest : List Item) → 0 < n → take n (item ∷ rest) ≡ item ∷ take (n - 1) rest
take_next zero item rest some = absurd (omega (arith, some))
take_next (suc n) item rest some = let less : suc n - 1 ≡ n = omega arith in ap (λ (k : ℕ). item ∷ take k rest) (sym less)

-- within a limit: what was said, and the first ones of what is left
pub one_more_within : (d : Design) (text more whole : List ℕ) (item : Item) (left rest : List Item) (limit told : ℕ) → told < limit → left ≡ item ∷ rest → more ≡ text ++ item_line d item
    → text ++ item_lines d (take (limit - told) left) ≡ whole → more ++ item_lines d (take (limit - (told + 1)) rest) ≡ whole
one_more_within d text more whole item left rest limit told low at said is =
    let some : 0 < limit - told = omega (arith, low) in
    let less : limit - told - 1 ≡ limit - (told + 1) = omega arith in
    one_more d text more whole item (take (limit - told) left) (take (limit - (told + 1)) rest)
    (ap (λ (items : List Item). take (limit - told) items) at ∙ take_next (limit - told) item rest some ∙ ap (λ (k : ℕ). item ∷ take k rest) less) said is

-- so many were said, and these are left
pub one_counted : (all left rest : List Item) (item : Item) (told : ℕ) → left ≡ item ∷ rest → length all ≡ told + length left → length all ≡ told + 1 + length rest
one_counted all left rest item told at is = let more : length left ≡ suc (length rest) = ap length at in omega (arith, is, more)

-- bytes behind bytes
pub grows_on : (old mid new : List ℕ) → Grows old mid → Grows mid new → Grows old new
grows_on old mid new a b = (a.0 ++ b.0, b.1 ∙ ap (λ (text : List ℕ). text ++ b.0) a.1 ∙ append_assoc old a.0 b.0)
