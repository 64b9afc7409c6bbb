-- Where no pin drives a net, none does so strongly.
use Rattle.std.proofs.Common.{◌≡◌, ℕ, ◌+◌, List, [], ◌∷◌, Bool, true, false, ◌&&◌, ◌||◌, cond, refl, ap, ◌∙◌, true≢false}
use Rattle.std.proofs.lemmas.List.Sums.{sum_by-cons}
use Rattle.netlist_schema.specs.Design.{Design}
use Rattle.flat_spec.specs.Types.{Item, NetAt}
use Rattle.erc_spec.specs.Drives.{is_at, is_strong, is_weak}
use Rattle.erc_spec.specs.Findings.{is_driven, strong_pins}

pub no_strong : (d : Design) (items : List Item) (x : NetAt) → is_driven d items x ≡ false → strong_pins d items x ≡ 0
no_strong d [] x h = refl
no_strong d (item ∷ items) x h =
    by (is_strong d item) (is_weak d item) (is_at x item) (is_driven d items x) (strong_pins d items x) (no_strong d items x)
    (sum_by-cons (λ i. cond (is_strong d i && is_at x i) 1 0) item items) h
  where
    by : (s w a b : Bool) (n : ℕ) → (b ≡ false → n ≡ 0) → strong_pins d (item ∷ items) x ≡ cond (s && a) 1 0 + n → (((s || w) && a) || b) ≡ false
        → strong_pins d (item ∷ items) x ≡ 0
    by true w true b n rest e h = absurd (true≢false h)
    by true w false b n rest e h = e ∙ ap (λ v. 0 + v) (rest h)
    by false true true b n rest e h = absurd (true≢false h)
    by false true false b n rest e h = e ∙ ap (λ v. 0 + v) (rest h)
    by false false a b n rest e h = e ∙ ap (λ v. 0 + v) (rest h)
