-- How items drive a net, one item more.
use Rattle.std.proofs.Common.{◌≡◌, ℕ, ◌+◌, List, [], ◌∷◌, ◌++◌, Bool, true, false, ◌&&◌, ◌||◌, Some, None, cond, refl, sym, ap, ◌∙◌, true≢false, arith, add-zero}
use Rattle.std.proofs.lemmas.List.Folds.{list_any-append}
use Rattle.std.proofs.lemmas.List.Sums.{sum_by_push}
use Rattle.netlist_schema.specs.Design.{Design}
use Rattle.flat_spec.specs.ConnectionTest.{same_net}
use Rattle.flat_spec.specs.Types.{Item, NetAt}
use Rattle.flat_spec.specs.declared.item.Item.TheVariants.{Pin}
use Rattle.erc_spec.specs.Drives.{direction_at, is_at, is_either, is_strong, is_strong_port, is_weak}
use Rattle.erc_spec.specs.Findings.{capped, is_driven, strong_pins}
use Rattle.erc_spec.proofs.NoDriver.{no_strong}
use Rattle.erc_check.specs.Firsts.{one_more}
use Rattle.erc_check.specs.Tally.{drive, drive_by}

capped-one : (n : ℕ) → capped (capped n + 1) ≡ capped (n + 1)
capped-one n = omega arith

-- a pin at the net y
pub drive_pin : (d : Design) (seen : List Item) (path : List ℕ) (port bit : ℕ) (y x : NetAt)
    → drive d (seen ++ Pin path port bit (Some y) ∷ []) x ≡ drive_by path (direction_at d path port) y x (drive d seen x)
drive_pin d seen path port bit y x =
    ap (λ v. cond v (Some (capped (strong_pins d (seen ++ Pin path port bit (Some y) ∷ []) x))) None) (list_any-append (λ i. (is_strong d i || is_weak d i) && is_at x i) seen (Pin path port bit (Some y) ∷ []))
    ∙ ap (λ v. cond (is_driven d seen x || (((is_strong_port path (direction_at d path port) || is_either (direction_at d path port)) && same_net y x) || false)) (Some (capped v)) None) (sum_by_push (λ i. cond (is_strong d i && is_at x i) 1 0) seen (Pin path port bit (Some y)))
    ∙ by (is_strong_port path (direction_at d path port)) (is_either (direction_at d path port)) (same_net y x) (is_driven d seen x) (strong_pins d seen x) (no_strong d seen x)
  where
    by : (s w a b : Bool) (n : ℕ) → (b ≡ false → n ≡ 0)
        → cond (b || (((s || w) && a) || false)) (Some (capped (n + cond (s && a) 1 0))) None
        ≡ cond s (cond a (Some (one_more true (cond b (Some (capped n)) None))) (cond b (Some (capped n)) None))
        (cond w (cond a (Some (one_more false (cond b (Some (capped n)) None))) (cond b (Some (capped n)) None)) (cond b (Some (capped n)) None))
    by true w true true n none = ap (λ v. Some v) (sym (capped-one n))
    by true w true false n none = ap (λ v. Some (capped (v + 1))) (none refl)
    by true w false true n none = ap (λ v. Some (capped v)) (add-zero n)
    by true w false false n none = refl
    by false true true true n none = ap (λ v. Some (capped v)) (add-zero n)
    by false true true false n none = ap (λ v. Some (capped v)) (add-zero n ∙ none refl)
    by false true false true n none = ap (λ v. Some (capped v)) (add-zero n)
    by false true false false n none = refl
    by false false a true n none = ap (λ v. Some (capped v)) (add-zero n)
    by false false a false n none = refl

-- an item that is no pin at a net
pub drive_other : (d : Design) (seen : List Item) (item : Item) (x : NetAt) → is_at x item ≡ false → drive d (seen ++ item ∷ []) x ≡ drive d seen x
drive_other d seen item x h =
    ap (λ v. cond v (Some (capped (strong_pins d (seen ++ item ∷ []) x))) None) (list_any-append (λ i. (is_strong d i || is_weak d i) && is_at x i) seen (item ∷ []))
    ∙ ap (λ v. cond (is_driven d seen x || (((is_strong d item || is_weak d item) && is_at x item) || false)) (Some (capped v)) None) (sum_by_push (λ i. cond (is_strong d i && is_at x i) 1 0) seen item)
    ∙ by (is_strong d item) (is_weak d item) (is_at x item) (is_driven d seen x) (strong_pins d seen x) h
  where
    by : (s w a b : Bool) (n : ℕ) → a ≡ false → cond (b || (((s || w) && a) || false)) (Some (capped (n + cond (s && a) 1 0))) None ≡ cond b (Some (capped n)) None
    by s w true b n h = absurd (true≢false h)
    by true w false true n h = ap (λ v. Some (capped v)) (add-zero n)
    by true w false false n h = refl
    by false true false true n h = ap (λ v. Some (capped v)) (add-zero n)
    by false true false false n h = refl
    by false false false true n h = ap (λ v. Some (capped v)) (add-zero n)
    by false false false false n h = refl
