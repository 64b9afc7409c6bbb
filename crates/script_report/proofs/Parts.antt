-- A text that is written by parts.
use Rattle.std.proofs.Common.{◌≡◌, ℕ, List, [], ◌++◌, sym, ap, ◌∙◌, append_assoc, append-nil}
use Rattle.std.specs.Prelude.{Err, Ok, OnErr, Result}

-- four parts, one after another
pub four_in_order : (a b c d : List ℕ) → a ++ (b ++ (c ++ d)) ≡ ((a ++ b) ++ c) ++ d
four_in_order a b c d = sym (append_assoc a b (c ++ d)) ∙ sym (append_assoc (a ++ b) c d)

-- and nothing behind them
pub four_parts : (a b c d : List ℕ) → a ++ (b ++ (c ++ (d ++ []))) ≡ ((a ++ b) ++ c) ++ d
four_parts a b c d = ap (λ v. a ++ (b ++ (c ++ v))) (append-nil d) ∙ four_in_order a b c d

-- what holds at any rate, and what follows from what holds at an error
pub on_any_err : {A E : Type 0} (r : Result A E) (P : Type 0) → P → OnErr r P
on_any_err (Ok x) P p = tt
on_any_err (Err e) P p = p

pub err_weaker : {A E : Type 0} (r : Result A E) (P Q : Type 0) → (P → Q) → OnErr r P → OnErr r Q
err_weaker (Ok x) P Q f h = tt
err_weaker (Err e) P Q f h = f h
