-- Pieces of a text that are appended one after another.
use Rattle.std.proofs.Common.{◌≡◌, List, ◌++◌, ap, ◌∙◌, append_assoc}
use Prim.Native.Nat.{ℕ}
use Rattle.std.specs.Prelude.{OnOk, Result, Ok, Err}

-- a piece behind a first one, as they were appended
pub then_put : {A E : Type 0} (r : Result A E) (old mid new front piece wanted : List ℕ) → mid ≡ old ++ front → piece ≡ wanted → OnOk r (new ≡ mid ++ piece) → OnOk r (new ≡ old ++ (front ++ wanted))
then_put (Ok x) old mid new front piece wanted first same all = all ∙ (ap (λ v. v ++ piece) first ∙ (append_assoc old front piece ∙ ap (λ v. old ++ (front ++ v)) same))
then_put (Err e) old mid new front piece wanted first same all = tt
