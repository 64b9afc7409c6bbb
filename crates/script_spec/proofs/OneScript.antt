-- A text is one script.
use Rattle.std.proofs.Common.{◌≡◌, ◌∙◌, ℕ, ◌+◌, List, [], ◌∷◌, true, false, inl, inr, ap, sym}
use Rattle.script_spec.specs.ScriptText.{IsScriptText, Parts, SayLines, lines_of}
use Rattle.script_spec.specs.declared.script.ScriptLine.{ScriptLine}
use Rattle.script_spec.proofs.OneStep.{one_step}

pub one_reading : (at : ℕ) (lines : List (List ℕ)) (a b : List ScriptLine) → SayLines at lines a → SayLines at lines b → a ≡ b
one_reading at [] a b x y = x ∙ sym y
one_reading at (line ∷ lines) a b (inl x) (inl y) = one_reading (at + 1) lines a b x.1 y.1
one_reading at (line ∷ lines) a b (inl x) (inr y) = let wrong : true ≡ false = sym x.0 ∙ y.2 in absurd (cc (wrong))
one_reading at (line ∷ lines) a b (inr x) (inl y) = let wrong : true ≡ false = sym y.0 ∙ x.2 in absurd (cc (wrong))
one_reading at (line ∷ lines) a b (inr x) (inr y) =
    x.4
    ∙ ap (λ s. record { number = at; step = s } ∷ x.1) (one_step line x.0 y.0 x.3 y.3)
    ∙ ap (λ others. record { number = at; step = y.0 } ∷ others) (one_reading (at + 1) lines x.1 y.1 x.5 y.5)
    ∙ sym y.4

pub one_script : (text : List ℕ) (a b : Parts) → IsScriptText text a → IsScriptText text b → a ≡ b
one_script text a b x y =
    ap (λ l. record { lines = l; last = a.last }) (one_reading 1 (lines_of text) a.lines b.lines x.lines.said y.lines.said)
    ∙ ap (λ n. record { lines = b.lines; last = n }) (x.last ∙ sym y.last)
