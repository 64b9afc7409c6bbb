-- What one answers is handed on.
use Rattle.std.proofs.Common.{◌≡◌, ◌∙◌, Ok, Err, sym, subst}
use Rattle.std.specs.Prelude.{Result, MatchResult, IfErr, IsErrAnd}
use Rattle.script_words.specs.declared.unread.Unread.{Unread}
use Rattle.script_words.specs.declared.unread.Unread.TheVariants.{Bad}

pub hand_on : {V : Type 0} (P : V → Type 0) (Q : Type 0) (r : Result V Unread) (e : Unread) → IsErrAnd r (λ x. x ≡ e) → (e ≡ Bad → Q) → MatchResult r P (λ x. x ≡ Bad → Q)
hand_on P Q (Ok v) e h q = absurd h
hand_on P Q (Err x) e h q = λ b. q (sym h ∙ b)

pub error_on : {V E : Type 0} (P : E → Type 0) (r : Result V E) (e : E) → IsErrAnd r (λ x. x ≡ e) → P e → IfErr r P
error_on P (Ok v) e h p = tt
error_on P (Err x) e h p = subst P (sym h) p
