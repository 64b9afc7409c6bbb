-- The first fault, token by token.
use Rattle.std.proofs.Common.{◌≡◌, ℕ, zero, suc, ◌<◌, ◌≤◌, List, [], ◌∷◌, ◌++◌, Option, None, refl, ap, ◌∙◌, arith, append_assoc, ltb}
use Rattle.std.proofs.lemmas.Bool.{lt-ltb, le-ltb, cond-true, cond-false}
use Rattle.edif_spelling_spec.specs.TreeFaults.{token_at, TreeFault, fault_at, fault_within, tree_fault}
use Rattle.edif_spelling_spec.specs.declared.token.Token.{Token}
use Rattle.edif_spelling_spec.specs.declared.token.TokenKind.{TokenKind}
use Rattle.edif_spelling_spec.specs.declared.token.TokenKind.TheVariants.{LeftParen, RightParen, Word, Integer, String}
use Rattle.edif_spelling_spec.specs.declared.tree_fault.TreeKind.TheVariants.{NotForm, ExtraClose, TooDeep, Trailing, Unended}
use Rattle.edif_tree.specs.Making.{IsLeaf, fault_from}

-- the faults of what follows one more token
pub next_fault : (ts : List Token) (token : Token) (F : List Token → ℕ → Option TreeFault) → ((rest : List Token) (end : ℕ) → tree_fault (ts ++ rest) end ≡ F rest end)
    → (rest : List Token) (end : ℕ) → tree_fault ((ts ++ token ∷ []) ++ rest) end ≡ F (token ∷ rest) end
next_fault ts token F faults rest end = ap (λ v. tree_fault v end) (append_assoc ts (token ∷ []) rest) ∙ faults (token ∷ rest) end

pub left_next : (opened place : ℕ) (rest : List Token) (end : ℕ) → opened < 256 → fault_from opened (token_at LeftParen place ∷ rest) end ≡ fault_from (suc opened) rest end
unfolding tree_fault fault_within
left_next zero place rest end l = refl
left_next (suc outer) place rest end l = cond-true (ltb (suc outer) 256) (fault_within (suc (suc outer)) rest end) (fault_at TooDeep place) (lt-ltb (suc outer) 256 l)

pub token_next : (opened place : ℕ) (kind : TokenKind) (rest : List Token) (end : ℕ) → IsLeaf kind → 0 < opened → fault_from opened (token_at kind place ∷ rest) end ≡ fault_from opened rest end
unfolding fault_within
token_next zero place kind rest end h l = absurd (omega arith)
token_next (suc outer) place LeftParen rest end h l = absurd h
token_next (suc outer) place RightParen rest end h l = absurd h
token_next (suc outer) place (Word x) rest end h l = refl
token_next (suc outer) place (Integer x) rest end h l = refl
token_next (suc outer) place (String x) rest end h l = refl

pub right_next : (outer place : ℕ) (rest : List Token) (end : ℕ) → fault_from (suc outer) (token_at RightParen place ∷ rest) end ≡ fault_within outer rest end
unfolding fault_within
right_next outer place rest end = refl

-- faults at a token
pub deep_fault : (opened place : ℕ) (rest : List Token) (end : ℕ) → 256 ≤ opened → fault_from opened (token_at LeftParen place ∷ rest) end ≡ fault_at TooDeep place
unfolding fault_within
deep_fault zero place rest end l = absurd (omega arith)
deep_fault (suc outer) place rest end l = cond-false (ltb (suc outer) 256) (fault_within (suc (suc outer)) rest end) (fault_at TooDeep place) (le-ltb (suc outer) 256 l)

pub close_fault : (place : ℕ) (rest : List Token) (end : ℕ) → (fault_from 0 (token_at RightParen place ∷ rest) end ≡ fault_at ExtraClose place) × (fault_within 0 (token_at RightParen place ∷ rest) end ≡ fault_at ExtraClose place)
unfolding tree_fault fault_within
close_fault place rest end = (refl, refl)

pub trailing_fault : (kind : TokenKind) (place : ℕ) (rest : List Token) (end : ℕ) → (kind ≡ RightParen → ⊥) → fault_within 0 (token_at kind place ∷ rest) end ≡ fault_at Trailing place
unfolding fault_within
trailing_fault LeftParen place rest end h = refl
trailing_fault RightParen place rest end h = absurd (h refl)
trailing_fault (Word x) place rest end h = refl
trailing_fault (Integer x) place rest end h = refl
trailing_fault (String x) place rest end h = refl

pub form_fault : (kind : TokenKind) (place : ℕ) (rest : List Token) (end : ℕ) → (kind ≡ LeftParen → ⊥) → (kind ≡ RightParen → ⊥) → tree_fault (token_at kind place ∷ rest) end ≡ fault_at NotForm place
unfolding tree_fault
form_fault LeftParen place rest end h k = absurd (h refl)
form_fault RightParen place rest end h k = absurd (k refl)
form_fault (Word x) place rest end h k = refl
form_fault (Integer x) place rest end h k = refl
form_fault (String x) place rest end h k = refl

-- faults at the end
pub end_fault : (outer end : ℕ) → fault_from (suc outer) [] end ≡ fault_at Unended end
unfolding fault_within
end_fault outer end = refl

pub empty_fault : (end : ℕ) → tree_fault [] end ≡ fault_at Unended end
unfolding tree_fault
empty_fault end = refl

pub no_fault : (end : ℕ) → fault_within 0 [] end ≡ None
unfolding fault_within
no_fault end = refl
