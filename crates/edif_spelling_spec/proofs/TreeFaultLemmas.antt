-- Tokens without a tree fault are those of a file's tree, and those of a file's tree have none.
use Rattle.std.proofs.Common.{◌≡◌, ℕ, zero, suc, ◌+◌, ◌<◌, ◌≤◌, Bool, true, false, List, [], ◌∷◌, ◌++◌, Option, None, refl, sym, ap, ◌∙◌, arith, append_assoc, ltb, cond}
use Rattle.std.proofs.lemmas.Bool.{ltb-true, lt-ltb, cond-true}
use Rattle.edif_spelling_spec.specs.Tree.{Placed, Trees, Form', Word', Integer', String', End, More, depth, depths}
use Rattle.edif_spelling_spec.specs.TreeFaults.{token_at, Lists, ListsAll, IsFile, TreeFault, fault_at, fault_behind, fault_inside, fault_within, fault_first, tree_fault}
use Rattle.edif_spelling_spec.specs.declared.token.Token.{Token}
use Rattle.edif_spelling_spec.specs.declared.token.TokenKind.{TokenKind}
use Rattle.edif_spelling_spec.specs.declared.token.TokenKind.TheVariants.{LeftParen, RightParen, Word, Integer, String}
use Rattle.edif_spelling_spec.specs.declared.tree_fault.TreeKind.TheVariants.{TooDeep}

-- the tokens are the last arguments of a form of this level and its `)`, and then others
pub record Closing (Others : List Token → Type 0) (level : ℕ) (tokens : List Token) : Type 0 where
  pub inner : List Token
  pub place : ℕ
  pub others : List Token
  pub arguments : Trees ℕ
  pub parts : tokens ≡ inner ++ token_at RightParen place ∷ others
  pub listed : ListsAll inner arguments
  pub levels : depths arguments + level ≤ 256
  pub closed : Others others

-- the tokens close so many open forms, and then end
abbrev pub Closes : ℕ → List Token → Type 0
Closes zero tokens = tokens ≡ []
Closes (suc outer) tokens = Closing (Closes outer) (suc outer) tokens

closes_right : (outer place : ℕ) (tokens : List Token) → suc outer ≤ 256 → Closes outer tokens → Closes (suc outer) (token_at RightParen place ∷ tokens)
closes_right outer place tokens l h = record { inner = []; place = place; others = tokens; arguments = End; parts = refl; listed = refl; levels = omega arith; closed = h }

closes_left : (outer place : ℕ) (tokens : List Token) → Closes (suc (suc outer)) tokens → Closes (suc outer) (token_at LeftParen place ∷ tokens)
closes_left outer place tokens h =
    let g : Closing (Closes outer) (suc outer) h.others = h.closed in
    let form : List Token = token_at LeftParen place ∷ (h.inner ++ token_at RightParen h.place ∷ []) in
    record {
      inner = form ++ g.inner;
      place = g.place;
      others = g.others;
      arguments = More (Form' place h.arguments) g.arguments;
      parts = ap (λ v. token_at LeftParen place ∷ v)
          (h.parts ∙ (ap (λ v. h.inner ++ token_at RightParen h.place ∷ v) g.parts
          ∙ (sym (append_assoc h.inner (token_at RightParen h.place ∷ []) (g.inner ++ token_at RightParen g.place ∷ g.others))
          ∙ sym (append_assoc (h.inner ++ token_at RightParen h.place ∷ []) g.inner (token_at RightParen g.place ∷ g.others)))));
      listed = (form, g.inner, refl, (h.inner, h.place, refl, h.listed), g.listed);
      levels = (let below = h.levels in let beside = g.levels in omega arith);
      closed = g.closed;
    }

closes_token : (outer : ℕ) (token : Token) (tokens : List Token) (t : Placed) → Lists (token ∷ []) t → depth t ≡ 0 → Closes (suc outer) tokens → Closes (suc outer) (token ∷ tokens)
closes_token outer token tokens t l d h = record {
  inner = token ∷ h.inner;
  place = h.place;
  others = h.others;
  arguments = More t h.arguments;
  parts = ap (λ v. token ∷ v) h.parts;
  listed = (token ∷ [], h.inner, refl, l, h.listed);
  levels = (let below = h.levels in omega arith);
  closed = h.closed;
}

pub no_behind : (kind : TokenKind) (place : ℕ) → fault_behind kind place ≡ None → ⊥
no_behind LeftParen place e = cc
no_behind RightParen place e = cc
no_behind (Word name) place e = cc
no_behind (Integer value) place e = cc
no_behind (String value) place e = cc

pub not_deep : (b : Bool) (place : ℕ) (rest : Option TreeFault) → cond b rest (fault_at TooDeep place) ≡ None → (b ≡ true) × (rest ≡ None)
not_deep true place rest e = (refl, e)
not_deep false place rest e = absurd (cc e)

-- what is without a fault closes the open forms
inside_closes : (outer : ℕ) (kind : TokenKind) (place : ℕ) (tokens : List Token) (end : ℕ) → suc outer ≤ 256
    → ((opened : ℕ) → opened ≤ 256 → fault_within opened tokens end ≡ None → Closes opened tokens)
    → fault_inside outer kind place (λ opened. fault_within opened tokens end) ≡ None → Closes (suc outer) (token_at kind place ∷ tokens)
inside_closes outer LeftParen place tokens end l inner e =
    let deep = not_deep (ltb (suc outer) 256) place (fault_within (suc (suc outer)) tokens end) e in
    let below : suc outer < 256 = ltb-true (suc outer) 256 deep.0 in
    closes_left outer place tokens (inner (suc (suc outer)) (omega arith) deep.1)
inside_closes outer RightParen place tokens end l inner e = closes_right outer place tokens l (inner outer (omega arith) e)
inside_closes outer (Word name) place tokens end l inner e = closes_token outer (token_at (Word name) place) tokens (Word' place name) refl refl (inner (suc outer) l e)
inside_closes outer (Integer value) place tokens end l inner e = closes_token outer (token_at (Integer value) place) tokens (Integer' place value) refl refl (inner (suc outer) l e)
inside_closes outer (String value) place tokens end l inner e = closes_token outer (token_at (String value) place) tokens (String' place value) refl refl (inner (suc outer) l e)

within_closes : (tokens : List Token) (end opened : ℕ) → opened ≤ 256 → fault_within opened tokens end ≡ None → Closes opened tokens
unfolding fault_within
within_closes [] end zero l e = refl
within_closes (token ∷ tokens) end zero l e = absurd (no_behind token.kind token.place e)
within_closes [] end (suc outer) l e = absurd (cc e)
within_closes (token ∷ tokens) end (suc outer) l e = inside_closes outer token.kind token.place tokens end l (within_closes tokens end) e

first_closes : (kind : TokenKind) (place : ℕ) (tokens : List Token) (end : ℕ) → fault_first kind place (fault_within 1 tokens end) ≡ None → (t : Placed) × IsFile (token_at kind place ∷ tokens) t
first_closes LeftParen place tokens end e =
    let h : Closing (Closes 0) 1 tokens = within_closes tokens end 1 (omega arith) e in
    let nothing : h.others ≡ [] = h.closed in (
      Form' place h.arguments,
      record {
        listed = (h.inner, h.place, ap (λ v. token_at LeftParen place ∷ v) (h.parts ∙ ap (λ v. h.inner ++ token_at RightParen h.place ∷ v) nothing), h.listed);
        file = tt;
        levels = (let below = h.levels in omega arith);
      },
    )
first_closes RightParen place tokens end e = absurd (cc e)
first_closes (Word name) place tokens end e = absurd (cc e)
first_closes (Integer value) place tokens end e = absurd (cc e)
first_closes (String value) place tokens end e = absurd (cc e)

pub tree_of_none : (tokens : List Token) (end : ℕ) → tree_fault tokens end ≡ None → (t : Placed) × IsFile tokens t
unfolding tree_fault
tree_of_none [] end e = absurd (cc e)
tree_of_none (token ∷ tokens) end e = first_closes token.kind token.place tokens end e

-- the tokens of a tree are no fault
left_within : (outer place : ℕ) (tokens : List Token) (end : ℕ) → suc outer < 256 → fault_within (suc outer) (token_at LeftParen place ∷ tokens) end ≡ fault_within (suc (suc outer)) tokens end
unfolding fault_within
left_within outer place tokens end l = cond-true (ltb (suc outer) 256) (fault_within (suc (suc outer)) tokens end) (fault_at TooDeep place) (lt-ltb (suc outer) 256 l)

right_within : (outer place : ℕ) (tokens : List Token) (end : ℕ) → fault_within (suc outer) (token_at RightParen place ∷ tokens) end ≡ fault_within outer tokens end
unfolding fault_within
right_within outer place tokens end = refl

word_within : (outer place : ℕ) (name : List ℕ) (tokens : List Token) (end : ℕ) → fault_within (suc outer) (token_at (Word name) place ∷ tokens) end ≡ fault_within (suc outer) tokens end
unfolding fault_within
word_within outer place name tokens end = refl

mutual
  unfolding fault_within

  listed_within : (t : Placed) (tokens rest : List Token) (outer end : ℕ) → Lists tokens t → depth t + suc outer ≤ 256 → fault_within (suc outer) (tokens ++ rest) end ≡ fault_within (suc outer) rest end
  listed_within (Form' place arguments) tokens rest outer end h l =
      ap (λ v. fault_within (suc outer) (v ++ rest) end) h.2
      ∙ (left_within outer place ((h.0 ++ token_at RightParen h.1 ∷ []) ++ rest) end (omega arith)
      ∙ (ap (λ v. fault_within (suc (suc outer)) v end) (append_assoc h.0 (token_at RightParen h.1 ∷ []) rest)
      ∙ all_within arguments h.0 (token_at RightParen h.1 ∷ rest) (suc outer) end h.3 (omega arith)))
  listed_within (Word' place name) tokens rest outer end h l = ap (λ v. fault_within (suc outer) (v ++ rest) end) h
  listed_within (Integer' place value) tokens rest outer end h l = ap (λ v. fault_within (suc outer) (v ++ rest) end) h
  listed_within (String' place value) tokens rest outer end h l = ap (λ v. fault_within (suc outer) (v ++ rest) end) h

  all_within : (ts : Trees ℕ) (tokens rest : List Token) (outer end : ℕ) → ListsAll tokens ts → depths ts + suc outer ≤ 256 → fault_within (suc outer) (tokens ++ rest) end ≡ fault_within (suc outer) rest end
  all_within End tokens rest outer end h l = ap (λ v. fault_within (suc outer) (v ++ rest) end) h
  all_within (More t ts) tokens rest outer end h l =
      ap (λ v. fault_within (suc outer) (v ++ rest) end) h.2
      ∙ (ap (λ v. fault_within (suc outer) v end) (append_assoc h.0 h.1 rest)
      ∙ (listed_within t h.0 (h.1 ++ rest) outer end h.3 (omega arith) ∙ all_within ts h.1 rest outer end h.4 (omega arith)))

form_none : (t : Placed) (tokens : List Token) (end : ℕ) → IsFile tokens t → tree_fault tokens end ≡ None
unfolding tree_fault fault_within
form_none (Form' place arguments) tokens end h =
    let l = h.listed in
    let levels = h.levels in
    ap (λ v. tree_fault v end) l.2 ∙ all_within arguments l.0 (token_at RightParen l.1 ∷ []) 0 end l.3 (omega arith)
form_none (Word' place name) tokens end h = absurd h.file
form_none (Integer' place value) tokens end h = absurd h.file
form_none (String' place value) tokens end h = absurd h.file

pub none_of_tree : (tokens : List Token) (end : ℕ) (t : Placed) → IsFile tokens t → tree_fault tokens end ≡ None
none_of_tree tokens end t h = form_none t tokens end h
