-- A layout spells the tokens of its tree.
use Rattle.std.proofs.Common.{◌≡◌, ℕ, zero, suc, ◌^◌, ◌<◌, ◌≤◌, ℤ, pos, negsuc, neg_ℤ, ◌⊎◌, inl, inr, List, [], ◌∷◌, ◌++◌, replicate, refl, ap, sym, ◌∙◌, subst, append_assoc, append-nil, Bool, true, false, arith}
use Rattle.std.specs.Prelude.{cond, decimal, FitsSigned}
use Rattle.std.specs.Char.{is_ascii_alphabetic, is_ascii_digit}
use Rattle.std.specs.Fmt.{signed_decimal}
use Rattle.std.specs.Int.{w64}
use Rattle.std.specs.List.{list_all}
use Rattle.std.proofs.lemmas.Bool.Decides.{nat_tests}
use Rattle.std.proofs.lemmas.Fmt.{decimal_is_IsNumeral}
use Rattle.netlist_schema.specs.Ident.{IsIdentifier}
use Rattle.edif_spelling_spec.specs.Bytes.{is_space, is_word_byte, EndsRun}
use Rattle.edif_spelling_spec.specs.Grammar.{BeginsWithNoDigit, SpellsName, SpellsInteger, SpellsToken, EndsBefore}
use Rattle.edif_spelling_spec.specs.Spelling.{SpellsTokens, IsForm, Spells}
use Rattle.edif_spelling_spec.specs.Tree.{Bare, Trees, Form', Word', Integer', String', End, More, listing, listings, depth}
use Rattle.edif_spelling_spec.specs.declared.token.TokenKind.{TokenKind}
use Rattle.edif_spelling_spec.specs.declared.token.TokenKind.TheVariants.{LeftParen, RightParen, Word, Integer, String}
use Rattle.edif_spelling_spec.proofs.FaultLemmas.{all_append}
use Rattle.edif_spec.specs.Canonical.{name_text, string_text, new_line, layout, layouts, on_line}
use Rattle.edif_spec.specs.Writable.{IsWritable, AreWritable}
use Rattle.edif_spec.proofs.StringLemmas.{string_spelled}

-- white space before what is spelled changes nothing
after_white : (b bytes : List ℕ) (ks : List TokenKind) → list_all is_space b ≡ true → SpellsTokens bytes ks → SpellsTokens (b ++ bytes) ks
after_white b bytes [] w h = all_append is_space b bytes w h
after_white b bytes (k ∷ ks) w h = record {
  gap = b ++ h.gap;
  spelling = h.spelling;
  rest = h.rest;
  parts = ap (λ v. b ++ v) h.parts ∙ sym (append_assoc b h.gap (h.spelling ++ h.rest));
  white = all_append is_space b h.gap w h.white;
  spelled = h.spelled;
  longest = h.longest;
  others = h.others;
}

-- one more token in front
in_front : (k : TokenKind) (s rest : List ℕ) (ks : List TokenKind) → SpellsToken s k → EndsBefore k rest → SpellsTokens rest ks → SpellsTokens (s ++ rest) (k ∷ ks)
in_front k s rest ks h f r = record { gap = []; spelling = s; rest = rest; parts = refl; white = refl; spelled = h; longest = f; others = r }

respelled : (a b : List ℕ) (ks js : List TokenKind) → b ≡ a → js ≡ ks → SpellsTokens a ks → SpellsTokens b js
respelled a b ks js e f h = let P : List ℕ → Type 0 = λ v. SpellsTokens v js in let Q : List TokenKind → Type 0 = λ v. SpellsTokens a v in subst P (sym e) (subst Q (sym f) h)

letter_is_no_digit : (b : ℕ) → is_ascii_alphabetic b ≡ true → is_ascii_digit b ≡ false
letter_is_no_digit b h = grind (arith, nat_tests)

name_spelled : (name : List ℕ) → IsIdentifier name → SpellsName (name_text name) name
name_spelled [] h = absurd (omega (arith, h.0))
name_spelled (b ∷ bs) h = (h, go (is_ascii_alphabetic b) refl)
  where
    go : (l : Bool) → is_ascii_alphabetic b ≡ l → (cond l (b ∷ bs) (38 ∷ b ∷ bs) ≡ 38 ∷ b ∷ bs) ⊎ ((cond l (b ∷ bs) (38 ∷ b ∷ bs) ≡ b ∷ bs) × BeginsWithNoDigit (b ∷ bs))
    go true e = inr (refl, letter_is_no_digit b e)
    go false e = inl refl

pub integer_spelled : (z : ℤ) → FitsSigned w64 z → SpellsInteger (signed_decimal z) z
integer_spelled (pos n) h = let b : n < 2 ^ 63 = h.sfits in let d = decimal_is_IsNumeral n (omega arith) in (h, (decimal n, d.0, inl (inl refl, ap pos (sym d.1))))
integer_spelled (negsuc n) h = let b : n < 2 ^ 63 = h.sfits in let d = decimal_is_IsNumeral (suc n) (omega arith) in (h, (decimal (suc n), d.0, inr (refl, ap (λ m. neg_ℤ (pos m)) (sym d.1))))

blanks : (n : ℕ) → list_all is_space (replicate n 32) ≡ true
blanks zero = refl
blanks (suc n) = blanks n

-- A layout and what is spelled after it spell the listing and what comes after it.
mutual
  layout_spelled : (level : ℕ) (t : Bare) (rest : List ℕ) (ks : List TokenKind) → IsWritable t → EndsRun is_word_byte rest → SpellsTokens rest ks → SpellsTokens (layout level t ++ rest) (listing t ++ ks)
  layout_spelled level (Form' p End) rest ks w b s = in_front LeftParen (40 ∷ []) (41 ∷ rest) (RightParen ∷ ks) refl tt (in_front RightParen (41 ∷ []) rest ks refl tt s)
  layout_spelled level (Form' p (More t ts)) rest ks w b s =
      let n = on_line t ts in
      let close : SpellsTokens (41 ∷ rest) (RightParen ∷ ks) = in_front RightParen (41 ∷ []) rest ks refl tt s in
      let others = layouts_spelled level n ts (41 ∷ rest) (RightParen ∷ ks) w.1 refl close in
      let first = layout_spelled (suc level) t (layouts level n ts ++ 41 ∷ rest) (listings ts ++ RightParen ∷ ks) w.0 others.1 others.0 in
      let bytes : (layout (suc level) t ++ (layouts level n ts ++ 41 ∷ [])) ++ rest ≡ layout (suc level) t ++ (layouts level n ts ++ 41 ∷ rest) =
      append_assoc (layout (suc level) t) (layouts level n ts ++ 41 ∷ []) rest ∙ ap (λ v. layout (suc level) t ++ v) (append_assoc (layouts level n ts) (41 ∷ []) rest) in
      let kinds : ((listing t ++ listings ts) ++ RightParen ∷ []) ++ ks ≡ listing t ++ (listings ts ++ RightParen ∷ ks) =
      append_assoc (listing t ++ listings ts) (RightParen ∷ []) ks ∙ append_assoc (listing t) (listings ts) (RightParen ∷ ks) in
      in_front LeftParen (40 ∷ []) ((layout (suc level) t ++ (layouts level n ts ++ 41 ∷ [])) ++ rest) (((listing t ++ listings ts) ++ RightParen ∷ []) ++ ks) refl tt
      (respelled (layout (suc level) t ++ (layouts level n ts ++ 41 ∷ rest)) ((layout (suc level) t ++ (layouts level n ts ++ 41 ∷ [])) ++ rest) (listing t ++ (listings ts ++ RightParen ∷ ks)) (((listing t ++ listings ts) ++ RightParen ∷ []) ++ ks) bytes kinds first)
  layout_spelled level (Word' p name) rest ks w b s = in_front (Word name) (name_text name) rest ks (name_spelled name w) b s
  layout_spelled level (Integer' p z) rest ks w b s = in_front (Integer z) (signed_decimal z) rest ks (integer_spelled z w) b s
  layout_spelled level (String' p v) rest ks w b s = in_front (String v) (string_text v) rest ks (string_spelled v w) tt s

  layouts_spelled : (level n : ℕ) (ts : Trees (Unit {0})) (rest : List ℕ) (ks : List TokenKind) → AreWritable ts → EndsRun is_word_byte rest → SpellsTokens rest ks → SpellsTokens (layouts level n ts ++ rest) (listings ts ++ ks) × EndsRun is_word_byte (layouts level n ts ++ rest)
  layouts_spelled level n End rest ks w b s = (s, b)
  layouts_spelled level zero (More t ts) rest ks w b s =
      let others = layouts_spelled level zero ts rest ks w.1 b s in
      let first = layout_spelled (suc level) t (layouts level zero ts ++ rest) (listings ts ++ ks) w.0 others.1 others.0 in
      let all = after_white (new_line level) (layout (suc level) t ++ (layouts level zero ts ++ rest)) (listing t ++ (listings ts ++ ks)) (blanks level) first in (
        respelled (new_line level ++ (layout (suc level) t ++ (layouts level zero ts ++ rest))) ((new_line level ++ (layout (suc level) t ++ layouts level zero ts)) ++ rest) (listing t ++ (listings ts ++ ks)) ((listing t ++ listings ts) ++ ks)
            (append_assoc (new_line level) (layout (suc level) t ++ layouts level zero ts) rest ∙ ap (λ v. new_line level ++ v) (append_assoc (layout (suc level) t) (layouts level zero ts) rest)) (append_assoc (listing t) (listings ts) ks) all,
        refl,
      )
  layouts_spelled level (suc n) (More t ts) rest ks w b s =
      let others = layouts_spelled level n ts rest ks w.1 b s in
      let first = layout_spelled (suc level) t (layouts level n ts ++ rest) (listings ts ++ ks) w.0 others.1 others.0 in
      let all = after_white (32 ∷ []) (layout (suc level) t ++ (layouts level n ts ++ rest)) (listing t ++ (listings ts ++ ks)) refl first in (
        respelled (32 ∷ (layout (suc level) t ++ (layouts level n ts ++ rest))) (32 ∷ ((layout (suc level) t ++ layouts level n ts) ++ rest)) (listing t ++ (listings ts ++ ks)) ((listing t ++ listings ts) ++ ks)
            (ap (λ v. 32 ∷ v) (append_assoc (layout (suc level) t) (layouts level n ts) rest)) (append_assoc (listing t) (listings ts) ks) all,
        refl,
      )

pub layout_spells : (t : Bare) → IsForm t → depth t ≤ 256 → IsWritable t → Spells (layout 1 t ++ 10 ∷ []) t
layout_spells t f l w = record { tokens = rw append-nil at (layout_spelled 1 t (10 ∷ []) [] w refl refl); file = f; levels = l }
