-- Rows of spellings with places and without, and the one row of tokens that bytes spell.
use Rattle.std.proofs.Common.{◌≡◌, ℕ, ◌+◌, List, [], ◌∷◌, length, map, None, refl, sym, ap, ◌∙◌, subst}
use Rattle.edif_spelling_spec.specs.Grammar.{IsRow}
use Rattle.edif_spelling_spec.specs.Lexing.{tokens, lex_fault}
use Rattle.edif_spelling_spec.specs.Spelling.{SpellsTokens, Spells}
use Rattle.edif_spelling_spec.specs.Tree.{Bare, listing}
use Rattle.edif_spelling_spec.specs.declared.token.Token.{Token}
use Rattle.edif_spelling_spec.specs.declared.token.TokenKind.{TokenKind}
use Rattle.edif_spelling_spec.proofs.Listings.{one_listing}
use Rattle.edif_spelling_spec.proofs.RowLemmas.{row_is_read, read_is_row}

-- the tokens without their places
abbrev pub kinds_of : List Token → List TokenKind
kinds_of ts = map (λ t. t.kind) ts

-- a row with places is a row without them
pub spelled_from_row : (place : ℕ) (bytes : List ℕ) (ts : List Token) → IsRow place bytes ts → SpellsTokens bytes (kinds_of ts)
spelled_from_row place bytes [] row = row
spelled_from_row place bytes (t ∷ ts) row = record {
  gap = row.0;
  spelling = row.1;
  rest = row.2;
  parts = row.3;
  white = row.4;
  spelled = row.6;
  longest = row.7;
  others = spelled_from_row (place + length row.0 + length row.1) row.2 ts row.8;
}

-- each token of a row has its place
pub row_from_spelled : (place : ℕ) (bytes : List ℕ) (kinds : List TokenKind) → SpellsTokens bytes kinds → (ts : List Token) × IsRow place bytes ts × (kinds_of ts ≡ kinds)
row_from_spelled place bytes [] h = ([], h, refl)
row_from_spelled place bytes (kind ∷ kinds) h =
    let inner = row_from_spelled (place + length h.gap + length h.spelling) h.rest kinds h.others in (
      record { kind = kind; place = place + length h.gap } ∷ inner.0,
      (h.gap, h.spelling, h.rest, h.parts, h.white, refl, h.spelled, h.longest, inner.1),
      ap (λ ks. kind ∷ ks) inner.2,
    )

-- bytes that spell tokens have no fault, and these tokens
pub spelled_is_read : (bytes : List ℕ) (kinds : List TokenKind) → SpellsTokens bytes kinds → (lex_fault bytes ≡ None) × (kinds_of (tokens bytes) ≡ kinds)
spelled_is_read bytes kinds h =
    let row = row_from_spelled 0 bytes kinds h in
    let read = row_is_read 0 bytes row.0 row.1 in
    (ap (λ l. l.fault) read, ap (λ l. kinds_of l.tokens) read ∙ row.2)

-- bytes without a fault spell their tokens
pub read_is_spelled : (bytes : List ℕ) → lex_fault bytes ≡ None → SpellsTokens bytes (kinds_of (tokens bytes))
read_is_spelled bytes none = spelled_from_row 0 bytes (tokens bytes) (read_is_row bytes none)

-- bytes spell one row of tokens at most
pub same_tokens : (bytes : List ℕ) (ks ls : List TokenKind) → SpellsTokens bytes ks → SpellsTokens bytes ls → ks ≡ ls
same_tokens bytes ks ls h k = sym (spelled_is_read bytes ks h).1 ∙ (spelled_is_read bytes ls k).1

-- bytes spell one tree at most
pub same_tree : (bytes : List ℕ) (s t : Bare) → Spells bytes s → Spells bytes t → s ≡ t
same_tree bytes s t h k = one_listing s t (same_tokens bytes (listing s) (listing t) h.tokens k.tokens)

-- bytes without a fault spell a row of tokens that theirs are
pub read_as : (bytes : List ℕ) (kinds : List TokenKind) → lex_fault bytes ≡ None → kinds_of (tokens bytes) ≡ kinds → SpellsTokens bytes kinds
read_as bytes kinds none e = let S : List TokenKind → Type 0 = λ ks. SpellsTokens bytes ks in subst S e (read_is_spelled bytes none)
