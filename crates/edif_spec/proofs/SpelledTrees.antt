-- What a text of bytes spells can be written.
use Rattle.std.proofs.Common.{ℕ, ◌<◌, ◌≤◌, List, [], ◌∷◌, ◌++◌, sym, subst, arith}
use Rattle.std.specs.Prelude.{FitsSigned}
use Rattle.std.specs.Int.{w64}
use Rattle.std.specs.List.{AllByRecursion}
use Rattle.std.proofs.lemmas.List.Elements.{All-from_recursion, recursion_from_All}
use Rattle.netlist_schema.specs.Ident.{IsIdentifier}
use Rattle.netlist_schema.specs.Typed.{IsBytes}
use Rattle.edif_spelling_spec.specs.Grammar.{SpellsToken, SpellsString, StandsFor, IsCodes}
use Rattle.edif_spelling_spec.specs.Spelling.{SpellsTokens, Spells}
use Rattle.edif_spelling_spec.specs.Tree.{Bare, Trees, Form', Word', Integer', String', End, More, listing, listings}
use Rattle.edif_spelling_spec.specs.declared.token.TokenKind.{TokenKind}
use Rattle.edif_spelling_spec.specs.declared.token.TokenKind.TheVariants.{LeftParen, RightParen, Word, Integer, String}
use Rattle.edif_spec.specs.Writable.{IsWritable, AreWritable}

-- bytes, by recursion
abbrev Small : List ℕ → Type 0
Small bytes = AllByRecursion (λ b. b < 256) bytes

both_parts : (a b : List ℕ) → Small (a ++ b) → Small a × Small b
both_parts [] b h = (tt, h)
both_parts (x ∷ a) b h = let r = both_parts a b h.1 in ((h.0, r.0), r.1)

joined : (a b : List ℕ) → Small a → Small b → Small (a ++ b)
joined [] b h k = k
joined (x ∷ a) b h k = (h.0, joined a b h.1 k)

codes_small : (escape codes : List ℕ) → IsCodes escape codes → Small codes
codes_small escape [] h = tt
codes_small escape (code ∷ codes) h = let l : code ≤ 255 = h.7 in (omega (arith, l), codes_small h.2 codes h.9)

value_small : (escapes : List (List ℕ)) (body text : List ℕ) → Small body → StandsFor escapes body text → Small text
value_small [] body text s h = subst Small (sym h.1) s
value_small (codes ∷ others) body text s h =
    let p : Small (h.0 ++ 37 ∷ (h.1 ++ 37 ∷ h.2)) = subst Small h.4 s in
    let a = both_parts h.0 (37 ∷ (h.1 ++ 37 ∷ h.2)) p in
    let b = both_parts h.1 (37 ∷ h.2) a.1.1 in
    let m : Small h.3 = value_small others h.2 h.3 b.1.1 h.8 in
    subst Small (sym h.7) (joined (h.0 ++ codes) h.3 (joined h.0 codes a.0 (codes_small h.1 codes h.6)) m)

string_small : (spelling text : List ℕ) → Small spelling → SpellsString spelling text → Small text
string_small spelling text s h =
    let p : Small (34 ∷ (h.0 ++ 34 ∷ [])) = subst Small h.1 s in
    value_small h.3.0 h.0 text (both_parts h.0 (34 ∷ []) p.1).0 h.3.1

-- a token that can be written
abbrev IsToken : TokenKind → Type 0
IsToken LeftParen = Unit {0}
IsToken RightParen = Unit {0}
IsToken (Word name) = IsIdentifier name
IsToken (Integer n) = FitsSigned w64 n
IsToken (String text) = IsBytes text

token_written : (spelling : List ℕ) (kind : TokenKind) → Small spelling → SpellsToken spelling kind → IsToken kind
token_written spelling LeftParen s h = tt
token_written spelling RightParen s h = tt
token_written spelling (Word name) s h = h.0
token_written spelling (Integer n) s h = h.0
token_written spelling (String text) s h = All-from_recursion (λ b. b < 256) text (string_small spelling text s h)

tokens_written : (kinds : List TokenKind) (bytes : List ℕ) → Small bytes → SpellsTokens bytes kinds → AllByRecursion IsToken kinds
tokens_written [] bytes s h = tt
tokens_written (kind ∷ kinds) bytes s h =
    let p : Small (h.gap ++ (h.spelling ++ h.rest)) = subst Small h.parts s in
    let a = both_parts h.gap (h.spelling ++ h.rest) p in
    let b = both_parts h.spelling h.rest a.1 in
    (token_written h.spelling kind b.0 h.spelled, tokens_written kinds h.rest b.1 h.others)

split : (a b : List TokenKind) → AllByRecursion IsToken (a ++ b) → AllByRecursion IsToken a × AllByRecursion IsToken b
split [] b h = (tt, h)
split (x ∷ a) b h = let r = split a b h.1 in ((h.0, r.0), r.1)

mutual
  tree_written : (t : Bare) → AllByRecursion IsToken (listing t) → IsWritable t
  tree_written (Form' p ts) h = trees_written ts (split (listings ts) (RightParen ∷ []) h.1).0
  tree_written (Word' p name) h = h.0
  tree_written (Integer' p value) h = h.0
  tree_written (String' p value) h = h.0

  trees_written : (ts : Trees (Unit {0})) → AllByRecursion IsToken (listings ts) → AreWritable ts
  trees_written End h = tt
  trees_written (More t ts) h = let r = split (listing t) (listings ts) h in (tree_written t r.0, trees_written ts r.1)

-- What a text of bytes spells can be written.
pub spelled_written : (bytes : List ℕ) (t : Bare) → IsBytes bytes → Spells bytes t → IsWritable t
spelled_written bytes t b h = tree_written t (tokens_written (listing t) bytes (recursion_from_All (λ b. b < 256) bytes b) h.tokens)
