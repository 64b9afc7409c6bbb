-- Tokens are those of one tree with places at most.
use Rattle.std.proofs.Common.{◌≡◌, ℕ, suc, ◌≤◌, arith, None, List, [], ◌∷◌, ◌++◌, refl, sym, ap, ◌∙◌, subst, append_assoc}
use Rattle.std.specs.Prelude.{max}
use Rattle.std.proofs.lemmas.List.{map-append}
use Rattle.edif_spelling_spec.specs.Lexing.{tokens, lex_fault}
use Rattle.edif_spelling_spec.specs.Spelling.{Spells, IsForm}
use Rattle.edif_spelling_spec.specs.Tree.{Bare, Placed, Trees, Form', Word', Integer', String', End, More, bare, bares, listing, listings, depth, depths}
use Rattle.edif_spelling_spec.specs.TreeFaults.{token_at, Lists, ListsAll, IsFile}
use Rattle.edif_spelling_spec.specs.declared.token.Token.{Token}
use Rattle.edif_spelling_spec.specs.declared.token.TokenKind.{TokenKind}
use Rattle.edif_spelling_spec.specs.declared.token.TokenKind.TheVariants.{LeftParen, RightParen, Word, Integer, String}
use Rattle.edif_spelling_spec.proofs.SpelledTokens.{kinds_of, spelled_is_read, read_as}

same_heads : (k l : TokenKind) (p q : ℕ) (x y : List Token) → token_at k p ∷ x ≡ token_at l q ∷ y → (k ≡ l) × (p ≡ q) × (x ≡ y)
same_heads k l p q x y e =
    let head : token_at k p ≡ token_at l q = cc e in
    (ap (λ t. t.kind) head, ap (λ t. t.place) head, cc e)

-- what stands behind the first token of a tree
abbrev pub head_of : Placed → TokenKind
head_of (Form' p ts) = LeftParen
head_of (Word' p name) = Word name
head_of (Integer' p value) = Integer value
head_of (String' p value) = String value

abbrev pub place_of : Placed → ℕ
place_of (Form' p ts) = p
place_of (Word' p name) = p
place_of (Integer' p value) = p
place_of (String' p value) = p

form_text : (a inner x : List Token) (p e : ℕ) → a ≡ token_at LeftParen p ∷ (inner ++ token_at RightParen e ∷ []) → a ++ x ≡ token_at LeftParen p ∷ (inner ++ token_at RightParen e ∷ x)
form_text a inner x p e h = ap (λ v. v ++ x) h ∙ ap (λ v. token_at LeftParen p ∷ v) (append_assoc inner (token_at RightParen e ∷ []) x)

begins : (t : Placed) (a x : List Token) → Lists a t → (rest : List Token) × (a ++ x ≡ token_at (head_of t) (place_of t) ∷ rest)
begins (Form' p ts) a x h = (h.0 ++ token_at RightParen h.1 ∷ x, form_text a h.0 x p h.1 h.2)
begins (Word' p name) a x h = (x, ap (λ v. v ++ x) h)
begins (Integer' p value) a x h = (x, ap (λ v. v ++ x) h)
begins (String' p value) a x h = (x, ap (λ v. v ++ x) h)

heads_differ : (s t : Placed) (a b x y : List Token) → Lists a s → Lists b t → a ++ x ≡ b ++ y → (head_of s ≡ head_of t) × (place_of s ≡ place_of t)
heads_differ s t a b x y h k e =
    let one = begins s a x h in
    let other = begins t b y k in
    let both = same_heads (head_of s) (head_of t) (place_of s) (place_of t) one.0 other.0 (sym one.1 ∙ (e ∙ other.1)) in
    (both.0, both.1)

no_right : (t : Placed) → RightParen ≡ head_of t → ⊥
no_right (Form' p ts) e = cc
no_right (Word' p ts) e = cc
no_right (Integer' p ts) e = cc
no_right (String' p ts) e = cc

mutual
  placed_in_front : (s t : Placed) (a b x y : List Token) → Lists a s → Lists b t → a ++ x ≡ b ++ y → (s ≡ t) × (x ≡ y)
  placed_in_front (Form' p ts) (Form' q us) a b x y h k e =
      let both = same_heads LeftParen LeftParen p q (h.0 ++ token_at RightParen h.1 ∷ x) (k.0 ++ token_at RightParen k.1 ∷ y) (sym (form_text a h.0 x p h.1 h.2) ∙ (e ∙ form_text b k.0 y q k.1 k.2)) in
      let f : (ts ≡ us) × (x ≡ y) = all_in_front ts us h.0 k.0 x y h.1 k.1 h.3 k.3 both.2 in
      let place : p ≡ q = both.1 in
      let same : ts ≡ us = f.0 in
      ((cc), f.1)
  placed_in_front (Word' p m) (Word' q n) a b x y h k e =
      let both = same_heads (Word m) (Word n) p q x y (sym (ap (λ v. v ++ x) h) ∙ (e ∙ ap (λ v. v ++ y) k)) in
      let place : p ≡ q = both.1 in
      let kind : Word m ≡ Word n = both.0 in
      let same : m ≡ n = cc kind in
      ((cc), both.2)
  placed_in_front (Integer' p m) (Integer' q n) a b x y h k e =
      let both = same_heads (Integer m) (Integer n) p q x y (sym (ap (λ v. v ++ x) h) ∙ (e ∙ ap (λ v. v ++ y) k)) in
      let place : p ≡ q = both.1 in
      let kind : Integer m ≡ Integer n = both.0 in
      let same : m ≡ n = cc kind in
      ((cc), both.2)
  placed_in_front (String' p m) (String' q n) a b x y h k e =
      let both = same_heads (String m) (String n) p q x y (sym (ap (λ v. v ++ x) h) ∙ (e ∙ ap (λ v. v ++ y) k)) in
      let place : p ≡ q = both.1 in
      let kind : String m ≡ String n = both.0 in
      let same : m ≡ n = cc kind in
      ((cc), both.2)
  placed_in_front (Form' p m) (Word' q n) a b x y h k e = (let kinds = (heads_differ (Form' p m) (Word' q n) a b x y h k e).0 in absurd (cc kinds))
  placed_in_front (Form' p m) (Integer' q n) a b x y h k e = (let kinds = (heads_differ (Form' p m) (Integer' q n) a b x y h k e).0 in absurd (cc kinds))
  placed_in_front (Form' p m) (String' q n) a b x y h k e = (let kinds = (heads_differ (Form' p m) (String' q n) a b x y h k e).0 in absurd (cc kinds))
  placed_in_front (Word' p m) (Form' q n) a b x y h k e = (let kinds = (heads_differ (Word' p m) (Form' q n) a b x y h k e).0 in absurd (cc kinds))
  placed_in_front (Word' p m) (Integer' q n) a b x y h k e = (let kinds = (heads_differ (Word' p m) (Integer' q n) a b x y h k e).0 in absurd (cc kinds))
  placed_in_front (Word' p m) (String' q n) a b x y h k e = (let kinds = (heads_differ (Word' p m) (String' q n) a b x y h k e).0 in absurd (cc kinds))
  placed_in_front (Integer' p m) (Form' q n) a b x y h k e = (let kinds = (heads_differ (Integer' p m) (Form' q n) a b x y h k e).0 in absurd (cc kinds))
  placed_in_front (Integer' p m) (Word' q n) a b x y h k e = (let kinds = (heads_differ (Integer' p m) (Word' q n) a b x y h k e).0 in absurd (cc kinds))
  placed_in_front (Integer' p m) (String' q n) a b x y h k e = (let kinds = (heads_differ (Integer' p m) (String' q n) a b x y h k e).0 in absurd (cc kinds))
  placed_in_front (String' p m) (Form' q n) a b x y h k e = (let kinds = (heads_differ (String' p m) (Form' q n) a b x y h k e).0 in absurd (cc kinds))
  placed_in_front (String' p m) (Word' q n) a b x y h k e = (let kinds = (heads_differ (String' p m) (Word' q n) a b x y h k e).0 in absurd (cc kinds))
  placed_in_front (String' p m) (Integer' q n) a b x y h k e = (let kinds = (heads_differ (String' p m) (Integer' q n) a b x y h k e).0 in absurd (cc kinds))

  all_in_front : (ts us : Trees ℕ) (a b x y : List Token) (e f : ℕ) → ListsAll a ts → ListsAll b us → a ++ token_at RightParen e ∷ x ≡ b ++ token_at RightParen f ∷ y → (ts ≡ us) × (x ≡ y)
  all_in_front End End a b x y e f h k same =
      (refl, (same_heads RightParen RightParen e f x y (sym (ap (λ v. v ++ token_at RightParen e ∷ x) h) ∙ (same ∙ ap (λ v. v ++ token_at RightParen f ∷ y) k))).2)
  all_in_front (More s ts) (More t us) a b x y e f h k same =
      let first : (s ≡ t) × (h.1 ++ token_at RightParen e ∷ x ≡ k.1 ++ token_at RightParen f ∷ y) =
      placed_in_front s t h.0 k.0 _ _ h.3 k.3
      (sym (ap (λ v. v ++ token_at RightParen e ∷ x) h.2 ∙ append_assoc h.0 h.1 (token_at RightParen e ∷ x)) ∙ (same ∙ (ap (λ v. v ++ token_at RightParen f ∷ y) k.2 ∙ append_assoc k.0 k.1 (token_at RightParen f ∷ y)))) in
      let others : (ts ≡ us) × (x ≡ y) = all_in_front ts us h.1 k.1 x y e f h.4 k.4 first.1 in
      let one : s ≡ t = first.0 in
      let rest : ts ≡ us = others.0 in
      ((cc), others.1)
  all_in_front End (More t us) a b x y e f h k same =
      let other = begins t k.0 (k.1 ++ token_at RightParen f ∷ y) k.3 in
      let whole : token_at RightParen e ∷ x ≡ token_at (head_of t) (place_of t) ∷ other.0 =
      sym (ap (λ v. v ++ token_at RightParen e ∷ x) h) ∙ (same ∙ (ap (λ v. v ++ token_at RightParen f ∷ y) k.2 ∙ (append_assoc k.0 k.1 (token_at RightParen f ∷ y) ∙ other.1))) in
      absurd (no_right t (same_heads RightParen (head_of t) e (place_of t) x other.0 whole).0)
  all_in_front (More s ts) End a b x y e f h k same =
      let other = begins s h.0 (h.1 ++ token_at RightParen e ∷ x) h.3 in
      let whole : token_at RightParen f ∷ y ≡ token_at (head_of s) (place_of s) ∷ other.0 =
      sym (ap (λ v. v ++ token_at RightParen f ∷ y) k) ∙ (sym same ∙ (ap (λ v. v ++ token_at RightParen e ∷ x) h.2 ∙ (append_assoc h.0 h.1 (token_at RightParen e ∷ x) ∙ other.1))) in
      absurd (no_right s (same_heads RightParen (head_of s) f (place_of s) y other.0 whole).0)

pub one_placed : (tokens : List Token) (s t : Placed) → Lists tokens s → Lists tokens t → s ≡ t
one_placed tokens s t h k = (placed_in_front s t tokens tokens [] [] h k refl).0

mutual
  pub lists_listing : (t : Placed) (tokens : List Token) → Lists tokens t → listing (bare t) ≡ kinds_of tokens
  lists_listing (Form' p ts) tokens h =
      ap (λ v. LeftParen ∷ (v ++ RightParen ∷ [])) (lists_listings ts h.0 h.3)
      ∙ (ap (λ v. LeftParen ∷ v) (sym (map-append (λ (t : Token). t.kind) h.0 (token_at RightParen h.1 ∷ []))) ∙ sym (ap kinds_of h.2))
  lists_listing (Word' p name) tokens h = sym (ap kinds_of h)
  lists_listing (Integer' p value) tokens h = sym (ap kinds_of h)
  lists_listing (String' p value) tokens h = sym (ap kinds_of h)

  pub lists_listings : (ts : Trees ℕ) (tokens : List Token) → ListsAll tokens ts → listings (bares ts) ≡ kinds_of tokens
  lists_listings End tokens h = sym (ap kinds_of h)
  lists_listings (More t ts) tokens h =
      ap (λ v. v ++ listings (bares ts)) (lists_listing t h.0 h.3) ∙ (ap (λ v. kinds_of h.0 ++ v) (lists_listings ts h.1 h.4)
      ∙ (sym (map-append (λ (t : Token). t.kind) h.0 h.1) ∙ sym (ap kinds_of h.2)))

-- tokens in two parts, as their kinds are
pub record Parted (xs ys : List TokenKind) (tokens : List Token) : Type 0 where
  pub front : List Token
  pub back : List Token
  pub parts : tokens ≡ front ++ back
  pub first : xs ≡ kinds_of front
  pub second : ys ≡ kinds_of back

parted : (xs ys : List TokenKind) (tokens : List Token) → xs ++ ys ≡ kinds_of tokens → Parted xs ys tokens
parted [] ys tokens e = record { front = []; back = tokens; parts = refl; first = refl; second = e }
parted (x ∷ xs) ys [] e = absurd (cc e)
parted (x ∷ xs) ys (token ∷ tokens) e =
    let rest : xs ++ ys ≡ kinds_of tokens = cc e in
    let head : x ≡ token.kind = cc e in
    let h = parted xs ys tokens rest in
    record {
      front = token ∷ h.front;
      back = h.back;
      parts = ap (λ v. token ∷ v) h.parts;
      first = ap (λ v. v ∷ xs) head ∙ ap (λ v. token.kind ∷ v) h.first;
      second = h.second;
    }

-- a token alone
lone : (kind : TokenKind) (tokens : List Token) → kind ∷ [] ≡ kinds_of tokens → (place : ℕ) × (tokens ≡ token_at kind place ∷ [])
lone kind [] e = absurd (cc e)
lone kind (token ∷ []) e = let head : kind ≡ token.kind = cc e in (token.place, ap (λ k. token_at k token.place ∷ []) (sym head))
lone kind (token ∷ other ∷ tokens) e = absurd (cc e)

mutual
  pub placed_from : (b : Bare) (tokens : List Token) → listing b ≡ kinds_of tokens → (t : Placed) × Lists tokens t × (bare t ≡ b)
  placed_from (Form' p ts) [] e = absurd (cc e)
  placed_from (Form' p ts) (token ∷ tokens) e =
      let head : LeftParen ≡ token.kind = cc e in
      let rest : listings ts ++ RightParen ∷ [] ≡ kinds_of tokens = cc e in
      let h = parted (listings ts) (RightParen ∷ []) tokens rest in
      let closed = lone RightParen h.back h.second in
      let inner = placed_all ts h.front h.first in
      (Form' token.place inner.0, (h.front, closed.0, ap (λ k. token_at k token.place ∷ tokens) (sym head) ∙ ap (λ v. token_at LeftParen token.place ∷ v) (h.parts ∙ ap (λ v. h.front ++ v) closed.1), inner.1), ap (λ v. Form' tt v) inner.2)
  placed_from (Word' p name) tokens e = (let h = lone (Word name) tokens e in (Word' h.0 name, h.1, refl))
  placed_from (Integer' p value) tokens e = (let h = lone (Integer value) tokens e in (Integer' h.0 value, h.1, refl))
  placed_from (String' p value) tokens e = (let h = lone (String value) tokens e in (String' h.0 value, h.1, refl))

  pub placed_all : (bs : Trees (Unit {0})) (tokens : List Token) → listings bs ≡ kinds_of tokens → (ts : Trees ℕ) × ListsAll tokens ts × (bares ts ≡ bs)
  placed_all End [] e = (End, refl, refl)
  placed_all End (token ∷ tokens) e = absurd (cc e)
  placed_all (More b bs) tokens e =
      let h = parted (listing b) (listings bs) tokens e in
      let first = placed_from b h.front h.first in
      let rest = placed_all bs h.back h.second in
      (More first.0 rest.0, (h.front, h.back, h.parts, first.1, rest.1), ap (λ v. More v (bares rest.0)) first.2 ∙ ap (λ v. More b v) rest.2)

mutual
  pub depth_bare : (t : Placed) → depth (bare t) ≡ depth t
  depth_bare (Form' p ts) = ap (λ n. suc n) (depths_bare ts)
  depth_bare (Word' p name) = refl
  depth_bare (Integer' p value) = refl
  depth_bare (String' p value) = refl

  pub depths_bare : (ts : Trees ℕ) → depths (bares ts) ≡ depths ts
  depths_bare End = refl
  depths_bare (More t ts) = ap (λ n. max n (depths (bares ts))) (depth_bare t) ∙ ap (λ n. max (depth t) n) (depths_bare ts)

-- bytes that spell a tree have tokens that are a file's
pub spelled_file : (bytes : List ℕ) (b : Bare) → Spells bytes b → (t : Placed) × IsFile (tokens bytes) t × (bare t ≡ b)
spelled_file bytes b h =
    let read = spelled_is_read bytes (listing b) h.tokens in
    let t = placed_from b (tokens bytes) (sym read.1) in
    let F : Bare → Type 0 = IsForm in
    let L : Bare → Type 0 = λ v. depth v ≤ 256 in
    let levels : depth (bare t.0) ≤ 256 = subst L (sym t.2) h.levels in
    let same = depth_bare t.0 in
    (t.0, record { listed = t.1; file = subst F (sym t.2) h.file; levels = omega arith }, t.2)

-- bytes without a fault whose tokens are a file's spell it
pub file_spells : (bytes : List ℕ) (t : Placed) → lex_fault bytes ≡ None → IsFile (tokens bytes) t → Spells bytes (bare t)
file_spells bytes t none h =
    let levels = h.levels in
    let same = depth_bare t in
    record { tokens = read_as bytes (listing (bare t)) none (sym (lists_listing t (tokens bytes) h.listed)); file = h.file; levels = omega arith }
