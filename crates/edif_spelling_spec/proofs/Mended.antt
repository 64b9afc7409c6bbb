-- A text whose end makes its fault goes on to one without a fault.
use Rattle.std.proofs.Common.{◌≡◌, ℕ, ◌+◌, Bool, true, false, not, ◌||◌, ◌⊎◌, List, [], ◌∷◌, ◌++◌, length, None, Some, Ok, refl, sym, ap, ◌∙◌, subst, arith, append_assoc, length-append, eqb, inl, inr, ⊎_elim, pos}
use Rattle.std.proofs.lemmas.Bool.{and_from, eqb-true, or_right}
use Rattle.std.specs.List.{list_all}
use Rattle.netlist_schema.specs.Ident.{is_identifier_byte}
use Rattle.edif_spelling_spec.specs.Bytes.{is_word_byte, is_quote, is_unquoted}
use Rattle.edif_spelling_spec.specs.Ends.{is_mark, IsMadeByEnd}
use Rattle.edif_spelling_spec.specs.Words.{word_kind}
use Rattle.edif_spelling_spec.specs.Lexing.{Fault, lexed, tokens, lex_fault}
use Rattle.edif_spelling_spec.specs.Grammar.{IsCodes, StandsFor}
use Rattle.edif_spelling_spec.specs.LexFaults.{IsBadString, StandsAt}
use Rattle.edif_spelling_spec.specs.declared.token.TokenKind.{TokenKind}
use Rattle.edif_spelling_spec.specs.declared.token.TokenKind.TheVariants.{Word, Integer}
use Rattle.edif_spelling_spec.specs.declared.token.LexKind.{LexKind}
use Rattle.edif_spelling_spec.specs.declared.token.LexKind.TheVariants.{BadNumber, BadByte, BadEscape, BadString}
use Rattle.edif_spelling_spec.proofs.TextLemmas.{stands_value}
use Rattle.edif_spelling_spec.proofs.LexedLemmas.{lexed_nil, lexed_word_ok, lexed_string_ok}
use Rattle.edif_spelling_spec.proofs.FaultLemmas.{all_append, front_is_read, first_stands}
use Rattle.edif_spelling_spec.proofs.Followed.{front_follows, whole_front, stands_filled}

-- these bytes go on to ones without a fault
abbrev Mends : List ℕ → Type 0
Mends rest = (more : List ℕ) × ((after : ℕ) → (lexed after 0 (rest ++ more)).fault ≡ None)

-- a mark and a digit are a token
abbrev IsToken : List ℕ → Type 0
IsToken word = (kind : TokenKind) × (word_kind word ≡ Ok kind)

marked_name : IsToken (38 ∷ 48 ∷ [])
unfolding word_kind
marked_name = (Word (48 ∷ []), refl)

plus_zero : IsToken (43 ∷ 48 ∷ [])
unfolding word_kind
plus_zero = (Integer (pos 0), refl)

minus_zero : IsToken (45 ∷ 48 ∷ [])
unfolding word_kind
minus_zero = (Integer (pos 0), refl)

one_mark : (a b c : Bool) → (a || (b || c)) ≡ true → (a ≡ true) ⊎ ((b ≡ true) ⊎ (c ≡ true))
one_mark true b c e = inl refl
one_mark false true c e = inr (inl refl)
one_mark false false c e = inr (inr e)

token_of : (mark at : ℕ) → eqb mark at ≡ true → IsToken (at ∷ 48 ∷ []) → IsToken (mark ∷ 48 ∷ [])
token_of mark at e t = let W : ℕ → Type 0 = λ b. IsToken (b ∷ 48 ∷ []) in subst W (sym (eqb-true mark at e)) t

mark_token : (mark : ℕ) → is_mark mark ≡ true → IsToken (mark ∷ 48 ∷ [])
mark_token mark m = ⊎_elim
    (λ a. token_of mark 38 a marked_name)
    (λ o. ⊎_elim (λ b. token_of mark 43 b plus_zero) (λ c. token_of mark 45 c minus_zero) o)
    (one_mark (eqb mark 38) (eqb mark 43) (eqb mark 45) m)

mark_mends : (rest : List ℕ) (mark : ℕ) → is_mark mark ≡ true → rest ≡ mark ∷ [] → Mends rest
mark_mends rest mark m e =
    let kind = mark_token mark m in
    let all : rest ++ 48 ∷ [] ≡ mark ∷ 48 ∷ [] = ap (λ x. x ++ 48 ∷ []) e in
    let run : list_all is_word_byte (mark ∷ 48 ∷ []) ≡ true = and_from (is_word_byte mark) true (or_right (is_identifier_byte mark) (is_mark mark) m) refl in (
      48 ∷ [],
      λ after. ap (λ x. (lexed after 0 x).fault) all ∙ ap (λ l. l.fault) (lexed_word_ok after (mark ∷ 48 ∷ []) [] kind.0 (omega arith) run tt kind.1) ∙ ap (λ l. l.fault) (lexed_nil (after + 2)),
    )

-- what ends a list as one byte does is that byte
tail_is : (xs rest front : List ℕ) (mark : ℕ) → xs ++ rest ≡ front ++ mark ∷ [] → length rest ≡ 1 → rest ≡ mark ∷ []
tail_is [] rest [] mark e l = e
tail_is [] rest (f ∷ fs) mark e l = let long = ap length e in absurd (omega (arith, length-append fs (mark ∷ [])))
tail_is (x ∷ xs) rest [] mark e l = let long = ap length e in absurd (omega (arith, length-append xs rest))
tail_is (x ∷ xs) rest (f ∷ fs) mark e l = let inner : xs ++ rest ≡ fs ++ mark ∷ [] = cc e in tail_is xs rest fs mark inner l

no_bytes : (xs ys : List ℕ) → length xs + length ys ≡ 0 → xs ++ ys ≡ []
no_bytes [] [] l = refl
no_bytes [] (y ∷ ys) l = absurd (omega arith)
no_bytes (x ∷ xs) ys l = absurd (omega arith)

no_percent : (mark : ℕ) → is_mark mark ≡ true → 37 ∷ [] ≡ mark ∷ [] → ⊥
no_percent mark m e =
    let same : 37 ≡ mark = cc e in
    let M : ℕ → Type 0 = λ b. is_mark b ≡ true in
    let wrong : false ≡ true = subst M (sym same) m in cc wrong

-- the closing quote, behind the `%` of an open escape
closes : (escapes : List (List ℕ)) (front text escape codes : List ℕ) → StandsFor escapes front text → IsCodes escape codes → (es : List (List ℕ)) × (t : List ℕ) × StandsFor es (front ++ 37 ∷ (escape ++ 37 ∷ [])) t
closes [] front text escape codes h c = (codes ∷ [], front ++ codes ++ [], (front, escape, [], [], refl, h.0, c, refl, (refl, refl)))
closes (cs ∷ others) front text escape codes h c =
    let inner = closes others h.2 h.3 escape codes h.8 c in
    let last : List ℕ = 37 ∷ (escape ++ 37 ∷ []) in (
      cs ∷ inner.0,
      h.0 ++ cs ++ inner.1,
      (h.0, h.1, h.2 ++ last, inner.1, ap (λ l. l ++ last) h.4 ∙ append_assoc h.0 (37 ∷ (h.1 ++ 37 ∷ h.2)) last ∙ ap (λ l. h.0 ++ 37 ∷ l) (append_assoc h.1 (37 ∷ h.2) last), h.5, h.6, refl, inner.2),
    )

string_closes : (rest body : List ℕ) (escapes : List (List ℕ)) (text : List ℕ) → rest ≡ 34 ∷ body → is_unquoted body ≡ true → StandsFor escapes body text → Mends rest
string_closes rest body escapes text e u h = (
  34 ∷ [],
  λ after. ap (λ x. (lexed after 0 (x ++ 34 ∷ [])).fault) e ∙ ap (λ l. l.fault) (lexed_string_ok after body [] u (stands_value true escapes body text 0 h).0) ∙ ap (λ l. l.fault) (lexed_nil (after + length body + 2)),
)

escape_closes : (rest body front escape codes : List ℕ) (escapes : List (List ℕ)) (text : List ℕ) → rest ≡ 34 ∷ body → is_unquoted body ≡ true → body ≡ front ++ 37 ∷ escape → StandsFor escapes front text → IsCodes escape codes → Mends rest
escape_closes rest body front escape codes escapes text e u parts h c =
    let whole : front ++ 37 ∷ (escape ++ 37 ∷ []) ≡ body ++ 37 ∷ [] = sym (ap (λ l. l ++ 37 ∷ []) parts ∙ append_assoc front (37 ∷ escape) (37 ∷ [])) in
    let stands = closes escapes front text escape codes h c in
    let S : List ℕ → Type 0 = λ x. StandsFor stands.0 x stands.1 in
    let inner = string_closes (rest ++ 37 ∷ []) (body ++ 37 ∷ []) stands.0 stands.1 (ap (λ l. l ++ 37 ∷ []) e) (all_append (λ b. not (is_quote b)) body (37 ∷ []) u refl) (subst S whole stands.2) in
    (37 ∷ inner.0, λ after. ap (λ x. (lexed after 0 x).fault) (sym (append_assoc rest (37 ∷ []) inner.0)) ∙ inner.1 after)

string_mends : (rest : List ℕ) → IsBadString rest → Mends rest
string_mends rest h = ⊎_elim
    (λ s. string_closes rest h.0 s.0 s.1 h.1 h.2 s.2)
    (λ s. escape_closes rest h.0 s.0 s.1 s.2 s.4.0 s.4.1 h.1 h.2 s.3 s.4.2 s.5)
    h.3

-- the bytes at a fault that the end makes
rest_mends : (kind : LexKind) (xs rest front : List ℕ) (offset mark : ℕ) → StandsAt kind rest offset → xs ++ rest ≡ front ++ mark ∷ [] → is_mark mark ≡ true → length rest ≡ 1 + offset → Mends rest
rest_mends BadNumber xs rest front offset mark h e m l = let o = h.0 in mark_mends rest mark m (tail_is xs rest front mark e (omega arith))
rest_mends BadByte xs rest front offset mark h e m l = let o = h.0 in mark_mends rest mark m (tail_is xs rest front mark e (omega arith))
rest_mends BadEscape xs rest front offset mark h e m l =
    let o = h.4 in
    let long = ap length h.3 in
    let none : h.1 ++ h.2 ≡ [] = no_bytes h.1 h.2 (omega (arith, length-append h.0 (37 ∷ (h.1 ++ h.2)), length-append h.1 h.2)) in
    let last : (xs ++ 34 ∷ h.0) ++ 37 ∷ [] ≡ front ++ mark ∷ [] = append_assoc xs (34 ∷ h.0) (37 ∷ []) ∙ ap (λ l. xs ++ 34 ∷ (h.0 ++ 37 ∷ l)) (sym none) ∙ ap (λ l. xs ++ l) (sym h.3) ∙ e in
    absurd (no_percent mark m (tail_is (xs ++ 34 ∷ h.0) (37 ∷ []) front mark last refl))
rest_mends BadString xs rest front offset mark h e m l = string_mends rest h.1

made_mends : (kind : LexKind) (xs rest bytes : List ℕ) (offset place : ℕ) → bytes ≡ xs ++ rest → StandsAt kind rest offset → place + length rest ≡ length bytes + offset
    → (kind ≡ BadString) ⊎ ((front : List ℕ) × (mark : ℕ) × (bytes ≡ front ++ mark ∷ []) × (is_mark mark ≡ true) × (place ≡ length front)) → Mends rest
made_mends kind xs rest bytes offset place w h count made = ⊎_elim
    (λ s. let S : LexKind → Type 0 = λ k. StandsAt k rest offset in let b : StandsAt BadString rest offset = subst S s h in string_mends rest b.1)
    (λ l. rest_mends kind xs rest l.0 offset l.1 h (sym w ∙ l.2) l.3 (let long = ap length l.2 in let at = l.4 in omega (arith, length-append l.0 (l.1 ∷ []))))
    made

pub fault_mends : (bytes : List ℕ) (fault : Fault) → lex_fault bytes ≡ Some fault → IsMadeByEnd bytes fault → (more : List ℕ) × (lex_fault (bytes ++ more) ≡ None)
fault_mends bytes fault f made =
    let h = first_stands bytes fault f in
    let rest : List ℕ = h.0 in
    let offset : ℕ = h.1 in
    let count : fault.place + length rest ≡ 0 + length bytes + offset = h.4 in
    let w = whole_front 0 bytes (tokens bytes) rest h.2 in
    let filled = stands_filled fault.kind rest offset h.3 in
    let inner = made_mends fault.kind w.0 rest bytes offset fault.place w.1 h.3 (omega arith) made in
    let more : List ℕ = inner.0 in
    let long = ap length w.1 in
    let read = front_is_read 0 (length w.0) (bytes ++ more) (tokens bytes) (rest ++ more) (front_follows 0 bytes (tokens bytes) rest more filled h.2) (omega (arith, length-append bytes more, length-append rest more, length-append w.0 rest)) in
    (more, ap (λ l. l.fault) read ∙ inner.1 (length w.0))
