-- A fault that the end of the text does not make stands where it is, however the text goes on.
use Rattle.std.proofs.Common.{◌≡◌, ℕ, ◌+◌, ◌<◌, Bool, true, false, not, ◌&&◌, ◌⊎◌, List, [], ◌∷◌, ◌++◌, length, Some, refl, sym, ap, ◌∙◌, arith, append_assoc, append-nil, length-append, inl, inr, ⊎_elim, ℤ}
use Rattle.std.proofs.lemmas.Bool.{and_parts, and_from, eqb-true}
use Rattle.std.specs.List.{list_all}
use Rattle.edif_spelling_spec.specs.Bytes.{is_word_byte, is_quote, is_percent, is_unquoted, has_no_percent, EndsRun}
use Rattle.edif_spelling_spec.specs.Ends.{is_mark, IsMadeByEnd}
use Rattle.edif_spelling_spec.specs.Words.{begins_number}
use Rattle.edif_spelling_spec.specs.Lexing.{Fault, lexed, tokens, lex_fault}
use Rattle.edif_spelling_spec.specs.Grammar.{SpellsName, SpellsInteger, EndsBefore, IsCodes, StandsFor}
use Rattle.edif_spelling_spec.specs.LexFaults.{IsFront, IsBadNumber, IsBadWord, IsBadByte, EndsEscape, BeginsWithQuote, IsBadEscape, StandsAt}
use Rattle.edif_spelling_spec.specs.declared.token.Token.{Token}
use Rattle.edif_spelling_spec.specs.declared.token.TokenKind.{TokenKind}
use Rattle.edif_spelling_spec.specs.declared.token.TokenKind.TheVariants.{LeftParen, RightParen, Word, Integer, String}
use Rattle.edif_spelling_spec.specs.declared.token.LexKind.{LexKind}
use Rattle.edif_spelling_spec.specs.declared.token.LexKind.TheVariants.{BadNumber, BadByte, BadEscape, BadString}
use Rattle.edif_spelling_spec.proofs.LexedLemmas.{span}
use Rattle.edif_spelling_spec.proofs.FaultLemmas.{all_append, front_long, standing_is_first, first_stands}
use Rattle.edif_spelling_spec.proofs.Fronts.{name_front, integer_front, codes_front}

-- the spellings before a fault
run_follows : (p : ℕ → Bool) (others more : List ℕ) → 0 < length others → EndsRun p others → EndsRun p (others ++ more)
run_follows p [] more l e = absurd (omega arith)
run_follows p (c ∷ cs) more l e = e

ends_follow : (kind : TokenKind) (others more : List ℕ) → 0 < length others → EndsBefore kind others → EndsBefore kind (others ++ more)
ends_follow LeftParen others more l e = tt
ends_follow RightParen others more l e = tt
ends_follow (Word name) others more l e = run_follows is_word_byte others more l e
ends_follow (Integer n) others more l e = run_follows is_word_byte others more l e
ends_follow (String text) others more l e = tt

pub front_follows : (place : ℕ) (bytes : List ℕ) (ts : List Token) (rest more : List ℕ) → 0 < length rest → IsFront place bytes ts rest → IsFront place (bytes ++ more) ts (rest ++ more)
front_follows place bytes [] rest more l f = (f.0, ap (λ x. x ++ more) f.1 ∙ append_assoc f.0 rest more, f.2)
front_follows place bytes (t ∷ ts) rest more l f =
    let gap : List ℕ = f.0 in
    let s : List ℕ = f.1 in
    let others : List ℕ = f.2 in
    let long = front_long (place + length gap + length s) others ts rest f.8 in (
      gap,
      s,
      others ++ more,
      ap (λ x. x ++ more) f.3 ∙ append_assoc gap (s ++ others) more ∙ ap (λ x. gap ++ x) (append_assoc s others more),
      f.4,
      f.5,
      f.6,
      ends_follow t.kind others more (omega arith) f.7,
      front_follows (place + length gap + length s) others ts rest more l f.8,
    )

-- the bytes before a fault
pub whole_front : (place : ℕ) (bytes : List ℕ) (ts : List Token) (rest : List ℕ) → IsFront place bytes ts rest → (front : List ℕ) × (bytes ≡ front ++ rest)
whole_front place bytes [] rest f = (f.0, f.1)
whole_front place bytes (t ∷ ts) rest f =
    let gap : List ℕ = f.0 in
    let s : List ℕ = f.1 in
    let inner = whole_front (place + length gap + length s) f.2 ts rest f.8 in
    (gap ++ (s ++ inner.0), f.3 ∙ ap (λ x. gap ++ (s ++ x)) inner.1 ∙ sym (append_assoc gap (s ++ inner.0) rest ∙ ap (λ x. gap ++ x) (append_assoc s inner.0 rest)))

-- a fault stands in some bytes
begins_filled : (word : List ℕ) → begins_number word ≡ true → 0 < length word
begins_filled [] b = absurd (cc b)
begins_filled (c ∷ cs) b = omega arith

byte_filled : (bytes : List ℕ) → IsBadByte bytes → 0 < length bytes
byte_filled [] b = absurd b
byte_filled (c ∷ cs) b = omega arith

pub stands_filled : (kind : LexKind) (rest : List ℕ) (offset : ℕ) → StandsAt kind rest offset → 0 < length rest
stands_filled BadNumber rest offset h = let l = begins_filled h.1.0 h.1.5 in let long = ap length h.1.2 in omega (arith, length-append h.1.0 h.1.1)
stands_filled BadByte rest offset h = ⊎_elim (λ w. let l = w.5 in let long = ap length w.2 in omega (arith, length-append w.0 w.1)) (λ b. byte_filled rest b) h.1
stands_filled BadEscape rest offset h = let long = ap length h.3 in omega arith
stands_filled BadString rest offset h = let long = ap length h.1.1 in omega arith

-- a word that goes on
begins_more : (word run : List ℕ) → 0 < length word → begins_number (word ++ run) ≡ begins_number word
begins_more [] run l = absurd (omega arith)
begins_more (c ∷ cs) run l = refl

-- these bytes are no mark alone
abbrev NoMark : List ℕ → Type 0
NoMark rest = (mark : ℕ) → is_mark mark ≡ true → rest ≡ mark ∷ [] → ⊥

word_whole : (rest word run after more : List ℕ) → rest ≡ word ++ [] → more ≡ run ++ after → rest ++ more ≡ (word ++ run) ++ after
word_whole rest word run after more e w = ap (λ x. x ++ more) (e ∙ append-nil word) ∙ ap (λ x. word ++ x) w ∙ sym (append_assoc word run after)

number_follows : (rest word m more : List ℕ) → NoMark rest → rest ≡ word ++ m → list_all is_word_byte word ≡ true → EndsRun is_word_byte m → begins_number word ≡ true → ((n : ℤ) → SpellsInteger word n → ⊥) → IsBadNumber (rest ++ more)
number_follows rest word [] more lone e a ends b unfit =
    let s = span is_word_byte more in
    let l = begins_filled word b in (
      word ++ s.run,
      s.rest,
      word_whole rest word s.run s.rest more e s.whole,
      all_append is_word_byte word s.run a s.passes,
      s.ends,
      begins_more word s.run l ∙ b,
      λ n h. (let f = integer_front word s.run n l (λ w. lone 43 refl (e ∙ append-nil word ∙ w)) (λ w. lone 45 refl (e ∙ append-nil word ∙ w)) h in unfit f.0 f.1),
    )
number_follows rest word (c ∷ cs) more lone e a ends b unfit = (word, (c ∷ cs) ++ more, ap (λ x. x ++ more) e ∙ append_assoc word (c ∷ cs) more, a, ends, b, unfit)

word_follows : (rest word m more : List ℕ) → NoMark rest → rest ≡ word ++ m → list_all is_word_byte word ≡ true → EndsRun is_word_byte m → 0 < length word → begins_number word ≡ false → ((name : List ℕ) → SpellsName word name → ⊥) → IsBadWord (rest ++ more)
word_follows rest word [] more lone e a ends l b unfit =
    let s = span is_word_byte more in (
      word ++ s.run,
      s.rest,
      word_whole rest word s.run s.rest more e s.whole,
      all_append is_word_byte word s.run a s.passes,
      s.ends,
      omega (arith, length-append word s.run),
      begins_more word s.run l ∙ b,
      λ name h. (let f = name_front word s.run name l (λ w. lone 38 refl (e ∙ append-nil word ∙ w)) h in unfit f.0 f.1),
    )
word_follows rest word (c ∷ cs) more lone e a ends l b unfit = (word, (c ∷ cs) ++ more, ap (λ x. x ++ more) e ∙ append_assoc word (c ∷ cs) more, a, ends, l, b, unfit)

byte_follows : (rest more : List ℕ) → IsBadByte rest → IsBadByte (rest ++ more)
byte_follows [] more h = absurd h
byte_follows (c ∷ cs) more h = h

-- an escape that goes on
both_pass : (p q : ℕ → Bool) (xs : List ℕ) → list_all (λ b. p b && q b) xs ≡ true → (list_all p xs ≡ true) × (list_all q xs ≡ true)
both_pass p q [] a = (refl, refl)
both_pass p q (x ∷ xs) a =
    let h = and_parts (p x && q x) (list_all (λ b. p b && q b) xs) a in
    let first = and_parts (p x) (q x) h.0 in
    let others = both_pass p q xs h.1 in
    (and_from (p x) (list_all p xs) first.0 others.0, and_from (q x) (list_all q xs) first.1 others.1)

one_fails : (q p : Bool) → (not q && not p) ≡ false → (p ≡ true) ⊎ (q ≡ true)
one_fails true p e = inr refl
one_fails false true e = inl refl
one_fails false false e = absurd (cc e)

ends_escape : (after : List ℕ) → EndsRun (λ b. not (is_quote b) && not (is_percent b)) after → EndsEscape after
ends_escape [] e = tt
ends_escape (c ∷ cs) e = ⊎_elim (λ p. inl (eqb-true c 37 p)) (λ q. inr (eqb-true c 34 q)) (one_fails (is_quote c) (is_percent c) e)

string_whole : (rest front escape m more : List ℕ) → rest ≡ 34 ∷ (front ++ 37 ∷ (escape ++ m)) → rest ++ more ≡ 34 ∷ (front ++ 37 ∷ (escape ++ (m ++ more)))
string_whole rest front escape m more e =
    ap (λ x. x ++ more) e ∙ ap (λ l. 34 ∷ l) (append_assoc front (37 ∷ (escape ++ m)) more ∙ ap (λ l. front ++ 37 ∷ l) (append_assoc escape m more))

abbrev StandsSome : List ℕ → Type 0
StandsSome front = (escapes : List (List ℕ)) × (text : List ℕ) × StandsFor escapes front text

escape_follows : (rest more front escape m : List ℕ) (offset : ℕ) → rest ≡ 34 ∷ (front ++ 37 ∷ (escape ++ m)) → offset ≡ length front + 1 → is_unquoted front ≡ true → StandsSome front → is_unquoted escape ≡ true → has_no_percent escape ≡ true → EndsEscape m → ((codes : List ℕ) → IsCodes escape codes → ⊥) ⊎ BeginsWithQuote m → IsBadEscape (rest ++ more) offset
escape_follows rest more front escape [] offset e o u stands v plain ends bad =
    let s = span (λ b. not (is_quote b) && not (is_percent b)) more in
    let both = both_pass (λ b. not (is_quote b)) (λ b. not (is_percent b)) s.run s.passes in
    let unfit : (codes : List ℕ) → IsCodes escape codes → ⊥ = ⊎_elim (λ n. n) (λ q. absurd q) bad in
    let parts : escape ++ more ≡ (escape ++ s.run) ++ s.rest = ap (λ l. escape ++ l) s.whole ∙ sym (append_assoc escape s.run s.rest) in (
      front,
      escape ++ s.run,
      s.rest,
      string_whole rest front escape [] more e ∙ ap (λ l. 34 ∷ (front ++ 37 ∷ l)) parts,
      o,
      u,
      stands,
      all_append (λ b. not (is_quote b)) escape s.run v both.0,
      all_append (λ b. not (is_percent b)) escape s.run plain both.1,
      ends_escape s.rest s.ends,
      inl (λ codes h. (let f = codes_front codes escape s.run h in unfit f.0 f.1)),
    )
escape_follows rest more front escape (c ∷ cs) offset e o u stands v plain ends bad = (front, escape, (c ∷ cs) ++ more, string_whole rest front escape (c ∷ cs) more e, o, u, stands, v, plain, ends, bad)

-- a fault that is neither an open string nor a mark alone
stands_follow : (kind : LexKind) (rest more : List ℕ) (offset : ℕ) → (kind ≡ BadString → ⊥) → (offset ≡ 0 → NoMark rest) → StandsAt kind rest offset → StandsAt kind (rest ++ more) offset
stands_follow BadNumber rest more offset string lone h = (h.0, number_follows rest h.1.0 h.1.1 more (lone h.0) h.1.2 h.1.3 h.1.4 h.1.5 h.1.6)
stands_follow BadByte rest more offset string lone h =
    (h.0, ⊎_elim (λ w. inl (word_follows rest w.0 w.1 more (lone h.0) w.2 w.3 w.4 w.5 w.6 w.7)) (λ b. inr (byte_follows rest more b)) h.1)
stands_follow BadEscape rest more offset string lone h = escape_follows rest more h.0 h.1 h.2 offset h.3 h.4 h.5 h.6 h.7 h.8 h.9 h.10
stands_follow BadString rest more offset string lone h = absurd (string refl)

pub fault_follows : (bytes more : List ℕ) (fault : Fault) → lex_fault bytes ≡ Some fault → (IsMadeByEnd bytes fault → ⊥) → lexed 0 0 (bytes ++ more) ≡ record { tokens = tokens bytes; fault = Some fault }
fault_follows bytes more fault f free =
    let h = first_stands bytes fault f in
    let rest : List ℕ = h.0 in
    let offset : ℕ = h.1 in
    let count : fault.place + length rest ≡ 0 + length bytes + offset = h.4 in
    let w = whole_front 0 bytes (tokens bytes) rest h.2 in
    let long = ap length w.1 in
    let lone : offset ≡ 0 → NoMark rest = λ o mark m e. free (inr (w.0, mark, w.1 ∙ ap (λ x. w.0 ++ x) e, m, (let one = ap length e in omega (arith, length-append w.0 rest)))) in
    standing_is_first (bytes ++ more) (tokens bytes) fault (
      rest ++ more,
      offset,
      front_follows 0 bytes (tokens bytes) rest more (stands_filled fault.kind rest offset h.3) h.2,
      stands_follow fault.kind rest more offset (λ k. free (inl k)) lone h.3,
      omega (arith, length-append bytes more, length-append rest more),
    )
