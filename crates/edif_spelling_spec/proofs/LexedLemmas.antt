-- What is read of a text, one spelling after another.
use Rattle.std.proofs.Common.{◌≡◌, ℕ, ◌+◌, Bool, true, false, not, List, [], ◌∷◌, ◌++◌, length, None, Some, Ok, Err, refl, sym, ap, ◌∙◌, arith, append_assoc, add-zero, append-nil, length-append, ltb, ◌<◌, cond, eqb, ⊎_elim}
use Rattle.std.specs.List.{take_while, list_all, before_first}
use Rattle.std.proofs.lemmas.Bool.{lt-ltb, and_parts, and_from, cases_Bool}
use Rattle.std.proofs.lemmas.List.Sums.{take_while-cons}
use Rattle.edif_spelling_spec.specs.Bytes.{is_space, is_word_byte, is_quote, is_unquoted, EndsRun}
use Rattle.edif_spelling_spec.specs.Words.{word_kind}
use Rattle.edif_spelling_spec.specs.Strings.{segments, value, escape_fault}
use Rattle.edif_spelling_spec.specs.Lexing.{Lexed, Space, Spelling, Bad, first, first_word, first_string, closed_string, open_string, before, read_on, lexed}
use Rattle.edif_spelling_spec.specs.declared.token.TokenKind.{TokenKind}
use Rattle.edif_spelling_spec.specs.declared.token.TokenKind.TheVariants.{LeftParen, RightParen, String}
use Rattle.edif_spelling_spec.specs.declared.token.LexKind.{LexKind}
use Rattle.edif_spelling_spec.specs.declared.token.LexKind.TheVariants.{BadByte, BadEscape, BadString}

-- the bytes of a spelling that began before are passed over
pub lexed_skip : (w rest : List ℕ) (place : ℕ) → lexed place (length w) (w ++ rest) ≡ lexed (place + length w) 0 rest
unfolding lexed
lexed_skip [] rest place = ap (λ n. lexed n 0 rest) (sym (add-zero place))
lexed_skip (b ∷ bs) rest place = lexed_skip bs rest (place + 1) ∙ ap (λ n. lexed n 0 rest) (omega arith)

pub lexed_nil : (place : ℕ) → lexed place 0 [] ≡ record { tokens = []; fault = None }
unfolding lexed
lexed_nil place = refl

pub lexed_step : (place b : ℕ) (bytes : List ℕ) → lexed place 0 (b ∷ bytes) ≡ read_on (first b bytes) place (λ n. lexed (place + 1) n bytes)
unfolding lexed
lexed_step place b bytes = refl

-- the token of a spelling, and then what follows
pub lexed_spelling : (place b : ℕ) (bs rest : List ℕ) (kind : TokenKind) → first b (bs ++ rest) ≡ Spelling kind (length (b ∷ bs)) → lexed place 0 ((b ∷ bs) ++ rest) ≡ before (record { kind = kind; place = place } ∷ []) (lexed (place + length (b ∷ bs)) 0 rest)
lexed_spelling place b bs rest kind e =
    lexed_step place b (bs ++ rest) ∙ ap (λ f. read_on f place (λ n. lexed (place + 1) n (bs ++ rest))) e
    ∙ ap (λ r. before (record { kind = kind; place = place } ∷ []) r) (ap (λ n. lexed (place + 1) n (bs ++ rest)) (omega arith) ∙ lexed_skip bs rest (place + 1) ∙ ap (λ n. lexed n 0 rest) (omega arith))

-- nothing is read but this fault
abbrev pub fault_at : LexKind → ℕ → Lexed
fault_at kind place = record { tokens = []; fault = Some (record { kind = kind; place = place }) }

pub lexed_bad : (place b : ℕ) (bytes : List ℕ) (kind : LexKind) (at : ℕ) → first b bytes ≡ Bad kind at → lexed place 0 (b ∷ bytes) ≡ record { tokens = []; fault = Some (record { kind = kind; place = place + at }) }
lexed_bad place b bytes kind at e = lexed_step place b bytes ∙ ap (λ f. read_on f place (λ n. lexed (place + 1) n bytes)) e

first_of_space : (b : ℕ) (bytes : List ℕ) → is_space b ≡ true → first b bytes ≡ Space
unfolding first
first_of_space b bytes e = rw e refl

pub lexed_space : (place b : ℕ) (bytes : List ℕ) → is_space b ≡ true → lexed place 0 (b ∷ bytes) ≡ lexed (place + 1) 0 bytes
lexed_space place b bytes e = lexed_step place b bytes ∙ ap (λ f. read_on f place (λ n. lexed (place + 1) n bytes)) (first_of_space b bytes e)

pub lexed_left : (place : ℕ) (bytes : List ℕ) → lexed place 0 (40 ∷ bytes) ≡ before (record { kind = LeftParen; place = place } ∷ []) (lexed (place + 1) 0 bytes)
unfolding first
lexed_left place bytes = lexed_step place 40 bytes

pub lexed_right : (place : ℕ) (bytes : List ℕ) → lexed place 0 (41 ∷ bytes) ≡ before (record { kind = RightParen; place = place } ∷ []) (lexed (place + 1) 0 bytes)
unfolding first
lexed_right place bytes = lexed_step place 41 bytes

-- a byte of a word is none of the others
pub word_byte_no_space : (b : ℕ) → is_word_byte b ≡ true → is_space b ≡ false
word_byte_no_space b e = grind arith

pub word_byte_no_left : (b : ℕ) → is_word_byte b ≡ true → eqb b 40 ≡ false
word_byte_no_left b e = grind arith

pub word_byte_no_right : (b : ℕ) → is_word_byte b ≡ true → eqb b 41 ≡ false
word_byte_no_right b e = grind arith

pub word_byte_no_quote : (b : ℕ) → is_word_byte b ≡ true → is_quote b ≡ false
word_byte_no_quote b e = grind arith

first_of_word : (b : ℕ) (bytes : List ℕ) → is_word_byte b ≡ true → first b bytes ≡ first_word (take_while is_word_byte (b ∷ bytes)) (word_kind (take_while is_word_byte (b ∷ bytes)))
unfolding first
first_of_word b bytes e = rw (word_byte_no_space b e, word_byte_no_left b e, word_byte_no_right b e, word_byte_no_quote b e, e) refl

first_of_other : (b : ℕ) (bytes : List ℕ) → is_space b ≡ false → eqb b 40 ≡ false → eqb b 41 ≡ false → is_quote b ≡ false → is_word_byte b ≡ false → first b bytes ≡ Bad BadByte 0
unfolding first
first_of_other b bytes s l r q w = rw (s, l, r, q, w) refl

first_of_quote : (bytes : List ℕ) → first 34 bytes ≡ first_string bytes
unfolding first
first_of_quote bytes = refl

pub lexed_other : (place b : ℕ) (bytes : List ℕ) → is_space b ≡ false → eqb b 40 ≡ false → eqb b 41 ≡ false → is_quote b ≡ false → is_word_byte b ≡ false → lexed place 0 (b ∷ bytes) ≡ record { tokens = []; fault = Some (record { kind = BadByte; place = place }) }
lexed_other place b bytes s l r q w = lexed_bad place b bytes BadByte 0 (first_of_other b bytes s l r q w) ∙ ap (fault_at BadByte) (add-zero place)

-- a run is what passes up to the first that does not
pub take_while-run : (p : ℕ → Bool) (w rest : List ℕ) → list_all p w ≡ true → EndsRun p rest → take_while p (w ++ rest) ≡ w
take_while-run p [] [] a e = refl
take_while-run p [] (b ∷ bs) a e = take_while-cons p b bs ∙ ap (λ t. cond t (b ∷ take_while p bs) []) e
take_while-run p (c ∷ cs) rest a e =
    let parts = and_parts (p c) (list_all p cs) a in take_while-cons p c (cs ++ rest)
    ∙ ap (λ t. cond t (c ∷ take_while p (cs ++ rest)) []) parts.0 ∙ ap (λ l. c ∷ l) (take_while-run p cs rest parts.1 e)

first_of_run : (b : ℕ) (bs rest : List ℕ) → list_all is_word_byte (b ∷ bs) ≡ true → EndsRun is_word_byte rest → first b (bs ++ rest) ≡ first_word (b ∷ bs) (word_kind (b ∷ bs))
first_of_run b bs rest a e =
    first_of_word b (bs ++ rest) (and_parts (is_word_byte b) (list_all is_word_byte bs) a).0
    ∙ ap (λ w. first_word w (word_kind w)) (take_while-run is_word_byte (b ∷ bs) rest a e)

-- a longest run of bytes of words is read as one word
pub lexed_word_ok : (place : ℕ) (w rest : List ℕ) (kind : TokenKind) → 0 < length w → list_all is_word_byte w ≡ true → EndsRun is_word_byte rest → word_kind w ≡ Ok kind → lexed place 0 (w ++ rest) ≡ before (record { kind = kind; place = place } ∷ []) (lexed (place + length w) 0 rest)
lexed_word_ok place [] rest kind l a e k = absurd (omega arith)
lexed_word_ok place (b ∷ bs) rest kind l a e k = lexed_spelling place b bs rest kind (first_of_run b bs rest a e ∙ ap (first_word (b ∷ bs)) k)

pub lexed_word_bad : (place : ℕ) (w rest : List ℕ) (fault : LexKind) → 0 < length w → list_all is_word_byte w ≡ true → EndsRun is_word_byte rest → word_kind w ≡ Err fault → lexed place 0 (w ++ rest) ≡ fault_at fault place
lexed_word_bad place [] rest fault l a e k = absurd (omega arith)
lexed_word_bad place (b ∷ bs) rest fault l a e k = lexed_bad place b (bs ++ rest) fault 0 (first_of_run b bs rest a e ∙ ap (first_word (b ∷ bs)) k) ∙ ap (fault_at fault) (add-zero place)

before_quote : (body more : List ℕ) → is_unquoted body ≡ true → before_first is_quote (body ++ 34 ∷ more) ≡ body
before_quote body more u = take_while-run (λ b. not (is_quote b)) body (34 ∷ more) u refl

before_end : (body : List ℕ) → is_unquoted body ≡ true → before_first is_quote body ≡ body
before_end body u = ap (before_first is_quote) (sym (append-nil body)) ∙ take_while-run (λ b. not (is_quote b)) body [] u tt

first_string_closed : (body more : List ℕ) → is_unquoted body ≡ true → first_string (body ++ 34 ∷ more) ≡ closed_string body (escape_fault true 0 (segments body))
first_string_closed body more u =
    ap (λ b. cond (ltb (length b) (length (body ++ 34 ∷ more))) (closed_string b (escape_fault true 0 (segments b))) (open_string (escape_fault false 0 (segments b)))) (before_quote body more u)
    ∙ ap (λ t. cond t (closed_string body (escape_fault true 0 (segments body))) (open_string (escape_fault false 0 (segments body)))) (lt-ltb (length body) (length (body ++ 34 ∷ more)) (omega (arith, length-append body (34 ∷ more))))

first_string_open : (body : List ℕ) → is_unquoted body ≡ true → first_string body ≡ open_string (escape_fault false 0 (segments body))
first_string_open body u =
    let over : ltb (length body) (length body) ≡ false = grind arith in
    ap (λ b. cond (ltb (length b) (length body)) (closed_string b (escape_fault true 0 (segments b))) (open_string (escape_fault false 0 (segments b)))) (before_end body u)
    ∙ ap (λ t. cond t (closed_string body (escape_fault true 0 (segments body))) (open_string (escape_fault false 0 (segments body)))) over

pub lexed_string_ok : (place : ℕ) (body more : List ℕ) → is_unquoted body ≡ true → escape_fault true 0 (segments body) ≡ None → lexed place 0 (34 ∷ (body ++ 34 ∷ more)) ≡ before (record { kind = String (value (segments body)); place = place } ∷ []) (lexed (place + length body + 2) 0 more)
lexed_string_ok place body more u e =
    let kind : TokenKind = String (value (segments body)) in
    let regrouped : (body ++ 34 ∷ []) ++ more ≡ body ++ 34 ∷ more = append_assoc body (34 ∷ []) more in
    let size : length (body ++ 34 ∷ []) + 1 ≡ length body + 2 = omega (arith, length-append body (34 ∷ [])) in
    let read : first 34 ((body ++ 34 ∷ []) ++ more) ≡ Spelling kind (length (34 ∷ (body ++ 34 ∷ []))) =
    ap (first 34) regrouped ∙ first_of_quote (body ++ 34 ∷ more) ∙ first_string_closed body more u ∙ ap (closed_string body) e ∙ ap (Spelling kind) (omega arith) in
    ap (λ bs. lexed place 0 (34 ∷ bs)) (sym regrouped) ∙ lexed_spelling place 34 (body ++ 34 ∷ []) more kind read
    ∙ ap (λ n. before (record { kind = kind; place = place } ∷ []) (lexed n 0 more)) (omega arith)

pub lexed_string_bad : (place : ℕ) (body more : List ℕ) (at : ℕ) → is_unquoted body ≡ true → escape_fault true 0 (segments body) ≡ Some at → lexed place 0 (34 ∷ (body ++ 34 ∷ more)) ≡ fault_at BadEscape (place + at + 1)
lexed_string_bad place body more at u e =
    lexed_bad place 34 (body ++ 34 ∷ more) BadEscape (at + 1) (first_of_quote (body ++ 34 ∷ more) ∙ first_string_closed body more u ∙ ap (closed_string body) e)
    ∙ ap (fault_at BadEscape) (omega arith)

pub lexed_open_bad : (place : ℕ) (body : List ℕ) (at : ℕ) → is_unquoted body ≡ true → escape_fault false 0 (segments body) ≡ Some at → lexed place 0 (34 ∷ body) ≡ fault_at BadEscape (place + at + 1)
lexed_open_bad place body at u e =
    lexed_bad place 34 body BadEscape (at + 1) (first_of_quote body ∙ first_string_open body u ∙ ap open_string e)
    ∙ ap (fault_at BadEscape) (omega arith)

pub lexed_open : (place : ℕ) (body : List ℕ) → is_unquoted body ≡ true → escape_fault false 0 (segments body) ≡ None → lexed place 0 (34 ∷ body) ≡ fault_at BadString place
lexed_open place body u e =
    lexed_bad place 34 body BadString 0 (first_of_quote body ∙ first_string_open body u ∙ ap open_string e)
    ∙ ap (fault_at BadString) (add-zero place)

-- what the bytes of a run are, and what follows it
pub record Span (p : ℕ → Bool) (bytes : List ℕ) : Type 0 where
  pub run : List ℕ
  pub rest : List ℕ
  pub whole : bytes ≡ run ++ rest
  pub passes : list_all p run ≡ true
  pub ends : EndsRun p rest

span_more : (p : ℕ → Bool) (b : ℕ) (bs : List ℕ) → p b ≡ true → Span p bs → Span p (b ∷ bs)
span_more p b bs e s = record { run = b ∷ s.run; rest = s.rest; whole = ap (λ l. b ∷ l) s.whole; passes = and_from (p b) (list_all p s.run) e s.passes; ends = s.ends }

pub span : (p : ℕ → Bool) (bytes : List ℕ) → Span p bytes
span p [] = record { run = []; rest = []; whole = refl; passes = refl; ends = tt }
span p (b ∷ bs) = ⊎_elim (λ e. span_more p b bs e (span p bs)) (λ e. record { run = []; rest = b ∷ bs; whole = refl; passes = refl; ends = e }) (cases_Bool (p b))
