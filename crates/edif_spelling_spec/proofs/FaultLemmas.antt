-- The first fault of a text stands where its spellings end, and what stands so is the first fault.
use Rattle.std.proofs.Common.{◌≡◌, ℕ, zero, suc, ◌+◌, ◌<◌, ◌≤◌, Bool, true, false, not, ◌⊎◌, List, [], ◌∷◌, ◌++◌, length, Option, None, Some, Result, Ok, Err, refl, sym, ap, ◌∙◌, subst, arith, append_assoc, append-nil, length-append, eqb, ◌-◌, inl, inr, ⊎_elim, add-zero, ℤ}
use Rattle.std.proofs.lemmas.Bool.{and_parts, and_from, cases_Bool, cond-true, cond-false, eqb-true, not-false}
use Rattle.std.specs.List.{list_all}
use Rattle.edif_spelling_spec.specs.Bytes.{is_space, is_word_byte, is_quote, is_percent, is_unquoted, has_no_percent, EndsRun}
use Rattle.edif_spelling_spec.specs.Words.{word_kind, integer, identifier, begins_number, or_fault}
use Rattle.edif_spelling_spec.specs.Strings.{segments, value, escape_fault, is_escape}
use Rattle.edif_spelling_spec.specs.Lexing.{Fault, before, lexed, tokens, lex_fault}
use Rattle.edif_spelling_spec.specs.Grammar.{SpellsName, SpellsInteger, SpellsToken, EndsBefore, IsCodes, StandsFor}
use Rattle.edif_spelling_spec.specs.LexFaults.{IsFront, IsBadByte, EndsEscape, BeginsWithQuote, IsBadEscape, StandsAt, FaultAfter}
use Rattle.edif_spelling_spec.specs.declared.token.Token.{Token}
use Rattle.edif_spelling_spec.specs.declared.token.TokenKind.{TokenKind}
use Rattle.edif_spelling_spec.specs.declared.token.TokenKind.TheVariants.{LeftParen, RightParen, Word, Integer, String}
use Rattle.edif_spelling_spec.specs.declared.token.LexKind.{LexKind}
use Rattle.edif_spelling_spec.specs.declared.token.LexKind.TheVariants.{BadNumber, BadByte, BadEscape, BadString}
use Rattle.edif_spelling_spec.proofs.TextLemmas.{stands_value, value_stands, fault_closed_escape, fault_left_open, fault_bad_open, no_fault_open, no_codes, codes_good, BadPart, OpenPart, bad_escape_at, open_part}
use Rattle.edif_spelling_spec.proofs.LexedLemmas.{lexed_nil, span, fault_at, lexed_space, lexed_other, lexed_word_bad, lexed_string_bad, lexed_open, lexed_open_bad}
use Rattle.edif_spelling_spec.proofs.RowLemmas.{name_word, integer_word, lexed_gap, lexed_spelled, integer_spells, identifier_spells, word_spells}

-- spellings in front are read as their tokens
pub front_is_read : (place after : ℕ) (bytes : List ℕ) (ts : List Token) (rest : List ℕ) → IsFront place bytes ts rest → after + length rest ≡ place + length bytes → lexed place 0 bytes ≡ before ts (lexed after 0 rest)
front_is_read place after bytes [] rest front e =
    let long = ap length front.1 in
    ap (lexed place 0) front.1 ∙ lexed_gap place front.0 rest front.2 ∙ ap (λ n. lexed n 0 rest) (omega (arith, length-append front.0 rest))
front_is_read place after bytes (t ∷ ts) rest front e =
    let gap : List ℕ = front.0 in
    let s : List ℕ = front.1 in
    let others : List ℕ = front.2 in
    let long = ap length front.3 in
    let same : after + length rest ≡ place + length gap + length s + length others = omega (arith, length-append gap (s ++ others), length-append s others) in
    ap (lexed place 0) front.3 ∙ lexed_gap place gap (s ++ others) front.4 ∙ lexed_spelled (place + length gap) s others t.kind front.6 front.7
    ∙ ap (before (record { kind = t.kind; place = place + length gap } ∷ [])) (front_is_read (place + length gap + length s) after others ts rest front.8 same)
    ∙ ap (λ n. before (record { kind = t.kind; place = n } ∷ ts) (lexed after 0 rest)) (sym front.5)

-- words that are no tokens
no_integer : (x : ℕ) (xs : List ℕ) → ((n : ℤ) → SpellsInteger (x ∷ xs) n → ⊥) → (o : Option ℤ) → integer (x ∷ xs) ≡ o → or_fault Integer BadNumber o ≡ Err BadNumber
no_integer x xs unfit None e = refl
no_integer x xs unfit (Some n) e = absurd (unfit n (integer_spells x xs n e))

no_identifier : (x : ℕ) (xs : List ℕ) → ((name : List ℕ) → SpellsName (x ∷ xs) name → ⊥) → (o : Option (List ℕ)) → identifier (x ∷ xs) ≡ o → or_fault Word BadByte o ≡ Err BadByte
no_identifier x xs unfit None e = refl
no_identifier x xs unfit (Some name) e = absurd (unfit name (identifier_spells x xs name e))

number_bad : (word : List ℕ) → begins_number word ≡ true → ((n : ℤ) → SpellsInteger word n → ⊥) → (0 < length word) × (word_kind word ≡ Err BadNumber)
unfolding word_kind
number_bad [] b unfit = cc
number_bad (x ∷ xs) b unfit =
    let none : (o : Option ℤ) → integer (x ∷ xs) ≡ o → or_fault Integer BadNumber o ≡ Err BadNumber = no_integer x xs unfit in
    (omega arith, cond-true (begins_number (x ∷ xs)) (or_fault Integer BadNumber (integer (x ∷ xs))) (or_fault Word BadByte (identifier (x ∷ xs))) b ∙ none (integer (x ∷ xs)) refl)

name_bad : (word : List ℕ) → begins_number word ≡ false → 0 < length word → ((name : List ℕ) → SpellsName word name → ⊥) → word_kind word ≡ Err BadByte
unfolding word_kind
name_bad [] b l unfit = absurd (omega arith)
name_bad (x ∷ xs) b l unfit =
    cond-false (begins_number (x ∷ xs)) (or_fault Integer BadNumber (integer (x ∷ xs))) (or_fault Word BadByte (identifier (x ∷ xs))) b ∙ no_identifier x xs unfit (identifier (x ∷ xs)) refl

pub all_append : (p : ℕ → Bool) (xs ys : List ℕ) → list_all p xs ≡ true → list_all p ys ≡ true → list_all p (xs ++ ys) ≡ true
all_append p [] ys a b = b
all_append p (x ∷ xs) ys a b = let h = and_parts (p x) (list_all p xs) a in and_from (p x) (list_all p (xs ++ ys)) h.0 (all_append p xs ys h.1 b)

pub all_parts : (p : ℕ → Bool) (xs ys : List ℕ) → list_all p (xs ++ ys) ≡ true → (list_all p xs ≡ true) × (list_all p ys ≡ true)
all_parts p [] ys a = (refl, a)
all_parts p (x ∷ xs) ys a =
    let h = and_parts (p x) (list_all p (xs ++ ys)) a in
    let more = all_parts p xs ys h.1 in (and_from (p x) (list_all p xs) h.0 more.0, more.1)

escape_unquoted : (front escape : List ℕ) → is_unquoted front ≡ true → is_unquoted escape ≡ true → is_unquoted (front ++ 37 ∷ escape) ≡ true
escape_unquoted front escape u v = all_append (λ x. not (is_quote x)) front (37 ∷ escape) u v

-- an escape that is no codes, and goes on to its closing `%`
percent_is_read : (place : ℕ) (front escape run r : List ℕ) (escapes : List (List ℕ)) (text : List ℕ) → is_unquoted front ≡ true → StandsFor escapes front text → is_unquoted escape ≡ true → has_no_percent escape ≡ true → is_escape escape ≡ false → is_unquoted run ≡ true → EndsRun (λ x. not (is_quote x)) r → lexed place 0 (34 ∷ (front ++ 37 ∷ (escape ++ 37 ∷ (run ++ r)))) ≡ fault_at BadEscape (place + length front + 1)
percent_is_read place front escape run [] escapes text u h v p e w ends =
    let body : List ℕ = front ++ 37 ∷ (escape ++ 37 ∷ run) in
    ap (λ l. lexed place 0 (34 ∷ (front ++ 37 ∷ (escape ++ 37 ∷ l)))) (append-nil run)
    ∙ lexed_open_bad place body (length front) (escape_unquoted front (escape ++ 37 ∷ run) u (escape_unquoted escape run v w)) (fault_closed_escape false escapes front text escape run h p e)
percent_is_read place front escape run (c ∷ m) escapes text u h v p e w ends =
    let body : List ℕ = front ++ 37 ∷ (escape ++ 37 ∷ run) in
    let quote : c ≡ 34 = eqb-true c 34 (not-false (is_quote c) ends) in
    let whole : front ++ 37 ∷ (escape ++ 37 ∷ (run ++ 34 ∷ m)) ≡ body ++ 34 ∷ m =
    ap (λ l. front ++ 37 ∷ l) (sym (append_assoc escape (37 ∷ run) (34 ∷ m))) ∙ sym (append_assoc front (37 ∷ (escape ++ 37 ∷ run)) (34 ∷ m)) in
    ap (λ x. lexed place 0 (34 ∷ (front ++ 37 ∷ (escape ++ 37 ∷ (run ++ x ∷ m))))) quote ∙ ap (λ l. lexed place 0 (34 ∷ l)) whole
    ∙ lexed_string_bad place body m (length front) (escape_unquoted front (escape ++ 37 ∷ run) u (escape_unquoted escape run v w)) (fault_closed_escape true escapes front text escape run h p e)

escape_is_read : (place : ℕ) (front escape more : List ℕ) (escapes : List (List ℕ)) (text : List ℕ) → is_unquoted front ≡ true → StandsFor escapes front text → is_unquoted escape ≡ true → has_no_percent escape ≡ true → EndsEscape more → ((codes : List ℕ) → IsCodes escape codes → ⊥) ⊎ BeginsWithQuote more → lexed place 0 (34 ∷ (front ++ 37 ∷ (escape ++ more))) ≡ fault_at BadEscape (place + length front + 1)
escape_is_read place front escape [] escapes text u h v p ends bad =
    let e : is_escape escape ≡ false = ⊎_elim (λ unfit. no_codes escape unfit) (λ q. absurd q) bad in
    ap (λ l. lexed place 0 (34 ∷ (front ++ 37 ∷ l))) (append-nil escape)
    ∙ lexed_open_bad place (front ++ 37 ∷ escape) (length front) (escape_unquoted front escape u v) (fault_bad_open escapes front text escape h p e)
escape_is_read place front escape (c ∷ m) escapes text u h v p ends bad = ⊎_elim
    (λ percent.
    let e : is_escape escape ≡ false = ⊎_elim (λ unfit. no_codes escape unfit) (λ q. absurd (omega arith)) bad in
    let s = span (λ x. not (is_quote x)) m in
    ap (λ x. lexed place 0 (34 ∷ (front ++ 37 ∷ (escape ++ x ∷ m)))) percent ∙ ap (λ l. lexed place 0 (34 ∷ (front ++ 37 ∷ (escape ++ 37 ∷ l)))) s.whole
    ∙ percent_is_read place front escape s.run s.rest escapes text u h v p e s.passes s.ends)
    (λ quote.
    ap (λ x. lexed place 0 (34 ∷ (front ++ 37 ∷ (escape ++ x ∷ m)))) quote ∙ ap (λ l. lexed place 0 (34 ∷ l)) (sym (append_assoc front (37 ∷ escape) (34 ∷ m)))
    ∙ lexed_string_bad place (front ++ 37 ∷ escape) m (length front) (escape_unquoted front escape u v) (fault_left_open escapes front text escape h p))
    ends

string_is_read : (place : ℕ) (body : List ℕ) → is_unquoted body ≡ true → OpenPart body → lexed place 0 (34 ∷ body) ≡ fault_at BadString place
string_is_read place body u o = lexed_open place body u (⊎_elim
    (λ s. (stands_value false s.0 body s.1 0 s.2).0)
    (λ s. ap (λ b. escape_fault false 0 (segments b)) s.3 ∙ no_fault_open s.4.0 s.0 s.4.1 s.1 s.2 s.4.2 s.5)
    o)

byte_is_read : (place : ℕ) (rest : List ℕ) → IsBadByte rest → lexed place 0 rest ≡ fault_at BadByte place
byte_is_read place [] h = absurd h
byte_is_read place (b ∷ bs) h = lexed_other place b bs h.0 h.1 h.2 h.3 h.4

at_zero : (kind : LexKind) (place offset : ℕ) → offset ≡ 0 → fault_at kind place ≡ fault_at kind (place + offset)
at_zero kind place offset e = ap (fault_at kind) (omega arith)

-- a fault is read where it stands
fault_is_read : (place : ℕ) (kind : LexKind) (rest : List ℕ) (offset : ℕ) → StandsAt kind rest offset → lexed place 0 rest ≡ fault_at kind (place + offset)
fault_is_read place BadNumber rest offset h =
    let word : List ℕ = h.1.0 in
    let bad = number_bad word h.1.5 h.1.6 in
    ap (lexed place 0) h.1.2 ∙ lexed_word_bad place word h.1.1 BadNumber bad.0 h.1.3 h.1.4 bad.1 ∙ at_zero BadNumber place offset h.0
fault_is_read place BadByte rest offset h =
    ⊎_elim
    (λ w. ap (lexed place 0) w.2 ∙ lexed_word_bad place w.0 w.1 BadByte w.5 w.3 w.4 (name_bad w.0 w.6 w.5 w.7))
    (λ b. byte_is_read place rest b)
    h.1 ∙ at_zero BadByte place offset h.0
fault_is_read place BadEscape rest offset h =
    ap (lexed place 0) h.3 ∙ escape_is_read place h.0 h.1 h.2 h.6.0 h.6.1 h.5 h.6.2 h.7 h.8 h.9 h.10 ∙ ap (fault_at BadEscape) (let o = h.4 in omega arith)
fault_is_read place BadString rest offset h = ap (lexed place 0) h.1.1 ∙ string_is_read place h.1.0 h.1.2 h.1.3 ∙ at_zero BadString place offset h.0

-- what stands so is read as this fault, after these tokens
pub front_long : (place : ℕ) (bytes : List ℕ) (ts : List Token) (rest : List ℕ) → IsFront place bytes ts rest → length rest ≤ length bytes
front_long place bytes [] rest front = let long = ap length front.1 in omega (arith, length-append front.0 rest)
front_long place bytes (t ∷ ts) rest front =
    let inner = front_long (place + length front.0 + length front.1) front.2 ts rest front.8 in
    let long = ap length front.3 in omega (arith, length-append front.0 (front.1 ++ front.2), length-append front.1 front.2)

pub standing_is_first : (bytes : List ℕ) (ts : List Token) (fault : Fault) → FaultAfter 0 bytes ts fault → lexed 0 0 bytes ≡ record { tokens = ts; fault = Some fault }
standing_is_first bytes ts fault h =
    let rest : List ℕ = h.0 in
    let offset : ℕ = h.1 in
    let count = h.4 in
    let short = front_long 0 bytes ts rest h.2 in
    let after : (length bytes - length rest) + length rest ≡ 0 + length bytes = omega arith in
    let place : length bytes - length rest + offset ≡ fault.place = omega arith in
    front_is_read 0 (length bytes - length rest) bytes ts rest h.2 after ∙ ap (before ts) (fault_is_read (length bytes - length rest) fault.kind rest offset h.3)
    ∙ ap (λ l. record { tokens = l; fault = Some (record { kind = fault.kind; place = length bytes - length rest + offset }) }) (append-nil ts)
    ∙ ap (λ n. record { tokens = ts; fault = Some (record { kind = fault.kind; place = n }) }) place

-- the fault at the beginning of the bytes
here : (place : ℕ) (bytes : List ℕ) (kind : LexKind) (at offset : ℕ) (fault : Fault) → lexed place 0 bytes ≡ fault_at kind at → at ≡ place + offset → StandsAt kind bytes offset → (lexed place 0 bytes).fault ≡ Some fault → FaultAfter place bytes (lexed place 0 bytes).tokens fault
here place bytes kind at offset fault e a stands f =
    let both = sym (ap (λ l. l.fault) e) ∙ f in
    let found : Fault = record { kind = kind; place = at } in
    let same : found ≡ fault = cc in
    let Q : Fault → Type 0 = λ x. FaultAfter place bytes [] x in
    let T : List Token → Type 0 = λ ts. FaultAfter place bytes ts fault in
    subst T (sym (ap (λ l. l.tokens) e)) (subst Q same (bytes, offset, ([], refl, refl), stands, omega arith))

front_space : (place b : ℕ) (bs : List ℕ) (ts : List Token) (rest : List ℕ) → is_space b ≡ true → IsFront (place + 1) bs ts rest → IsFront place (b ∷ bs) ts rest
front_space place b bs [] rest e f = (b ∷ f.0, ap (λ l. b ∷ l) f.1, and_from (is_space b) (list_all is_space f.0) e f.2)
front_space place b bs (t ∷ ts) rest e f =
    let R : ℕ → Type 0 = λ n. IsFront n f.2 ts rest in (
      b ∷ f.0,
      f.1,
      f.2,
      ap (λ l. b ∷ l) f.3,
      and_from (is_space b) (list_all is_space f.0) e f.4,
      f.5 ∙ omega arith,
      f.6,
      f.7,
      let moved : place + 1 + length f.0 + length f.1 ≡ place + length (b ∷ f.0) + length f.1 = omega arith in subst R moved f.8,
    )

front_token : (place : ℕ) (s others rest : List ℕ) (kind : TokenKind) (ts : List Token) → SpellsToken s kind → EndsBefore kind others → IsFront (place + length s) others ts rest → IsFront place (s ++ others) (record { kind = kind; place = place } ∷ ts) rest
front_token place s others rest kind ts sp e f =
    let R : ℕ → Type 0 = λ n. IsFront n others ts rest in
    ([], s, others, refl, refl, sym (add-zero place), sp, e, let moved : place + length s ≡ place + 0 + length s = omega arith in subst R moved f)

abbrev Faults : ℕ → Type 0
Faults k = (place : ℕ) (bytes : List ℕ) (fault : Fault) → length bytes ≤ k → (lexed place 0 bytes).fault ≡ Some fault → FaultAfter place bytes (lexed place 0 bytes).tokens fault

abbrev Goal : ℕ → List ℕ → Fault → Type 0
Goal place bytes fault = FaultAfter place bytes (lexed place 0 bytes).tokens fault

step_token : (k place : ℕ) (bytes s others : List ℕ) (kind : TokenKind) (fault : Fault) → Faults k → bytes ≡ s ++ others → 0 < length s → length bytes ≤ suc k → SpellsToken s kind → EndsBefore kind others → (lexed place 0 bytes).fault ≡ Some fault → Goal place bytes fault
step_token k place bytes s others kind fault inner e l m sp ends f =
    let read : lexed place 0 bytes ≡ before (record { kind = kind; place = place } ∷ []) (lexed (place + length s) 0 others) = ap (lexed place 0) e ∙ lexed_spelled place s others kind sp ends in
    let long = ap length e in
    let shorter : length others ≤ k = omega (arith, length-append s others) in
    let more = inner (place + length s) others fault shorter (sym (ap (λ x. x.fault) read) ∙ f) in
    let count = more.4 in
    let T : List Token → Type 0 = λ ts. FaultAfter place bytes ts fault in
    let B : List ℕ → Type 0 = λ x. IsFront place x (record { kind = kind; place = place } ∷ (lexed (place + length s) 0 others).tokens) more.0 in
    subst T (sym (ap (λ x. x.tokens) read))
    (more.0, more.1, subst B (sym e) (front_token place s others more.0 kind (lexed (place + length s) 0 others).tokens sp ends more.2), more.3, omega (arith, length-append s others))

step_space : (k place b : ℕ) (bs : List ℕ) (fault : Fault) → Faults k → is_space b ≡ true → length (b ∷ bs) ≤ suc k → (lexed place 0 (b ∷ bs)).fault ≡ Some fault → Goal place (b ∷ bs) fault
step_space k place b bs fault inner e m f =
    let read = lexed_space place b bs e in
    let more = inner (place + 1) bs fault (omega arith) (sym (ap (λ x. x.fault) read) ∙ f) in
    let count = more.4 in
    let T : List Token → Type 0 = λ ts. FaultAfter place (b ∷ bs) ts fault in
    subst T (sym (ap (λ x. x.tokens) read)) (more.0, more.1, front_space place b bs (lexed (place + 1) 0 bs).tokens more.0 e more.2, more.3, omega arith)

-- a word that is no token
number_kind : (word : List ℕ) (kind : LexKind) (o : Option ℤ) → or_fault Integer BadNumber o ≡ Err kind → BadNumber ≡ kind
number_kind word kind None e = cc
number_kind word kind (Some n) e = cc

name_kind : (word : List ℕ) (kind : LexKind) (o : Option (List ℕ)) → or_fault Word BadByte o ≡ Err kind → BadByte ≡ kind
name_kind word kind None e = cc
name_kind word kind (Some n) e = cc

no_meaning : (word : List ℕ) (fault : LexKind) (kind : TokenKind) → word_kind word ≡ Err fault → word_kind word ≡ Ok kind → ⊥
no_meaning word fault kind e o = let both = sym e ∙ o in cc

word_stands : (word more : List ℕ) (kind : LexKind) (rest : List ℕ) → rest ≡ word ++ more → list_all is_word_byte word ≡ true → EndsRun is_word_byte more → 0 < length word → word_kind word ≡ Err kind → StandsAt kind rest 0
unfolding word_kind
word_stands word more kind rest e a ends l w = ⊎_elim
    (λ number.
    let S : LexKind → Type 0 = λ x. StandsAt x rest 0 in
    let same : BadNumber ≡ kind = number_kind word kind (integer word) (sym (cond-true (begins_number word) (or_fault Integer BadNumber (integer word)) (or_fault Word BadByte (identifier word)) number) ∙ w) in
    subst S same (refl, (word, more, e, a, ends, number, λ n sp. no_meaning word kind (Integer n) w (integer_word word n sp).meant)))
    (λ name.
    let S : LexKind → Type 0 = λ x. StandsAt x rest 0 in
    let same : BadByte ≡ kind = name_kind word kind (identifier word) (sym (cond-false (begins_number word) (or_fault Integer BadNumber (integer word)) (or_fault Word BadByte (identifier word)) name) ∙ w) in
    subst S same (refl, inl (word, more, e, a, ends, l, name, λ n sp. no_meaning word kind (Word n) w (name_word word n sp).meant)))
    (cases_Bool (begins_number word))

step_word_kind : (k place : ℕ) (bytes : List ℕ) (b : ℕ) (bs more : List ℕ) (fault : Fault) (r : Result TokenKind LexKind) → Faults k → bytes ≡ (b ∷ bs) ++ more → list_all is_word_byte (b ∷ bs) ≡ true → EndsRun is_word_byte more → word_kind (b ∷ bs) ≡ r → length bytes ≤ suc k → (lexed place 0 bytes).fault ≡ Some fault → Goal place bytes fault
step_word_kind k place bytes b bs more fault (Ok kind) inner e a ends w m f =
    let sp = word_spells b bs kind w in step_token k place bytes (b ∷ bs) more kind fault inner e (omega arith) m sp.0 (sp.1 more ends) f
step_word_kind k place bytes b bs more fault (Err kind) inner e a ends w m f =
    here place bytes kind place 0 fault (ap (lexed place 0) e ∙ lexed_word_bad place (b ∷ bs) more kind (omega arith) a ends w) (sym (add-zero place)) (word_stands (b ∷ bs) more kind bytes e a ends (omega arith) w) f

-- a bad escape of a string, and what follows its escape
ends_escape : (tail more : List ℕ) → EndsRun (λ x. not (is_percent x)) tail → EndsEscape more → EndsEscape (tail ++ more)
ends_escape [] more e m = m
ends_escape (c ∷ cs) more e m = inl (eqb-true c 37 (not-false (is_percent c) e))

unfit : (escape : List ℕ) → is_escape escape ≡ false → (codes : List ℕ) → IsCodes escape codes → ⊥
unfit escape e codes h = let both = sym e ∙ codes_good escape codes h in cc

escape_stands : (closed : Bool) (body more : List ℕ) (at : ℕ) → is_unquoted body ≡ true → EndsEscape more → ((closed ≡ true) → BeginsWithQuote more) → BadPart closed body 0 at → IsBadEscape (34 ∷ (body ++ more)) (at + 1)
escape_stands closed body more at u ends quote b =
    let U : List ℕ → Type 0 = λ x. is_unquoted x ≡ true in
    let parts = all_parts (λ x. not (is_quote x)) b.front (37 ∷ (b.escape ++ b.tail)) (subst U b.whole u) in
    let inner = all_parts (λ x. not (is_quote x)) b.escape b.tail parts.1 in
    let whole : body ++ more ≡ b.front ++ 37 ∷ (b.escape ++ (b.tail ++ more)) =
    ap (λ l. l ++ more) b.whole ∙ append_assoc b.front (37 ∷ (b.escape ++ b.tail)) more ∙ ap (λ l. b.front ++ 37 ∷ l) (append_assoc b.escape b.tail more) in
    let Q : List ℕ → Type 0 = λ x. BeginsWithQuote (x ++ more) in (
      b.front,
      b.escape,
      b.tail ++ more,
      ap (λ l. 34 ∷ l) whole,
      (let place = b.place in omega arith),
      parts.0,
      b.stands,
      inner.0,
      b.plain,
      ends_escape b.tail more b.ends ends,
      ⊎_elim (λ e. inl (unfit b.escape e)) (λ o. inr (subst Q (sym o.0) (quote o.1))) b.bad,
    )

step_closed : (k place : ℕ) (bs body more : List ℕ) (fault : Fault) (o : Option ℕ) → Faults k → bs ≡ body ++ 34 ∷ more → is_unquoted body ≡ true → escape_fault true 0 (segments body) ≡ o → length (34 ∷ bs) ≤ suc k → (lexed place 0 (34 ∷ bs)).fault ≡ Some fault → Goal place (34 ∷ bs) fault
step_closed k place bs body more fault None inner e u f m g =
    let text : List ℕ = value (segments body) in
    step_token k place (34 ∷ bs) (34 ∷ (body ++ 34 ∷ [])) more (String text) fault inner (ap (λ l. 34 ∷ l) (e ∙ sym (append_assoc body (34 ∷ []) more))) (omega arith) m (body, refl, u, value_stands body f) tt g
step_closed k place bs body more fault (Some at) inner e u f m g =
    let I : List ℕ → Type 0 = λ x. IsBadEscape (34 ∷ x) (at + 1) in
    here place (34 ∷ bs) BadEscape (place + at + 1) (at + 1) fault (ap (λ l. lexed place 0 (34 ∷ l)) e ∙ lexed_string_bad place body more at u f) (omega arith)
    (subst I (sym e) (escape_stands true body (34 ∷ more) at u (inr refl) (λ c. refl) (bad_escape_at true body at f))) g

step_open : (place : ℕ) (bs : List ℕ) (fault : Fault) (o : Option ℕ) → is_unquoted bs ≡ true → escape_fault false 0 (segments bs) ≡ o → (lexed place 0 (34 ∷ bs)).fault ≡ Some fault → Goal place (34 ∷ bs) fault
step_open place bs fault None u f g = here place (34 ∷ bs) BadString place 0 fault (lexed_open place bs u f) (sym (add-zero place)) (refl, (bs, refl, u, open_part bs f)) g
step_open place bs fault (Some at) u f g =
    let I : List ℕ → Type 0 = λ x. IsBadEscape (34 ∷ x) (at + 1) in
    here place (34 ∷ bs) BadEscape (place + at + 1) (at + 1) fault (lexed_open_bad place bs at u f) (omega arith)
    (subst I (append-nil bs) (escape_stands false bs [] at u tt (λ c. cc) (bad_escape_at false bs at f))) g

step_string_rest : (k place : ℕ) (bs body rest : List ℕ) (fault : Fault) → Faults k → bs ≡ body ++ rest → is_unquoted body ≡ true → EndsRun (λ x. not (is_quote x)) rest → length (34 ∷ bs) ≤ suc k → (lexed place 0 (34 ∷ bs)).fault ≡ Some fault → Goal place (34 ∷ bs) fault
step_string_rest k place bs body [] fault inner e u ends m g =
    let whole : is_unquoted bs ≡ true = ap is_unquoted (e ∙ append-nil body) ∙ u in step_open place bs fault (escape_fault false 0 (segments bs)) whole refl g
step_string_rest k place bs body (c ∷ more) fault inner e u ends m g =
    let quote : c ≡ 34 = eqb-true c 34 (not-false (is_quote c) ends) in
    step_closed k place bs body more fault (escape_fault true 0 (segments body)) inner (e ∙ ap (λ x. body ++ x ∷ more) quote) u refl m g

faults_step : (k : ℕ) → Faults k → (place b : ℕ) (bs : List ℕ) (fault : Fault) → length (b ∷ bs) ≤ suc k → (lexed place 0 (b ∷ bs)).fault ≡ Some fault → Goal place (b ∷ bs) fault
faults_step k inner place b bs fault m f = ⊎_elim
    (λ space. step_space k place b bs fault inner space m f)
    (λ no_space. ⊎_elim
    (λ left. step_token k place (b ∷ bs) (40 ∷ []) bs LeftParen fault inner (ap (λ x. x ∷ bs) (eqb-true b 40 left)) (omega arith) m refl tt f)
    (λ no_left. ⊎_elim
    (λ right. step_token k place (b ∷ bs) (41 ∷ []) bs RightParen fault inner (ap (λ x. x ∷ bs) (eqb-true b 41 right)) (omega arith) m refl tt f)
    (λ no_right. ⊎_elim
    (λ quote.
    let P : ℕ → Type 0 = λ x. (lexed place 0 (x ∷ bs)).fault ≡ Some fault → Goal place (x ∷ bs) fault in
    let s = span (λ x. not (is_quote x)) bs in
    subst P (sym (eqb-true b 34 quote)) (λ g. step_string_rest k place bs s.run s.rest fault inner s.whole s.passes s.ends (omega arith) g) f)
    (λ no_quote. ⊎_elim
    (λ word.
    let s = span is_word_byte bs in
    step_word_kind k place (b ∷ bs) b s.run s.rest fault (word_kind (b ∷ s.run)) inner (ap (λ l. b ∷ l) s.whole) (and_from (is_word_byte b) (list_all is_word_byte s.run) word s.passes) s.ends refl m f)
    (λ no_word. here place (b ∷ bs) BadByte place 0 fault (lexed_other place b bs no_space no_left no_right no_quote no_word) (sym (add-zero place)) (refl, inr (no_space, no_left, no_right, no_quote, no_word)) f)
    (cases_Bool (is_word_byte b)))
    (cases_Bool (is_quote b)))
    (cases_Bool (eqb b 41)))
    (cases_Bool (eqb b 40)))
    (cases_Bool (is_space b))

all_faults : (k : ℕ) → Faults k
all_faults k place [] fault l f = let none = sym (ap (λ x. x.fault) (lexed_nil place)) ∙ f in cc
all_faults zero place (b ∷ bs) fault l f = absurd (omega arith)
all_faults (suc k) place (b ∷ bs) fault l f = faults_step k (all_faults k) place b bs fault l f

pub first_stands : (bytes : List ℕ) (fault : Fault) → lex_fault bytes ≡ Some fault → FaultAfter 0 bytes (tokens bytes) fault
first_stands bytes fault f = all_faults (length bytes) 0 bytes fault (omega arith) f
