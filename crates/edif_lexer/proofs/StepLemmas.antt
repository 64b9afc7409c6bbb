-- What the steps of a lexer do to what is ahead.
use Rattle.std.proofs.Common.{◌≡◌, ℕ, zero, suc, ◌+◌, ◌<◌, ◌≤◌, inr, true, false, not, Bool, ◌&&◌, List, [], ◌∷◌, ◌++◌, length, None, Some, Result, Ok, Err, refl, sym, ap, ◌∙◌, subst, arith, append_assoc, append-nil, length-append, eqb, drop, take, get_or, take-append-drop}
use Rattle.std.specs.Prelude.{slice_get}
use Rattle.std.proofs.Math.Seq.{take-add}
use Rattle.edif_spelling_spec.proofs.RowLemmas.{lexed_gap, name_word}
use Rattle.netlist_schema.specs.Ident.{is_identifier_byte}
use Rattle.std.specs.Char.{is_ascii_digit}
use Rattle.edif_spelling_spec.specs.Grammar.{SpellsName}
use Rattle.edif_lexer.specs.declared.lexing.State.{State}
use Rattle.edif_lexer.specs.declared.lexing.State.TheVariants.{Running, Failed, Finished}
use Rattle.edif_lexer.proofs.CompleteLemmas.{are_complete, all_push}
use Rattle.std.proofs.lemmas.List.Sums.{AllPass-from_list_all}
use Rattle.std.specs.Result.{OnOk, OnErr, IsOkUnless}
use Rattle.std.specs.List.{list_all}
use Rattle.std.proofs.lemmas.Bool.{and_parts, and_from, eqb-true, ne_eqb, eq-eqb, not_from_false, cond-false, cond-true}
use Rattle.edif_spelling_spec.specs.Bytes.{is_percent, is_space, is_word_byte, is_quote, is_unquoted, EndsRun}
use Rattle.edif_spelling_spec.proofs.TextLemmas.{stands_value}
use Rattle.edif_lexer.specs.Lanes.{is_plain}
use Rattle.edif_spelling_spec.specs.Words.{word_kind}
use Rattle.edif_spelling_spec.specs.Strings.{segments, value, escape_fault}
use Rattle.edif_spelling_spec.specs.Lent.{Gains}
use Rattle.edif_spelling_spec.specs.Lexing.{Lexed, before, lexed}
use Rattle.edif_lexer.specs.Reading.{IsPrefix, Reading, ahead, is_pending, is_open_string, HasRead, Feeds, Finishes}
use Rattle.edif_lexer.specs.Steps.{Anything, Continues, Stops, Advances, BadEscapeOf, Ends, StopsAtEnd}
use Rattle.edif_spelling_spec.specs.declared.token.Token.{Token}
use Rattle.edif_spelling_spec.specs.declared.token.TokenKind.{TokenKind}
use Rattle.edif_spelling_spec.specs.declared.token.TokenKind.TheVariants.{LeftParen, RightParen, String, Word}
use Rattle.edif_spelling_spec.specs.declared.token.LexKind.{LexKind}
use Rattle.edif_spelling_spec.specs.declared.token.LexKind.TheVariants.{BadByte, BadString}
use Rattle.edif_lexer.specs.declared.errors.LexError.{LexError}
use Rattle.edif_lexer.specs.declared.errors.LexError.TheVariants.{At, NoMemory}
use Rattle.edif_spelling_spec.proofs.LexedLemmas.{fault_at, lexed_space, lexed_left, lexed_right, lexed_other, lexed_word_ok, lexed_word_bad, lexed_string_ok, lexed_string_bad, lexed_open, lexed_open_bad, word_byte_no_quote, lexed_nil}

-- what was taken with nothing more, and with one row of tokens behind another
pub no_gain : {S : Type 0} (took : S → List Token → Type 0) (s : S) → Gains took s s []
no_gain took s before h = subst (took s) (sym (append-nil before)) h

pub gains_then : {S : Type 0} (took : S → List Token → Type 0) (a b c : S) (g h : List Token) → Gains took a b g → Gains took b c h → Gains took a c (g ++ h)
gains_then took a b c g h first second before t = subst (took c) (append_assoc before g h) (second (before ++ g) (first before t))

-- what a step hands out, and what it leaves
abbrev pub Handed : {A S : Type 0} → (S → List Token → Type 0) → (List ℕ → Type 0) → Reading → List ℕ → Reading → S → S → Result A LexError → Type 0
Handed took P old bytes new outs news r = (gained : List Token) × Gains took outs news gained × Advances P old bytes new gained r

-- a step that fails only for want of memory
pub moved : {A S : Type 0} (took : S → List Token → Type 0) (P : List ℕ → Type 0) (old : Reading) (bytes : List ℕ) (new aim : Reading) (g : List Token) (outs news : S) (r : Result A LexError) → OnOk r (Gains took outs news g × (new ≡ aim)) → OnErr r (Gains took outs news []) → IsOkUnless r NoMemory → Continues P old bytes aim g → Handed took P old bytes new outs news r
moved took P old bytes new aim g outs news (Ok u) ok err memory c = let C : Reading → Type 0 = λ x. Continues P old bytes x g in (g, ok.0, subst C (sym ok.1) c)
moved took P old bytes new aim g outs news (Err NoMemory) ok err memory c = ([], err, λ more p. ((ahead old (bytes ++ more)).tokens, refl))
moved took P old bytes new aim g outs news (Err (At kind place)) ok err memory c = cc

pub moved_quietly : {A S : Type 0} (took : S → List Token → Type 0) (P : List ℕ → Type 0) (old : Reading) (bytes : List ℕ) (new aim : Reading) (outs : S) (r : Result A LexError) → OnOk r (new ≡ aim) → IsOkUnless r NoMemory → Continues P old bytes aim [] → Handed took P old bytes new outs outs r
moved_quietly took P old bytes new aim outs (Ok u) ok memory c = let C : Reading → Type 0 = λ x. Continues P old bytes x [] in ([], no_gain took outs, subst C (sym ok) c)
moved_quietly took P old bytes new aim outs (Err NoMemory) ok memory c = ([], no_gain took outs, λ more p. ((ahead old (bytes ++ more)).tokens, refl))
moved_quietly took P old bytes new aim outs (Err (At kind place)) ok memory c = cc

-- one step after another
pub before_before : (g h : List Token) (l : Lexed) → before g (before h l) ≡ before (g ++ h) l
before_before g h l = ap (λ ts. record { tokens = ts; fault = l.fault }) (sym (append_assoc g h l.tokens))

pub advances_then : {A : Type 0} (P Q : List ℕ → Type 0) (old mid new : Reading) (xs ys : List ℕ) (g h : List Token) (r : Result A LexError) → Continues P old xs mid g → ((more : List ℕ) → Q more → P (ys ++ more)) → Advances Q mid ys new h r → Advances Q old (xs ++ ys) new (g ++ h) r
advances_then P Q old mid new xs ys g h (Ok u) c p a = record {
  state = a.state ∙ c.state;
  pending = λ h. a.pending (c.pending h);
  count = let first = c.count in let second = a.count in omega (arith, length-append xs ys);
  reads = λ more q. ap (ahead old) (append_assoc xs ys more) ∙ c.reads (ys ++ more) (p more q) ∙ ap (before g) (a.reads more q) ∙ before_before g h (ahead new more);
}
advances_then P Q old mid new xs ys g h (Err NoMemory) c p a = λ more q.
    let l = a more q in (l.0, ap (λ x. (ahead old x).tokens) (append_assoc xs ys more) ∙ ap (λ x. x.tokens) (c.reads (ys ++ more) (p more q)) ∙ ap (λ ts. g ++ ts) l.1 ∙ sym (append_assoc g h l.0))
advances_then P Q old mid new xs ys g h (Err (At kind place)) c p a = λ more q.
    ap (ahead old) (append_assoc xs ys more) ∙ c.reads (ys ++ more) (p more q) ∙ ap (before g) (a more q)

-- one more byte of a token
pub continues_keep : (old : Reading) (b : ℕ) → is_pending (old.pending ++ b ∷ []) ≡ true → Continues Anything old (b ∷ []) (record old { pending = old.pending ++ b ∷ [] }) []
continues_keep old b h = record { state = refl; pending = λ _. h; count = omega (arith, length-append old.pending (b ∷ [])); reads = λ more p. ap (lexed old.start 0) (sym (append_assoc old.pending (b ∷ []) more)) }

-- a token that ends here
pub continues_token : (P : List ℕ → Type 0) (old : Reading) (bytes : List ℕ) (t : Token) (n : ℕ) → n ≡ length old.pending + length bytes → ((more : List ℕ) → P more → ahead old (bytes ++ more) ≡ before (t ∷ []) (lexed (old.start + n) 0 more)) → Continues P old bytes (record old { start = old.start + n; pending = [] }) (t ∷ [])
continues_token P old bytes t n size reads = record { state = refl; pending = λ _. refl; count = omega arith; reads = reads }

fresh : (old : Reading) (bytes : List ℕ) → old.pending ≡ [] → ahead old bytes ≡ lexed old.start 0 bytes
fresh old bytes e = ap (λ p. lexed old.start 0 (p ++ bytes)) e

pub continues_space : (old : Reading) (b : ℕ) → old.pending ≡ [] → is_space b ≡ true → Continues Anything old (b ∷ []) (record old { start = old.start + 1; pending = [] }) []
continues_space old b e s = record { state = refl; pending = λ _. refl; count = let none = ap length e in omega arith; reads = λ more p. fresh old (b ∷ more) e ∙ lexed_space old.start b more s }

pub continues_spaces : (old : Reading) (bs : List ℕ) (n : ℕ) → n ≡ length bs → old.pending ≡ [] → list_all is_space bs ≡ true → Continues Anything old bs (record old { start = old.start + n; pending = [] }) []
continues_spaces old bs n size e s = record {
  state = refl;
  pending = λ _. refl;
  count = let none = ap length e in omega (arith, size);
  reads = λ more p. fresh old (bs ++ more) e ∙ lexed_gap old.start bs more s ∙ ap (λ m. lexed (old.start + m) 0 more) (sym size);
}

pub continues_left : (old : Reading) → old.pending ≡ [] → Continues Anything old (40 ∷ []) (record old { start = old.start + 1; pending = [] }) (record { kind = LeftParen; place = old.start } ∷ [])
continues_left old e = continues_token Anything old (40 ∷ []) (record { kind = LeftParen; place = old.start }) 1 (let none = ap length e in omega arith) (λ more p. fresh old (40 ∷ more) e ∙ lexed_left old.start more)

pub continues_right : (old : Reading) → old.pending ≡ [] → Continues Anything old (41 ∷ []) (record old { start = old.start + 1; pending = [] }) (record { kind = RightParen; place = old.start } ∷ [])
continues_right old e = continues_token Anything old (41 ∷ []) (record { kind = RightParen; place = old.start }) 1 (let none = ap length e in omega arith) (λ more p. fresh old (41 ∷ more) e ∙ lexed_right old.start more)

pub stops_other : (old : Reading) (b : ℕ) → old.pending ≡ [] → is_space b ≡ false → eqb b 40 ≡ false → eqb b 41 ≡ false → is_quote b ≡ false → is_word_byte b ≡ false → Stops Anything old (b ∷ []) [] (At BadByte old.start)
stops_other old b e s l r q w = λ more p. fresh old (b ∷ more) e ∙ lexed_other old.start b more s l r q w

-- a word that ends here
pub continues_word : (old : Reading) (kind : TokenKind) (n : ℕ) → n ≡ length old.pending → 0 < length old.pending → list_all is_word_byte old.pending ≡ true → word_kind old.pending ≡ Ok kind → Continues (EndsRun is_word_byte) old [] (record old { start = old.start + n; pending = [] }) (record { kind = kind; place = old.start } ∷ [])
continues_word old kind n size l a k =
    continues_token (EndsRun is_word_byte) old [] (record { kind = kind; place = old.start }) n (omega arith)
    (λ more p. lexed_word_ok old.start old.pending more kind l a p k ∙ ap (λ m. before (record { kind = kind; place = old.start } ∷ []) (lexed (old.start + m) 0 more)) (sym size))

pub stops_word : (old : Reading) (fault : LexKind) → 0 < length old.pending → list_all is_word_byte old.pending ≡ true → word_kind old.pending ≡ Err fault → Stops (EndsRun is_word_byte) old [] [] (At fault old.start)
stops_word old fault l a k = λ more p. lexed_word_bad old.start old.pending more fault l a p k

-- a name that begins and ends in these bytes
pub continues_name : (old : Reading) (name : List ℕ) (n : ℕ) → n ≡ length name → old.pending ≡ [] → SpellsName name name → Continues (EndsRun is_word_byte) old name (record old { start = old.start + n; pending = [] }) (record { kind = Word name; place = old.start } ∷ [])
continues_name old name n size e spells =
    let word = name_word name name spells in
    continues_token (EndsRun is_word_byte) old name (record { kind = Word name; place = old.start }) n (let none = ap length e in omega arith)
    (λ more p. fresh old (name ++ more) e ∙ lexed_word_ok old.start name more (Word name) word.filled word.run p word.meant ∙ ap (λ m. before (record { kind = Word name; place = old.start } ∷ []) (lexed (old.start + m) 0 more)) (sym size))

-- the bytes of a front that is a name
pub spells_front : (rest : List ℕ) (n : ℕ) → 0 < n → n ≤ length rest → list_all is_identifier_byte (take n rest) ≡ true → is_ascii_digit (get_or rest 0 0) ≡ false → SpellsName (take n rest) (take n rest)
spells_front rest zero some within all digit = absurd (omega (arith, some))
spells_front [] (suc n) some within all digit = absurd (omega (arith, within))
spells_front (b ∷ rest) (suc n) some within all digit = ((omega arith, AllPass-from_list_all is_identifier_byte (b ∷ take n rest) all), inr (refl, digit))

-- what passes two tests passes each
both_pass : (p q : ℕ → Bool) (xs : List ℕ) → list_all (λ b. p b && q b) xs ≡ true → (list_all p xs ≡ true) × (list_all q xs ≡ true)
both_pass p q [] h = (refl, refl)
both_pass p q (x ∷ xs) h =
    let one = and_parts (p x && q x) (list_all (λ b. p b && q b) xs) h in
    let here = and_parts (p x) (q x) one.0 in
    let rest = both_pass p q xs one.1 in
    (and_from (p x) (list_all p xs) here.0 rest.0, and_from (q x) (list_all q xs) here.1 rest.1)

-- a string without escapes that begins and ends in these bytes
pub continues_plain : (old : Reading) (text : List ℕ) (n : ℕ) → n ≡ length text + 2 → old.pending ≡ [] → list_all is_plain text ≡ true → Continues Anything old (34 ∷ (text ++ 34 ∷ [])) (record old { start = old.start + n; pending = [] }) (record { kind = String text; place = old.start } ∷ [])
continues_plain old text n size e plain =
    let tests = both_pass (λ b. not (is_quote b)) (λ b. not (is_percent b)) text plain in
    let stands = stands_value true [] text text 0 (tests.1, refl) in
    continues_token Anything old (34 ∷ (text ++ 34 ∷ [])) (record { kind = String text; place = old.start }) n (let none = ap length e in omega (arith, length-append text (34 ∷ [])))
    (λ more p. fresh old ((34 ∷ (text ++ 34 ∷ [])) ++ more) e ∙ ap (λ v. lexed old.start 0 (34 ∷ v)) (append_assoc text (34 ∷ []) more) ∙ lexed_string_ok old.start text more tests.0 stands.0
    ∙ ap (λ t. before (record { kind = String t; place = old.start } ∷ []) (lexed (old.start + length text + 2) 0 more)) (sym stands.1)
    ∙ ap (λ m. before (record { kind = String text; place = old.start } ∷ []) (lexed m 0 more)) (omega arith))

-- an error in the first bytes is one in all of them
pub stops_ahead : (P Q : List ℕ → Type 0) (old : Reading) (xs ys : List ℕ) (g : List Token) (error : LexError) → ((more : List ℕ) → Q more → P (ys ++ more)) → Stops P old xs g error → Stops Q old (xs ++ ys) g error
stops_ahead P Q old xs ys g NoMemory p s = λ more q. (let S : List ℕ → Type 0 = λ v. IsPrefix g (ahead old v).tokens in subst S (sym (append_assoc xs ys more)) (s (ys ++ more) (p more q)))
stops_ahead P Q old xs ys g (At kind place) p s = λ more q. ap (ahead old) (append_assoc xs ys more) ∙ s (ys ++ more) (p more q)

-- the first bytes, and one more
pub one_more : (n : ℕ) (bytes : List ℕ) → n < length bytes → take (n + 1) bytes ≡ take n bytes ++ get_or bytes n 0 ∷ []
one_more n [] l = absurd (omega (arith, l))
one_more zero (b ∷ bytes) l = refl
one_more (suc n) (b ∷ bytes) l = let e : suc n + 1 ≡ suc (n + 1) = omega arith in rw e (ap (λ v. b ∷ v) (one_more n bytes (omega (arith, l))))

-- a string in front
pub quoted_front : (bytes rest : List ℕ) (n : ℕ) → bytes ≡ 34 ∷ rest → n < length rest → get_or rest n 0 ≡ 34 → take (n + 2) bytes ≡ 34 ∷ (take n rest ++ 34 ∷ [])
quoted_front bytes rest n e l q =
    let more : n + 2 ≡ suc (n + 1) = omega arith in
    ap (take (n + 2)) e ∙ ap (λ k. take k (34 ∷ rest)) more ∙ ap (λ v. 34 ∷ v) (one_more n rest l ∙ ap (λ b. take n rest ++ b ∷ []) q)

-- an error in so many bytes is one in all of them
pub stops_in_front : (old : Reading) (bytes front : List ℕ) (n : ℕ) (g : List Token) (error : LexError) → take n bytes ≡ front → Stops Anything old front g error → Stops Anything old bytes g error
stops_in_front old bytes front n g error e s =
    let S : List ℕ → Type 0 = λ xs. Stops Anything old xs g error in
    subst S (take-append-drop n bytes) (stops_ahead Anything Anything old (take n bytes) (drop n bytes) g error (λ more q. tt) (subst S (sym e) s))

pub more_stops : (old : Reading) (bytes : List ℕ) (n : ℕ) (g : List Token) (error : LexError) → n < length bytes → Stops Anything old (take n bytes ++ get_or bytes n 0 ∷ []) g error → Stops Anything old bytes g error
more_stops old bytes n g error l s = stops_in_front old bytes (take n bytes ++ get_or bytes n 0 ∷ []) (n + 1) g error (one_more n bytes l) s

-- a string whose closing quote comes
pub open_string_parts : (pending : List ℕ) → is_open_string pending ≡ true → (pending ≡ 34 ∷ drop 1 pending) × (is_unquoted (drop 1 pending) ≡ true)
open_string_parts [] e = cc
open_string_parts (b ∷ bs) e = let p = and_parts (is_quote b) (is_unquoted bs) e in (ap (λ x. x ∷ bs) (eqb-true b 34 p.0), p.1)

closed_ahead : (old : Reading) (body more : List ℕ) → old.pending ≡ 34 ∷ body → ahead old (34 ∷ more) ≡ lexed old.start 0 (34 ∷ (body ++ 34 ∷ more))
closed_ahead old body more e = ap (λ p. lexed old.start 0 (p ++ 34 ∷ more)) e

pub continues_string : (old : Reading) (body text : List ℕ) (n : ℕ) → old.pending ≡ 34 ∷ body → is_unquoted body ≡ true → n ≡ length old.pending + 1 → escape_fault true 0 (segments body) ≡ None → text ≡ value (segments body) → Continues Anything old (34 ∷ []) (record old { start = old.start + n; pending = [] }) (record { kind = String text; place = old.start } ∷ [])
continues_string old body text n e u size f v =
    let long = ap length e in
    continues_token Anything old (34 ∷ []) (record { kind = String text; place = old.start }) n (omega arith)
    (λ more p. closed_ahead old body more e ∙ lexed_string_ok old.start body more u f
    ∙ ap (λ t. before (record { kind = String t; place = old.start } ∷ []) (lexed (old.start + length body + 2) 0 more)) (sym v)
    ∙ ap (λ m. before (record { kind = String text; place = old.start } ∷ []) (lexed m 0 more)) (omega arith))

pub stops_string : (old : Reading) (body : List ℕ) (at : ℕ) (error : LexError) → old.pending ≡ 34 ∷ body → is_unquoted body ≡ true → escape_fault true 0 (segments body) ≡ Some at → BadEscapeOf old at error → Stops Anything old (34 ∷ []) [] error
stops_string old body at NoMemory e u f b = λ more p. ((ahead old (34 ∷ more)).tokens, refl)
stops_string old body at (At kind place) e u f b = λ more p. closed_ahead old body more e ∙ lexed_string_bad old.start body more at u f ∙ ap (λ k. fault_at k (old.start + at + 1)) (sym b.0) ∙ ap (fault_at kind) (sym b.1)

-- a fault before the next bytes
pub stops_before : (P Q : List ℕ → Type 0) (old : Reading) (ys : List ℕ) (g : List Token) (error : LexError) → ((more : List ℕ) → Q more → P (ys ++ more)) → Stops P old [] g error → Stops Q old ys g error
stops_before P Q old ys g NoMemory p s = λ more q. s (ys ++ more) (p more q)
stops_before P Q old ys g (At kind place) p s = λ more q. s (ys ++ more) (p more q)

-- a token that has begun with another byte than a quote is a word
pub begun_word : (p : List ℕ) (x : ℕ) → is_pending p ≡ true → slice_get p 0 ≡ Some x → (x ≡ 34 → ⊥) → list_all is_word_byte p ≡ true
begun_word [] x e s q = cc
begun_word (y ∷ ys) x e s q =
    let same : y ≡ x = cc in
    let other : is_quote y ≡ false = ne_eqb y 34 (λ h. q (sym same ∙ h)) in sym (cond-false (is_quote y) (is_unquoted ys) (list_all is_word_byte (y ∷ ys)) other) ∙ e

word_pending : (p : List ℕ) → list_all is_word_byte p ≡ true → is_pending p ≡ true
word_pending [] w = refl
word_pending (y ∷ ys) w = cond-false (is_quote y) (is_unquoted ys) (list_all is_word_byte (y ∷ ys)) (word_byte_no_quote y (and_parts (is_word_byte y) (list_all is_word_byte ys) w).0) ∙ w

pub word_keeps : (p : List ℕ) (b : ℕ) → list_all is_word_byte p ≡ true → is_word_byte b ≡ true → is_pending (p ++ b ∷ []) ≡ true
word_keeps p b w e = word_pending (p ++ b ∷ []) (all_push is_word_byte p b w e)

pub begun_pending : (b : ℕ) → is_word_byte b ≡ true → is_pending (b ∷ []) ≡ true
begun_pending b e = word_pending (b ∷ []) (and_from (is_word_byte b) true e refl)

-- one more byte of a string
pub string_keeps : (p : List ℕ) (b : ℕ) → is_pending p ≡ true → slice_get p 0 ≡ Some 34 → (b ≡ 34 → ⊥) → is_pending (p ++ b ∷ []) ≡ true
string_keeps [] b e s q = cc
string_keeps (y ∷ ys) b e s q =
    let same : y ≡ 34 = cc in
    let quote : is_quote y ≡ true = eq-eqb y 34 same in
    let body : is_unquoted ys ≡ true = sym (cond-true (is_quote y) (is_unquoted ys) (list_all is_word_byte (y ∷ ys)) quote) ∙ e in
    cond-true (is_quote y) (is_unquoted (ys ++ b ∷ [])) (list_all is_word_byte (y ∷ (ys ++ b ∷ []))) quote ∙ all_push (λ x. not (is_quote x)) ys b body (not_from_false (is_quote b) (ne_eqb b 34 q))

pub string_begun : (p : List ℕ) → is_pending p ≡ true → slice_get p 0 ≡ Some 34 → is_open_string p ≡ true
string_begun [] e s = cc
string_begun (y ∷ ys) e s =
    let same : y ≡ 34 = cc in
    let quote : is_quote y ≡ true = eq-eqb y 34 same in
    and_from (is_quote y) (is_unquoted ys) quote (sym (cond-true (is_quote y) (is_unquoted ys) (list_all is_word_byte (y ∷ ys)) quote) ∙ e)

pub none_pending : (p : List ℕ) → slice_get p 0 ≡ None → p ≡ []
none_pending [] s = refl
none_pending (y ∷ ys) s = cc

-- a fault stays one, whatever follows
stops_early : (old : Reading) (xs ys : List ℕ) (g : List Token) (error : LexError) → Stops Anything old xs g error → Stops Anything old (xs ++ ys) g error
stops_early old xs ys g NoMemory s = λ more p. let l = s (ys ++ more) tt in (l.0, ap (λ x. (ahead old x).tokens) (append_assoc xs ys more) ∙ l.1)
stops_early old xs ys g (At kind place) s = λ more p. ap (ahead old) (append_assoc xs ys more) ∙ s (ys ++ more) tt

-- a fault at the first byte
pub front_stops : (old : Reading) (bytes : List ℕ) (byte : ℕ) (g : List Token) (error : LexError) → 0 < length bytes → byte ≡ get_or bytes 0 0 → Stops Anything old (byte ∷ []) g error → Stops Anything old bytes g error
front_stops old [] byte g error l b s = absurd (omega (arith, l))
front_stops old (x ∷ bytes) byte g error l b s =
    let S : ℕ → Type 0 = λ y. Stops Anything old (y ∷ bytes) g error in
    subst S b (stops_early old (byte ∷ []) bytes g error s)

-- the bytes so far, and those in front of the rest
pub continues_front : (old mid new : Reading) (piece : List ℕ) (i n m : ℕ) (g h : List Token) → m ≡ i + n → Continues Anything old (take i piece) mid g → Continues Anything mid (take n (drop i piece)) new h → Continues Anything old (take m piece) new (g ++ h)
continues_front old mid new piece i n m g h e c d =
    let C : List ℕ → Type 0 = λ xs. Continues Anything old xs new (g ++ h) in
    subst C (sym (ap (λ k. take k piece) e ∙ take-add i n piece)) (advances_then {A = Unit {0}} Anything Anything old mid new (take i piece) (take n (drop i piece)) g h (Ok tt) c (λ more q. tt) d)

pub rest_stops : (old mid : Reading) (piece : List ℕ) (i : ℕ) (g h : List Token) (error : LexError) → Continues Anything old (take i piece) mid g → Stops Anything mid (drop i piece) h error → Stops Anything old piece (g ++ h) error
rest_stops old mid piece i g h error c s =
    let S : List ℕ → Type 0 = λ xs. Stops Anything old xs (g ++ h) error in
    subst S (take-append-drop i piece) (advances_then {A = Unit {0}} Anything Anything old mid mid (take i piece) (drop i piece) g h (Err error) c (λ more q. tt) s)

-- the text ends here
pub ends_none : (old : Reading) → old.pending ≡ [] → ahead old [] ≡ record { tokens = []; fault = None }
ends_none old e = fresh old [] e ∙ lexed_nil old.start

pub ends_word : (old new : Reading) (g : List Token) → Continues (EndsRun is_word_byte) old [] new g → new.pending ≡ [] → (new.start ≡ old.start + length old.pending) × (ahead old [] ≡ record { tokens = g; fault = None })
ends_word old new g c e = (
  let count = c.count in let none = ap length e in omega arith,
  c.reads [] tt ∙ ap (before g) (ends_none new e) ∙ ap (λ ts. record { tokens = ts; fault = None }) (append-nil g),
)

opened : (old : Reading) (body : List ℕ) → old.pending ≡ 34 ∷ body → ahead old [] ≡ lexed old.start 0 (34 ∷ body)
opened old body e = ap (lexed old.start 0) (append-nil old.pending ∙ e)

pub ends_open : (old : Reading) (body : List ℕ) → old.pending ≡ 34 ∷ body → is_unquoted body ≡ true → escape_fault false 0 (segments body) ≡ None → StopsAtEnd old [] (At BadString old.start)
ends_open old body e u f = opened old body e ∙ lexed_open old.start body u f

pub ends_open_bad : (old : Reading) (body : List ℕ) (at : ℕ) (error : LexError) → old.pending ≡ 34 ∷ body → is_unquoted body ≡ true → escape_fault false 0 (segments body) ≡ Some at → BadEscapeOf old at error → StopsAtEnd old [] error
ends_open_bad old body at NoMemory e u f b = ((ahead old []).tokens, refl)
ends_open_bad old body at (At kind place) e u f b = opened old body e ∙ lexed_open_bad old.start body at u f ∙ ap (λ k. fault_at k (old.start + at + 1)) (sym b.0) ∙ ap (fault_at kind) (sym b.1)

-- the plain words of `feed` and `finish`
pub finishes : (old : Reading) (fed : List ℕ) (handed gained : List Token) (r : Result ℕ LexError) → Ends old gained r → HasRead old fed handed → Finishes fed handed gained r
finishes old fed handed gained (Ok n) e h =
    let all = ap (lexed 0 0) (sym (append-nil fed)) ∙ h.rest [] ∙ ap (before handed) e.1 in
    (e.0 ∙ h.count, ap (λ x. x.fault) all, ap (λ x. x.tokens) all)
finishes old fed handed gained (Err NoMemory) e h =
    let all = ap (lexed 0 0) (sym (append-nil fed)) ∙ h.rest [] in (e.0, ap (λ x. x.tokens) all ∙ ap (λ ts. handed ++ ts) e.1 ∙ sym (append_assoc handed gained e.0))
finishes old fed handed gained (Err (At kind place)) e h =
    let all = ap (lexed 0 0) (sym (append-nil fed)) ∙ h.rest [] ∙ ap (before handed) e in (ap (λ x. x.fault) all, ap (λ x. x.tokens) all)

fed_more : (fed piece more : List ℕ) → fed ++ piece ++ more ≡ fed ++ (piece ++ more)
fed_more fed piece more = append_assoc fed piece more

pub feeds : (old new : Reading) (fed piece : List ℕ) (handed gained : List Token) (r : Result (Unit {0}) LexError) → is_pending old.pending ≡ true → Advances Anything old piece new gained r → HasRead old fed handed → Feeds fed piece handed gained new r
feeds old new fed piece handed gained (Ok u) p a h =
    let rest : (more : List ℕ) → lexed 0 0 ((fed ++ piece) ++ more) ≡ before (handed ++ gained) (ahead new more) =
    λ more. ap (lexed 0 0) (fed_more fed piece more) ∙ h.rest (piece ++ more) ∙ ap (before handed) (a.reads more tt) ∙ before_before handed gained (ahead new more) in
    record { running = a.state ∙ h.running; count = let c = a.count in let d = h.count in omega (arith, length-append fed piece); complete = are_complete new (fed ++ piece) (handed ++ gained) (a.pending p) rest; rest = rest }
feeds old new fed piece handed gained (Err NoMemory) p a h = λ more.
    let l = a more tt in (l.0, ap (λ x. (lexed 0 0 x).tokens) (fed_more fed piece more) ∙ ap (λ x. x.tokens) (h.rest (piece ++ more)) ∙ ap (λ ts. handed ++ ts) l.1 ∙ sym (append_assoc handed gained l.0))
feeds old new fed piece handed gained (Err (At kind place)) p a h = λ more.
    let all = ap (lexed 0 0) (fed_more fed piece more) ∙ h.rest (piece ++ more) ∙ ap (before handed) (a more tt) in (ap (λ x. x.fault) all, ap (λ x. x.tokens) all)

pub new_read : (p : List ℕ) → p ≡ [] → HasRead (record { start = 0; pending = p; state = Running }) [] []
new_read p e =
    let H : List ℕ → Type 0 = λ x. HasRead (record { start = 0; pending = x; state = Running }) [] [] in
    subst H (sym e) (record { running = refl; count = omega arith; complete = are_complete (record { start = 0; pending = []; state = Running }) [] [] refl (λ more. refl); rest = λ more. refl })

pub is_running : (state : State) → (state ≡ Finished → ⊥) → ((error : LexError) → state ≡ Failed error → ⊥) → state ≡ Running
is_running Running f e = refl
is_running (Failed error) f e = absurd (e error refl)
is_running Finished f e = absurd (f refl)
