-- How the line of an event begins: with its number and its caller, and then with the first letter of its call.
use Rattle.std.proofs.Common.{◌≡◌, ◌∙◌, ℕ, ◌<◌, ◌^◌, List, [], ◌∷◌, ◌++◌, length, true, refl, ap, arith, append_assoc}
use Rattle.std.specs.Prelude.{codes, decimal}
use Rattle.std.specs.Str.{all_ascii_digits}
use Rattle.std.proofs.lemmas.Fmt.{decimal_injective, decimal_is_IsNumeral}
use Rattle.std.proofs.lemmas.List.{append_cancel_left}
use Rattle.std.proofs.lemmas.Str.Parse.{tells_all_ascii_digits}
use Rattle.netlist_schema.specs.Design.{Design}
use Rattle.edif_spelling_spec.proofs.IntegerLemmas.{digits_test}
use Rattle.edif_spec.specs.Arranged.{canonical_text}
use Rattle.db_spec.specs.declared.event.Call.{Call}
use Rattle.db_spec.specs.declared.event.Call.TheVariants.{Pin, PinAt, Release, Collect, Commit}
use Rattle.db_spec.specs.declared.event.Event.{Event}
use Rattle.flat_lines_spec.specs.Lines.{spaced}
use Rattle.script_spec.specs.Report.{SessionResult, head_design, report, script_texts}
use Rattle.script_spec.specs.Texts.{answer_words, call_words, event_text, event_texts, line, op_lines, ops_of, replies_of}
use Rattle.history_check_spec.specs.Heads.{begins_with_r, behind_events, head_text}
use Rattle.history_check_spec.specs.Left.{is_release}

-- ---- digits

digits_of : (n : ℕ) → n < 2 ^ 64 → all_ascii_digits (decimal n) ≡ true
digits_of n small = digits_test (decimal n) (decimal_is_IsNumeral n small).0.1

-- digits end at a blank
split_digits : (xs ys s t : List ℕ) → all_ascii_digits xs ≡ true → all_ascii_digits ys ≡ true → xs ++ 32 ∷ s ≡ ys ++ 32 ∷ t → (xs ≡ ys) × (s ≡ t)
split_digits [] [] s t p q e = (refl, cc (e))
split_digits [] (y ∷ ys) s t p q e =
    let d = tells_all_ascii_digits.parts y ys q in
    let same : 32 ≡ y = cc (e) in
    let low = d.0.0 in absurd (omega (arith, same, low))
split_digits (x ∷ xs) [] s t p q e =
    let d = tells_all_ascii_digits.parts x xs p in
    let same : x ≡ 32 = cc (e) in
    let low = d.0.0 in absurd (omega (arith, same, low))
split_digits (x ∷ xs) (y ∷ ys) s t p q e =
    let same : x ≡ y = cc (e) in
    let rest : xs ++ 32 ∷ s ≡ ys ++ 32 ∷ t = cc (e) in
    let then = split_digits xs ys s t (tells_all_ascii_digits.parts x xs p).1 (tells_all_ascii_digits.parts y ys q).1 rest in
    (ap (λ (z : ℕ). z ∷ xs) same ∙ ap (λ (z : List ℕ). y ∷ z) then.0, then.1)

-- a number that a blank follows
pub same_numbers : (m n : ℕ) (s t : List ℕ) → m < 2 ^ 64 → n < 2 ^ 64 → decimal m ++ 32 ∷ s ≡ decimal n ++ 32 ∷ t → (m ≡ n) × (s ≡ t)
same_numbers m n s t p q e =
    let parts = split_digits (decimal m) (decimal n) s t (digits_of m p) (digits_of n q) e in
    (decimal_injective m n p q parts.0, parts.1)

-- a text that begins with a byte behind the digits begins with no number
no_digits : (xs s y : List ℕ) (b : ℕ) → all_ascii_digits xs ≡ true → 0 < length xs → xs ++ s ≡ b ∷ y → 57 < b → ⊥
no_digits [] s y b p some e high = omega (arith, some)
no_digits (x ∷ xs) s y b p some e high =
    let same : x ≡ b = cc (e) in
    let low = (tells_all_ascii_digits.parts x xs p).0.1 in omega (arith, same, low, high)

-- ---- the line of an event

-- what stands behind the caller
abbrev pub call_text : Design → Event → List ℕ
call_text d event = spaced (call_words event.call ++ codes "->" ∷ answer_words d event.answer)

-- what stands behind the caller, to the end of the event and on
abbrev pub behind_caller : Design → Event → List ℕ → List ℕ
behind_caller d event more = call_text d event ++ (10 ∷ [] ++ (op_lines (ops_of event.call) (replies_of event.answer) ++ more))

blank : (word s : List ℕ) → (word ++ codes " ") ++ s ≡ word ++ 32 ∷ s
blank word s = append_assoc word (32 ∷ []) s

blanks : (a b c s : List ℕ) → (a ++ codes " ") ++ ((b ++ codes " ") ++ ((c ++ codes " ") ++ s)) ≡ a ++ 32 ∷ (b ++ 32 ∷ (c ++ 32 ∷ s))
blanks a b c s = blank a _ ∙ ap (λ (z : List ℕ). a ++ 32 ∷ z) (blank b _) ∙ ap (λ (z : List ℕ). a ++ 32 ∷ (b ++ 32 ∷ z)) (blank c s)

three_words : (a b c : List ℕ) (call : Call) (words : List (List ℕ)) → spaced (a ∷ b ∷ c ∷ (call_words call ++ words)) ≡ a ++ 32 ∷ (b ++ 32 ∷ (c ++ 32 ∷ spaced (call_words call ++ words)))
three_words a b c Pin words = blanks a b c _
three_words a b c (PinAt v) words = blanks a b c _
three_words a b c (Release pin) words = blanks a b c _
three_words a b c Collect words = blanks a b c _
three_words a b c (Commit pin ops) words = blanks a b c _

pub event_head : (d : Design) (number : ℕ) (event : Event) (more : List ℕ) → event_text d number event ++ more ≡ head_text number event.caller (behind_caller d event more)
event_head d number event more =
    let n = decimal number in
    let c = decimal event.caller in
    let t = call_text d event in
    let ops = op_lines (ops_of event.call) (replies_of event.answer) in
    let words = three_words n (codes "caller") c event.call (codes "->" ∷ answer_words d event.answer) in
    ap (λ (z : List ℕ). ((z ++ 10 ∷ []) ++ ops) ++ more) words
    ∙ append_assoc ((n ++ 32 ∷ (codes "caller" ++ 32 ∷ (c ++ 32 ∷ t))) ++ 10 ∷ []) ops more
    ∙ append_assoc (n ++ 32 ∷ (codes "caller" ++ 32 ∷ (c ++ 32 ∷ t))) (10 ∷ []) (ops ++ more)
    ∙ append_assoc n (32 ∷ (codes "caller" ++ 32 ∷ (c ++ 32 ∷ t))) (10 ∷ [] ++ (ops ++ more))
    ∙ ap (λ (z : List ℕ). n ++ 32 ∷ (codes "caller" ++ 32 ∷ z)) (append_assoc c (32 ∷ t) (10 ∷ [] ++ (ops ++ more)))

release_begins : (call : Call) (words : List (List ℕ)) (more : List ℕ) → begins_with_r (spaced (call_words call ++ codes "->" ∷ words) ++ more) ≡ is_release call
release_begins Pin words more = refl
release_begins (PinAt v) words more = refl
release_begins (Release pin) words more = refl
release_begins Collect words more = refl
release_begins (Commit pin ops) words more = refl

pub release_told : (d : Design) (event : Event) (more : List ℕ) → begins_with_r (behind_caller d event more) ≡ is_release event.call
release_told d event more = release_begins event.call (answer_words d event.answer) (10 ∷ [] ++ (op_lines (ops_of event.call) (replies_of event.answer) ++ more))

-- two texts that begin with the same number
pub same_heads : (number c d : ℕ) (s t : List ℕ) → c < 2 ^ 64 → d < 2 ^ 64 → head_text number c s ≡ head_text number d t → (c ≡ d) × (s ≡ t)
same_heads number c d s t p q e =
    let first = append_cancel_left (decimal number) (32 ∷ (codes "caller" ++ 32 ∷ (decimal c ++ 32 ∷ s))) (32 ∷ (codes "caller" ++ 32 ∷ (decimal d ++ 32 ∷ t))) e in
    same_numbers c d s t p q (append_cancel_left (32 ∷ (codes "caller" ++ 32 ∷ [])) (decimal c ++ 32 ∷ s) (decimal d ++ 32 ∷ t) first)

-- what begins so begins with no other byte
pub no_head : (number c : ℕ) (s y : List ℕ) (b : ℕ) → number < 2 ^ 64 → head_text number c s ≡ b ∷ y → 57 < b → ⊥
no_head number c s y b small e high =
    no_digits (decimal number) (32 ∷ (codes "caller" ++ 32 ∷ (decimal c ++ 32 ∷ s))) y b (digits_of number small) (decimal_is_IsNumeral number small).0.0 e high

-- ---- what stands behind the events

pub begins_late : (d : Design) (history : List Event) (results : List SessionResult) → (b : ℕ) × (rest : List ℕ) × (behind_events d history results ≡ b ∷ rest) × (57 < b)
begins_late d history [] = (100, _, refl, omega arith)
begins_late d history (came ∷ results) = (115, _, refl, omega arith)

-- the report, part by part
pub report_parts : (d : Design) (history : List Event) (results : List SessionResult)
    → report d history results ≡ line (codes "history" ∷ []) ++ (event_texts (head_design d history) 0 history ++ behind_events d history results)
report_parts d history results =
    let h = line (codes "history" ∷ []) in
    let e = event_texts (head_design d history) 0 history in
    let s = script_texts d history 0 results in
    let l = line (codes "design" ∷ []) in
    let c = canonical_text (head_design d history) in
    ap (λ (z : List ℕ). (z ++ l) ++ c) (append_assoc h e s)
    ∙ ap (λ (z : List ℕ). z ++ c) (append_assoc h (e ++ s) l)
    ∙ append_assoc h ((e ++ s) ++ l) c
    ∙ ap (λ (z : List ℕ). h ++ (z ++ c)) (append_assoc e s l)
    ∙ ap (λ (z : List ℕ). h ++ z) (append_assoc e (s ++ l) c)
