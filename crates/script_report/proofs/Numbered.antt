-- Texts with their numbers, one more at the end.
use Rattle.std.proofs.Common.{◌≡◌, ◌<◌, ◌+◌, ℕ, List, [], ◌∷◌, ◌++◌, length, take, get_or, sym, ap, ◌∙◌, append_assoc, append-nil, arith}
use Rattle.std.proofs.lemmas.List.{length-take-le}
use Rattle.std.proofs.lemmas.Grind.{take_at_read}
use Rattle.netlist_schema.specs.Design.{Design}
use Rattle.db_spec.specs.declared.event.Event.{Event}
use Rattle.script_spec.specs.Texts.{event_text, event_texts}
use Rattle.script_run_spec.specs.Written.{numbered_text, numbered_texts}

-- one event more
event_texts-push : (d : Design) (number : ℕ) (events : List Event) (event : Event)
    → event_texts d number (events ++ event ∷ []) ≡ event_texts d number events ++ event_text d (number + length events) event
event_texts-push d number [] event =
    let place : number ≡ number + 0 = omega arith in append-nil (event_text d number event) ∙ ap (λ n. event_text d n event) place
event_texts-push d number (first ∷ events) event =
    let place : number + 1 + length events ≡ number + length (first ∷ events) = omega arith in
    ap (λ rest. event_text d number first ++ rest) (event_texts-push d (number + 1) events event)
    ∙ (sym (append_assoc (event_text d number first) (event_texts d (number + 1) events) (event_text d (number + 1 + length events) event))
    ∙ ap (λ n. event_texts d number (first ∷ events) ++ event_text d n event) place)

pub one_more_event : (d : Design) (events : List Event) (i : ℕ) (event : Event) → i < length events → event ≡ get_or events i event
    → event_texts d 0 (take i events) ++ event_text d i event ≡ event_texts d 0 (take (i + 1) events)
one_more_event d events i event h is =
    let long : length (take i events) ≡ i = length-take-le i events (omega (arith, h)) in
    let place : 0 + length (take i events) ≡ i = omega (arith, long) in
    sym (ap (event_texts d 0) (take_at_read events i event h).1
    ∙ (event_texts-push d 0 (take i events) (get_or events i event)
    ∙ (ap (λ n. event_texts d 0 (take i events) ++ event_text d n (get_or events i event)) place
    ∙ ap (λ e. event_texts d 0 (take i events) ++ event_text d i e) (sym is))))

-- one transcript more
numbered-push : (number : ℕ) (texts : List (List ℕ)) (text : List ℕ)
    → numbered_texts number (texts ++ text ∷ []) ≡ numbered_texts number texts ++ numbered_text (number + length texts) text
numbered-push number [] text =
    let place : number ≡ number + 0 = omega arith in append-nil (numbered_text number text) ∙ ap (λ n. numbered_text n text) place
numbered-push number (first ∷ texts) text =
    let place : number + 1 + length texts ≡ number + length (first ∷ texts) = omega arith in
    ap (λ rest. numbered_text number first ++ rest) (numbered-push (number + 1) texts text)
    ∙ (sym (append_assoc (numbered_text number first) (numbered_texts (number + 1) texts) (numbered_text (number + 1 + length texts) text))
    ∙ ap (λ n. numbered_texts number (first ∷ texts) ++ numbered_text n text) place)

pub one_more_text : (texts : List (List ℕ)) (i : ℕ) (text : List ℕ) → i < length texts → text ≡ get_or texts i text
    → numbered_texts 0 (take i texts) ++ numbered_text i text ≡ numbered_texts 0 (take (i + 1) texts)
one_more_text texts i text h is =
    let long : length (take i texts) ≡ i = length-take-le i texts (omega (arith, h)) in
    let place : 0 + length (take i texts) ≡ i = omega (arith, long) in
    sym (ap (numbered_texts 0) (take_at_read texts i text h).1
    ∙ (numbered-push 0 (take i texts) (get_or texts i text)
    ∙ (ap (λ n. numbered_texts 0 (take i texts) ++ numbered_text n (get_or texts i text)) place
    ∙ ap (λ t. numbered_texts 0 (take i texts) ++ numbered_text i t) (sym is))))
