-- The texts of events as their history goes on.
use Rattle.std.proofs.Common.{◌≡◌, ◌∙◌, ℕ, ◌+◌, List, [], ◌∷◌, ◌++◌, length, refl, ap, sym, subst, arith, append_assoc, append-nil}
use Rattle.netlist_schema.specs.Design.{Design}
use Rattle.db_spec.specs.History.{Legal}
use Rattle.db_spec.specs.State.{opening}
use Rattle.db_spec.specs.declared.event.Event.{Event}
use Rattle.db_spec.proofs.Histories.{legal-left}
use Rattle.script_spec.specs.Report.{head_design}
use Rattle.script_spec.specs.Texts.{event_text, event_texts}
use Rattle.history_check_spec.proofs.Meeting.{event_stays}

-- one event more at the end
texts_push : (d : Design) (number : ℕ) (events : List Event) (event : Event) → event_texts d number (events ++ event ∷ []) ≡ event_texts d number events ++ event_text d (number + length events) event
texts_push d number [] event =
    let place : number ≡ number + 0 = omega arith in append-nil (event_text d number event) ∙ ap (λ (n : ℕ). event_text d n event) place
texts_push d number (first ∷ events) event =
    let place : number + 1 + length events ≡ number + length (first ∷ events) = omega arith in
    ap (λ (rest : List ℕ). event_text d number first ++ rest) (texts_push d (number + 1) events event)
    ∙ sym (append_assoc (event_text d number first) (event_texts d (number + 1) events) (event_text d (number + 1 + length events) event))
    ∙ ap (λ (n : ℕ). event_texts d number (first ∷ events) ++ event_text d n event) place

-- the texts of the last events of a history stay as it goes on
texts_stay : (d : Design) (before events more : List Event) (number : ℕ) → Legal d (before ++ (events ++ more))
    → event_texts (head_design d (before ++ (events ++ more))) number events ≡ event_texts (head_design d (before ++ events)) number events
texts_stay d before [] more number legal = refl
texts_stay d before (first ∷ events) more number legal =
    let whole : (before ++ first ∷ []) ++ (events ++ more) ≡ before ++ (first ∷ (events ++ more)) = append_assoc before (first ∷ []) (events ++ more) in
    let short : (before ++ first ∷ []) ++ events ≡ before ++ (first ∷ events) = append_assoc before (first ∷ []) events in
    let left : Legal d (before ++ (first ∷ events)) =
    legal-left (opening d) (before ++ (first ∷ events)) more (subst (λ (z : List Event). Legal d z) (sym (append_assoc before (first ∷ events) more)) legal) in
    let one : event_text (head_design d (before ++ (first ∷ (events ++ more)))) number first ≡ event_text (head_design d (before ++ (first ∷ events))) number first =
    event_stays d before first (events ++ more) number legal ∙ sym (event_stays d before first events number left) in
    let deeper = texts_stay d (before ++ first ∷ []) events more (number + 1) (subst (λ (z : List Event). Legal d z) (sym whole) legal) in
    let others : event_texts (head_design d (before ++ (first ∷ (events ++ more)))) (number + 1) events ≡ event_texts (head_design d (before ++ (first ∷ events))) (number + 1) events =
    ap (λ (z : List Event). event_texts (head_design d z) (number + 1) events) (sym whole) ∙ deeper ∙ ap (λ (z : List Event). event_texts (head_design d z) (number + 1) events) short in
    ap (λ (z : List ℕ). z ++ event_texts (head_design d (before ++ (first ∷ (events ++ more)))) (number + 1) events) one
    ∙ ap (λ (z : List ℕ). event_text (head_design d (before ++ (first ∷ events))) number first ++ z) others

-- the texts of a history that has one event more
pub texts_one_more : (d : Design) (seen : List Event) (event : Event) → Legal d (seen ++ event ∷ [])
    → event_texts (head_design d (seen ++ event ∷ [])) 0 (seen ++ event ∷ []) ≡ event_texts (head_design d seen) 0 seen ++ event_text (head_design d (seen ++ event ∷ [])) (length seen) event
texts_one_more d seen event legal =
    let last = head_design d (seen ++ event ∷ []) in
    let place : 0 + length seen ≡ length seen = omega arith in
    texts_push last 0 seen event ∙ ap (λ (n : ℕ). event_texts last 0 seen ++ event_text last n event) place
    ∙ ap (λ (z : List ℕ). z ++ event_text last (length seen) event) (texts_stay d [] seen (event ∷ []) 0 legal)
