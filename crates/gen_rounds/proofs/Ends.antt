-- The opening, the rounds and the end of a run.
use Rattle.std.proofs.Common.{◌≡◌, ◌≢◌, ℕ, suc, ◌+◌, ◌*◌, ◌%◌, ◌≤◌, ◌==◌, cond, Bool, true, false, List, [], ◌∷◌, ◌++◌, None, Contains, refl, ap, sym, ◌∙◌, subst, arith, append_assoc}
use Rattle.std.proofs.lemmas.Bool.Decides.{nat_tests}
use Rattle.netlist_schema.specs.Design.{Design}
use Rattle.edit_spec.specs.declared.ops.Op.{Op}
use Rattle.edit_tx.specs.Facts.{PinFacts}
use Rattle.db_spec.specs.Answers.{HasPlaces}
use Rattle.db_spec.specs.History.{Legal, state_after, version_at}
use Rattle.db_spec.specs.State.{LivePin, IsLive, head, live_pin}
use Rattle.db_spec.specs.declared.event.Answer.TheVariants.{Released, Collected, Committed}
use Rattle.db_spec.specs.declared.event.Call.{Call}
use Rattle.db_spec.specs.declared.event.Call.TheVariants.{Pin, Release, Collect, Commit}
use Rattle.db_spec.specs.declared.event.Event.{Event}
use Rattle.db_spec.proofs.Histories.{version_stays}
use Rattle.db_core.specs.Calls.{Adds, Pins, Releases, event_of}
use Rattle.db_core.specs.Story.{Story, state}
use Rattle.db_core.proofs.Commits.{grown_head}
use Rattle.gen_spec.specs.Generated.{edit_at, generated}
use Rattle.gen_spec.specs.Calls.{collect_after, round, rounds}
use Rattle.gen_rounds.specs.Stand.{HasCommitted, HasEnded, HasRun, IsPin, Stands, StandsAfter, StandsEdited, calls_until, edited, held}
use Rattle.gen_rounds.proofs.Steps.{collected_on, committed_on, has_places, other_released, pin_is, pinned_on, released_on}

-- the same, said by equal calls and numbers
again : (n : ℕ) (cs ds : List (ℕ × Call)) (pins : List LivePin) (made m last l most k : ℕ) (story : Story) → Stands n cs pins made last most story → cs ≡ ds → made ≡ m → last ≡ l → most ≤ k → Stands n ds pins m l k story
again n cs ds pins made m last l most k story h same made_is last_is le =
    let few = h.few in
    record {
      opening = h.opening;
      in_order = h.in_order ∙ same;
      live = h.live;
      made_are = h.made_are ∙ made_is;
      last_is = h.last_is ∙ last_is;
      few = omega arith;
    }

-- ---- the opening

abbrev pub fresh : ℕ → Story
fresh n = record { opening = generated n; events = [] }

pub fresh_stands : (n : ℕ) (story : Story) → story ≡ fresh n → Stands n [] [] 0 0 0 story
fresh_stands n story is = subst (λ (st : Story). Stands n [] [] 0 0 0 st) (sym is)
    (record { opening = refl; in_order = refl; live = refl; made_are = refl; last_is = refl; few = omega arith })

pub fresh_places : (n : ℕ) (story : Story) → story ≡ fresh n → HasPlaces (state story) 2
fresh_places n story is = has_places n [] [] 0 0 0 story story (fresh_stands n story is) 2 0 (omega arith) (omega arith)

-- version 0 is the generated design
first_version : (n : ℕ) (events : List Event) → version_at (generated n) events 0 ≡ generated n
first_version n events = version_stays (generated n) [] events 0 (omega arith)

pub begun : (n : ℕ) (old new : Story) (pin : PinFacts) → old ≡ fresh n → Pins old new 1 Pin pin → StandsAfter n 0 new
begun n old new pin is p = pinned_on n [] [] 0 0 0 old new (fresh_stands n old is) 1 pin p

pub first_pin : (n : ℕ) (old new : Story) (pin : PinFacts) → old ≡ fresh n → Pins old new 1 Pin pin → IsPin 0 1 0 (generated n) pin
first_pin n old new pin is p =
    let found = pin_is n [] [] 0 0 0 old new (fresh_stands n old is) 1 pin p in
    record {
      number_is = found.number_is;
      caller_is = found.caller_is;
      version_is = found.version_is;
      design_is = found.design_is ∙ first_version n new.events;
    }

-- ---- a round

abbrev Pinned : ℕ → ℕ → Story → Type 0
Pinned n k story = Stands n (calls_until n k ++ (0, Pin) ∷ []) (held ∷ live_pin (k + 1) 0 k ∷ []) (k + 1 + 1) k (1 + 4 * k + 1) story

pub round_places : (n k : ℕ) (story : Story) → k ≤ 4096 → StandsAfter n k story → HasPlaces (state story) 2
round_places n k story small h = has_places n (calls_until n k) (held ∷ []) (k + 1) k (1 + 4 * k) story story h 2 1 (omega arith) (omega arith)

pub round_pinned : (n k : ℕ) (old new : Story) (pin : PinFacts) → StandsAfter n k old → Pins old new 0 Pin pin → Pinned n k new
round_pinned n k old new pin h p = pinned_on n (calls_until n k) (held ∷ []) (k + 1) k (1 + 4 * k) old new h 0 pin p

pub round_pin : (n k : ℕ) (old new : Story) (pin : PinFacts) → StandsAfter n k old → Pins old new 0 Pin pin → IsPin (k + 1) 0 k (version_at (generated n) new.events k) pin
round_pin n k old new pin h p = pin_is n (calls_until n k) (held ∷ []) (k + 1) k (1 + 4 * k) old new h 0 pin p

pub commit_places : (n k : ℕ) (story : Story) → k ≤ 4096 → Pinned n k story → HasPlaces (state story) 1
commit_places n k story small h = has_places n (calls_until n k ++ (0, Pin) ∷ []) (held ∷ live_pin (k + 1) 0 k ∷ []) (k + 1 + 1) k (1 + 4 * k + 1) story story h 1 2 (omega arith) (omega arith)

abbrev Edit : ℕ → ℕ → Call
Edit n k = Commit (k + 1) (edit_at n (k + 1) ∷ [])

abbrev Committed' : ℕ → ℕ → Story → Type 0
Committed' n k story =
    Stands n ((calls_until n k ++ (0, Pin) ∷ []) ++ (0, Edit n k) ∷ []) (held ∷ live_pin (k + 1) 0 k ∷ []) (k + 1 + 1) (k + 1) (1 + 4 * k + 1 + 1) story

pub round_committed : (n k : ℕ) (old new : Story) (d : Design) (pin back : PinFacts) (op : Op) → Pinned n k old → IsPin (k + 1) 0 k d pin → op ≡ edit_at n (k + 1) → HasCommitted old new pin op back → Committed' n k new
round_committed n k old new d pin back op h is op_is c =
    let event : event_of pin.caller (Commit pin.number (op ∷ [])) (Committed c.version c.replies) ≡ event_of 0 (Edit n k) (Committed c.version c.replies) =
    λ i. event_of (is.caller_is i) (Commit (is.number_is i) (op_is i ∷ [])) (Committed c.version c.replies) in
    committed_on n (calls_until n k ++ (0, Pin) ∷ []) (held ∷ live_pin (k + 1) 0 k ∷ []) (k + 1 + 1) k (1 + 4 * k + 1) old new h
    0 (k + 1) c.version (edit_at n (k + 1) ∷ []) c.replies (subst (λ (e : Event). Adds old new e) event c.adds)

-- of the two live pins, the second
second_is_live : (story : Story) (k caller v : ℕ) (first : LivePin) (d : Design) (pin : PinFacts) → (state story).pins ≡ first ∷ live_pin k caller v ∷ [] → IsPin k caller v d pin → IsLive (state story) pin.number pin.caller pin.version
second_is_live story k caller v first d pin live is =
    let there : Contains (first ∷ live_pin k caller v ∷ []) (live_pin k caller v) = (1, omega arith, refl) in
    let named : live_pin k caller v ≡ live_pin pin.number pin.caller pin.version = λ i. live_pin (sym is.number_is i) (sym is.caller_is i) (sym is.version_is i) in
    subst (λ (p : LivePin). Contains (state story).pins p) named (subst (λ (ps : List LivePin). Contains ps (live_pin k caller v)) (sym live) there)

first_is_live : (story : Story) (k caller v : ℕ) (others : List LivePin) (d : Design) (pin : PinFacts) → (state story).pins ≡ live_pin k caller v ∷ others → IsPin k caller v d pin → IsLive (state story) pin.number pin.caller pin.version
first_is_live story k caller v others d pin live is =
    let there : Contains (live_pin k caller v ∷ others) (live_pin k caller v) = (0, omega arith, refl) in
    let named : live_pin k caller v ≡ live_pin pin.number pin.caller pin.version = λ i. live_pin (sym is.number_is i) (sym is.caller_is i) (sym is.version_is i) in
    subst (λ (p : LivePin). Contains (state story).pins p) named (subst (λ (ps : List LivePin). Contains ps (live_pin k caller v)) (sym live) there)

same_pin : (k caller v : ℕ) (d : Design) (pin back : PinFacts) → back ≡ pin → IsPin k caller v d pin → IsPin k caller v d back
same_pin k caller v d pin back same is = subst (λ (p : PinFacts). IsPin k caller v d p) (sym same) is

pub back_is_live : (n k : ℕ) (story : Story) (d : Design) (pin back : PinFacts) → Committed' n k story → IsPin (k + 1) 0 k d pin → back ≡ pin → IsLive (state story) back.number back.caller back.version
back_is_live n k story d pin back h is same = second_is_live story (k + 1) 0 k held d back h.live (same_pin (k + 1) 0 k d pin back same is)

release_named : (k caller v : ℕ) (d : Design) (old new : Story) (pin : PinFacts) → IsPin k caller v d pin → Releases old new pin → Adds old new (event_of caller (Release k) Released)
release_named k caller v d old new pin is adds =
    let event : event_of pin.caller (Release pin.number) Released ≡ event_of caller (Release k) Released = λ i. event_of (is.caller_is i) (Release (is.number_is i)) Released in
    subst (λ (e : Event). Adds old new e) event adds

three : (cs : List (ℕ × Call)) (x y z : ℕ × Call) → ((cs ++ x ∷ []) ++ y ∷ []) ++ z ∷ [] ≡ cs ++ x ∷ y ∷ z ∷ []
three [] x y z = refl
three (c ∷ cs) x y z = ap (λ (ds : List (ℕ × Call)). c ∷ ds) (three cs x y z)

pub round_released : (n k : ℕ) (old new : Story) (d : Design) (pin back : PinFacts) → Committed' n k old → IsPin (k + 1) 0 k d pin → back ≡ pin → Releases old new back → StandsEdited n k new
round_released n k old new d pin back h is same adds =
    let found = released_on n ((calls_until n k ++ (0, Pin) ∷ []) ++ (0, Edit n k) ∷ []) (held ∷ live_pin (k + 1) 0 k ∷ []) (k + 1 + 1) (k + 1) (1 + 4 * k + 1 + 1) old new h
    0 (k + 1) (held ∷ []) (release_named (k + 1) 0 k d old new back (same_pin (k + 1) 0 k d pin back same is) adds) (other_released (k + 1) 0 k (omega arith)) in
    again n (((calls_until n k ++ (0, Pin) ∷ []) ++ (0, Edit n k) ∷ []) ++ (0, Release (k + 1)) ∷ []) (calls_until n k ++ edited n (k + 1)) (held ∷ [])
    (k + 1 + 1) (k + 2) (k + 1) (k + 1) (1 + 4 * k + 1 + 1 + 1) (4 + 4 * k) new found (three (calls_until n k) (0, Pin) (0, Edit n k) (0, Release (k + 1))) (omega arith) refl (omega arith)

-- ---- its end

rounds_more : (n k : ℕ) → rounds n (k + 1) ≡ rounds n k ++ round n (k + 1)
rounds_more n k =
    let next : suc k ≡ k + 1 = omega arith in
    subst (λ (m : ℕ). rounds n m ≡ rounds n k ++ round n m) next refl

-- the round with its collect, or without
ended_as : (n k : ℕ) (b : Bool) → (((k + 1) % 16) == 0) ≡ b → calls_until n (k + 1) ≡ (calls_until n k ++ edited n (k + 1)) ++ cond b ((0, Collect) ∷ []) []
ended_as n k b is =
    let tail : cond (((k + 1) % 16) == 0) ((0, Collect) ∷ []) [] ≡ cond b ((0, Collect) ∷ []) [] = ap (λ (t : Bool). cond t ((0, Collect) ∷ []) []) is in
    ap (λ (cs : List (ℕ × Call)). (1, Pin) ∷ cs) (rounds_more n k)
    ∙ (sym (append_assoc (calls_until n k) (edited n (k + 1)) (collect_after (k + 1)))
    ∙ ap (λ (cs : List (ℕ × Call)). (calls_until n k ++ edited n (k + 1)) ++ cs) tail)

is_sixteenth : (k : ℕ) → k % 16 ≡ 0 → ((k % 16) == 0) ≡ true
is_sixteenth k e = grind (arith, nat_tests)

is_other : (k : ℕ) → k % 16 ≢ 0 → ((k % 16) == 0) ≡ false
is_other k e = grind (arith, nat_tests)

pub collect_places : (n k : ℕ) (story : Story) → k ≤ 4096 → StandsEdited n k story → HasPlaces (state story) 1
collect_places n k story small h = has_places n (calls_until n k ++ edited n (k + 1)) (held ∷ []) (k + 2) (k + 1) (4 + 4 * k) story story h 1 1 (omega arith) (omega arith)

pub round_collected : (n k count : ℕ) (old new : Story) → (k + 1) % 16 ≡ 0 → StandsEdited n k old → Adds old new (event_of 0 Collect (Collected count)) → StandsAfter n (k + 1) new
round_collected n k count old new divides h adds =
    let found = collected_on n (calls_until n k ++ edited n (k + 1)) (held ∷ []) (k + 2) (k + 1) (4 + 4 * k) old new h 0 count adds in
    again n ((calls_until n k ++ edited n (k + 1)) ++ (0, Collect) ∷ []) (calls_until n (k + 1)) (held ∷ [])
    (k + 2) (k + 1 + 1) (k + 1) (k + 1) (4 + 4 * k + 1) (1 + 4 * (k + 1)) new found (sym (ended_as n k true (is_sixteenth (k + 1) divides))) (omega arith) refl (omega arith)

nothing_more : (cs : List (ℕ × Call)) → cs ≡ cs ++ []
nothing_more [] = refl
nothing_more (c ∷ cs) = ap (λ (ds : List (ℕ × Call)). c ∷ ds) (nothing_more cs)

pub round_over : (n k : ℕ) (story : Story) → (k + 1) % 16 ≢ 0 → StandsEdited n k story → StandsAfter n (k + 1) story
round_over n k story other h =
    again n (calls_until n k ++ edited n (k + 1)) (calls_until n (k + 1)) (held ∷ [])
    (k + 2) (k + 1 + 1) (k + 1) (k + 1) (4 + 4 * k) (1 + 4 * (k + 1)) story h
    (nothing_more (calls_until n k ++ edited n (k + 1)) ∙ sym (ended_as n k false (is_other (k + 1) other))) (omega arith) refl (omega arith)

-- ---- the end

has_top : (n : ℕ) → (generated n).top ≢ None
has_top n e = cc

still_has_top : (n : ℕ) (events : List Event) (v : ℕ) → head (state_after (generated n) events) ≡ v → (version_at (generated n) events v).top ≢ None
still_has_top n events v is none =
    let grown = grown_head (generated n) events 0 (omega arith) in
    let last : (version_at (generated n) events 0).top ≡ (version_at (generated n) events v).top = grown.top ∙ ap (λ (w : ℕ). (version_at (generated n) events w).top) is in
    has_top n (ap (λ (d : Design). d.top) (sym (first_version n events)) ∙ (last ∙ none))

pub has_run : (n : ℕ) (old new : Story) (first last : PinFacts) → StandsAfter n n old → IsPin 0 1 0 (generated n) first → Pins old new 0 Pin last → HasRun n new first last
has_run n old new first last h first_is p =
    let stands = round_pinned n n old new last h p in
    let last_is = round_pin n n old new last h p in
    let at : head (state_after (generated n) new.events) ≡ n = ap (λ (d : Design). head (state_after d new.events)) (sym stands.opening) ∙ stands.last_is in
    record {
      stands = again n (calls_until n n ++ (0, Pin) ∷ []) (calls_until n n ++ (0, Pin) ∷ []) (held ∷ live_pin (n + 1) 0 n ∷ []) (n + 1 + 1) (n + 2) n n (1 + 4 * n + 1) (2 + 4 * n) new stands refl (omega arith) refl (omega arith);
      first_is = first_is;
      last_is = last_is;
      first_top = λ none. has_top n (ap (λ (d : Design). d.top) (sym first_is.design_is) ∙ none);
      last_top = λ none. still_has_top n new.events n at (ap (λ (d : Design). d.top) (sym last_is.design_is) ∙ none);
    }

pub last_is_live : (n : ℕ) (story : Story) (first last : PinFacts) → HasRun n story first last → IsLive (state story) last.number last.caller last.version
last_is_live n story first last h = second_is_live story (n + 1) 0 n held (version_at (generated n) story.events n) last h.stands.live h.last_is

abbrev Ending : ℕ → Story → Type 0
Ending n story = Stands n ((calls_until n n ++ (0, Pin) ∷ []) ++ (0, Release (n + 1)) ∷ []) (held ∷ []) (n + 2) n (2 + 4 * n + 1) story

pub one_left : (n : ℕ) (old new : Story) (first last : PinFacts) → HasRun n old first last → Releases old new last → Ending n new
one_left n old new first last h adds =
    released_on n (calls_until n n ++ (0, Pin) ∷ []) (held ∷ live_pin (n + 1) 0 n ∷ []) (n + 2) n (2 + 4 * n) old new h.stands
    0 (n + 1) (held ∷ []) (release_named (n + 1) 0 n (version_at (generated n) old.events n) old new last h.last_is adds) (other_released (n + 1) 0 n (omega arith))

pub held_is_live : (n : ℕ) (story old : Story) (first last : PinFacts) → HasRun n old first last → Ending n story → IsLive (state story) first.number first.caller first.version
held_is_live n story old first last h ending = first_is_live story 0 1 0 [] (generated n) first ending.live h.first_is

-- an event more leaves the versions that are there
stays : (n v : ℕ) (old new : Story) (event : Event) → v ≤ head (state_after (generated n) old.events) → Adds old new event → version_at (generated n) new.events v ≡ version_at (generated n) old.events v
stays n v old new event le adds = ap (λ (xs : List Event). version_at (generated n) xs v) adds.events ∙ version_stays (generated n) old.events (event ∷ []) v le

there : (n v : ℕ) (story : Story) → story.opening ≡ generated n → head (state story) ≡ v → v ≤ head (state_after (generated n) story.events)
there n v story opened is =
    let at : head (state_after (generated n) story.events) ≡ head (state story) = ap (λ (d : Design). head (state_after d story.events)) (sym opened) in
    omega arith

pub has_ended : (n : ℕ) (old mid new : Story) (first last : PinFacts) → HasRun n old first last → Releases old mid last → Releases mid new first → Legal new.opening new.events → HasEnded n new.events first.design last.design
has_ended n old mid new first last h left ended legal =
    let ending = one_left n old mid first last h left in
    let done = released_on n ((calls_until n n ++ (0, Pin) ∷ []) ++ (0, Release (n + 1)) ∷ []) (held ∷ []) (n + 2) n (2 + 4 * n + 1) mid new ending
    1 0 [] (release_named 0 1 0 (generated n) mid new first h.first_is ended) refl in
    record {
      whole = record {
        legal = subst (λ (d : Design). Legal d new.events) done.opening legal;
        in_order = done.in_order ∙ three (calls_until n n) (0, Pin) (0, Release (n + 1)) (1, Release 0);
      };
      first_is = h.first_is.design_is ∙ sym (first_version n new.events);
      last_is = h.last_is.design_is
          ∙ (sym (stays n n old mid (event_of last.caller (Release last.number) Released) (there n n old h.stands.opening h.stands.last_is) left)
          ∙ sym (stays n n mid new (event_of first.caller (Release first.number) Released) (there n n mid ending.opening ending.last_is) ended));
    }
