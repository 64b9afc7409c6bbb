-- What a session says keeps its text as the history goes on: names and versions stay.
use Rattle.std.proofs.Common.{◌≡◌, ◌∙◌, ℕ, zero, suc, ◌+◌, ◌-◌, ◌≤◌, List, [], ◌∷◌, ◌++◌, None, Some, Bool, true, false, map, slice_get, inl, inr, refl, ap, sym, subst, arith, append_assoc}
use Rattle.std.specs.Prelude.{codes, decimal, Option, IsSome, ◌==◌, cond, filter, option_map}
use Rattle.std.specs.List.{AllByRecursion}
use Rattle.std.specs.Option.{option_map_or}
use Rattle.netlist_schema.specs.Design.{Design, cell_at}
use Rattle.netlist_schema.specs.Types.{CellBody, CellId, Lib, LibHead, Object}
use Rattle.netlist_schema.specs.declared.ids.Object.TheVariants.{Directory, Interface, Contents, Notes}
use Rattle.edif_spec.proofs.CellPlaces.{all_append_parts}
use Rattle.edit_rules_spec.specs.Objects.{Grown, IsThere, Outside, face_of, of_contents, of_interface, outside_of}
use Rattle.edit_rules_spec.proofs.There.{there_stays, some_from_map}
use Rattle.edit_rules_spec.specs.declared.reply.Reply.{Reply}
use Rattle.edit_spec.specs.Step.{run}
use Rattle.edit_spec.specs.declared.ops.Op.{Op}
use Rattle.edit_spec.proofs.Shown.{outside_there}
use Rattle.db_spec.specs.Answers.{Answers}
use Rattle.db_spec.specs.History.{Legal, state_after, state_from, version_at}
use Rattle.db_spec.specs.State.{State, head, opening}
use Rattle.db_spec.specs.declared.event.Answer.{Answer}
use Rattle.db_spec.specs.declared.event.Answer.TheVariants as answer
use Rattle.db_spec.specs.declared.event.Call.{Call}
use Rattle.db_spec.specs.declared.event.Call.TheVariants as call
use Rattle.db_spec.specs.declared.event.Event.{Event}
use Rattle.db_spec.proofs.Histories.{goes_on_from, legal-left, legal-right, state_from-append, version_stays}
use Rattle.db_spec.proofs.Made.{conflict_is_there}
use Rattle.db_spec.proofs.Versions.{follows_after, grown_on}
use Rattle.flat_lines_spec.specs.Lines.{cell_text, flattening_text, lib_text, spaced}
use Rattle.script_spec.specs.Laws.{ConflictsAreThere, ObjectsStay, TranscriptStays}
use Rattle.script_spec.specs.Report.{head_design, transcript, word_text}
use Rattle.script_spec.specs.Session.{Word, Began, Replied, Committed, Conflict, Abandoned, Pinned, NoVersion, Gone, Walked, Released, NoPin, Collected, LogFull, Held, Nothing, OnPin, OffPin, InBlock, Ending, Outcome, On, Stop, Exchange, Told, Commits, Goes, Runs, exchanges, replied, reply_behind}
use Rattle.script_spec.specs.Texts.{line, object_words}
use Rattle.script_spec.specs.declared.script.Step.{Step}
use Rattle.script_spec.specs.declared.script.Step.TheVariants.{Begin, Run, Commit, Abandon, Pin, PinAt, Walk, Release, Collect}
use Rattle.script_spec.proofs.Stays.{later_head}

-- ---- names in a grown design

head_of : (libs : List Lib) (k : ℕ) → slice_get (map (λ (lib : Lib). lib.head) libs) k ≡ option_map (λ (lib : Lib). lib.head) (slice_get libs k)
head_of [] k = refl
head_of (lib ∷ libs) zero = refl
head_of (lib ∷ libs) (suc k) = head_of libs k

by_head : (found : Option Lib) → option_map_or (λ (lib : Lib). lib.head.name.id) found [] ≡ option_map_or (λ (head : LibHead). head.name.id) (option_map (λ (lib : Lib). lib.head) found) []
by_head None = refl
by_head (Some lib) = refl

lib_name : (d : Design) (k : ℕ) → option_map_or (λ (lib : Lib). lib.head.name.id) (slice_get d.libs k) [] ≡ option_map_or (λ (head : LibHead). head.name.id) (slice_get (map (λ (lib : Lib). lib.head) d.libs) k) []
lib_name d k = by_head (slice_get d.libs k) ∙ ap (λ (o : Option LibHead). option_map_or (λ (head : LibHead). head.name.id) o []) (sym (head_of d.libs k))

lib_name_stays : (d e : Design) (k : ℕ) → Grown d e → option_map_or (λ (lib : Lib). lib.head.name.id) (slice_get e.libs k) [] ≡ option_map_or (λ (lib : Lib). lib.head.name.id) (slice_get d.libs k) []
lib_name_stays d e k g =
    lib_name e k ∙ ap (λ (heads : List LibHead). option_map_or (λ (head : LibHead). head.name.id) (slice_get heads k) []) (sym g.libs) ∙ sym (lib_name d k)

by_outside : (found : Option CellBody) (outside : Outside) → option_map outside_of found ≡ Some outside → option_map_or (λ (body : CellBody). body.name.id) found [] ≡ outside.name.id
by_outside None outside e = absurd (cc (e))
by_outside (Some body) outside e = let same : outside_of body ≡ outside = cc (e) in ap (λ (o : Outside). o.name.id) same

cell_name_stays : (d e : Design) (id : CellId) → Grown d e → IsSome (cell_at d id) → cell_text e id ≡ cell_text d id
cell_name_stays d e id g is =
    let outside = outside_there (cell_at d id) is in
    by_outside (cell_at e id) outside.0 (g.cells id outside.0 outside.1) ∙ sym (by_outside (cell_at d id) outside.0 outside.1)

cell_words_stay : (d e : Design) (id : CellId) → Grown d e → IsSome (cell_at d id) → (word : List ℕ) → word ∷ lib_text e id ∷ cell_text e id ∷ [] ≡ word ∷ lib_text d id ∷ cell_text d id ∷ []
cell_words_stay d e id g is word = ap (λ lib. word ∷ lib ∷ cell_text e id ∷ []) (lib_name_stays d e id.lib.0 g) ∙ ap (λ cell. word ∷ lib_text d id ∷ cell ∷ []) (cell_name_stays d e id g is)

pub words_stay : (d e : Design) (o : Object) → Grown d e → IsThere d o → object_words e o ≡ object_words d o
words_stay d e (Directory lib) g is = ap (λ name. codes "directory" ∷ name ∷ []) (lib_name_stays d e lib.0 g)
words_stay d e (Interface id) g is = cell_words_stay d e id g (some_from_map face_of (cell_at d id) (some_from_map of_interface (option_map face_of (cell_at d id)) is)) (codes "interface")
words_stay d e (Contents id) g is =
    cell_words_stay d e id g (some_from_map (λ (b : CellBody). b.contents) (cell_at d id) (some_from_map of_contents (option_map (λ (b : CellBody). b.contents) (cell_at d id)) is)) (codes "contents")
words_stay d e Notes g is = refl

-- ---- along a history

pub later : (d : Design) (seen more : List Event) → head (state_after d seen) ≤ head (state_after d (seen ++ more))
later d seen more =
    subst (λ (s : State). head (state_after d seen) ≤ head s) (sym (state_from-append (opening d) seen more))
    (later_head (state_after d seen) (state_from (state_after d seen) more) (goes_on_from (state_after d seen) more))

head_grown : (d : Design) (seen more : List Event) → Grown (head_design d seen) (head_design d (seen ++ more))
head_grown d seen more =
    let low = later d seen more in
    let v = head (state_after d seen) in
    let w = head (state_after d (seen ++ more)) in
    subst (λ (old : Design). Grown old (head_design d (seen ++ more))) (version_stays d seen more v (omega arith))
    (grown_on (state_after d (seen ++ more)) (follows_after d (seen ++ more)) v (w - v) w (omega (arith, low)) (omega arith))

pub objects_stay : ObjectsStay
objects_stay d seen more object legal is = ap spaced (words_stay (head_design d seen) (head_design d (seen ++ more)) object (head_grown d seen more) is)

pub conflicts_are_there : ConflictsAreThere
conflicts_are_there d seen more caller pin ops object w legal = conflict_is_there d seen caller pin ops object w (legal-right (opening d) seen _ legal).0.answers

-- ---- what the exchanges of a legal history tell of

-- a pinned version is one of those up to h, and the object of a conflict is in this design
abbrev Tells : ℕ → Design → Exchange → Type 0
Tells h last (Told c (answer.Pinned pin v)) = v ≤ h
Tells h last (Told c (answer.Conflict object w)) = IsThere last object
Tells h last other = Unit {0}

abbrev HeldUpTo : ℕ → Held → Type 0
HeldUpTo h (OnPin pin v) = v ≤ h
HeldUpTo h held = Unit {0}

abbrev OutcomeUpTo : ℕ → Outcome → Type 0
OutcomeUpTo h (On held) = HeldUpTo h held
OutcomeUpTo h (Stop places) = Unit {0}

-- a word keeps its text
abbrev Settled : ℕ → Design → Word → Type 0
Settled h last (Conflict object w) = IsThere last object
Settled h last (Walked v limit) = v ≤ h
Settled h last word = Unit {0}

tell : (d : Design) (front rest : List Event) (caller : ℕ) (c : Call) (a : Answer) → Answers (state_after d front) caller c a
    → Tells (head (state_after d (front ++ rest))) (head_design d (front ++ rest)) (Told c a)
tell d front rest caller call.Pin (answer.Pinned n v) x = let at = x.1 in let low = later d front rest in omega (arith, at, low)
tell d front rest caller (call.PinAt w) (answer.Pinned n v) x = let high = x.0 in let at = x.3 in let low = later d front rest in omega (arith, high, at, low)
tell d front rest caller (call.Release p) (answer.Pinned n v) x = absurd x
tell d front rest caller call.Collect (answer.Pinned n v) x = absurd x
tell d front rest caller (call.Commit p ops) (answer.Pinned n v) x = absurd x
tell d front rest caller call.Pin (answer.Conflict o w) x = absurd x
tell d front rest caller (call.PinAt u) (answer.Conflict o w) x = absurd x
tell d front rest caller (call.Release p) (answer.Conflict o w) x = absurd x
tell d front rest caller call.Collect (answer.Conflict o w) x = absurd x
tell d front rest caller (call.Commit p ops) (answer.Conflict o w) x =
    there_stays (head_design d front) (head_design d (front ++ rest)) o (head_grown d front rest) (conflict_is_there d front caller p ops o w x)
tell d front rest caller c (answer.NoVersion last) x = tt
tell d front rest caller c (answer.Gone least) x = tt
tell d front rest caller c answer.Released x = tt
tell d front rest caller c (answer.Collected n) x = tt
tell d front rest caller c (answer.Committed v rs) x = tt

abbrev told : List Event → List Exchange
told events = map (λ (e : Event). Told e.call e.answer) events

one_tells : (h : ℕ) (last : Design) (b : Bool) (event : Event) (rest : List Event) → Tells h last (Told event.call event.answer) → AllByRecursion (Tells h last) (told rest)
    → AllByRecursion (Tells h last) (told (cond b (event ∷ rest) rest))
one_tells h last true event rest x xs = (x, xs)
one_tells h last false event rest x xs = xs

all_tell : (d : Design) (front rest : List Event) (caller : ℕ) → Legal d (front ++ rest)
    → AllByRecursion (Tells (head (state_after d (front ++ rest))) (head_design d (front ++ rest))) (exchanges caller rest)
all_tell d front [] caller legal = tt
all_tell d front (event ∷ rest) caller legal =
    let same : (front ++ event ∷ []) ++ rest ≡ front ++ event ∷ rest = append_assoc front (event ∷ []) rest in
    let then = all_tell d (front ++ event ∷ []) rest caller (subst (λ (xs : List Event). Legal d xs) (sym same) legal) in
    one_tells (head (state_after d (front ++ event ∷ rest))) (head_design d (front ++ event ∷ rest)) (event.caller == caller) event (filter (λ e. e.caller == caller) rest)
    (tell d front (event ∷ rest) event.caller event.call event.answer (legal-right (opening d) front (event ∷ rest) legal).0.answers)
    (subst (λ (xs : List Event). AllByRecursion (Tells (head (state_after d xs)) (head_design d xs)) (exchanges caller rest)) same then)

-- ---- what a session says is settled

module _ (h : ℕ) (last : Design) where
  abbrev AreSettled : List Word → Type 0
  AreSettled said = AllByRecursion (Settled h last) said

  abbrev AllTell : List Exchange → Type 0
  AllTell done = AllByRecursion (Tells h last) done

  -- these words, and this outcome
  saying : (said words : List Word) (o p : Outcome) → said ≡ words → o ≡ p → AreSettled words → OutcomeUpTo h p → AreSettled said × OutcomeUpTo h o
  saying said words o p e f s u = (subst AreSettled (sym e) s, subst (λ (q : Outcome). OutcomeUpTo h q) (sym f) u)

  both : (xs ys : List Word) → AreSettled xs → AreSettled ys → AreSettled (xs ++ ys)
  both [] ys a b = b
  both (x ∷ xs) ys a b = (a.0, both xs ys a.1 b)

  replies_settled : (rs : List Reply) → AreSettled (map Replied rs)
  replies_settled [] = tt
  replies_settled (r ∷ rs) = (tt, replies_settled rs)

  settled_commits : (versions : ℕ → Design) (ops : List Op) (retries pin : ℕ) (done : List Exchange) (said : List Word) (o : Outcome)
      → AllTell done → Commits versions ops retries pin done said o → AreSettled said × OutcomeUpTo h o
  settled_commits versions ops zero pin done said o a (inl x) = saying said (LogFull ∷ []) o (Stop 1) x.1 x.2 (tt, tt) tt
  settled_commits versions ops zero pin done said o a (inr (inl x)) = saying said (Committed x.0 ∷ []) o (On Nothing) x.2.1 x.2.2 (tt, tt) tt
  settled_commits versions ops zero pin done said o a (inr (inr x)) =
      let told_of = subst AllTell x.2.0 a in saying said (Conflict x.0 x.1 ∷ []) o (On Nothing) x.2.1 x.2.2 (told_of.0, tt) tt
  settled_commits versions ops (suc n) pin done said o a (inl x) = saying said (LogFull ∷ []) o (Stop 1) x.1 x.2 (tt, tt) tt
  settled_commits versions ops (suc n) pin done said o a (inr (inl x)) = saying said (Committed x.0 ∷ []) o (On Nothing) x.2.1 x.2.2 (tt, tt) tt
  settled_commits versions ops (suc n) pin done said o a (inr (inr (object, w, rest, more, d, s, inl y))) =
      let told_of = subst AllTell d a in
      let then = saying more (LogFull ∷ []) o (Stop 2) y.1 y.2 (tt, tt) tt in
      (subst AreSettled (sym s) (told_of.0, then.0), then.1)
  settled_commits versions ops (suc n) pin done said o a (inr (inr (object, w, rest, more, d, s, inr y))) =
      let told_of = subst AllTell d a in
      let pinned = subst AllTell y.4 told_of.1.1 in
      let then = settled_commits versions ops n y.0 y.2 y.3 o pinned.1 y.6 in
      let here : AreSettled more = subst AreSettled (sym y.5) (both (Began y.1 ∷ replied (versions y.1) ops) y.3 (tt, replies_settled (run (versions y.1) ops).replies) then.0) in
      (subst AreSettled (sym s) (told_of.0, here), then.1)

  settled_goes : (versions : ℕ → Design) (held : Held) (step : Step) (done : List Exchange) (said : List Word) (o : Outcome)
      → HeldUpTo h held → AllTell done → Goes versions held step done said o → AreSettled said × OutcomeUpTo h o
  settled_goes versions Nothing (Begin n) done said o k a (inl x) = saying said (LogFull ∷ []) o (Stop 2) x.1 x.2 (tt, tt) tt
  settled_goes versions Nothing (Begin n) done said o k a (inr x) = saying said (Began x.1 ∷ []) o (On (InBlock x.0 x.1 n [])) x.2.1 x.2.2 (tt, tt) tt
  settled_goes versions Nothing Pin done said o k a (inl x) = saying said (LogFull ∷ []) o (Stop 2) x.1 x.2 (tt, tt) tt
  settled_goes versions Nothing Pin done said o k a (inr x) = let pinned = subst AllTell x.2.0 a in saying said (Pinned x.1 ∷ []) o (On (OnPin x.0 x.1)) x.2.1 x.2.2 (tt, tt) pinned.0
  settled_goes versions Nothing (PinAt w) done said o k a (inl x) = saying said (LogFull ∷ []) o (Stop 2) x.1 x.2 (tt, tt) tt
  settled_goes versions Nothing (PinAt w) done said o k a (inr (inl x)) = let pinned = subst AllTell x.2.0 a in saying said (Pinned x.1 ∷ []) o (On (OnPin x.0 x.1)) x.2.1 x.2.2 (tt, tt) pinned.0
  settled_goes versions Nothing (PinAt w) done said o k a (inr (inr (inl x))) = saying said (NoVersion x.0 ∷ []) o (On OffPin) x.1.1 x.1.2 (tt, tt) tt
  settled_goes versions Nothing (PinAt w) done said o k a (inr (inr (inr x))) = saying said (Gone x.0 ∷ []) o (On OffPin) x.1.1 x.1.2 (tt, tt) tt
  settled_goes versions (InBlock pin v n ops) (Run op) done said o k a x = saying said (Replied (reply_behind (versions v) ops op) ∷ []) o (On (InBlock pin v n (ops ++ op ∷ []))) x.1 x.2 (tt, tt) tt
  settled_goes versions (InBlock pin v n ops) Commit done said o k a x = settled_commits versions ops n pin done said o a x
  settled_goes versions (InBlock pin v n ops) Abandon done said o k a x = saying said (Abandoned ∷ []) o (On Nothing) x.1 x.2 (tt, tt) tt
  settled_goes versions (OnPin pin v) (Walk limit) done said o k a x = saying said (Walked v limit ∷ []) o (On (OnPin pin v)) x.1 x.2 (k, tt) k
  settled_goes versions (OnPin pin v) Release done said o k a x = saying said (Released ∷ []) o (On Nothing) x.1 x.2 (tt, tt) tt
  settled_goes versions OffPin (Walk limit) done said o k a x = saying said (NoPin ∷ []) o (On OffPin) x.1 x.2 (tt, tt) tt
  settled_goes versions OffPin Release done said o k a x = saying said (NoPin ∷ []) o (On Nothing) x.1 x.2 (tt, tt) tt
  settled_goes versions (InBlock pin v n ops) Collect done said o k a x = absurd x
  settled_goes versions Nothing Collect done said o k a (inl x) = saying said (LogFull ∷ []) o (Stop 1) x.1 x.2 (tt, tt) tt
  settled_goes versions Nothing Collect done said o k a (inr x) = saying said (Collected x.0 ∷ []) o (On Nothing) x.1.1 x.1.2 (tt, tt) tt
  settled_goes versions (OnPin pin v) Collect done said o k a (inl x) = saying said (LogFull ∷ []) o (Stop 1) x.1 x.2 (tt, tt) tt
  settled_goes versions (OnPin pin v) Collect done said o k a (inr x) = saying said (Collected x.0 ∷ []) o (On (OnPin pin v)) x.1.1 x.1.2 (tt, tt) k
  settled_goes versions OffPin Collect done said o k a (inl x) = saying said (LogFull ∷ []) o (Stop 1) x.1 x.2 (tt, tt) tt
  settled_goes versions OffPin Collect done said o k a (inr x) = saying said (Collected x.0 ∷ []) o (On OffPin) x.1.1 x.1.2 (tt, tt) tt
  settled_goes versions held step done said o k a x = absurd x

  settled_runs : (versions : ℕ → Design) (held : Held) (steps : List Step) (done : List Exchange) (said : List Word) (ending : Ending)
      → HeldUpTo h held → AllTell done → Runs versions held steps done said ending → AreSettled said
  settled_runs versions held [] done said ending k a x = subst AreSettled (sym x.1) tt
  settled_runs versions held (step ∷ steps) done said ending k a (inl x) = (settled_goes versions held step done said (Stop x.0) k a x.1).0
  settled_runs versions held (step ∷ steps) done said ending k a (inr x) =
      let parts = all_append_parts (Tells h last) x.1 x.2 (subst AllTell x.5 a) in
      let first = settled_goes versions held step x.1 x.3 (On x.0) k parts.0 x.7 in
      subst AreSettled (sym x.6) (both x.3 x.4 first.0 (settled_runs versions x.0 steps x.2 x.4 ending first.1 parts.1 x.8))

-- ---- the transcript

word_stays : (d : Design) (seen more : List Event) (word : Word) → Settled (head (state_after d seen)) (head_design d seen) word
    → word_text (head_design d (seen ++ more)) (version_at d (seen ++ more)) word ≡ word_text (head_design d seen) (version_at d seen) word
word_stays d seen more (Conflict object v) s =
    ap (λ words. line (codes "conflict" ∷ words ++ codes "version" ∷ decimal v ∷ [])) (words_stay (head_design d seen) (head_design d (seen ++ more)) object (head_grown d seen more) s)
word_stays d seen more (Walked v limit) s = ap (λ (e : Design). flattening_text e limit) (version_stays d seen more v s)
word_stays d seen more (Began v) s = refl
word_stays d seen more (Replied reply) s = refl
word_stays d seen more (Committed v) s = refl
word_stays d seen more Abandoned s = refl
word_stays d seen more (Pinned v) s = refl
word_stays d seen more (NoVersion v) s = refl
word_stays d seen more (Gone v) s = refl
word_stays d seen more Released s = refl
word_stays d seen more NoPin s = refl
word_stays d seen more (Collected n) s = refl
word_stays d seen more LogFull s = refl

said_stays : (d : Design) (seen more : List Event) (said : List Word) → AllByRecursion (Settled (head (state_after d seen)) (head_design d seen)) said → transcript d (seen ++ more) said ≡ transcript d seen said
said_stays d seen more [] s = refl
said_stays d seen more (word ∷ said) s =
    ap (λ text. text ++ transcript d (seen ++ more) said) (word_stays d seen more word s.0)
    ∙ ap (λ text. word_text (head_design d seen) (version_at d seen) word ++ text) (said_stays d seen more said s.1)

pub transcript_stays : TranscriptStays
transcript_stays d seen more caller steps said ending legal s =
    said_stays d seen more said
    (settled_runs (head (state_after d seen)) (head_design d seen) (version_at d seen) Nothing steps (exchanges caller seen) said ending tt (all_tell d [] seen caller (legal-left (opening d) seen more legal)) s)
