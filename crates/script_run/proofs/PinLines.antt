-- Lines that pin a version.
use Rattle.std.proofs.Common.{◌≡◌, ◌∙◌, ℕ, List, [], ◌∷◌, ◌++◌, Result, Ok, Err, inl, inr, refl, ap, sym, subst}
use Rattle.std.specs.Prelude.{OnOk, codes, decimal}
use Rattle.netlist_schema.specs.Design.{Design}
use Rattle.edit_tx.specs.Facts.{PinFacts, TxFacts, started}
use Rattle.db_spec.specs.Answers.{HasPlaces}
use Rattle.db_spec.specs.declared.event.Answer.TheVariants as answer
use Rattle.db_spec.specs.declared.event.Call.{Call}
use Rattle.db_spec.specs.declared.event.Call.TheVariants as call
use Rattle.script_spec.specs.Session.{Began, Gone, LogFull, NoVersion, Pinned, Goes, Nothing, OffPin, OnPin, InBlock, On, Stop as Stopped, Told}
use Rattle.script_spec.specs.Texts.{line}
use Rattle.script_spec.specs.declared.script.Step.{Step}
use Rattle.script_spec.specs.declared.script.Step.TheVariants as step
use Rattle.script_run_spec.specs.Lines.{Begins, GoesOn, IsBroken}
use Rattle.script_run_spec.proofs.OneLine.{begin_goes, broken, gone_goes, no_version_goes, pin_at_goes, pin_filled, pin_goes}
use Rattle.script_run_spec.proofs.Pins.{holds_after}
use Rattle.db_share.specs.Passes.{Shared, Pass, HasPin, known}
use Rattle.db_share.specs.Calls.{LacksRoom, LacksMemory, Looks, Makes, Pins}
use Rattle.script_held.specs.Holding.{filled, held_after}
use Rattle.script_held.specs.declared.held.Held.TheVariants as held
use Rattle.script_held.specs.declared.held.Stop.TheVariants.{NoMemory}
use Rattle.script_held.proofs.Calls.{one_call}
use Rattle.script_run.specs.Coming.{Comes, Starts, Stops}
use Rattle.script_run.specs.Holding.{Stands}
use Rattle.script_run.proofs.Calls.{no_call}

-- a line that pins may be refused by a full log
abbrev MayBeFull : Step → Type 0
MayBeFull s = (versions : ℕ → Design) → Goes versions Nothing s [] (LogFull ∷ []) (Stopped 2)

module _ (db : Shared) (old new : Pass) (before text : List ℕ) (stands : Stands db old held.Nothing) where
  -- ---- refusals

  nothing_done : (s : Step) → MayBeFull s → Looks db old new → IsBroken db.base old.number old.seen new.seen Nothing s Nothing
  nothing_done s full looks =
      let m = no_call db old new stands.ready looks in
      broken db.base old.number old.seen new.seen before text Nothing Nothing s [] m
      (holds_after db.base old.number old.seen new.seen Nothing Nothing [] stands.holds m refl)
      (λ versions. ([], LogFull ∷ [], Stopped 2, full versions))

  full_told : {A E : Type 0} (said : Result A E) (s : Step) → MayBeFull s → Looks db old new → (HasPlaces (known db new) 2 → ⊥) → OnOk said (text ≡ before ++ line (codes "log-full" ∷ []))
      → Stops db old new before text Nothing s (filled said held.Nothing)
  full_told (Ok a) s full looks none e = (pin_filled db.base old.number old.seen new.seen before text s full stands.holds (no_call db old new stands.ready looks) none e, tt)
  full_told (Err x) s full looks none e = (nothing_done s full looks, tt)

  -- ---- pins that were made

  pinned_broken : (s : Step) (c : Call) (pin : PinFacts) → ((versions : ℕ → Design) → Begins versions Nothing s (Told c (answer.Pinned pin.number pin.version) ∷ []))
      → Makes db old new c (answer.Pinned pin.number pin.version) → IsBroken db.base old.number old.seen new.seen Nothing s (OnPin pin.number pin.version)
  pinned_broken s c pin begins made =
      let m = one_call db old new c (answer.Pinned pin.number pin.version) stands.ready made in
      broken db.base old.number old.seen new.seen before text Nothing (OnPin pin.number pin.version) s (Told c (answer.Pinned pin.number pin.version) ∷ []) m
      (holds_after db.base old.number old.seen new.seen Nothing (OnPin pin.number pin.version) (Told c (answer.Pinned pin.number pin.version) ∷ []) stands.holds m refl)
      begins

  on_version : (pin : PinFacts) (v : ℕ) → v ≡ pin.version → text ≡ before ++ line (codes "pin" ∷ decimal v ∷ []) → text ≡ before ++ line (codes "pin" ∷ decimal pin.version ∷ [])
  on_version pin v is e = e ∙ ap (λ (w : ℕ). before ++ line (codes "pin" ∷ decimal w ∷ [])) is

  -- ---- `pin`

  pub pin_told : {A E : Type 0} (said : Result A E) (pin : PinFacts) (v : ℕ) → v ≡ pin.version → Pins db old new call.Pin pin → OnOk said (text ≡ before ++ line (codes "pin" ∷ decimal v ∷ []))
      → Comes db old new before text Nothing step.Pin (held_after said (held.OnPin pin))
  pin_told (Ok a) pin v is p e = (
    pin_goes db.base old.number old.seen new.seen before text pin.number pin.version stands.holds (one_call db old new call.Pin (answer.Pinned pin.number pin.version) stands.ready p.makes) (on_version pin v is e),
    p.has,
  )
  pin_told (Err x) pin v is p e =
      (pinned_broken step.Pin call.Pin pin (λ versions. ([], Pinned pin.version ∷ [], On (OnPin pin.number pin.version), inr (pin.number, pin.version, (refl, refl, refl)))) p.makes, p.has)

  pub pin_full : {A E : Type 0} (said : Result A E) → LacksRoom db old new call.Pin → OnOk said (text ≡ before ++ line (codes "log-full" ∷ [])) → Stops db old new before text Nothing step.Pin (filled said held.Nothing)
  pin_full said f e = full_told said step.Pin (λ versions. inl (refl, refl, refl)) f.looks f.full e

  pub pin_short : LacksMemory db old new call.Pin → Stops db old new before text Nothing step.Pin (NoMemory held.Nothing)
  pin_short l = (nothing_done step.Pin (λ versions. inl (refl, refl, refl)) l.looks, tt)

  -- ---- `pin-at`

  module _ (wanted : ℕ) where
    pub pin_at_told : {A E : Type 0} (said : Result A E) (pin : PinFacts) (v : ℕ) → v ≡ pin.version → Pins db old new (call.PinAt wanted) pin → OnOk said (text ≡ before ++ line (codes "pin" ∷ decimal v ∷ []))
        → Comes db old new before text Nothing (step.PinAt wanted) (held_after said (held.OnPin pin))
    pin_at_told (Ok a) pin v is p e = (
      pin_at_goes db.base old.number old.seen new.seen before text wanted pin.number pin.version stands.holds
          (one_call db old new (call.PinAt wanted) (answer.Pinned pin.number pin.version) stands.ready p.makes) (on_version pin v is e),
      p.has,
    )
    pin_at_told (Err x) pin v is p e = (
      pinned_broken (step.PinAt wanted) (call.PinAt wanted) pin
          (λ versions. ([], Pinned pin.version ∷ [], On (OnPin pin.number pin.version), inr (inl (pin.number, pin.version, (refl, refl, refl))))) p.makes,
      p.has,
    )

    pub no_version_told : {A E : Type 0} (said : Result A E) (last : ℕ) → Makes db old new (call.PinAt wanted) (answer.NoVersion last) → OnOk said (text ≡ before ++ line (codes "no-version" ∷ decimal last ∷ []))
        → Comes db old new before text Nothing (step.PinAt wanted) (held_after said held.OffPin)
    no_version_told (Ok a) last made e =
        (no_version_goes db.base old.number old.seen new.seen before text wanted last stands.holds (one_call db old new (call.PinAt wanted) (answer.NoVersion last) stands.ready made) e, tt)
    no_version_told (Err x) last made e =
        let m = one_call db old new (call.PinAt wanted) (answer.NoVersion last) stands.ready made in (
          broken db.base old.number old.seen new.seen before text Nothing OffPin (step.PinAt wanted) (Told (call.PinAt wanted) (answer.NoVersion last) ∷ []) m
              (holds_after db.base old.number old.seen new.seen Nothing OffPin (Told (call.PinAt wanted) (answer.NoVersion last) ∷ []) stands.holds m refl)
              (λ versions. ([], NoVersion last ∷ [], On OffPin, inr (inr (inl (last, (refl, refl, refl)))))),
          tt,
        )

    pub gone_told : {A E : Type 0} (said : Result A E) (least : ℕ) → Makes db old new (call.PinAt wanted) (answer.Gone least) → OnOk said (text ≡ before ++ line (codes "gone" ∷ decimal least ∷ []))
        → Comes db old new before text Nothing (step.PinAt wanted) (held_after said held.OffPin)
    gone_told (Ok a) least made e =
        (gone_goes db.base old.number old.seen new.seen before text wanted least stands.holds (one_call db old new (call.PinAt wanted) (answer.Gone least) stands.ready made) e, tt)
    gone_told (Err x) least made e =
        let m = one_call db old new (call.PinAt wanted) (answer.Gone least) stands.ready made in (
          broken db.base old.number old.seen new.seen before text Nothing OffPin (step.PinAt wanted) (Told (call.PinAt wanted) (answer.Gone least) ∷ []) m
              (holds_after db.base old.number old.seen new.seen Nothing OffPin (Told (call.PinAt wanted) (answer.Gone least) ∷ []) stands.holds m refl)
              (λ versions. ([], Gone least ∷ [], On OffPin, inr (inr (inr (least, (refl, refl, refl)))))),
          tt,
        )

    pub pin_at_full : {A E : Type 0} (said : Result A E) → LacksRoom db old new (call.PinAt wanted) → OnOk said (text ≡ before ++ line (codes "log-full" ∷ []))
        → Stops db old new before text Nothing (step.PinAt wanted) (filled said held.Nothing)
    pin_at_full said f e = full_told said (step.PinAt wanted) (λ versions. inl (refl, refl, refl)) f.looks f.full e

    pub pin_at_short : LacksMemory db old new (call.PinAt wanted) → Stops db old new before text Nothing (step.PinAt wanted) (NoMemory held.Nothing)
    pin_at_short l = (nothing_done (step.PinAt wanted) (λ versions. inl (refl, refl, refl)) l.looks, tt)

  -- ---- `begin`

  module _ (retries : ℕ) where
    pub begin_full : {A E : Type 0} (said : Result A E) → LacksRoom db old new call.Pin → OnOk said (text ≡ before ++ line (codes "log-full" ∷ []))
        → Stops db old new before text Nothing (step.Begin retries) (filled said held.Nothing)
    begin_full said f e = full_told said (step.Begin retries) (λ versions. inl (refl, refl, refl)) f.looks f.full e

    pub begin_short : LacksMemory db old new call.Pin → Stops db old new before text Nothing (step.Begin retries) (NoMemory held.Nothing)
    begin_short l = (nothing_done (step.Begin retries) (λ versions. inl (refl, refl, refl)) l.looks, tt)

    -- the pin was made, and no more
    pub begun_broken : (pin : PinFacts) → Pins db old new call.Pin pin → Stops db old new before text Nothing (step.Begin retries) (NoMemory (held.OnPin pin))
    begun_broken pin p = (
      pinned_broken (step.Begin retries) call.Pin pin
          (λ versions. ([], Began pin.version ∷ [], On (InBlock pin.number pin.version retries []), inr (pin.number, pin.version, (refl, refl, refl)))) p.makes,
      p.has,
    )

    pub begun : (pin : PinFacts) (v : ℕ) (tx : TxFacts) (first : ℕ) → v ≡ pin.version → Pins db old new call.Pin pin → text ≡ before ++ line (codes "begin" ∷ decimal v ∷ []) → tx ≡ started pin
        → Starts db old new before text retries (Ok (record { tx = tx; retries = retries; first = first }))
    begun pin v tx first at p e is =
        let goes = begin_goes db.base old.number old.seen new.seen before text retries pin.number pin.version stands.holds
        (one_call db old new call.Pin (answer.Pinned pin.number pin.version) stands.ready p.makes) (e ∙ ap (λ (w : ℕ). before ++ line (codes "begin" ∷ decimal w ∷ [])) at) in (
          (
            subst (λ (t : TxFacts). GoesOn db.base old.number old.seen new.seen before text Nothing (step.Begin retries) (InBlock t.pin.number t.pin.version retries t.ops)) (sym is) goes,
            subst (λ (t : TxFacts). HasPin db new t.pin) (sym is) p.has,
          ),
          refl,
          subst (λ (t : TxFacts). t ≡ started t.pin) (sym is) refl,
        )
