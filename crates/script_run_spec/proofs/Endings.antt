-- How a script ends: by its last line, by a full log, or broken off.
use Rattle.std.proofs.Common.{◌∙◌, ℕ, List, [], ◌∷◌, ◌++◌, inl, refl, ap, sym, subst, append_assoc, append-nil, arith}
use Rattle.netlist_schema.specs.Design.{Design}
use Rattle.db_spec.specs.Answers.{HasPlaces}
use Rattle.db_spec.specs.History.{Legal, state_after, version_at}
use Rattle.db_spec.specs.declared.event.Event.{Event}
use Rattle.db_spec.proofs.Promised.{growth}
use Rattle.script_spec.specs.Headline.{HoldsNone}
use Rattle.script_spec.specs.Report.{transcript}
use Rattle.script_spec.specs.Session.{Whole, Full, Exchange, Goes, Held, Nothing, Runs, Stop, Word, exchanges, last_release}
use Rattle.script_spec.proofs.Stays.{filter_append}
use Rattle.script_run_spec.specs.Calls.{HoldsJust, Makes}
use Rattle.script_run_spec.specs.Laws.{ComesToBreak, ComesToEnd, ComesToFull}
use Rattle.script_run_spec.proofs.Along.{resumed, written_more, written_on}
use Rattle.script_run_spec.proofs.Pins.{holds_after, none_is_live, own_after, released_all}
use Rattle.script_run_spec.proofs.Places.{begun_can_end}

-- the history itself, as one that goes on by nothing
at_end : {A : Type 0} (P : List Event → A → Type 0) (history : List Event) (a : A) → P (history ++ []) a → P history a
at_end P history a p = subst (λ (xs : List Event). P xs a) (append-nil history) p

-- with the release of what was held no pin is live
none_left : (d : Design) (caller : ℕ) (old new : List Event) (held : Held) → HoldsJust d old caller held → Makes d caller old new (last_release held) → HoldsNone d new caller
none_left d caller old new held holds m = none_is_live d new caller (holds_after d caller old new held Nothing (last_release held) holds m (released_all caller held))

pub comes_to_end : ComesToEnd
comes_to_end d caller steps old new text held h m = record {
  said = h.said;
  ending = Whole;
  session =
      let runs = resumed d caller steps old new (last_release held) m h.said held [] [] [] [] Whole h.resumes (append-nil (last_release held), refl, refl) in
      subst (λ (xs : List Event). Runs (version_at d xs) Nothing steps (exchanges caller new) h.said Whole) (append-nil new)
      (subst (λ (own : List Exchange). Runs (version_at d (new ++ [])) Nothing steps own h.said Whole) (append-nil (exchanges caller new))
      (subst (λ (said : List Word). Runs (version_at d (new ++ [])) Nothing steps (exchanges caller new ++ []) said Whole) (append-nil h.said) runs));
  transcribed = written_on d caller old new (last_release held) m text h.said h.written [] (subst (λ (xs : List Event). Legal d xs) (sym (append-nil new)) m.legal)
      ∙ ap (λ (xs : List Event). transcript d xs h.said) (append-nil new);
  full = (λ e. cc (e), λ x. absurd x);
  no_places = tt;
  released = none_left d caller old new held h.holds m;
}

-- what had not the places has them not later
still_full : (d : Design) (old more : List Event) (n : ℕ) → Legal d (old ++ more) → (HasPlaces (state_after d old) n → ⊥) → HasPlaces (state_after d (old ++ more)) n → ⊥
still_full d old more n legal none has = let rises = (growth d old more legal).never_falls in none (omega (arith, rises, has))

-- the calls of a line, and then the release of what was held
pub both_makes : (d : Design) (caller : ℕ) (old new last : List Event) (done released : List Exchange) → Makes d caller old new done → Makes d caller new last released → Makes d caller old last (done ++ released)
both_makes d caller old new last done released m n = record {
  legal = n.legal;
  more = m.more ++ n.more;
  on = n.on ∙ ap (λ (xs : List Event). xs ++ n.more) m.on ∙ append_assoc old m.more n.more;
  own = filter_append caller m.more n.more ∙ ap (λ (xs : List Exchange). xs ++ exchanges caller n.more) m.own ∙ ap (λ (xs : List Exchange). done ++ xs) n.own;
}

pub comes_to_full : ComesToFull
comes_to_full d caller steps old new last before text held next step left h f m =
    let all = both_makes d caller old new last f.done (last_release next) f.makes m in
    let done : List Exchange = f.done ++ last_release next in record {
      said = h.said ++ f.words;
      ending = Full f.places;
      session =
          let goes = subst (λ (xs : List Event). Goes (version_at d xs) held step done f.words (Stop f.places)) (sym m.on) (f.goes m.more) in
          let line : Runs (version_at d (last ++ [])) held (step ∷ left) (done ++ []) f.words (Full f.places) =
          inl (
            f.places,
            subst (λ (own : List Exchange). Goes (version_at d (last ++ [])) held step own f.words (Stop f.places)) (sym (append-nil done))
                (subst (λ (xs : List Event). Goes (version_at d xs) held step done f.words (Stop f.places)) (sym (append-nil last)) goes),
            refl,
          ) in
          let runs = resumed d caller steps old last done all h.said held (step ∷ left) [] [] f.words (Full f.places) h.resumes line in
          subst (λ (xs : List Event). Runs (version_at d xs) Nothing steps (exchanges caller last) (h.said ++ f.words) (Full f.places)) (append-nil last)
          (subst (λ (own : List Exchange). Runs (version_at d (last ++ [])) Nothing steps own (h.said ++ f.words) (Full f.places)) (append-nil (exchanges caller last)) runs);
      transcribed =
          written_on d caller new last (last_release next) m text (h.said ++ f.words)
          (written_more d caller old new f.done f.makes before text h.said f.words h.written f.writes) [] (subst (λ (xs : List Event). Legal d xs) (sym (append-nil last)) m.legal)
          ∙ ap (λ (xs : List Event). transcript d xs (h.said ++ f.words)) (append-nil last);
      full = (λ _. tt, λ _. refl);
      no_places = subst (λ (xs : List Event). HasPlaces (state_after d xs) f.places → ⊥) (sym m.on)
          (still_full d new m.more f.places (subst (λ (xs : List Event). Legal d xs) m.on m.legal) f.no_places);
      released = none_left d caller new last next f.holds m;
    }

pub comes_to_break : ComesToBreak
comes_to_break d caller steps old new last before held next step left h b m =
    let begun = b.begins m.more in
    let whole = begun_can_end (version_at d (new ++ m.more)) held step left b.done begun.0 begun.1 begun.2 h.placed begun.3 in
    let there = resumed d caller steps old new b.done b.makes h.said held (step ∷ left) m.more whole.0 whole.1 whole.2 h.resumes whole.3 in record {
      done = exchanges caller new;
      rest = whole.0;
      said = h.said ++ whole.1;
      ending = whole.2;
      session = subst (λ (xs : List Event). Runs (version_at d xs) Nothing steps (exchanges caller new ++ whole.0) (h.said ++ whole.1) whole.2) (sym m.on) there;
      held = next;
      made = own_after d caller new last (last_release next) m;
      released = none_left d caller new last next b.holds m;
    }
