-- Pins as a history goes on.
use Rattle.std.proofs.Common.{◌≡◌, ◌≤◌, List, [], ◌∷◌, ◌++◌, zero, suc, sym, ◌∙◌, subst, arith}
use Rattle.std.specs.List.{All}
use Rattle.edit_tx.specs.Facts.{PinFacts}
use Rattle.db_spec.specs.declared.event.Event.{Event}
use Rattle.db_spec.specs.History.{Legal}
use Rattle.db_spec.specs.Laws.{IsReleaseOf}
use Rattle.db_spec.specs.State.{head, live_pin}
use Rattle.db_spec.proofs.Histories.{legal-left, legal-push, version_stays}
use Rattle.db_spec.proofs.Sound.{kept_up_after}
use Rattle.db_spec.proofs.Staying as staying
use Rattle.db_spec.specs.State.{opening}
use Rattle.db_core.specs.Calls.{Adds}
use Rattle.db_core.specs.Story.{Story, IsPinOf, state}

-- the version of a live pin is there
pub pinned_there : (story : Story) (pin : PinFacts) → Legal story.opening story.events → IsPinOf story pin → pin.version ≤ head (state story)
pinned_there story pin legal is =
    let fine = (kept_up_after story.opening story.events legal).fine in
    fine.there pin.version (fine.pinned_kept (live_pin pin.number pin.caller pin.version) is.live)

pub pin_stays : (story : Story) (more : List Event) (pin : PinFacts) → Legal story.opening (story.events ++ more) → IsPinOf story pin → All (λ event. ¬ IsReleaseOf pin.caller pin.number event) more
    → IsPinOf (record story { events = story.events ++ more }) pin
pin_stays story more pin legal is others =
    let begun = legal-left (opening story.opening) story.events more legal in
    record {
      live = staying.pin_stays_live story.opening story.events more pin.caller pin.number pin.version legal is.live others;
      design = is.design ∙ sym (version_stays story.opening story.events more pin.version (pinned_there story pin begun is));
    }

-- and so after one event more
pub pin_stays_on : (old new : Story) (event : Event) (pin : PinFacts) → Legal old.opening old.events → Adds old new event → ¬ IsReleaseOf pin.caller pin.number event → IsPinOf old pin → IsPinOf new pin
pin_stays_on old new event pin legal adds other is =
    let long = legal-push old.opening old.events event legal adds.admits in
    let story : record old { events = old.events ++ event ∷ [] } ≡ new = λ i. record { opening = sym adds.opening i; events = sym adds.events i } in
    subst (λ (st : Story). IsPinOf st pin) story (pin_stays old (event ∷ []) pin long is (λ k d less. one k d less))
  where
    one : All (λ (e : Event). ¬ IsReleaseOf pin.caller pin.number e) (event ∷ [])
    one zero d less = other
    one (suc k) d less = absurd (omega (arith, less))

pub still_legal : (old new : Story) (event : Event) → Legal old.opening old.events → Adds old new event → Legal new.opening new.events
still_legal old new event legal adds =
    let long = legal-push old.opening old.events event legal adds.admits in
    let story : record old { events = old.events ++ event ∷ [] } ≡ new = λ i. record { opening = sym adds.opening i; events = sym adds.events i } in
    subst (λ (st : Story). Legal st.opening st.events) story long
