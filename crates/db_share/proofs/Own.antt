-- The events of one number in a list that goes on.
use Rattle.std.proofs.Common.{◌≡◌, ℕ, ◌==◌, true, cond, List, [], ◌∷◌, ◌++◌, Contains, All, ap, sym, ◌∙◌, subst, arith}
use Rattle.std.proofs.lemmas.Bool.Decides.{nat_tests}
use Rattle.std.proofs.lemmas.List.{append_cancel_left}
use Rattle.std.proofs.lemmas.List.Elements.{filter-append, All-contains}
use Rattle.db_spec.specs.declared.event.Call.TheVariants.{Release}
use Rattle.db_spec.specs.declared.event.Event.{Event}
use Rattle.db_spec.specs.Laws.{IsReleaseOf}
use Rattle.db_spec.proofs.Lists.{All-from_in, to_filter}
use Rattle.turn_cell.specs.Seats.{entries_of}
use Rattle.db_share.specs.Passes.{maker}

same_number : (m n : ℕ) → m ≡ n → (m == n) ≡ true
same_number m n e = grind (arith, nat_tests)

-- one event more, of this number
pub own_more : (number : ℕ) (log : List Event) (event : Event) → event.caller ≡ number → entries_of maker number (log ++ event ∷ []) ≡ entries_of maker number log ++ event ∷ []
own_more number log event mine =
    filter-append (λ (e : Event). maker e == number) log (event ∷ [])
    ∙ ap (λ b. entries_of maker number log ++ cond b (event ∷ []) []) (same_number event.caller number mine)

-- what a list goes on with has of the number just what is more of it
pub rest_own : (number : ℕ) (seen rest own more : List Event) → own ≡ entries_of maker number seen → entries_of maker number (seen ++ rest) ≡ own ++ more → entries_of maker number rest ≡ more
rest_own number seen rest own more before after =
    append_cancel_left (entries_of maker number seen) (entries_of maker number rest) more
    (sym (filter-append (λ (e : Event). maker e == number) seen rest) ∙ (after ∙ ap (λ (xs : List Event). xs ++ more) before))

-- where none of the caller's events is the release, none of all events is the caller's release
pub no_release : (number pin : ℕ) (rest more : List Event) → entries_of maker number rest ≡ more → All (λ event. ¬ (event.call ≡ Release pin)) more → All (λ event. ¬ IsReleaseOf number pin event) rest
no_release number pin rest more is none = All-from_in (λ event. ¬ IsReleaseOf number pin event) rest
    (λ x here release. All-contains (λ (event : Event). ¬ (event.call ≡ Release pin)) more x none
    (subst (λ (xs : List Event). Contains xs x) is (to_filter (λ (e : Event). maker e == number) rest x (same_number x.caller number release.0) here))
    release.1)
