-- A history has one report that its scripts fit.
use Rattle.std.proofs.Common.{◌≡◌, ◌∙◌, ℕ, ◌+◌, List, [], ◌∷◌, refl, ap, sym}
use Rattle.netlist_schema.specs.Design.{Design}
use Rattle.db_spec.specs.History.{version_at}
use Rattle.db_spec.specs.declared.event.Event.{Event}
use Rattle.script_spec.specs.declared.script.Step.{Step}
use Rattle.script_spec.specs.Report.{Prints, SessionResult, Sessions, report}
use Rattle.script_spec.specs.Session.{Nothing, exchanges}
use Rattle.script_spec.proofs.OneSession.{one_run}

one_story : (x y : SessionResult) → (x.said ≡ y.said) × (x.ending ≡ y.ending) → x ≡ y
one_story x y e = ap (λ s. record { said = s; ending = x.ending }) e.0 ∙ ap (λ z. record { said = y.said; ending = z }) e.1

pub one_stories : (d : Design) (history : List Event) (caller : ℕ) (scripts : List (List Step)) (a b : List SessionResult)
    → Sessions d history caller scripts a → Sessions d history caller scripts b → a ≡ b
one_stories d history caller [] [] [] x y = refl
one_stories d history caller [] [] (t ∷ b) x y = absurd y
one_stories d history caller [] (s ∷ a) b x y = absurd x
one_stories d history caller (script ∷ scripts) [] b x y = absurd x
one_stories d history caller (script ∷ scripts) (s ∷ a) [] x y = absurd y
one_stories d history caller (script ∷ scripts) (s ∷ a) (t ∷ b) x y =
    let first : s ≡ t = one_story s t (one_run (version_at d history) Nothing script (exchanges caller history) s.said t.said s.ending t.ending x.0 y.0) in
    let rest : a ≡ b = one_stories d history (caller + 1) scripts a b x.1 y.1 in
    ap (λ z. z ∷ a) first ∙ ap (λ z. t ∷ z) rest

pub one_report : (d : Design) (scripts : List (List Step)) (history : List Event) (a b : List ℕ) → Prints d scripts a history → Prints d scripts b history → a ≡ b
one_report d scripts history a b x y =
    x.printed ∙ ap (report d history) (one_stories d history 0 scripts x.results y.results x.fit y.fit) ∙ sym y.printed
