-- A step of a walk, and what is shown behind it.
use Rattle.std.proofs.Common.{◌≡◌, ◌≢◌, List, [], ◌∷◌, Option, Some, None, drop, slice_get, refl, subst, sym, ap, ◌∙◌}
use Rattle.db_version.specs.Shot.{Shot}
use Rattle.flat_spec.specs.Types.{Item}
use Rattle.occ_walk.specs.Walk.{Rest}
use Rattle.netdb_view.specs.Facts.{ViewFacts}
use Rattle.netdb_view.specs.Showing.{HasGone, left_at, shown_at}
use Rattle.netdb_view.specs.Walking.{Shows, StepsOn}
use Rattle.netdb_view.specs.declared.view.Showing.{Showing}
use Rattle.netdb_view.specs.declared.view.Step.{Step}
use Rattle.netdb_view.specs.declared.view.Step.TheVariants as step

-- what a view shows is what its three parts are
same_view : (a b : ViewFacts) → a.version ≡ b.version → a.left ≡ b.left → a.shown ≡ b.shown → a ≡ b
same_view a b version left shown = λ i. record { version = version i; left = left i; shown = shown i }

-- where items are left, the first of them is shown ahead
pub shows_ahead : (old : ViewFacts) (version : Shot) (items : List Item) → old.version ≡ version → old.left ≡ Some items → items ≢ []
    → Shows old (record { version = version; left = Some (drop 1 items); shown = slice_get items 0 })
shows_ahead old version [] same was some = absurd (some refl)
shows_ahead old version (x ∷ xs) same was some = record {
  item = x;
  others = xs;
  was = was;
  is = ap (λ (v : Shot). record { version = v; left = Some xs; shown = Some x }) (sym same);
}

-- a walk that has passed over what is shown goes on
pub steps : (old : ViewFacts) (version : Shot) (w : Rest) (kept : Option Item) (before after : Showing) (r : Step)
    → old.version ≡ version → old.left ≡ Some w.left → old.shown ≡ shown_at before (Some w) kept → left_at before w ≡ w.left
    → HasGone w before after r → StepsOn old (record { version = version; left = Some (left_at after w); shown = shown_at after (Some w) kept }) r
steps old version w kept before after step.Shown same was shown passed gone =
    subst (λ (s : Showing). Shows old (record { version = version; left = Some (left_at s w); shown = shown_at s (Some w) kept })) (sym gone.0)
    (shows_ahead old version w.left same was gone.2)
steps old version w kept before after step.End same was shown passed gone = (
  was ∙ ap Some gone.1,
  same_view (record { version = version; left = Some (left_at after w); shown = shown_at after (Some w) kept }) (record { version = old.version; left = Some []; shown = None })
      (sym same) (ap (λ (s : Showing). Some (left_at s w)) gone.0 ∙ ap Some gone.1) (ap (λ (s : Showing). shown_at s (Some w) kept) gone.0),
)
steps old version w kept before after step.NoMemory same was shown passed gone = (
  same_view (record { version = version; left = Some (left_at after w); shown = shown_at after (Some w) kept }) old
      (sym same) (ap (λ (s : Showing). Some (left_at s w)) gone ∙ ap Some passed ∙ sym was) (ap (λ (s : Showing). shown_at s (Some w) kept) gone ∙ sym shown),
  λ none. absurd (cc (sym was ∙ none)),
)
steps old version w kept before after step.NoWalk same was shown passed gone = absurd gone
