use Rattle.std.proofs.Common.{◌≡◌, ◌∙◌, List, Option, Some, Ok, option_map, refl, sym, ap, subst, inl, inr}
use Rattle.flat_spec.specs.Types.{Item}
use Rattle.occ_walk.specs.Walk.{Rest}
use Rattle.netdb_view.specs.Facts.{ViewFacts}
use Rattle.netdb_view.specs.Showing.{left_at, shown_at}
use Rattle.netdb_view.specs.Walking.{Shows}
use Rattle.netdb_view.specs.declared.view.Showing.{Showing}
use Rattle.netdb_view.specs.declared.view.Showing.TheVariants.{Ahead, Passed}
use Rattle.netdb_view.proofs.Stepping.{shows_ahead, steps}
use Rattle.netdb_view.proofs.view.View.next.Goals as goal

pub returns-in-Ok-true : goal.returns-in-Ok-true
returns-in-Ok-true c =
    let v = c.self.inside in
    let within = c.pass.ensures.within (c.in-Ok-true.is ∙ ap (λ b. Ok b) c.in-Ok-true.field-0-test) in
    let was : c.args.self.now.left ≡ Some c.pass.new.walk.left =
    sym (ap (λ (f : ViewFacts). f.left) c.self.view_is) ∙ ap (λ (s : Showing). option_map (left_at s) v.walk) c.in-Ahead.is
    ∙ ap (λ (o : Option Rest). option_map (left_at Ahead) o) c.in-Some.is ∙ ap (λ (items : List Item). Some items) (sym within.0) in
    subst (λ (s : Showing). Shows c.args.self.now (record { version = v.version; left = Some (left_at s c.pass.new.walk); shown = shown_at s (Some c.pass.new.walk) c.pass.new.kept })) (sym c.in-Ahead.is)
    (shows_ahead c.args.self.now v.version c.pass.new.walk.left (sym (ap (λ (f : ViewFacts). f.version) c.self.view_is)) was within.2)

pub returns-in-Ok-false : goal.returns-in-Ok-false
returns-in-Ok-false c =
    let v = c.self.inside in
    let passed = c.pass.ensures.passed (c.in-Ok-false.is ∙ ap (λ b. Ok b) c.in-Ok-false.field-0-test) in
    let was : c.args.self.now.left ≡ Some c.go_on.new.walk.left =
    sym (ap (λ (f : ViewFacts). f.left) c.self.view_is) ∙ ap (λ (s : Showing). option_map (left_at s) v.walk) c.in-Ahead.is
    ∙ ap (λ (o : Option Rest). option_map (left_at Ahead) o) c.in-Some.is ∙ ap (λ (items : List Item). Some items) (sym passed.0) ∙ ap (λ (items : List Item). Some items) (sym c.go_on.ensures.left) in
    let shown : c.args.self.now.shown ≡ c.pass.new.kept =
    sym (ap (λ (f : ViewFacts). f.shown) c.self.view_is) ∙ ap (λ (s : Showing). shown_at s v.walk v.kept) c.in-Ahead.is
    ∙ ap (λ (o : Option Rest). shown_at Ahead o v.kept) c.in-Some.is ∙ sym passed.1 in
    steps c.args.self.now v.version c.go_on.new.walk c.pass.new.kept Passed c.go_on.new.showing c.go_on.result
    (sym (ap (λ (f : ViewFacts). f.version) c.self.view_is)) was shown refl c.go_on.ensures.went

pub returns-in-Nothing : goal.returns-in-Nothing
returns-in-Nothing c =
    let v = c.self.inside in
    let w = c.go_on-in-Nothing.new.walk in
    let plain : (r : Rest) → left_at v.showing r ≡ r.left =
    λ r. elim c.in-Nothing.is [ inl e ↦ ap (λ (s : Showing). left_at s r) e | inr e ↦ ap (λ (s : Showing). left_at s r) e ] in
    let was : c.args.self.now.left ≡ Some w.left =
    sym (ap (λ (f : ViewFacts). f.left) c.self.view_is) ∙ ap (λ (o : Option Rest). option_map (left_at v.showing) o) c.in-Some.is
    ∙ ap (λ (items : List Item). Some items) (plain c.in-Some.walk) ∙ ap (λ (items : List Item). Some items) (sym c.go_on-in-Nothing.ensures.left) in
    let shown : c.args.self.now.shown ≡ shown_at v.showing (Some w) v.kept =
    sym (ap (λ (f : ViewFacts). f.shown) c.self.view_is)
    ∙ elim c.in-Nothing.is [
      | inl e ↦ ap (λ (s : Showing). shown_at s v.walk v.kept) e ∙ sym (ap (λ (s : Showing). shown_at s (Some w) v.kept) e)
      | inr e ↦ ap (λ (s : Showing). shown_at s v.walk v.kept) e ∙ sym (ap (λ (s : Showing). shown_at s (Some w) v.kept) e)
    ] in
    steps c.args.self.now v.version w v.kept v.showing c.go_on-in-Nothing.new.showing c.go_on-in-Nothing.result
    (sym (ap (λ (f : ViewFacts). f.version) c.self.view_is)) was shown (plain w) c.go_on-in-Nothing.ensures.went
