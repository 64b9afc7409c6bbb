use Rattle.std.proofs.Common.{◌≡◌, ◌++◌, ◌∷◌, [], false, true, nat_eq, sym, ap, ◌∙◌}
use Rattle.std.specs.Cmp.Lexicographic.{pointwise}
use Rattle.flat_spec.specs.ConnectionTest.{share_bit}
use Rattle.flat_spec.specs.Paths.{ends_at}
use Rattle.design_model.proofs.MeetLemmas.{meets-above, meets-elsewhere}
use Rattle.design_model.proofs.meets.meets.Goals as goal

pub returns-then-eq : goal.returns-then-eq
returns-then-eq g c =
    let d = g.S.Shown.design c.args.design.now in
    let path = c.in-Some.path.now in
    let step = c.in-Some.step.now in
    let below : c.args.lower.now.path ≡ path ++ step ∷ [] = sym c.as_slice.ensures.value ∙ c.in-Some.ensures.cases.0 in
    let here : pointwise nat_eq path c.args.upper.now.path ≡ true =
    ap (pointwise nat_eq path) (sym c.as_slice-in-Some.ensures.value) ∙ (sym c.eq.ensures ∙ c.if-eq.true) in
    c.share_bit.ensures
    ∙ (ap (λ upper. share_bit step upper c.ends_at-then-eq.result.now) c.ends_at.ensures
    ∙ (ap (share_bit step (ends_at d c.args.root c.args.upper.now)) c.ends_at-then-eq.ensures
    ∙ meets-above d c.args.root c.args.upper.now c.args.lower.now path step below here))

pub returns-else-eq : goal.returns-else-eq
returns-else-eq g c =
    let path = c.in-Some.path.now in
    let step = c.in-Some.step.now in
    let below : c.args.lower.now.path ≡ path ++ step ∷ [] = sym c.as_slice.ensures.value ∙ c.in-Some.ensures.cases.0 in
    let elsewhere : pointwise nat_eq path c.args.upper.now.path ≡ false =
    ap (pointwise nat_eq path) (sym c.as_slice-in-Some.ensures.value) ∙ (sym c.eq.ensures ∙ c.if-eq.false) in
    c.if-eq.false
    ∙ meets-elsewhere (g.S.Shown.design c.args.design.now) c.args.root c.args.upper.now c.args.lower.now path step below elsewhere
