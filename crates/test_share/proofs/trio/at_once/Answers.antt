use Rattle.std.proofs.Common.{◌≡◌, ◌∙◌, length, ap, sym, arith}
use Rattle.test_share.proofs.Trios.{all_gone, may_step}
use Rattle.test_share.proofs.trio.at_once.Goals as goal

pub run_phase-requires-after_bounds : goal.run_phase-requires-after_bounds
run_phase-requires-after_bounds g c = λ _ _. may_step c.args.db.now c.args.trio c.requires c.in_ok-callers.callers.items c.in_ok-callers.ensures

pub returns : goal.returns
returns g c =
    let old = c.in_ok-callers.callers in
    let new = c.in-Ok.back in
    let many : length new.items ≡ length old.items = sym new.ok.0 ∙ (c.in-Ok.ensures.len ∙ old.ok.0) in
    all_gone c.args.db.now c.args.trio c.requires _ old.items new.items c.in_ok-callers.ensures (c.in_ok-first.ensures (many ∙ ap length c.in_ok-callers.ensures))
    (λ k d less. c.in-Ok.ensures.each k d (omega (arith, less, old.ok.0)))
