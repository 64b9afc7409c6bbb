use Rattle.std.proofs.Common.{◌≡◌, ◌∙◌, length, sym, arith}
use Rattle.db_share.proofs.AllPasses.{all_ready, each_seat}
use Rattle.test_share.proofs.many.core_of.Goals as goal

pub close-requires-clause-ready : goal.close-requires-clause-ready
close-requires-clause-ready g c =
    let old = c.in_ok-db.passes in
    let new = c.in_ok-passes.passes in
    let many : length new.items ≡ length old.items = sym new.ok.0 ∙ (c.in_ok-passes.ensures.len ∙ old.ok.0) in
    all_ready c.in_ok-db.db old.items new.items many (λ k d less. c.in_ok-passes.ensures.each k d (omega (arith, less, old.ok.0)))

pub close-requires-clause-all : goal.close-requires-clause-all
close-requires-clause-all g c =
    let old = c.in_ok-db.passes in
    let new = c.in_ok-passes.passes in
    let many : length new.items ≡ length old.items = sym new.ok.0 ∙ (c.in_ok-passes.ensures.len ∙ old.ok.0) in
    each_seat c.args.design c.args.callers c.in_ok-db.db old.items new.items c.in_ok-db.ensures many (λ k d less. c.in_ok-passes.ensures.each k d (omega (arith, less, old.ok.0)))
