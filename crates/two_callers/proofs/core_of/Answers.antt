use Rattle.std.proofs.Common.{◌≡◌, ◌∙◌, arith, length, sym}
use Rattle.db_share.proofs.AllPasses.{each_seat}
use Rattle.two_callers.proofs.core_of.Goals as goal

pub close-requires-clause-all : goal.close-requires-clause-all
close-requires-clause-all g c =
    let old = c.in_ok-db.passes in
    let new = c.in_ok-passes.passes in
    let many : length new.items ≡ length old.items = sym new.ok.0 ∙ (c.in_ok-passes.ensures.len ∙ old.ok.0) in
    each_seat c.args.design 2 c.in_ok-db.db old.items new.items c.in_ok-db.ensures many (λ k d less. c.in_ok-passes.ensures.each k d (omega (arith, less, old.ok.0)))
