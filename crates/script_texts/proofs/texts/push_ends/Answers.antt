use Rattle.std.proofs.Common.{◌≡◌, ◌++◌}
use Rattle.std.proofs.lemmas.Result.{on_ok_weaker}
use Rattle.script_texts.specs.Parts.{more_ends}
use Rattle.script_texts.proofs.LineLemmas.{ends_pushed}
use Rattle.script_texts.proofs.texts.push_ends.Goals as goal

pub returns-in_ok-push_end-in-Some-clause-ok : goal.returns-in_ok-push_end-in-Some-clause-ok
returns-in_ok-push_end-in-Some-clause-ok c =
    let old = c.args.out.now.items in
    let begun = c.push_end.new.out.items in
    let whole = c.push_more_ends.new.out.items in
    let first = c.in-Some.first.now in
    let rest = c.in-Some.rest.now in
    on_ok_weaker c.push_more_ends.result
    (λ (last : whole ≡ begun ++ more_ends rest).
    ends_pushed old begun whole first c.args.ends.now rest c.in-Some.ensures.cases.0 c.in_ok-push_end-in-Some.ensures.ok last)
    c.push_more_ends.ensures.ok
