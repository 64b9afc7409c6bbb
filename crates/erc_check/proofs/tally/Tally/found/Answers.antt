use Rattle.std.proofs.Common.{◌++◌, ap, ◌∙◌}
use Rattle.erc_check.proofs.TallyLemmas.{all_found}
use Rattle.erc_check.proofs.tally.Tally.found.Goals as goal

pub returns : goal.returns
returns c = λ d items t.
    c.of.ensures ∙ (c.in_ok-append.ensures.items ∙ (ap (λ v. v ++ c.args.self.pins.items) c.in_ok-found.ensures ∙ all_found d items c.args.self t))
