use Rattle.std.proofs.Common.{ap, ◌∙◌}
use Rattle.netlist_schema.proofs.Lists.{same_test}
use Rattle.edif_spec.specs.Keyword.{same}
use Rattle.edif_spec.proofs.SameLemmas.{same_says, says_same}
use Rattle.edif_parts.proofs.parts.is_word.Goals as goal

pub returns : goal.returns
returns c =
    same_test _ _ (λ h. says_same c.as_slice.result.now c.args.spelled.now (c.eq_ignore_ascii_case.ensures.test.0 h)) (λ h. c.eq_ignore_ascii_case.ensures.test.1 (same_says c.as_slice.result.now c.args.spelled.now h))
    ∙ ap (λ v. same v c.args.spelled.now) c.as_slice.ensures.value
