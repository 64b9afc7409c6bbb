use Rattle.std.proofs.Common.{◌∙◌}
use Rattle.std.specs.Prelude.{string_bytes}
use Rattle.gen_run.proofs.Told.{is_summary}
use Rattle.gen_run.proofs.Texts.{text_is}
use Rattle.gen_run.proofs.tell.summary.Goals as goal

pub returns : goal.returns
returns c =
    let text = text_is c.in_ok-told.told c.as_str.result.now c.as_str-2.result.now (string_bytes c.in_ok-text.text) (c.as_str.ensures.value ∙ c.in_ok-first.ensures) (c.as_str-2.ensures.value ∙ c.in_ok-last.ensures) c.in_ok-text.ensures in
    is_summary c.args.count c.in_ok-told.told _ c.in_ok-told.ensures (cc text)
