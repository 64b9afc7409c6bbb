use Rattle.std.proofs.Common.{[], ◌∷◌, ◌++◌, ◌∙◌, ap}
use Rattle.std.specs.Prelude.{codes}
use Rattle.netdb_outside.proofs.BufferedLemmas.{writes_then, writes_same}
use Rattle.script_report.proofs.Parts.{four_in_order}
use Rattle.script_report.proofs.lines.put_transcript.Goals as goal

pub returns : goal.returns
returns g c =
    let text = c.args.text.now in
    writes_same
    (four_in_order (codes "script ") c.as_bytes.result.now (10 ∷ []) text
    ∙ ap (λ digits. ((codes "script " ++ digits) ++ 10 ∷ []) ++ text) (c.as_bytes.ensures.value ∙ c.format.ensures.text))
    (writes_then c.put.ensures (writes_then c.put-2.ensures (writes_then c.put-3.ensures c.put-4.ensures)))
