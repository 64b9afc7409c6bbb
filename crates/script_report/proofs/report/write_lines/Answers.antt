use Rattle.std.proofs.Common.{[], ◌∷◌, ◌++◌}
use Rattle.std.specs.Prelude.{codes}
use Rattle.netdb_outside.proofs.BufferedLemmas.{writes_then, writes_same, finished_well, finished_badly}
use Rattle.script_spec.specs.Texts.{event_texts}
use Rattle.script_run_spec.specs.Written.{numbered_texts}
use Rattle.script_report.proofs.Parts.{four_parts}
use Rattle.script_report.proofs.report.write_lines.Goals as goal

pub returns-clause-ok : goal.returns-clause-ok
returns-clause-ok g c =
    let d = g.S.Shown.design c.args.last.now in
    let given = writes_same (four_parts (codes "history" ++ 10 ∷ []) (event_texts d 0 c.args.events.now) (numbered_texts 0 c.args.transcripts.now) (codes "design" ++ 10 ∷ []))
    (writes_then c.put.ensures (writes_then c.put_events.ensures (writes_then c.put_transcripts.ensures (writes_then c.put-2.ensures c.finish.ensures.written)))) in
    finished_well c.finish.result given c.new-page.ensures c.finish.ensures.ok

pub returns-clause-err : goal.returns-clause-err
returns-clause-err g c =
    let d = g.S.Shown.design c.args.last.now in
    let given = writes_same (four_parts (codes "history" ++ 10 ∷ []) (event_texts d 0 c.args.events.now) (numbered_texts 0 c.args.transcripts.now) (codes "design" ++ 10 ∷ []))
    (writes_then c.put.ensures (writes_then c.put_events.ensures (writes_then c.put_transcripts.ensures (writes_then c.put-2.ensures c.finish.ensures.written)))) in
    finished_badly c.finish.result given c.new-page.ensures c.finish.ensures.err
