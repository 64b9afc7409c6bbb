use Rattle.edif_spec.specs.Arranged.{canonical_text}
use Rattle.script_spec.proofs.Retried as lemma
use Rattle.script_spec.specs.Example.{board}
use Rattle.script_spec.specs.ExampleRetry.{retry_history, results}
use Rattle.script_spec.specs.Report.{head_design}
use Rattle.script_spec.proofs.worked.retried_run.Goals as goal

pub returns : goal.returns
returns c = record {
  legal = lemma.legal;
  callers = lemma.callers;
  results = results;
  fit = lemma.fit;
  filled = lemma.filled;
  printed = lemma.printed (canonical_text (head_design board retry_history));
}
