use Rattle.std.proofs.Common.{◌≡◌, ◌++◌, List, ℕ, drop}
use Rattle.script_run_spec.specs.Written.{numbered_texts}
use Rattle.report_parts.proofs.rests.behind_texts.Given as goal

-- the text goes on as all transcripts do exactly where what is left goes on as those do that are left
abbrev pub invariant-loop-number : goal.invariant-loop-number
invariant-loop-number l = record {
  on : (more : List ℕ) → l.text ≡ numbered_texts 0 l.texts ++ more → l.rest ≡ numbered_texts l.number (drop l.number l.texts) ++ more;
  back : (more : List ℕ) → l.rest ≡ numbered_texts l.number (drop l.number l.texts) ++ more → l.text ≡ numbered_texts 0 l.texts ++ more;
}
