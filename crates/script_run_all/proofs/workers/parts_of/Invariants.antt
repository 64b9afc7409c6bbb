use Rattle.std.proofs.Common.{◌≡◌, map}
use Rattle.script_run_all.proofs.workers.parts_of.Given as goal

abbrev pub invariant-loop-done : goal.invariant-loop-done
invariant-loop-done l = (l.passes.items ≡ map (λ done. done.pass) l.yielded) × (l.texts.items ≡ map (λ done. done.transcript.text) l.yielded)
