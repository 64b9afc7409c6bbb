use Rattle.std.proofs.Common.{◌≡◌, ◌∙◌, sym, length, map, arith, vec_len}
use Rattle.std.specs.Prelude.{Ok, slice_index_or, ◌<◌}
use Prim.Native.Nat.{ℕ}
use Rattle.std.proofs.lemmas.Result.{IfOk-weaker}
use Rattle.script_run_spec.specs.Scripts.{all_steps}
use Rattle.script_run_all.specs.Workers.{IsDone}
use Rattle.script_run_all.specs.declared.workers.Done.{Done}
use Rattle.script_run_all.proofs.Closing.{all_count, each_done}
use Rattle.script_run_all.proofs.workers.run_all.Goals as goal

pub returns-clause-len : goal.returns-clause-len
returns-clause-len g c =
    let tries = c.in_ok-tries.tries in
    let passes = c.args.passes in
    let many : length tries.items ≡ length passes.items = sym tries.ok.0 ∙ (c.in_ok-tries.ensures.len ∙ passes.ok.0) in
    IfOk-weaker c.all_of.result (λ all. map Ok all.items ≡ tries.items) (λ all. vec_len all ≡ vec_len passes) (λ all is. all.ok.0 ∙ (all_count all.items tries.items is ∙ (many ∙ sym passes.ok.0))) c.all_of.ensures

pub returns-clause-each : goal.returns-clause-each
returns-clause-each g c =
    let tries = c.in_ok-tries.tries in
    let passes = c.args.passes in
    let db = c.args.db.now in
    let scripts = all_steps c.args.scripts.now in
    let many : length tries.items ≡ length passes.items = sym tries.ok.0 ∙ (c.in_ok-tries.ensures.len ∙ passes.ok.0) in
    IfOk-weaker c.all_of.result (λ all. map Ok all.items ≡ tries.items) (λ all. (k : ℕ) (d : Done) → k < vec_len passes → IsDone db scripts k (slice_index_or all.items k d))
    (λ all is k d less.
    each_done db scripts all.items tries.items passes.items is many (λ j p low. c.requires.numbered j p (omega (arith, low, passes.ok.0))) (λ j e p low. c.in_ok-tries.ensures.each j e p (omega (arith, low, passes.ok.0)))
    k d (omega (arith, less, passes.ok.0)))
    c.all_of.ensures
