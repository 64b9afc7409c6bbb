use Rattle.std.proofs.Common.{◌∙◌, List, length, refl, ap, sym, arith}
use Rattle.std.specs.List.{list_any}
use Rattle.script_run_spec.specs.Scripts.{all_steps}
use Rattle.script_run_all.specs.declared.workers.Done.{Done}
use Rattle.script_run_all.proofs.Closing.{are_done, closed_run, passes_all, passes_ready}
use Rattle.script_run_all.proofs.Opening.{fresh, numbered}
use Rattle.script_run_all.proofs.run.run_scripts.Goals as goal

pub run_all-requires-clause-fresh : goal.run_all-requires-clause-fresh
run_all-requires-clause-fresh g c = λ lifetimes longer. fresh c.args.design c.args.scripts.now c.in_ok-db.db c.in_ok-db.passes.items c.in_ok-db.ensures c.requires.walks

pub run_all-requires-clause-numbered : goal.run_all-requires-clause-numbered
run_all-requires-clause-numbered g c = λ lifetimes longer k p less.
    numbered c.args.design (length c.args.scripts.now) c.in_ok-db.db c.in_ok-db.passes.items c.in_ok-db.ensures k p (omega (arith, less, c.in_ok-db.passes.ok.0))

pub close-requires-clause-ready : goal.close-requires-clause-ready
close-requires-clause-ready g c =
    passes_ready c.in_ok-db.db c.args.design (all_steps c.args.scripts.now) c.in_ok-all.all.items c.in_ok-back.back.items
    (are_done c.args.design c.args.scripts.now (length c.args.scripts.now) c.in_ok-db.db c.in_ok-db.passes.items c.in_ok-back.back.items c.in_ok-all.all.items refl c.in_ok-db.ensures
    (sym c.in_ok-all.all.ok.0 ∙ (c.in_ok-all.ensures.len ∙ c.in_ok-db.passes.ok.0)) (λ k x less. c.in_ok-all.ensures.each k x (omega (arith, less, c.in_ok-db.passes.ok.0))) c.in_ok-back.ensures.passes)

pub close-requires-clause-all : goal.close-requires-clause-all
close-requires-clause-all g c =
    passes_all c.in_ok-db.db c.args.design (all_steps c.args.scripts.now) c.in_ok-all.all.items c.in_ok-back.back.items
    (are_done c.args.design c.args.scripts.now (length c.args.scripts.now) c.in_ok-db.db c.in_ok-db.passes.items c.in_ok-back.back.items c.in_ok-all.all.items refl c.in_ok-db.ensures
    (sym c.in_ok-all.all.ok.0 ∙ (c.in_ok-all.ensures.len ∙ c.in_ok-db.passes.ok.0)) (λ k x less. c.in_ok-all.ensures.each k x (omega (arith, less, c.in_ok-db.passes.ok.0))) c.in_ok-back.ensures.passes)

pub returns : goal.returns
returns g c =
    closed_run c.in_ok-db.db c.args.design (all_steps c.args.scripts.now) c.in_ok-all.all.items c.in_ok-back.back.items c.close.result c.of.result c.some_met_full-log_full.result
    (are_done c.args.design c.args.scripts.now (length c.args.scripts.now) c.in_ok-db.db c.in_ok-db.passes.items c.in_ok-back.back.items c.in_ok-all.all.items refl c.in_ok-db.ensures
    (sym c.in_ok-all.all.ok.0 ∙ (c.in_ok-all.ensures.len ∙ c.in_ok-db.passes.ok.0)) (λ k x less. c.in_ok-all.ensures.each k x (omega (arith, less, c.in_ok-db.passes.ok.0))) c.in_ok-back.ensures.passes)
    c.close.ensures (c.of.ensures ∙ c.in_ok-back.ensures.texts)
    (c.some_met_full-log_full.ensures ∙ ap (λ (all : List Done). list_any (λ (done : Done). done.transcript.log_full) all) c.deref.ensures.value)
