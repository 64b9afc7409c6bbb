use Rattle.std.proofs.Common.{◌<◌, length, map, arith}
use Rattle.std.proofs.lemmas.List.{length-map}
use Rattle.std.proofs.lemmas.Result.{err_from_is_err_and}
use Rattle.std.proofs.lemmas.Option.{slice_get_within}
use Rattle.edif_spec.specs.Faults.{token_kind, misplaced}
use Rattle.edif_tree.specs.Handles.{here, all}
use Rattle.edif_grammar.specs.Rules.{choices, row_of}
use Rattle.edif_grammar.specs.Checks.{ArgumentFits}
use Rattle.edif_grammar.proofs.CheckLemmas.{below_next, map_get, fixed_at}
use Rattle.edif_grammar.proofs.checks.check_fixed.Goals as goal

pub returns-in_err-check_argument-clause-err : goal.returns-in_err-check_argument-clause-err
returns-in_err-check_argument-clause-err c = λ place.
    let p = err_from_is_err_and c.from_residual.result c.from_residual.ensures.1 in
    let e = c.in_err-check_argument.ensures.err in
    rw (p.1, p.2)
    (fixed_at (misplaced (token_kind c.args.keyword) (row_of c.args.rule)) place (map choices c.args.wanted.now) (all c.args.nodes) c.loop-i.i _ (here c.at.result) _ (map_get choices c.args.wanted.now c.loop-i.i _ (omega arith)) c.at.ensures e.0 e.1)

pub loop-i-preserved : goal.loop-i-preserved
loop-i-preserved c =
    below_next (ArgumentFits (token_kind c.args.keyword) (row_of c.args.rule)) (map choices c.args.wanted.now) (all c.args.nodes) c.loop-i.i _ (here c.at.result) (map_get choices c.args.wanted.now c.loop-i.i _ (omega arith)) c.at.ensures c.in_ok-check_argument.ensures.ok c.loop-i.invariant

pub returns-clause-ok : goal.returns-clause-ok
returns-clause-ok c = λ j d t e f.
    let l : j < length (map choices c.args.wanted.now) = slice_get_within (map choices c.args.wanted.now) j d e in
    c.loop-i.invariant j d t (omega (arith, l, length-map c.args.wanted.now choices)) e f
