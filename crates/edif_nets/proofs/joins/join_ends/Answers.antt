use Rattle.std.proofs.Common.{ℕ, None, add-one, get_or, refl, arith}
use Rattle.std.specs.List.{zip}
use Rattle.edif_spec.specs.Design as design
use Rattle.edif_spec.specs.Faults.{AtTwo}
use Rattle.edif_nets.specs.Joins.{IsTwice, SameBit}
use Rattle.edif_parts.proofs.Answering.{hand_on}
use Rattle.edif_parts.proofs.NameLists.{none_distinct}
use Rattle.edif_nets.proofs.JoinLemmas.{joined_after, joined_all, joined_apart, joined_twice}
use Rattle.edif_nets.proofs.joins.join_ends.Goals as goal

abbrev first_end : design.End
first_end = record { inst = None; port = 0; bit = 0 }

pub loop-index-init : goal.loop-index-init
loop-index-init c = rw c.requires.joins (record { ends = refl; distinct = none_distinct })

pub returns-in_err-join_end : goal.returns-in_err-join_end
returns-in_err-join_end c =
    let es = c.args.ends.now in
    let ps = c.args.places.now in
    let i = c.loop-index.index in
    let p : ℕ = get_or ps i 0 in
    let e : design.End = get_or es i first_end in
    hand_on _ (IsTwice c.loop-index.joins e p) (λ f. AtTwo (SameBit f) (zip es ps)) c.from_residual.result c.in_err-join_end.field-0.0 c.from_residual.ensures.1
    (λ f b. joined_twice (zip es ps) c.loop-index.joins es ps i p e first_end f c.loop-index.invariant.ends c.loop-index-test.true c.requires.places refl refl b) c.in_err-join_end.ensures

pub loop-index-preserved : goal.loop-index-preserved
loop-index-preserved c =
    let es = c.args.ends.now in
    let ps = c.args.places.now in
    let i = c.loop-index.index in
    let p : ℕ = get_or ps i 0 in
    let e : design.End = get_or es i first_end in
    rw (add-one i) (record {
      ends = joined_after (zip es ps) c.loop-index.joins c.join_end.new.joins es ps i p e first_end c.loop-index.invariant.ends c.loop-index-test.true c.requires.places refl refl c.in_ok-join_end.ensures;
      distinct = joined_apart c.loop-index.joins c.join_end.new.joins e p c.loop-index.invariant.distinct c.in_ok-join_end.ensures;
    })

pub returns : goal.returns
returns c = joined_all c.loop-index.joins c.args.ends.now c.args.places.now c.loop-index.index c.loop-index.invariant.ends (omega arith) c.requires.places c.loop-index.invariant.distinct
