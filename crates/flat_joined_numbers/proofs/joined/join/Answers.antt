use Rattle.std.proofs.Common.{sym, subst, inl, inr, arith}
use Rattle.flat_spec.specs.Chains.{Chain}
use Rattle.flat_spec.proofs.ChainLemmas.{Chain-same, Chain-one, Chain-append, Chain-sym}
use Rattle.flat_joined_numbers.specs.Joined.{AreJoined}
use Rattle.flat_joined_numbers.proofs.JoinedLemmas.{AreJoined-sym, AreLower-append, join-sum}
use Rattle.flat_joined_numbers.proofs.joined.join.Goals as goal

pub returns-clause-labels : goal.returns-clause-labels
returns-clause-labels c = λ pairs are pair.
    let J = AreJoined pairs in
    let one = c.find-first.ensures.labels pairs are in
    let two = c.find-second.ensures.labels pairs one in
    let x = c.args.pair.first in
    let y = c.args.pair.second in
    let r = c.find-first.result in
    let s = c.find-second.result in
    let least = c.lesser-least.result in
    let xr : Chain J x r = c.find-first.ensures.reached pairs are in
    let ys : Chain J y s = c.find-second.ensures.reached pairs one in
    let turn = Chain-sym J (AreJoined-sym pairs) in
    let rs : Chain J r s = Chain-append J (turn x r xr) (Chain-append J (Chain-one {R = J} pair) ys) in
    let to_least : Chain J r least = elim c.lesser-least.ensures.one [
      | inl same ↦ subst (λ v. Chain J r v) (sym same) (Chain-same {R = J} r)
      | inr same ↦ subst (λ v. Chain J r v) (sym same) rs
    ] in
    let x_least = Chain-append J xr to_least in
    let s_least = Chain-append J (turn r s rs) to_least in
    let y_least = Chain-append J ys s_least in
    c.lower-4.ensures.labels pairs (c.lower-3.ensures.labels pairs (c.lower-2.ensures.labels pairs
    (c.lower.ensures.labels pairs two to_least) s_least) x_least) y_least

pub returns-clause-lowered : goal.returns-clause-lowered
returns-clause-lowered c = λ yes.
    let old = c.args.labels.now in
    let a = c.find-first.new.labels in
    let b = c.find-second.new.labels in
    let l1 = c.lower.new.labels in
    let l2 = c.lower-2.new.labels in
    let l3 = c.lower-3.new.labels in
    let l4 = c.lower-4.new.labels in
    let lower = AreLower-append old a l4 c.find-first.ensures.lower (AreLower-append a b l4 c.find-second.ensures.lower
    (AreLower-append b l1 l4 c.lower.ensures.lower (AreLower-append l1 l2 l4 c.lower-2.ensures.lower
    (AreLower-append l2 l3 l4 c.lower-3.ensures.lower c.lower-4.ensures.lower)))) in
    join-sum old l4 c.args.pair.first c.args.pair.second c.lesser-least.result lower
    (λ same. absurd (c.if-labels-pair.false same))
    (omega (arith, c.lower-3.ensures.low, c.lower-4.ensures.lower.each c.args.pair.first))
    c.lower-4.ensures.low
    (omega (arith, c.lesser-least.ensures.first, c.find-first.ensures.low))
    (omega (arith, c.lesser-least.ensures.second, c.find-second.ensures.low, c.find-first.ensures.lower.each c.args.pair.second))
