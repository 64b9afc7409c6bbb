use Rattle.std.proofs.Common.{◌≡◌, ◌+◌, ◌-◌, ◌*◌, ◌/◌, ℕ, length, take, drop, true, sym, ap, ◌∙◌, subst, arith}
use Rattle.std.specs.List.{list_all}
use Rattle.std.proofs.lemmas.List.{length-drop, take_all}
use Rattle.byte_lanes.proofs.LaneLemmas.{joined_fronts}
use Rattle.edif_spec.specs.Canonical.{is_plain}
use Rattle.edif_names.proofs.plain.are_plain.Goals as goal

pub loop-block-preserved : goal.loop-block-preserved
loop-block-preserved c =
    let P : ℕ → Type 0 = λ n. list_all is_plain (take n c.args.bytes.now) ≡ true in
    let e : c.loop-block.block * 16 + c.plain_run.result ≡ (c.loop-block.block + 1) * 16 = omega (arith, c.if-plain_run-lt-LANES.false, c.plain_run.ensures.0) in
    subst P e (joined_fronts is_plain (c.loop-block.block * 16) c.plain_run.result c.args.bytes.now c.loop-block.invariant c.plain_run.ensures.1)

pub returns : goal.returns
returns c = λ yes.
    let m : ℕ = length c.args.bytes.now / 16 * 16 in
    let n : ℕ = length c.args.bytes.now - m in
    let P : ℕ → Type 0 = λ k. list_all is_plain (take (k * 16) c.args.bytes.now) ≡ true in
    let e : c.loop-block.block ≡ length c.args.bytes.now / 16 = omega (arith, c.loop-block.auto.block-end, c.loop-block-test.false) in
    let left = take n (drop m c.args.bytes.now) in
    let whole : take n left ≡ left = take_all n left (omega (arith, length-drop m c.args.bytes.now)) in
    let rest : list_all is_plain (take n left) ≡ true = ap (list_all is_plain) whole ∙ (sym c.few_are_plain.ensures ∙ yes) in
    let both : list_all is_plain (take (m + n) c.args.bytes.now) ≡ true = joined_fronts is_plain m n c.args.bytes.now (subst P e c.loop-block.invariant) rest in
    sym (ap (list_all is_plain) (take_all (m + n) c.args.bytes.now (omega arith))) ∙ both
