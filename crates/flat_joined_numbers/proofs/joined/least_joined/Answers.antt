use Rattle.std.proofs.Common.{◌≡◌, ◌++◌, length, drop, sym, ap, subst, ◌∙◌}
use Rattle.std.specs.Prelude.{take}
use Rattle.std.proofs.Math.Seq.{take-append_seam}
use Rattle.flat_joined_numbers.specs.Joined.{AreLeastJoined}
use Rattle.flat_joined_numbers.proofs.JoinedLemmas.{settled_least}
use Rattle.flat_joined_numbers.proofs.joined.least_joined.Goals as goal

pub returns : goal.returns
returns c =
    let old = c.in_ok-labels.labels.items in
    let new = c.settle.new.labels in
    let made = c.in_ok-labels.ensures in
    let long : length new ≡ length old = c.settle.ensures.long ∙ ap length c.as_mut_slice.ensures.value in
    let whole : take c.in_ok-labels.labels.len (new ++ drop (length new) old) ≡ new =
    ap (λ n. take n (new ++ drop (length new) old)) (sym c.as_mut_slice.ensures.len ∙ sym c.settle.ensures.long) ∙ take-append_seam new (drop (length new) old) in
    subst (λ v. AreLeastJoined c.args.count c.args.pairs.now v) (sym whole)
    (settled_least c.args.count c.args.pairs.now new (long ∙ made.long) c.requires c.settle.ensures.labels c.settle.ensures.settled)
