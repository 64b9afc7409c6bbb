use Rattle.std.proofs.Common.{◌≡◌, ◌++◌, length, drop, sym, ap, subst, ◌∙◌}
use Rattle.std.specs.Prelude.{take}
use Rattle.std.proofs.Math.Seq.{take-append_seam}
use Rattle.net_classes.specs.Own.{AreOwn}
use Rattle.net_classes.proofs.joints.list_own.Goals as goal

pub returns-clause-own : goal.returns-clause-own
returns-clause-own c =
    let old = c.in_ok-own.own.items in
    let new = c.set_all.new.own in
    let whole : take c.in_ok-own.own.len (new ++ drop (length new) old) ≡ new =
    ap (λ n. take n (new ++ drop (length new) old)) (sym c.as_mut_slice.ensures.len ∙ sym c.set_all.ensures.long) ∙ take-append_seam new (drop (length new) old) in
    subst (λ v. AreOwn c.args.starts.now c.args.nets.now (length c.args.nets.now) v) (sym whole) c.set_all.ensures.own
