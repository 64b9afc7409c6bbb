use Rattle.std.proofs.Common.{List, ℕ, subst}
use Rattle.std.specs.List.Sorted.{IsStrictlyIncreasing}
use Rattle.edif_nets.proofs.Numbers.{differ_by}
use Rattle.edif_nets.proofs.differ.differ_in_order.Goals as goal

pub returns : goal.returns
returns c = λ t.
    let P : List ℕ → Type 0 = λ v. IsStrictlyIncreasing v in
    differ_by c.args.numbers.now.items c.sort_unstable.new.self.items c.sort_unstable.ensures.permutation (subst P c.as_slice.ensures.value (c.ascend.ensures t))
