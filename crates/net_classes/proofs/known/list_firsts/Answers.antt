use Rattle.std.proofs.Common.{ℕ, length, subst, sym}
use Rattle.std.specs.Prelude.{map}
use Rattle.std.specs.List.{All}
use Rattle.std.proofs.lemmas.Result.{IfOk-weaker}
use Rattle.net_classes.specs.Facts.{Facts, facts_of}
use Rattle.flat_joined_numbers.specs.Joined.{AreLeastJoined, IsWithin}
use Rattle.net_classes.proofs.InsideLemmas.{pairs_within, firsts_inside}
use Rattle.flat_joined_numbers.proofs.JoinedLemmas.{least_within}
use Rattle.net_classes.proofs.known.list_firsts.Goals as goal

pub least_joined-requires : goal.least_joined-requires
least_joined-requires c =
    let facts : Facts = map (λ row. map facts_of row.items) c.args.cells.now in
    subst (λ (n : ℕ). All (IsWithin n) c.as_slice.result.now) (sym c.len.ensures)
    (subst (λ v. All (IsWithin (length c.args.nets.now)) v) (sym c.as_slice.ensures.value)
    (pairs_within facts c.args.insts.now c.args.nets.now c.args.joints.now c.requires.joints c.in_ok-links.links.items c.in_ok-links.ensures))

pub returns-clause-firsts : goal.returns-clause-firsts
returns-clause-firsts c =
    let facts : Facts = map (λ row. map facts_of row.items) c.args.cells.now in
    IfOk-weaker c.least_joined.result _ _
    (λ firsts least d cell valid are tells n inside.
    firsts_inside facts c.args.insts.now c.args.nets.now c.args.joints.now c.requires.joints d cell are c.in_ok-links.links.items firsts.items
    c.in_ok-links.ensures (subst (λ v. AreLeastJoined (length c.args.nets.now) v firsts.items) c.as_slice.ensures.value
    (subst (λ (n : ℕ). AreLeastJoined n c.as_slice.result.now firsts.items) c.len.ensures least)) valid tells n inside)
    c.least_joined.ensures

pub returns-clause-within : goal.returns-clause-within
returns-clause-within c =
    IfOk-weaker c.least_joined.result _ _ (λ firsts least. least_within c.len.result c.as_slice.result.now firsts.items least) c.least_joined.ensures
