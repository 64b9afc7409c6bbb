use Rattle.std.proofs.Common.{◌≡◌, ℕ, List, Some, arith, cond, get_or, nat_eq, subst, sym}
use Rattle.std.specs.Cmp.Lexicographic.{pointwise}
use Rattle.indexmap.specs.IndexMap.{get}
use Rattle.netlist_schema.specs.Types.{Inst}
use Rattle.flat_items.proofs.NamedLemmas.{one_more}
use Rattle.flat_items.proofs.named.places_of.Goals as goal

pub loop-place-preserved : goal.loop-place-preserved
loop-place-preserved c =
    let place = c.loop-place.place in
    let before = get (pointwise nat_eq) c.loop-place.places in
    let after = get (pointwise nat_eq) c.insert.new.self in
    one_more c.args.insts.now place c.deref.result.now before after (omega arith)
    (subst (λ (inst : Inst). inst ≡ get_or c.args.insts.now place inst) (sym c.deref.ensures) c.at-inst.ensures.is)
    (λ q. subst (λ (id : List ℕ). after q ≡ cond (pointwise nat_eq id q) (Some place) (before q)) c.in_ok-copy.ensures (c.in_ok-insert.ensures.updates.0 q)) c.loop-place.invariant
