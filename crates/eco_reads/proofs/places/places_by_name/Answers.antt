use Rattle.std.proofs.Common.{◌≡◌, arith, get_or, nat_eq, subst, sym}
use Rattle.netlist_schema.specs.Types.{Inst}
use Rattle.std.specs.Cmp.Lexicographic.{pointwise}
use Rattle.indexmap.specs.IndexMap.{get}
use Rattle.eco_reads.proofs.PlaceLemmas.{place_more}
use Rattle.eco_reads.proofs.places.places_by_name.Goals as goal

pub loop-place-preserved : goal.loop-place-preserved
loop-place-preserved c =
    place_more c.args.insts.now c.loop-place.place c.deref.result.now (get (pointwise nat_eq) c.loop-place.places) (get (pointwise nat_eq) c.add_place.new.places) (omega arith)
    (subst (λ (inst : Inst). inst ≡ get_or c.args.insts.now c.loop-place.place inst) (sym c.deref.ensures) c.at-inst.ensures.is) c.in_ok-add_place.ensures c.loop-place.invariant
