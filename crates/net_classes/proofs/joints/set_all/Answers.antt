use Rattle.std.proofs.Common.{◌≡◌, arith, get_or, subst, sym, ◌∙◌}
use Rattle.netlist_schema.specs.Types.{Net}
use Rattle.net_classes.proofs.OwnLemmas.{own_more, own_done}
use Rattle.net_classes.proofs.joints.set_all.Goals as goal

pub loop-place-preserved : goal.loop-place-preserved
loop-place-preserved c = record {
  long = c.set_own.ensures.long ∙ c.loop-place.invariant.long;
  own = own_more c.args.starts.now c.args.nets.now c.loop-place.place c.deref.result.now c.as_slice.result.now c.loop-place.own c.set_own.new.own
      (omega arith) (subst (λ (net : Net). net ≡ get_or c.args.nets.now c.loop-place.place net) (sym c.deref.ensures) c.at-net.ensures.is)
      c.as_slice.ensures c.set_own.ensures.long c.loop-place.invariant.own c.set_own.ensures.set;
}

pub returns-clause-own : goal.returns-clause-own
returns-clause-own c =
    own_done c.args.starts.now c.args.nets.now c.loop-place.place c.loop-place.own (omega (arith, c.loop-place-test.false)) c.loop-place.invariant.own
