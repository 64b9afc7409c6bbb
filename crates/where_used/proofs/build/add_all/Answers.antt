use Rattle.where_used.proofs.Adding.{lib_next}
use Rattle.where_used.proofs.build.add_all.Goals as goal

pub loop-lib-preserved : goal.loop-lib-preserved
loop-lib-preserved g c =
    lib_next (g.S.Shown.design c.args.design.now) c.loop-lib.lib c.args.index.now.items c.loop-lib.index.items c.add_library.new.index.items c.loop-lib.invariant c.in_ok-add_library.ensures
