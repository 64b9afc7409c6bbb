use Rattle.par_classes.proofs.TellingLemmas.{telling_none}
use Rattle.par_classes.proofs.CellLemmas.{are_classes}
use Rattle.std.proofs.lemmas.Result.{IfOk-weaker}
use Rattle.net_classes.specs.Known.{AreKnown}
use Rattle.net_classes.specs.PortClasses.{AreClasses}
use Rattle.par_classes.proofs.workers.classes_by_workers.Goals as goal

pub tell_leaves-requires-clause-telling : goal.tell_leaves-requires-clause-telling
tell_leaves-requires-clause-telling g c =
    telling_none (g.S.Shown.design c.args.design.now) c.args.below.now c.in_ok-marks.marks c.in_ok-classes.classes c.in_ok-classes.ensures c.in_ok-marks.ensures

pub returns : goal.returns
returns g c = λ top are.
    let d = g.S.Shown.design c.args.design.now in
    IfOk-weaker c.tell_rest.result (AreKnown d c.args.below.now) (AreClasses d top) (λ classes known. are_classes d top c.args.below.now classes are known) c.tell_rest.ensures
