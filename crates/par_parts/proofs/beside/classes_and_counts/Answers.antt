use Rattle.std.proofs.Common.{rules, ◌≡◌, Ok, subst}
use Rattle.std.specs.Prelude.{IfOk}
use Rattle.net_classes.specs.PortClasses.{AreClasses}
use Rattle.par_parts.specs.Items.{AreCounted}
use Rattle.par_parts.proofs.beside.classes_and_counts.Goals as goal

pub returns-clause-classes : goal.returns-clause-classes
returns-clause-classes g c = λ top are.
    let d = g.S.Shown.design c.args.design.now in
    let is : c.join-counted.result.1 ≡ Ok c.in_ok-classes.classes = search rules in
    subst (λ told. IfOk told (AreClasses d top)) is (c.join-counted.ensures.second top are)

pub returns-clause-counts : goal.returns-clause-counts
returns-clause-counts g c =
    let d = g.S.Shown.design c.args.design.now in
    let is : c.join-counted.result.0 ≡ Ok c.in_ok-counts.counts = search rules in
    subst (λ counted. IfOk counted (AreCounted d c.args.below.now)) is c.join-counted.ensures.first
