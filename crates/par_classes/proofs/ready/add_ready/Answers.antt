use Rattle.std.proofs.Common.{subst, sym}
use Rattle.std.specs.List.{All}
use Rattle.std.proofs.lemmas.List.Elements.{All-push}
use Rattle.par_classes.specs.Telling.{IsTold}
use Rattle.par_classes.specs.declared.told.ToldCell.{ToldCell}
use Rattle.par_classes.proofs.TellingLemmas.{children_told}
use Rattle.par_classes.proofs.ready.add_ready.Goals as goal

pub returns : goal.returns
returns g c = λ below telling among all.
    let d = g.S.Shown.design c.args.design.now in
    let marks = c.args.telling.now.marks in
    let facts = c.args.telling.now.classes in
    let cell : ToldCell = record { cell = c.args.cell; nets = c.in_ok-nets.nets } in
    let children = children_told d below marks facts c.args.cell telling (c.is_ready.ensures c.if-not-is_ready.false) in
    let told : IsTold d below cell = record {
      there = c.requires.there;
      among = among;
      told = c.in_ok-nets.ensures telling.done c.requires.valid telling.known children;
    } in
    subst (All (IsTold d below)) (sym c.in_ok-push.ensures.items) (All-push (IsTold d below) c.args.told.now.items cell all told)
