use Rattle.par_classes.proofs.TellingLemmas.{children_told}
use Rattle.par_classes.proofs.ready.tell_one.Goals as goal

pub returns : goal.returns
returns g c = λ below telling among.
    let d = g.S.Shown.design c.args.design.now in
    let marks = c.args.telling.now.marks in
    let facts = c.args.telling.now.classes in
    let children = children_told d below marks facts c.args.cell telling (c.is_ready.ensures c.if-not-is_ready.false) in
    c.take_one.ensures d below telling record {
      there = c.requires.there;
      among = among;
      told = c.in_ok-nets.ensures telling.done c.requires.valid telling.known children;
    }
