use Rattle.par_classes.proofs.TellingLemmas.{telling_more}
use Rattle.par_classes.proofs.told.take_one.Goals as goal

pub returns : goal.returns
returns c = λ d below telling told.
    telling_more d below c.args.telling.now.marks c.set-2.new.self c.args.telling.now.classes c.set.new.self c.args.told telling told c.set.ensures c.set-2.ensures
