use Rattle.script_reader.specs.Line.{place_of}
use Rattle.script_reader.proofs.ProgressLemmas.{no_place}
use Rattle.script_reader.proofs.script.Progress.take.Goals as goal

pub returns-in_default-behind : goal.returns-in_default-behind
returns-in_default-behind c b =
    no_place c.args.line.now (place_of c.args.self.now.place) c.in-Some.step (rw c.in-Some.is at c.in_ok-step.ensures) c.in_default-behind.ensures
