use Rattle.std.proofs.Common.{rules}
use Rattle.par_flat.proofs.DeskLemmas.{within_all}
use Rattle.par_flat.proofs.write.work.Goals as goal

pub make_lines-made-requires-clause-fits : goal.make_lines-made-requires-clause-fits
make_lines-made-requires-clause-fits g c = within_all c.args.round.first c.args.round.workers c.args.round.most.items c.from.result (search rules) c.requires.few
