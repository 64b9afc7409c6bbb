use Rattle.std.proofs.Common.{refl}
use Rattle.edif_tree.specs.Handles.{here}
use Rattle.edif_contents.proofs.NetLemmas.{one_bit}
use Rattle.edif_contents.proofs.nets.read_bit.Goals as goal

pub returns : goal.returns
returns c = one_bit c.args.around.now (here c.args.node) c.in_ok-stretch.stretch _ refl c.in_ok-stretch.ensures
