use Rattle.std.proofs.Common.{refl}
use Rattle.edif_tree.specs.Handles.{here, all}
use Rattle.edif_contents.proofs.NetLemmas.{joined_read}
use Rattle.edif_contents.proofs.nets.read_joined.Goals as goal

pub returns : goal.returns
returns c = joined_read (here c.args.node) c.in_ok-parts.parts (all c.in_ok-parts.parts.inner) c.in_ok-parts.ensures refl
