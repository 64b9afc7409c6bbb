use Rattle.edif_tree.specs.Handles.{here}
use Rattle.edif_contents.proofs.ends.read_bits.Goals as goal

pub returns-in-Word : goal.returns-in-Word
returns-in-Word c = c.whole_port.ensures (here c.args.node) c.reference_at.ensures
