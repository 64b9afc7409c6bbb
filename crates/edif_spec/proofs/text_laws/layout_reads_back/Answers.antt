use Rattle.edif_spec.proofs.Layouts.{layout_spells}
use Rattle.edif_spec.proofs.text_laws.layout_reads_back.Goals as goal

pub returns : goal.returns
returns c t f l w = layout_spells t f l w
