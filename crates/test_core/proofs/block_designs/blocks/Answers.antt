use Rattle.std.proofs.Common.{refl}
use Rattle.test_core.proofs.block_designs.blocks.Goals as goal

pub design-requires : goal.design-requires
design-requires c = refl
