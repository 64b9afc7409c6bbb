use Rattle.std.proofs.Common.{refl}
use Rattle.test_share.proofs.designs.two_cells.Goals as goal

pub design-requires : goal.design-requires
design-requires c = refl
