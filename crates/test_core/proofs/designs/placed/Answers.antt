use Rattle.std.proofs.Common.{refl}
use Rattle.test_core.proofs.designs.placed.Goals as goal

pub design-requires : goal.design-requires
design-requires c = refl
