use Rattle.std.proofs.Common.{refl}
use Rattle.test_edif.proofs.designs.out_of_order.Goals as goal

pub design-requires : goal.design-requires
design-requires c = refl
