use Rattle.std.specs.Prelude.{map}
use Rattle.std.specs.BTreeMap.{get}
use Rattle.net_classes.specs.Facts.{facts_of}
use Rattle.net_classes.specs.Links.{AreLinkedSoFar, IsEarly, class_cmp, class_in}
use Rattle.net_classes.proofs.links.list_links.Given as goal

abbrev pub invariant-loop-joint : goal.invariant-loop-joint
invariant-loop-joint l =
    AreLinkedSoFar (class_in (map (λ row. map facts_of row.items) l.fn.cells) l.fn.insts) (IsEarly l.fn.joints l.joint-index) (get class_cmp l.seen) l.pairs.items
