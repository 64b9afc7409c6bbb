use Rattle.std.proofs.Common.{drop}
use Rattle.netlist_schema.specs.Hierarchy.{Resolves}
use Rattle.netlist_schema.specs.Valid.{IsValid}
use Rattle.flat_items.specs.Named.{AreNamed}
use Rattle.flat_items.proofs.WayLemmas.{IsOnWay}
use Rattle.flat_items.proofs.steps.steps_of.Given as goal

abbrev pub invariant-loop-name : goal.invariant-loop-name
invariant-loop-name g l = record {
  named : AreNamed (g.S.Shown.design l.design) l.named;
  on_way :
      (valid : IsValid (g.S.Shown.design l.design)) → Resolves (g.S.Shown.design l.design) l.fn.top l.fn.note.path
      → IsOnWay (g.S.Shown.design l.design) valid l.fn.top l.cell l.fn.note.path (drop l.name-index l.name-items) l.steps.items;
}
