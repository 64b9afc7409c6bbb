use Rattle.std.proofs.Common.{List, map, ap, ◌∙◌, Global}
use Rattle.std.specs.Arc.{arc_value}
use Rattle.std.specs.declared.sync.Arc.{Arc}
use Rattle.netlist_schema.specs.Types.{CellBody}
use Rattle.db_draft.proofs.Copying.{same_bodies}
use Rattle.db_draft.proofs.layer.Layer.copy.Goals as goal

pub returns : goal.returns
returns c = record {
  changed = same_bodies c.args.self.now.changed c.in_ok-changed.changed c.in_ok-changed.ensures.cases;
  added = c.in_ok-cells.ensures ∙ ap (λ (bodies : List (Arc CellBody Global)). map arc_value bodies) c.as_slice.ensures.value;
  names = c.in_ok-names.ensures;
}
