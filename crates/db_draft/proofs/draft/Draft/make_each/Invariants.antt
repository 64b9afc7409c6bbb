use Rattle.std.proofs.Common.{◌≡◌, ◌++◌}
use Rattle.edit_rules_spec.specs.Edit.{edited}
use Rattle.edit_cells.specs.Change.{cell_edits}
use Rattle.db_draft.proofs.draft.Draft.make_each.Given as goal

abbrev pub invariant-loop-change : goal.invariant-loop-change
invariant-loop-change l = record {
  made : l.self ≡ record l.initial.self { design = edited l.initial.self.design (cell_edits l.initial.self.design l.yielded) };
  rest : l.fn.changes.items ≡ l.yielded ++ l.change-iterator.rest.items;
}
