use Rattle.std.proofs.Common.{◌≡◌, map, take}
use Rattle.edit_rules_spec.specs.Reading.{IsReachedBy}
use Rattle.edit_cells.specs.State.{HasRead}
use Rattle.eco_reads.specs.Named.{AreNamed}
use Rattle.eco_ops.specs.Insts.{is_other}
use Rattle.eco_ops.proofs.insts.list_others.Given as goal

-- what is told of the notes so far, and what their paths reach
abbrev pub invariant-loop-path : goal.invariant-loop-path
invariant-loop-path g l = record {
  told : l.others.items ≡ map (is_other (g.C.Cells.state l.fn.cells).design l.fn.id l.inst l.fn.top) (take l.path-index (g.C.Cells.state l.fn.cells).design.notes);
  named : AreNamed (g.C.Cells.state l.fn.cells).design l.named;
  read : HasRead (g.C.Cells.state l.fn.cells) (g.C.Cells.state l.cells) (IsReachedBy (g.C.Cells.state l.fn.cells).design l.fn.top (take l.path-index (g.C.Cells.state l.fn.cells).design.notes));
}
