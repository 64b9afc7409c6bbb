-- Showing a cell is an operation.
use Rattle.std.proofs.Common.{refl, inl}
use Rattle.edit_rules_spec.specs.Local.{IsLocal}
use Rattle.edit_rules_spec.specs.declared.reply.CellName.{CellName}
use Rattle.edit_spec.specs.ShowCell.{show_cell, show_cell_of, show_cell_needs}
use Rattle.edit_rules_spec.proofs.Same.{cell_needs_same}
use Rattle.edit_spec.proofs.Changed.{of_cell}

pub show_cell_local : (cell : CellName) → IsLocal (show_cell_of cell) (show_cell_needs cell) (Unit {0})
show_cell_local cell = record {
  same = λ d e closed grown agree. of_cell d e cell show_cell grown agree;
  needs_same = λ d e grown agree o. cell_needs_same d e cell o grown agree;
  writes_seen = λ d o is. absurd is;
  last = λ d. tt;
  finds = λ d. tt;
  places = λ d closed. tt;
  valid = λ d typed valid allowed. valid;
  refuses = λ d. inl refl;
}
