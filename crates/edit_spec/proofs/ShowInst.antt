-- Showing an instance is an operation.
use Rattle.std.proofs.Common.{ℕ, List, refl, inl}
use Rattle.edit_rules_spec.specs.Local.{IsLocal}
use Rattle.edit_rules_spec.specs.declared.reply.CellName.{CellName}
use Rattle.edit_spec.specs.ShowInst.{show_inst, show_inst_of, show_inst_needs}
use Rattle.edit_rules_spec.proofs.Same.{named_same, inside_same, cell_needs_same, by_name}
use Rattle.edit_spec.proofs.Shown.{inst_shown_same}

pub show_inst_local : (cell : CellName) (inst : List ℕ) → IsLocal (show_inst_of cell inst) (show_inst_needs cell) (Unit {0})
show_inst_local cell inst = record {
  same = λ d e closed grown agree. λ i. show_inst (named_same d e cell grown (by_name d e cell agree) i) (inside_same d e cell grown agree i) (inst_shown_same d e cell inst closed grown agree i) inst;
  needs_same = λ d e grown agree o. cell_needs_same d e cell o grown agree;
  writes_seen = λ d o is. absurd is;
  last = λ d. tt;
  finds = λ d. tt;
  places = λ d closed. tt;
  valid = λ d typed valid allowed. valid;
  refuses = λ d. inl refl;
}
