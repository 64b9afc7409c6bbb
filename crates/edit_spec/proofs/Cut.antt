-- Removing an end is an operation.
use Rattle.std.proofs.Common.{◌≡◌, None, inl, inr}
use Rattle.netlist_schema.specs.Design.{Design, insts_in, nets_in}
use Rattle.netlist_schema.specs.Valid.{IsValid}
use Rattle.edit_rules_spec.specs.Edit.{inner, edited}
use Rattle.edit_rules_spec.specs.Find.{cell_named}
use Rattle.edit_rules_spec.specs.Local.{IsLocal}
use Rattle.edit_rules_spec.specs.Objects.{AgreesOn}
use Rattle.edit_rules_spec.specs.Reading.{IsForCell}
use Rattle.edit_rules_spec.specs.Rule.{first}
use Rattle.edit_rules_spec.specs.Seen.{named, inside, end_ports}
use Rattle.edit_rules_spec.specs.declared.reply.CellName.{CellName}
use Rattle.edit_rules_spec.specs.declared.reply.EndName.{EndName}
use Rattle.edit_spec.specs.Cut.{without_end, cut, cut_of, cut_needs}
use Rattle.edit_spec.specs.Ends.{end_named}
use Rattle.edit_rules_spec.proofs.Reached.{either_same}
use Rattle.edit_rules_spec.proofs.Same.{cell_needs_same, end_needs_same}
use Rattle.edit_spec.proofs.Changed.{of_end, nets_written, one_last, one_places, insts_there, one_finds}
use Rattle.edit_spec.proofs.Changes.{cut_good}
use Rattle.edit_spec.proofs.InsideStep.{nets_step}
use Rattle.edit_spec.proofs.Valid.{good_before}
use Rattle.edit_rules_spec.proofs.There.{named_cell_there}

pub cut_done : (d : Design) (cell : CellName) (end : EndName) → IsValid d → first (cut_of cell end d).refusals ≡ None → IsValid (edited d (cut_of cell end d).edits)
cut_done d cell end valid allowed =
    nets_step d cell (without_end (end_named (inside d cell) (end_ports d cell end.inst) end)) valid (λ id body is found contents. cut_good d body (end_named (inside d cell) (end_ports d cell end.inst) end) (good_before d id body valid found))

pub cut_local : (cell : CellName) (end : EndName) → IsLocal (cut_of cell end) (cut_needs cell end) (Unit {0})
cut_local cell end = record {
  same = λ d e closed grown agree. of_end d e cell end (λ at contents ports. cut at contents ports end) grown agree;
  needs_same = λ d e grown agree o.
      let whole : AgreesOn d e (IsForCell d cell) = λ ob is. agree ob (inl is) in
      either_same (cell_needs_same d e cell o grown whole) (end_needs_same d e cell end.inst o grown whole);
  writes_seen = λ d o is. inl (inl (inr (nets_written (named d cell) (inside d cell) (without_end (end_named (inside d cell) (end_ports d cell end.inst) end)) o is)));
  last = λ d. one_last d (cell_named d cell) (λ id. inner id (record { insts = insts_in (inside d cell); nets = without_end (end_named (inside d cell) (end_ports d cell end.inst) end) (nets_in (inside d cell)) })) (λ c. tt);
  finds = λ d. one_finds d (cell_named d cell) (λ id. inner id (record { insts = insts_in (inside d cell); nets = without_end (end_named (inside d cell) (end_ports d cell end.inst) end) (nets_in (inside d cell)) })) (named_cell_there d cell);
  places = λ d closed. one_places d (cell_named d cell) (λ id. inner id (record { insts = insts_in (inside d cell); nets = without_end (end_named (inside d cell) (end_ports d cell end.inst) end) (nets_in (inside d cell)) })) (λ c. insts_there d (cell_named d cell) closed);
  valid = λ d typed valid allowed. cut_done d cell end valid allowed;
  refuses = λ d. inr (λ refusal. refusal);
}
