-- Adding a net is an operation.
use Rattle.std.proofs.Common.{◌≡◌, ℕ, List, Option, None, subst, inl, inr}
use Rattle.netlist_schema.specs.Design.{Design, insts_in, nets_in}
use Rattle.netlist_schema.specs.Ident.{IsIdentifier}
use Rattle.netlist_schema.specs.Types.{Contents}
use Rattle.netlist_schema.specs.Valid.{IsValid}
use Rattle.edit_rules_spec.specs.Edit.{inner, edited}
use Rattle.edit_rules_spec.specs.Find.{cell_named}
use Rattle.edit_rules_spec.specs.Local.{IsLocal}
use Rattle.edit_rules_spec.specs.Rule.{first}
use Rattle.edit_rules_spec.specs.Seen.{named, inside}
use Rattle.edit_rules_spec.specs.declared.reply.CellName.{CellName}
use Rattle.edit_spec.specs.AddNet.{with_net, no_new_net, add_net, add_net_of, add_net_needs}
use Rattle.edit_rules_spec.proofs.Same.{cell_needs_same}
use Rattle.edit_spec.proofs.Changed.{of_cell, nets_written, one_last, one_places, insts_there, one_finds}
use Rattle.edit_spec.proofs.InsideStep.{nets_step, after_cell}
use Rattle.edit_spec.proofs.Valid.{good_before, add_net_good}
use Rattle.edit_rules_spec.proofs.There.{named_cell_there}

pub add_net_done : (d : Design) (cell : CellName) (net : List ℕ) → IsIdentifier net → IsValid d → first (add_net_of cell net d).refusals ≡ None → IsValid (edited d (add_net_of cell net d).edits)
add_net_done d cell net identifier valid allowed =
    nets_step d cell (with_net net) valid (λ id body is found contents.
    let free : first (no_new_net body.contents net) ≡ None = subst (λ (c : Option Contents). first (no_new_net c net) ≡ None) contents (after_cell (named d cell) (no_new_net (inside d cell) net) allowed) in
    add_net_good d body net identifier free (good_before d id body valid found))

pub add_net_local : (cell : CellName) (net : List ℕ) → IsLocal (add_net_of cell net) (add_net_needs cell) (IsIdentifier net)
add_net_local cell net = record {
  same = λ d e closed grown agree. of_cell d e cell (λ at contents. add_net at contents net) grown agree;
  needs_same = λ d e grown agree o. cell_needs_same d e cell o grown agree;
  writes_seen = λ d o is. inl (inr (nets_written (named d cell) (inside d cell) (with_net net) o is));
  last = λ d. one_last d (cell_named d cell) (λ id. inner id (record { insts = insts_in (inside d cell); nets = with_net net (nets_in (inside d cell)) })) (λ c. tt);
  finds = λ d. one_finds d (cell_named d cell) (λ id. inner id (record { insts = insts_in (inside d cell); nets = with_net net (nets_in (inside d cell)) })) (named_cell_there d cell);
  places = λ d closed. one_places d (cell_named d cell) (λ id. inner id (record { insts = insts_in (inside d cell); nets = with_net net (nets_in (inside d cell)) })) (λ c. insts_there d (cell_named d cell) closed);
  valid = λ d typed valid allowed. add_net_done d cell net typed valid allowed;
  refuses = λ d. inr (λ refusal. refusal);
}
