-- Removing a net is an operation.
use Rattle.std.proofs.Common.{◌≡◌, ℕ, remove, List, Option, Some, None, inl, inr}
use Rattle.std.specs.Option.{option_map_or}
use Rattle.netlist_schema.specs.Design.{Design, insts_in, nets_in, nets_of}
use Rattle.netlist_schema.specs.Types.{CellBody}
use Rattle.netlist_schema.specs.Valid.{IsValid}
use Rattle.edit_rules_spec.specs.Edit.{inner, edited}
use Rattle.edit_rules_spec.specs.Find.{cell_named, net_place}
use Rattle.edit_rules_spec.specs.Local.{IsLocal}
use Rattle.edit_rules_spec.specs.Rule.{first}
use Rattle.edit_rules_spec.specs.Seen.{named, inside}
use Rattle.edit_rules_spec.specs.declared.reply.CellName.{CellName}
use Rattle.edit_spec.specs.DropNet.{without_net, drop_net, drop_net_of, drop_net_needs}
use Rattle.edit_rules_spec.proofs.Same.{cell_needs_same}
use Rattle.edit_spec.proofs.Changed.{of_cell, nets_written, one_last, one_places, insts_there, one_finds}
use Rattle.edit_spec.proofs.Changes.{drop_good}
use Rattle.edit_spec.proofs.InsideStep.{nets_step}
use Rattle.edit_spec.proofs.Valid.{AreGoodNets, good_before}
use Rattle.edit_rules_spec.proofs.There.{named_cell_there}

dropped : (d : Design) (body : CellBody) (place : Option ℕ) → AreGoodNets d body (nets_of body) → AreGoodNets d body (option_map_or (λ i. remove (nets_of body) i) place (nets_of body))
dropped d body None good = good
dropped d body (Some place) good = drop_good d body place good

pub drop_net_done : (d : Design) (cell : CellName) (net : List ℕ) → IsValid d → first (drop_net_of cell net d).refusals ≡ None → IsValid (edited d (drop_net_of cell net d).edits)
drop_net_done d cell net valid allowed =
    nets_step d cell (without_net net) valid (λ id body is found contents. dropped d body (net_place net (nets_of body)) (good_before d id body valid found))

pub drop_net_local : (cell : CellName) (net : List ℕ) → IsLocal (drop_net_of cell net) (drop_net_needs cell) (Unit {0})
drop_net_local cell net = record {
  same = λ d e closed grown agree. of_cell d e cell (λ at contents. drop_net at contents net) grown agree;
  needs_same = λ d e grown agree o. cell_needs_same d e cell o grown agree;
  writes_seen = λ d o is. inl (inr (nets_written (named d cell) (inside d cell) (without_net net) o is));
  last = λ d. one_last d (cell_named d cell) (λ id. inner id (record { insts = insts_in (inside d cell); nets = without_net net (nets_in (inside d cell)) })) (λ c. tt);
  finds = λ d. one_finds d (cell_named d cell) (λ id. inner id (record { insts = insts_in (inside d cell); nets = without_net net (nets_in (inside d cell)) })) (named_cell_there d cell);
  places = λ d closed. one_places d (cell_named d cell) (λ id. inner id (record { insts = insts_in (inside d cell); nets = without_net net (nets_in (inside d cell)) })) (λ c. insts_there d (cell_named d cell) closed);
  valid = λ d typed valid allowed. drop_net_done d cell net valid allowed;
  refuses = λ d. inr (λ refusal. refusal);
}
