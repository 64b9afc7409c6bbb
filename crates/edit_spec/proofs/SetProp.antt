-- Setting a property is an operation.
use Rattle.std.proofs.Common.{◌≡◌, ℕ, List, [], ◌∷◌, Option, Some, None, refl, sym, ap, subst, zero, suc, arith, length, inl, inr, ⊎_elim}
use Rattle.std.specs.Option.{option_map, option_map_or, option_and_then, option_to_list}
use Rattle.netlist_schema.proofs.Cells.{All-cell_at}
use Rattle.netlist_schema.proofs.WithCell.{with_cell_is_valid}
use Rattle.netlist_schema.specs.Design.{Design, cell_at, insts_in, insts_of, nets_in, nets_of}
use Rattle.netlist_schema.specs.Typed.{IsTypedCell, IsTypedProperty}
use Rattle.netlist_schema.specs.Types.{CellBody, CellId, Net, Property, Inst, LibId, Object}
use Rattle.netlist_schema.specs.Valid.{IsValid, IsValidCell}
use Rattle.edit_rules_spec.specs.Edit.{inner, own, edited, edited_once, changed_at, with_properties, IsChanged}
use Rattle.edit_rules_spec.specs.Find.{cell_named, net_place, inst_place}
use Rattle.edit_rules_spec.specs.Local.{IsLocal}
use Rattle.edit_rules_spec.specs.Objects.{face_at, face_of, face_object}
use Rattle.edit_rules_spec.specs.Reading.{IsFor}
use Rattle.edit_rules_spec.specs.Rule.{first}
use Rattle.edit_rules_spec.specs.Seen.{Named, named, inside}
use Rattle.edit_rules_spec.specs.declared.reply.CellName.{CellName}
use Rattle.edit_spec.specs.SetProp.{set_property, insts_with_property, nets_with_property, set_own, set_prop_whole, set_prop_inst, set_prop_net, set_prop_of, set_prop_needs}
use Rattle.edit_spec.specs.declared.ops.Target.{Target}
use Rattle.edit_spec.specs.declared.ops.Target.TheVariants.{Whole, Net as OfNet, Inst as OfInst}
use Rattle.edit_rules_spec.proofs.Filled.{with_changed_is, filled}
use Rattle.edit_rules_spec.proofs.Named.{cell_there}
use Rattle.edit_rules_spec.proofs.Same.{named_same, cell_needs_same, name_needs_same}
use Rattle.edit_spec.proofs.Changed.{of_cell, nets_written, insts_written, one_last, one_places, insts_there, with_property, one_finds}
use Rattle.edit_spec.proofs.Changes.{net_property_good, set_property_typed, set_property_distinct}
use Rattle.edit_spec.proofs.InsideStep.{nets_step, contents_edit}
use Rattle.edit_spec.proofs.InstValid.{inst_property_valid}
use Rattle.edit_spec.proofs.JoinValid.{there}
use Rattle.edit_spec.proofs.Valid.{AreGoodNets, good_before}
use Rattle.edit_rules_spec.proofs.There.{named_cell_there}

own_in : (id : Option CellId) (lib : Option LibId) (properties : List Property) (o : Object) → IsChanged (option_to_list (option_map (λ c. own c properties) id)) o → IsFor id lib o
own_in None lib properties o is = absurd is
own_in (Some id) lib properties o is = ⊎_elim (λ (here : o ≡ face_object id). here) (λ (never : ⊥). absurd never) is

own_written : (at : Named) (change : List Property → List Property) (o : Object) → IsChanged (set_own at change) o → IsFor at.cell at.lib o
own_written at change o is = own_in at.cell at.lib (change (option_map_or (λ seen. seen.properties) at.face [])) o is

-- properties of the cell's own
own_edit : (d : Design) (r : Option CellId) (property : Property) → IsTypedProperty property → IsValid d → ((id : CellId) → r ≡ Some id → (body : CellBody) × (cell_at d id ≡ Some body)) → IsValid (edited d (option_to_list (option_map (λ id. own id (set_property property (option_map_or (λ (seen : CellBody). seen.properties) (option_and_then (face_at d) r) []))) r)))
own_edit d None property typed valid there = valid
own_edit d (Some id) property typed valid there =
    let found = there id refl in
    let old : CellBody = found.0 in
    let face : face_at d id ≡ Some (face_of old) = ap (option_map face_of) found.1 in
    let properties : List Property = set_property property old.properties in
    let cell : IsValidCell d id old = valid.cells id old found.1 in
    let typed_old : IsTypedCell old = All-cell_at IsTypedCell d id old valid.typed.cells found.1 in
    subst (λ (f : Option CellBody). IsValid (edited_once d (own id (set_property property (option_map_or (λ (seen : CellBody). seen.properties) f []))))) (sym face)
    (subst IsValid (sym (with_changed_is d id (with_properties properties) old found.1))
    (with_cell_is_valid d id old (with_properties properties old) valid found.1 refl
    (record {
      name = typed_old.name;
      properties = set_property_typed property old.properties typed typed_old.properties;
      view = typed_old.view;
      view_properties = typed_old.view_properties;
      interface_properties = typed_old.interface_properties;
      ports = typed_old.ports;
      insts = typed_old.insts;
      nets = typed_old.nets;
    })
    (record { ports = cell.limits.ports; bits = cell.limits.bits; insts = cell.limits.insts; nets = cell.limits.nets; ends = cell.limits.ends })
    (record {
      ports = cell.names.ports;
      insts = cell.names.insts;
      nets = cell.names.nets;
      properties = set_property_distinct property old.properties cell.names.properties;
      view_properties = cell.names.view_properties;
      interface_properties = cell.names.interface_properties;
      port_properties = cell.names.port_properties;
      inst_properties = cell.names.inst_properties;
      net_properties = cell.names.net_properties;
    })
    cell.ends
    cell.joined_once))

own_property_done : (d : Design) (cell : CellName) (property : Property) → IsTypedProperty property → IsValid d → first (set_prop_of cell Whole property d).refusals ≡ None → IsValid (edited d (set_prop_of cell Whole property d).edits)
own_property_done d cell property typed valid allowed =
    own_edit d (cell_named d cell) property typed valid (cell_there d cell)

set_inst : (d : Design) (id : CellId) (body : CellBody) (property : Property) (place : Option ℕ) → IsTypedProperty property → IsValid d → cell_at d id ≡ Some body → IsValid (filled d id (record { insts = insts_of body; nets = nets_of body })) → IsValid (filled d id (record { insts = option_map_or (λ i. changed_at (λ (inst : Inst). record inst { properties = set_property property inst.properties }) i (insts_of body)) place (insts_of body); nets = nets_of body }))
set_inst d id body property None typed valid found same = same
set_inst d id body property (Some place) typed valid found same = inst_property_valid d id body property place typed valid found

-- where something stays as it is
none_changed : {X : Type 0} (f : X → X) (i : ℕ) (xs : List X) → i ≡ length xs → changed_at f i xs ≡ xs
none_changed f i [] is = refl
none_changed f zero (x ∷ xs) is = absurd (omega arith)
none_changed f (suc i) (x ∷ xs) is = ap (λ ys. x ∷ ys) (none_changed f i xs (omega arith))

same_valid : (d : Design) (id : CellId) (body : CellBody) (property : Property) → IsTypedProperty property → IsValid d → cell_at d id ≡ Some body → IsValid (filled d id (record { insts = insts_of body; nets = nets_of body }))
same_valid d id body property typed valid found =
    subst (λ (insts : List Inst). IsValid (filled d id (record { insts = insts; nets = nets_of body })))
    (none_changed (λ (inst : Inst). record inst { properties = set_property property inst.properties }) (length (insts_of body)) (insts_of body) refl)
    (inst_property_valid d id body property (length (insts_of body)) typed valid found)

inst_property_done : (d : Design) (cell : CellName) (inst : List ℕ) (property : Property) → IsTypedProperty property → IsValid d → first (set_prop_of cell (OfInst inst) property d).refusals ≡ None → IsValid (edited d (set_prop_of cell (OfInst inst) property d).edits)
inst_property_done d cell inst property typed valid allowed =
    contents_edit d (cell_named d cell) (insts_with_property inst property) valid
    (λ id body is found contents. set_inst d id body property (inst_place inst (insts_of body)) typed valid found (same_valid d id body property typed valid found))
    (cell_there d cell)

set : (d : Design) (body : CellBody) (property : Property) (place : Option ℕ) → IsTypedProperty property → AreGoodNets d body (nets_of body) → AreGoodNets d body (option_map_or (λ i. changed_at (λ (net : Net). record net { properties = set_property property net.properties }) i (nets_of body)) place (nets_of body))
set d body property None typed good = good
set d body property (Some place) typed good = net_property_good d body property place typed good

net_property_done : (d : Design) (cell : CellName) (net : List ℕ) (property : Property) → IsTypedProperty property → IsValid d → first (set_prop_of cell (OfNet net) property d).refusals ≡ None → IsValid (edited d (set_prop_of cell (OfNet net) property d).edits)
net_property_done d cell net property typed valid allowed =
    nets_step d cell (nets_with_property net property) valid (λ id body is found contents. set d body property (net_place net (nets_of body)) typed (good_before d id body valid found))

own_property_local : (cell : CellName) (property : Property) → IsLocal (set_prop_of cell Whole property) (set_prop_needs cell Whole) (IsTypedProperty property)
own_property_local cell property = record {
  same = λ d e closed grown agree. λ i. set_prop_whole (named_same d e cell grown agree i) property;
  needs_same = λ d e grown agree o. name_needs_same d e cell o grown agree;
  writes_seen = λ d o is. inl (own_written (named d cell) (set_property property) o is);
  last = λ d. one_last d (cell_named d cell) (λ id. own id (set_property property (option_map_or (λ seen. seen.properties) (named d cell).face []))) (λ c. tt);
  finds = λ d. one_finds d (cell_named d cell) (λ id. own id (set_property property (option_map_or (λ seen. seen.properties) (named d cell).face []))) (named_cell_there d cell);
  places = λ d closed. one_places d (cell_named d cell) (λ id. own id (set_property property (option_map_or (λ seen. seen.properties) (named d cell).face []))) (λ c. tt);
  valid = λ d typed valid allowed. own_property_done d cell property typed valid allowed;
  refuses = λ d. inr (λ refusal. refusal);
}

inst_property_local : (cell : CellName) (inst : List ℕ) (property : Property) → IsLocal (set_prop_of cell (OfInst inst) property) (set_prop_needs cell (OfInst inst)) (IsTypedProperty property)
inst_property_local cell inst property = record {
  same = λ d e closed grown agree. of_cell d e cell (λ at contents. set_prop_inst at contents inst property) grown agree;
  needs_same = λ d e grown agree o. cell_needs_same d e cell o grown agree;
  writes_seen = λ d o is. inl (inr (insts_written (named d cell) (inside d cell) (insts_with_property inst property) o is));
  last = λ d. one_last d (cell_named d cell) (λ id. inner id (record { insts = insts_with_property inst property (insts_in (inside d cell)); nets = nets_in (inside d cell) })) (λ c. tt);
  finds = λ d. one_finds d (cell_named d cell) (λ id. inner id (record { insts = insts_with_property inst property (insts_in (inside d cell)); nets = nets_in (inside d cell) })) (named_cell_there d cell);
  places = λ d closed. one_places d (cell_named d cell) (λ id. inner id (record { insts = insts_with_property inst property (insts_in (inside d cell)); nets = nets_in (inside d cell) })) (λ c. with_property d property (inst_place inst (insts_in (inside d cell))) (insts_in (inside d cell)) (insts_there d (cell_named d cell) closed));
  valid = λ d typed valid allowed. inst_property_done d cell inst property typed valid allowed;
  refuses = λ d. inr (λ refusal. refusal);
}

net_property_local : (cell : CellName) (net : List ℕ) (property : Property) → IsLocal (set_prop_of cell (OfNet net) property) (set_prop_needs cell (OfNet net)) (IsTypedProperty property)
net_property_local cell net property = record {
  same = λ d e closed grown agree. of_cell d e cell (λ at contents. set_prop_net at contents net property) grown agree;
  needs_same = λ d e grown agree o. cell_needs_same d e cell o grown agree;
  writes_seen = λ d o is. inl (inr (nets_written (named d cell) (inside d cell) (nets_with_property net property) o is));
  last = λ d. one_last d (cell_named d cell) (λ id. inner id (record { insts = insts_in (inside d cell); nets = nets_with_property net property (nets_in (inside d cell)) })) (λ c. tt);
  finds = λ d. one_finds d (cell_named d cell) (λ id. inner id (record { insts = insts_in (inside d cell); nets = nets_with_property net property (nets_in (inside d cell)) })) (named_cell_there d cell);
  places = λ d closed. one_places d (cell_named d cell) (λ id. inner id (record { insts = insts_in (inside d cell); nets = nets_with_property net property (nets_in (inside d cell)) })) (λ c. insts_there d (cell_named d cell) closed);
  valid = λ d typed valid allowed. net_property_done d cell net property typed valid allowed;
  refuses = λ d. inr (λ refusal. refusal);
}

pub set_prop_local : (cell : CellName) (target : Target) (property : Property) → IsLocal (set_prop_of cell target property) (set_prop_needs cell target) (IsTypedProperty property)
set_prop_local cell Whole property = own_property_local cell property
set_prop_local cell (OfInst inst) property = inst_property_local cell inst property
set_prop_local cell (OfNet net) property = net_property_local cell net property
