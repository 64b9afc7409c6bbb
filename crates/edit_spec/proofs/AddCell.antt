-- Adding a cell is an operation.
use Rattle.std.proofs.Common.{◌≡◌, ℕ, List, [], ◌∷◌, Option, Some, None, refl, sym, ap, subst, ◌∙◌, ◌<◌, ◌≤◌, Bool, false, length, inl, inr, ◌⊎◌, ⊎_elim, map}
use Rattle.std.proofs.lemmas.Bool.{leb-false, ltb-false, or_parts}
use Rattle.std.proofs.lemmas.List.{length-map}
use Rattle.std.proofs.lemmas.List.Elements.{All-from_recursion}
use Rattle.std.specs.List.{list_any, All}
use Rattle.std.specs.Option.{option_map, option_to_list}
use Rattle.std.specs.Prelude.{nat_le, nat_lt, ◌||◌, is_none, sum_by, IsSome}
use Rattle.netlist_schema.specs.Design.{Design, insts_of, cells_in, lib_at, port_width}
use Rattle.netlist_schema.specs.Hierarchy.{IsCell}
use Rattle.netlist_schema.specs.Ident.{IsIdentifier}
use Rattle.netlist_schema.specs.Types.{CellBody, CellId, Inst, LibId, Object}
use Rattle.netlist_schema.specs.Valid.{IsValid}
use Rattle.netlist_schema.specs.declared.ids.Object.TheVariants.{Directory}
use Rattle.edit_rules_spec.specs.Edit.{edited, Edit, fresh, IsChanged, IsChangedBy, IsMade, AllGoLast, AllPlaceOld, AllFindOld}
use Rattle.edit_rules_spec.specs.Find.{is_same, lib_named}
use Rattle.edit_rules_spec.specs.Local.{IsLocal}
use Rattle.edit_rules_spec.specs.Objects.{AgreesOn, face_object, contents_object}
use Rattle.edit_rules_spec.specs.Reading.{IsForLib}
use Rattle.edit_rules_spec.specs.Rule.{first, refuse, too_many}
use Rattle.edit_rules_spec.specs.declared.reply.CellName.{CellName}
use Rattle.edit_rules_spec.specs.declared.reply.Reply.{Reply}
use Rattle.edit_rules_spec.specs.declared.reply.Reply.TheVariants.{Taken, TooMany, NoLib}
use Rattle.edit_spec.specs.AddCell.{names_in, new_port, new_cell, has_twice, add_cell, add_cell_of, add_cell_needs}
use Rattle.edit_spec.specs.Typed.{IsTypedPortDecl}
use Rattle.edit_spec.specs.declared.ops.PortDecl.{PortDecl}
use Rattle.edit_rules_spec.proofs.Refusals.{first_none, not_refused}
use Rattle.edit_rules_spec.proofs.Same.{both_ways, names_of_directory, lib_named_same}
use Rattle.edit_spec.proofs.NewCellValid.{nothing_inside, new_edit, new_valid}
use Rattle.edit_rules_spec.proofs.There.{named_lib_there}

pub add_cell_done : (d : Design) (cell : CellName) (leaf : Bool) (ports : List PortDecl) → IsIdentifier cell.cell → All IsTypedPortDecl ports → IsValid d → first (add_cell_of cell leaf ports d).refusals ≡ None → IsValid (edited d (add_cell_of cell leaf ports d).edits)
add_cell_done d cell leaf ports identifier typed valid allowed =
    let lib = lib_named d cell.lib in
    let names = names_in d lib in
    let taken : Bool = list_any (λ other. is_same other cell.cell) names in
    let twice : Bool = has_twice (map (λ (port : PortDecl). port.name) ports) in
    let refusal2 : Option Reply = refuse (taken || twice) Taken in
    let refusal3 : Option Reply = too_many (length names) 65536 in
    let refusal4 : Option Reply = refuse (nat_lt 65536 (length ports)) (TooMany 65536) in
    let refusal5 : Option Reply = refuse (nat_lt 1048576 (sum_by port_width (map new_port ports))) (TooMany 1048576) in
    let n1 = first_none (refuse (is_none lib) NoLib) (refusal2 ∷ refusal3 ∷ refusal4 ∷ refusal5 ∷ []) allowed in
    let n2 = first_none refusal2 (refusal3 ∷ refusal4 ∷ refusal5 ∷ []) n1.1 in
    let n3 = first_none refusal3 (refusal4 ∷ refusal5 ∷ []) n2.1 in
    let n4 = first_none refusal4 (refusal5 ∷ []) n3.1 in
    let n5 = first_none refusal5 [] n4.1 in
    let both = or_parts taken twice (not_refused (taken || twice) Taken n2.0) in
    let room : length names < 65536 = leb-false 65536 (length names) (not_refused (nat_le 65536 (length names)) (TooMany 65536) n3.0) in
    let few : length ports ≤ 65536 = ltb-false 65536 (length ports) (not_refused (nat_lt 65536 (length ports)) (TooMany 65536) n4.0) in
    let bits : sum_by port_width (map new_port ports) ≤ 1048576 = ltb-false 1048576 (sum_by port_width (map new_port ports)) (not_refused (nat_lt 1048576 (sum_by port_width (map new_port ports))) (TooMany 1048576) n5.0) in
    new_edit d lib (length names) (new_cell cell.cell leaf ports) valid (λ l is.
    new_valid d l cell.cell leaf ports identifier typed both.1 few bits (subst (λ (o : Option LibId). length (names_in d o) < 65536) is room) (subst (λ (o : Option LibId). list_any (λ other. is_same other cell.cell) (names_in d o) ≡ false) is both.0))

-- the names of a library on whose directory the two agree
names_in_same : (d e : Design) (lib : Option LibId) → AgreesOn d e (IsForLib lib) → names_in d lib ≡ names_in e lib
names_in_same d e None agree = refl
names_in_same d e (Some lib) agree = names_of_directory (lib_at d lib) (lib_at e lib) (agree (Directory lib) refl)

abbrev new_in : Option LibId → ℕ → CellBody → List Edit
new_in lib slot body = option_to_list (option_map (λ l. fresh (record { lib = l; slot = slot }) body) lib)

new_made : (lib : Option LibId) (slot : ℕ) (body : CellBody) (o : Object) → IsChanged (new_in lib slot body) o → IsForLib lib o ⊎ IsMade (new_in lib slot body) o
new_made None slot body o is = absurd is
new_made (Some lib) slot body o is =
    let id : CellId = record { lib = lib; slot = slot } in
    ⊎_elim
    (λ (here : IsChangedBy (fresh id body) o). ⊎_elim (λ (directory : o ≡ Directory lib). inl directory) (λ (made : (o ≡ face_object id) ⊎ (o ≡ contents_object id)). inr (inl made)) here)
    (λ (never : ⊥). absurd never)
    is

new_last : (d : Design) (lib : Option LibId) (body : CellBody) → AllGoLast d (new_in lib (length (names_in d lib)) body)
new_last d None body = tt
new_last d (Some lib) body = (length-map (cells_in d lib) (λ (c : CellBody). c.name.id), tt)

new_finds : (d : Design) (lib : Option LibId) (slot : ℕ) (body : CellBody) → ((l : LibId) → lib ≡ Some l → IsSome (lib_at d l)) → AllFindOld d (new_in lib slot body)
new_finds d None slot body there = tt
new_finds d (Some lib) slot body there = (there lib refl, tt)

new_places : (d : Design) (lib : Option LibId) (slot : ℕ) (body : CellBody) → insts_of body ≡ [] → AllPlaceOld d (new_in lib slot body)
new_places d None slot body none = tt
new_places d (Some lib) slot body none = (subst (All (λ (inst : Inst). IsCell d inst.of)) (sym none) (All-from_recursion (λ (inst : Inst). IsCell d inst.of) [] tt), tt)

pub add_cell_local : (cell : CellName) (leaf : Bool) (ports : List PortDecl) → IsLocal (add_cell_of cell leaf ports) (add_cell_needs cell) (IsIdentifier cell.cell × All IsTypedPortDecl ports)
add_cell_local cell leaf ports = record {
  same = λ d e closed grown agree.
      let lib : lib_named d cell.lib ≡ lib_named e cell.lib = lib_named_same d e cell.lib grown in
      let names : names_in d (lib_named d cell.lib) ≡ names_in e (lib_named e cell.lib) = names_in_same d e (lib_named d cell.lib) agree ∙ ap (names_in e) lib in
      λ i. add_cell (lib i) (names i) cell.cell leaf ports;
  needs_same = λ d e grown agree o. both_ways (λ (lib : Option LibId). IsForLib lib o) (lib_named d cell.lib) (lib_named e cell.lib) (lib_named_same d e cell.lib grown);
  writes_seen = λ d o is. new_made (lib_named d cell.lib) (length (names_in d (lib_named d cell.lib))) (new_cell cell.cell leaf ports) o is;
  last = λ d. new_last d (lib_named d cell.lib) (new_cell cell.cell leaf ports);
  finds = λ d. new_finds d (lib_named d cell.lib) (length (names_in d (lib_named d cell.lib))) (new_cell cell.cell leaf ports) (named_lib_there d cell.lib);
  places = λ d closed. new_places d (lib_named d cell.lib) (length (names_in d (lib_named d cell.lib))) (new_cell cell.cell leaf ports) (nothing_inside cell.cell leaf ports);
  valid = λ d typed valid allowed. add_cell_done d cell leaf ports typed.0 typed.1 valid allowed;
  refuses = λ d. inr (λ refusal. refusal);
}
