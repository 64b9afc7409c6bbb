-- In a valid design each end of a net is shown, and each instance by the name of its cell.
use Rattle.std.proofs.Common.{◌≡◌, ◌++◌, ℕ, zero, suc, ◌<◌, List, [], ◌∷◌, length, Option, Some, None, refl, sym, ap, subst, ◌∙◌, slice_get}
use Rattle.std.proofs.lemmas.List.Elements.{recursion_from_All}
use Rattle.std.specs.List.{AllByRecursion}
use Rattle.std.specs.Option.{option_map, option_map_or, option_and_then, option_to_list}
use Rattle.std.specs.Prelude.{IsSome, IsSomeAnd, map}
use Rattle.netlist_schema.proofs.WithCell.{lib_of_cell}
use Rattle.netlist_schema.specs.Design.{Design, cell_at, insts_of, nets_of, ends_of, port_width}
use Rattle.netlist_schema.specs.Types.{CellBody, CellId, End, Inst, Lib, LibHead, Net, Port}
use Rattle.netlist_schema.specs.Valid.{IsValid, IsEndAt, IsEndOf, HasBit}
use Rattle.netlist_schema.proofs.Lists.{all_behind}
use Rattle.edit_rules_spec.specs.Find.{cell_named, net_named, net_place}
use Rattle.edit_rules_spec.specs.Objects.{face_at, face_of, outside_of, outside_at, head_at, name_of, cell_name_at}
use Rattle.edit_rules_spec.specs.Seen.{inside, contents_at, ports_seen, placed}
use Rattle.edit_rules_spec.specs.declared.reply.CellName.{CellName}
use Rattle.edit_spec.specs.ShowNet.{ends_of_net, inst_of_end, ports_at, end_by_name, ends_by_name, net_shown}
use Rattle.edit_rules_spec.proofs.Closed.{some_cell, valid_is_closed}
use Rattle.edit_rules_spec.proofs.Lists.{each_left}
use Rattle.edit_rules_spec.proofs.Named.{cell_there}
use Rattle.edit_spec.proofs.Joined.{ends_of_nets}
use Rattle.edit_spec.proofs.Shown.{placed_there}

some_port : (o : Option Port) (Q : Port → Type 0) → IsSomeAnd o Q → (p : Port) × (o ≡ Some p)
some_port None Q is = absurd is
some_port (Some p) Q is = (p, refl)

port_there : (ports : List Port) (port bit : ℕ) → HasBit ports port bit → (p : Port) × (slice_get ports port ≡ Some p)
port_there ports port bit has = some_port (slice_get ports port) (λ p. bit < port_width p) has

port_of_body : (o : Option CellBody) (port bit : ℕ) → IsSomeAnd o (λ of. HasBit of.ports port bit) → (p : Port) × (option_and_then (λ seen. slice_get seen port) (ports_seen (option_map face_of o)) ≡ Some p)
port_of_body None port bit is = absurd is
port_of_body (Some of) port bit is = port_there of.ports port bit is

port_of_inst : (d : Design) (o : Option Inst) (port bit : ℕ) → IsSomeAnd o (λ inst. IsSomeAnd (cell_at d inst.of) (λ of. HasBit of.ports port bit)) → (p : Port) × (option_and_then (λ seen. slice_get seen port) (ports_seen (option_and_then (λ inst. face_at d inst.of) o)) ≡ Some p)
port_of_inst d None port bit is = absurd is
port_of_inst d (Some inst) port bit is = port_of_body (cell_at d inst.of) port bit is

port_of_end : (d : Design) (body : CellBody) (inst : Option ℕ) (port bit : ℕ) → IsEndAt d body inst port bit → (p : Port) × (option_and_then (λ seen. slice_get seen port) (ports_at d (Some body.ports) body.contents inst) ≡ Some p)
port_of_end d body None port bit is = port_there body.ports port bit is
port_of_end d body (Some place) port bit is = port_of_inst d (slice_get (insts_of body) place) port bit is

each_shown : (d : Design) (body : CellBody) (ends : List End) → AllByRecursion (IsEndOf d body) ends → length (ends_by_name d (Some body.ports) body.contents ends) ≡ length ends
each_shown d body [] all = refl
each_shown d body (end ∷ ends) all =
    let port = port_of_end d body end.inst end.port end.bit all.0 in
    let inst : Option Inst = inst_of_end body.contents end in
    let rest : length (ends_by_name d (Some body.ports) body.contents ends) ≡ length ends = each_shown d body ends all.1 in
    ap (λ (o : Option Port). length (option_to_list (end_by_name inst o end.bit) ++ ends_by_name d (Some body.ports) body.contents ends)) port.1 ∙ ap suc rest

ends_of_one : (P : End → Type 0) (nets : List Net) (k : ℕ) (net : Net) → slice_get nets k ≡ Some net → AllByRecursion P (ends_of_nets nets) → AllByRecursion P net.ends
ends_of_one P [] k net is all = cc
ends_of_one P (n ∷ nets) zero net is all = let same : n ≡ net = cc in subst (λ (x : Net). AllByRecursion P x.ends) same (each_left P n.ends (ends_of_nets nets) all)
ends_of_one P (n ∷ nets) (suc k) net is all = ends_of_one P nets k net is (all_behind P n.ends (ends_of_nets nets) all)

ends_at : (P : End → Type 0) (nets : List Net) (o : Option Net) (place : Option ℕ) → option_and_then (slice_get nets) place ≡ o → AllByRecursion P (ends_of_nets nets) → AllByRecursion P (option_map_or (λ net. net.ends) o [])
ends_at P nets None place is all = tt
ends_at P nets (Some net) None is all = cc
ends_at P nets (Some net) (Some k) is all = ends_of_one P nets k net is all

net_whole : (d : Design) (r : Option CellId) (net : List ℕ) → IsValid d → ((id : CellId) → r ≡ Some id → (body : CellBody) × (cell_at d id ≡ Some body)) → length (ends_by_name d (ports_seen (option_and_then (face_at d) r)) (option_and_then (contents_at d) r) (ends_of_net (option_and_then (contents_at d) r) net)) ≡ length (ends_of_net (option_and_then (contents_at d) r) net)
net_whole d None net valid there = refl
net_whole d (Some id) net valid there =
    let found = there id refl in
    let body : CellBody = found.0 in
    subst (λ (o : Option CellBody). length (ends_by_name d (ports_seen (option_map face_of o)) (option_and_then (λ (b : CellBody). b.contents) o) (ends_of_net (option_and_then (λ (b : CellBody). b.contents) o) net)) ≡ length (ends_of_net (option_and_then (λ (b : CellBody). b.contents) o) net)) (sym found.1)
    (each_shown d body (ends_of_net body.contents net)
    (ends_at (IsEndOf d body) (nets_of body) (net_named net (nets_of body)) (net_place net (nets_of body)) refl (recursion_from_All (IsEndOf d body) (ends_of body) (valid.cells id body found.1).ends)))

pub net_is_shown : (d : Design) (cell : CellName) (net : List ℕ) → IsValid d → length (net_shown d cell net) ≡ length (ends_of_net (inside d cell) net)
net_is_shown d cell net valid = net_whole d (cell_named d cell) net valid (cell_there d cell)

head_found : (libs : List Lib) (k : ℕ) (lib : Lib) → slice_get libs k ≡ Some lib → slice_get (map (λ (l : Lib). l.head) libs) k ≡ Some lib.head
head_found [] k lib is = cc
head_found (l ∷ libs) zero lib is = let same : l ≡ lib = cc in ap (λ (x : Lib). Some x.head) same
head_found (l ∷ libs) (suc k) lib is = head_found libs k lib is

-- a cell that is there has a name
cell_has_name : (d : Design) (id : CellId) (body : CellBody) → cell_at d id ≡ Some body → IsSome (cell_name_at d id)
cell_has_name d id body found =
    let lib = lib_of_cell d id body found in
    let head : head_at d id.lib ≡ Some lib.0.head = head_found d.libs id.lib.0 lib.0 lib.1 in
    let outside : outside_at d id ≡ Some (outside_of body) = ap (option_map outside_of) found in
    let named : cell_name_at d id ≡ Some (name_of lib.0.head (outside_of body)) = λ i. option_and_then (λ (h : LibHead). option_map (name_of h) (outside i)) (head i) in
    subst (λ (o : Option CellName). IsSome o) (sym named) refl

pub inst_is_shown : (d : Design) (cell : CellName) (name : List ℕ) (inst : Inst) → IsValid d → placed d cell name ≡ Some inst → IsSome (cell_name_at d inst.of)
inst_is_shown d cell name inst valid is =
    let there = some_cell (cell_at d inst.of) (placed_there d cell name inst (valid_is_closed d valid) is) in
    cell_has_name d inst.of there.0 there.1
