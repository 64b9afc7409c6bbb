-- What is shown of a net and of an instance is the same in two designs that agree.
use Rattle.std.proofs.Common.{◌≡◌, inl, inr, ℕ, ◌++◌, true, false, List, [], ◌∷◌, Option, Some, None, refl, sym, ap, subst, ◌∙◌, slice_get}
use Rattle.std.specs.List.{Contains}
use Rattle.std.specs.Option.{option_map, option_map_or, option_and_then, option_to_list}
use Rattle.std.specs.Prelude.{IsSome}
use Rattle.netlist_schema.specs.Design.{Design, cell_at, insts_in, insts_of}
use Rattle.netlist_schema.specs.Hierarchy.{HasInst, IsCell}
use Rattle.netlist_schema.specs.Types.{CellBody, CellId, Contents, End, Inst, LibHead, Port}
use Rattle.edit_rules_spec.specs.Find.{cell_named, inst_named}
use Rattle.edit_rules_spec.specs.Objects.{AgreesOn, Grown, IsClosed, Outside, outside_of, outside_at, head_at, name_of, cell_name_at}
use Rattle.edit_rules_spec.specs.Reading.{IsForCell, IsFaceOf}
use Rattle.edit_rules_spec.specs.Seen.{named, inside, placed, contents_at, ports_seen}
use Rattle.edit_rules_spec.specs.declared.reply.CellName.{CellName}
use Rattle.edit_spec.specs.ShowNet.{ends_of_net, inst_of_end, ports_at, end_by_name, ends_by_name, net_shown, IsAtEnd}
use Rattle.edit_rules_spec.proofs.Named.{named_inst}
use Rattle.edit_rules_spec.proofs.Same.{by_name, named_same, inside_same, placed_same, face_of_placed_same}

pub insts_found : (o : Option CellBody) → insts_in (option_and_then (λ body. body.contents) o) ≡ option_map_or insts_of o []
insts_found None = refl
insts_found (Some body) = refl

has_placed : (d : Design) (cell : Option CellId) (name : List ℕ) (inst : Inst) → inst_named name (insts_in (option_and_then (contents_at d) cell)) ≡ Some inst → (id : CellId) × HasInst d id inst
has_placed d None name inst is = cc
has_placed d (Some id) name inst is =
    (id, subst (λ (insts : List Inst). Contains insts inst) (insts_found (cell_at d id)) (named_inst name (insts_in (contents_at d id)) inst is))

-- the cell of an instance that is found is there
pub placed_there : (d : Design) (cell : CellName) (name : List ℕ) (inst : Inst) → IsClosed d → placed d cell name ≡ Some inst → IsCell d inst.of
placed_there d cell name inst closed is = let has = has_placed d (cell_named d cell) name inst is in closed has.0 inst has.1

pub outside_there : (o : Option CellBody) → IsSome o → (outside : Outside) × (option_map outside_of o ≡ Some outside)
outside_there None is = let never : false ≡ true = is in cc
outside_there (Some body) is = (outside_of body, refl)

-- its name never changes
cell_name_same : (d e : Design) (id : CellId) → Grown d e → IsCell d id → cell_name_at d id ≡ cell_name_at e id
cell_name_same d e id grown is =
    let there = outside_there (cell_at d id) is in
    let outsides : outside_at d id ≡ outside_at e id = there.1 ∙ sym (grown.cells id there.0 there.1) in
    let heads : head_at d id.lib ≡ head_at e id.lib = ap (λ (hs : List LibHead). slice_get hs id.lib.0) grown.libs in
    λ i. option_and_then (λ (head : LibHead). option_map (name_of head) (outsides i)) (heads i)

inst_name_same : (d e : Design) (inst : Option Inst) → Grown d e → ((i : Inst) → inst ≡ Some i → IsCell d i.of) → option_and_then (λ i. cell_name_at d i.of) inst ≡ option_and_then (λ i. cell_name_at e i.of) inst
inst_name_same d e None grown there = refl
inst_name_same d e (Some i) grown there = cell_name_same d e i.of grown (there i refl)

pub inst_shown_same : (d e : Design) (cell : CellName) (inst : List ℕ) → IsClosed d → Grown d e → AgreesOn d e (IsForCell d cell) → option_and_then (λ i. cell_name_at d i.of) (placed d cell inst) ≡ option_and_then (λ i. cell_name_at e i.of) (placed e cell inst)
inst_shown_same d e cell inst closed grown agree =
    inst_name_same d e (placed d cell inst) grown (λ i is. placed_there d cell inst i closed is) ∙ ap (option_and_then (λ (i : Inst). cell_name_at e i.of)) (placed_same d e cell inst grown agree)

ports_at_same : (d e : Design) (ports : Option (List Port)) (contents : Option Contents) (place : Option ℕ) → AgreesOn d e (IsFaceOf (option_and_then (slice_get (insts_in contents)) place)) → ports_at d ports contents place ≡ ports_at e ports contents place
ports_at_same d e ports contents None agree = refl
ports_at_same d e ports contents (Some place) agree = ap ports_seen (face_of_placed_same d e (slice_get (insts_in contents) place) agree)

ends_same : (d e : Design) (ports : Option (List Port)) (contents : Option Contents) (ends : List End) → AgreesOn d e (IsAtEnd contents ends) → ends_by_name d ports contents ends ≡ ends_by_name e ports contents ends
ends_same d e ports contents [] agree = refl
ends_same d e ports contents (end ∷ ends) agree =
    let here : ports_at d ports contents end.inst ≡ ports_at e ports contents end.inst = ports_at_same d e ports contents end.inst (λ o is. agree o (inl is)) in
    let rest : ends_by_name d ports contents ends ≡ ends_by_name e ports contents ends = ends_same d e ports contents ends (λ o is. agree o (inr is)) in
    λ i. option_to_list (end_by_name (inst_of_end contents end) (option_and_then (λ seen. slice_get seen end.port) (here i)) end.bit) ++ rest i

pub net_shown_same : (d e : Design) (cell : CellName) (net : List ℕ) → Grown d e → AgreesOn d e (IsForCell d cell) → AgreesOn d e (IsAtEnd (inside d cell) (ends_of_net (inside d cell) net)) → net_shown d cell net ≡ net_shown e cell net
net_shown_same d e cell net grown agree ends_agree =
    ends_same d e (ports_seen (named d cell).face) (inside d cell) (ends_of_net (inside d cell) net) ends_agree
    ∙ (λ i. ends_by_name e (ports_seen (named_same d e cell grown (by_name d e cell agree) i).face) (inside_same d e cell grown agree i) (ends_of_net (inside_same d e cell grown agree i) net))
