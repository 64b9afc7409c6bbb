-- What operations change: cells that are named, and notes.
use Rattle.std.proofs.Common.{arith, ◌≡◌, ◌⊎◌, inl, inr, ⊎_elim, ℕ, Bool, true, false, cond, List, [], ◌∷◌, Option, Some, None, sym, subst, refl}
use Rattle.std.proofs.lemmas.List.Elements.{recursion_from_All, All-from_recursion}
use Rattle.std.specs.List.{All}
use Rattle.std.specs.Option.{option_map, option_map_or, option_and_then, option_to_list}
use Rattle.std.specs.Prelude.{remove}
use Rattle.netlist_schema.specs.Design.{Design, cell_at, insts_in, nets_in}
use Rattle.netlist_schema.specs.Hierarchy.{IsCell, insts_at}
use Rattle.netlist_schema.specs.Types.{CellId, Contents, Net, Note, Inst, Object, Port, Property}
use Rattle.netlist_schema.specs.declared.ids.Object.TheVariants.{Notes}
use Rattle.netlist_schema.proofs.Lists.{all_append}
use Rattle.edit_rules_spec.specs.Edit.{Edit, inner, noted, IsChanged, GoesLast, AllGoLast, PlacesOld, AllPlaceOld, changed_at, FindsOld, AllFindOld}
use Rattle.edit_rules_spec.specs.Objects.{AgreesOn, Grown, IsClosed, contents_object}
use Rattle.edit_rules_spec.specs.Reading.{IsInside, IsForCell, IsForEnd}
use Rattle.edit_rules_spec.specs.Rule.{Rule}
use Rattle.edit_rules_spec.specs.Seen.{Named, named, contents_at, inside, end_ports}
use Rattle.edit_rules_spec.specs.declared.reply.CellName.{CellName}
use Rattle.edit_rules_spec.specs.declared.reply.EndName.{EndName}
use Rattle.edit_spec.specs.AddInst.{new_inst, with_inst}
use Rattle.edit_spec.specs.Inside.{set_nets, set_insts}
use Rattle.edit_spec.specs.SetProp.{set_property}
use Rattle.edit_rules_spec.proofs.Closed.{All-from_contained}
use Rattle.edit_rules_spec.proofs.Lists.{All-drop, All-changed_at}
use Rattle.edit_rules_spec.proofs.Same.{named_same, inside_same, end_ports_same, by_name}
use Rattle.edit_spec.proofs.Shown.{insts_found}

-- an operation on one cell
pub of_cell : (d e : Design) (name : CellName) (f : Named → Option Contents → Rule) → Grown d e → AgreesOn d e (IsForCell d name) → f (named d name) (inside d name) ≡ f (named e name) (inside e name)
of_cell d e name f grown agree = λ i. f (named_same d e name grown (by_name d e name agree) i) (inside_same d e name grown agree i)

-- an operation on an end
pub of_end : (d e : Design) (name : CellName) (end : EndName) (f : Named → Option Contents → Option (List Port) → Rule) → Grown d e → AgreesOn d e (λ o. IsForCell d name o ⊎ IsForEnd d name end.inst o) → f (named d name) (inside d name) (end_ports d name end.inst) ≡ f (named e name) (inside e name) (end_ports e name end.inst)
of_end d e name end f grown agree =
    let whole : AgreesOn d e (IsForCell d name) = λ o is. agree o (inl is) in
    λ i. f (named_same d e name grown (by_name d e name whole) i) (inside_same d e name grown whole i) (end_ports_same d e name end.inst grown whole (λ o is. agree o (inr is)) i)

-- what is written
pub inside_written : (id : Option CellId) (contents : Contents) (o : Object) → IsChanged (option_to_list (option_map (λ c. inner c contents) id)) o → IsInside id o
inside_written None contents o is = absurd is
inside_written (Some id) contents o is = ⊎_elim (λ (here : o ≡ contents_object id). here) (λ (never : ⊥). absurd never) is

pub nets_written : (at : Named) (contents : Option Contents) (change : List Net → List Net) (o : Object) → IsChanged (set_nets at contents change) o → IsInside at.cell o
nets_written at contents change o is = inside_written at.cell (record { insts = insts_in contents; nets = change (nets_in contents) }) o is

pub insts_written : (at : Named) (contents : Option Contents) (change : List Inst → List Inst) (o : Object) → IsChanged (set_insts at contents change) o → IsInside at.cell o
insts_written at contents change o is = inside_written at.cell (record { insts = change (insts_in contents); nets = nets_in contents }) o is

pub is_notes : (b : Bool) (notes : List Note) (o : Object) → IsChanged (cond b [] (noted notes ∷ [])) o → o ≡ Notes
is_notes true notes o is = absurd is
is_notes false notes o is = ⊎_elim (λ (here : o ≡ Notes). here) (λ (never : ⊥). absurd never) is

-- changes of cells that are there, and of notes, bring no cell
pub one_last : (d : Design) (id : Option CellId) (change : CellId → Edit) → ((c : CellId) → GoesLast d (change c)) → AllGoLast d (option_to_list (option_map change id))
one_last d None change last = tt
one_last d (Some id) change last = (last id, tt)

pub set_last : (d : Design) (b : Bool) (notes : List Note) → AllGoLast d (cond b [] (noted notes ∷ []))
set_last d true notes = tt
set_last d false notes = (tt, tt)

-- what they change is there
pub one_finds : (d : Design) (id : Option CellId) (change : CellId → Edit) → ((c : CellId) → id ≡ Some c → FindsOld d (change c)) → AllFindOld d (option_to_list (option_map change id))
one_finds d None change finds = tt
one_finds d (Some id) change finds = (finds id refl, tt)

pub set_finds : (d : Design) (b : Bool) (notes : List Note) → AllFindOld d (cond b [] (noted notes ∷ []))
set_finds d true notes = tt
set_finds d false notes = (tt, tt)

-- the instances that they put in are of cells that are there
pub one_places : (d : Design) (id : Option CellId) (change : CellId → Edit) → ((c : CellId) → PlacesOld d (change c)) → AllPlaceOld d (option_to_list (option_map change id))
one_places d None change old = tt
one_places d (Some id) change old = (old id, tt)

pub set_places : (d : Design) (b : Bool) (notes : List Note) → AllPlaceOld d (cond b [] (noted notes ∷ []))
set_places d true notes = tt
set_places d false notes = (tt, tt)

pub insts_there : (d : Design) (cell : Option CellId) → IsClosed d → All (λ inst. IsCell d inst.of) (insts_in (option_and_then (contents_at d) cell))
insts_there d None closed = λ k x h. absurd (omega arith)
insts_there d (Some id) closed =
    subst (All (λ (inst : Inst). IsCell d inst.of)) (sym (insts_found (cell_at d id))) (All-from_contained (λ (inst : Inst). IsCell d inst.of) (insts_at d id) (λ inst has. closed id inst has))

pub more_insts : (d : Design) (name : List ℕ) (of : CellId) (insts : List Inst) → IsCell d of → All (λ inst. IsCell d inst.of) insts → All (λ inst. IsCell d inst.of) (with_inst name of insts)
more_insts d name of insts there all =
    All-from_recursion (λ (inst : Inst). IsCell d inst.of) (with_inst name of insts)
    (all_append (λ (inst : Inst). IsCell d inst.of) insts (new_inst name of ∷ []) (recursion_from_All (λ (inst : Inst). IsCell d inst.of) insts all) (there, tt))

pub one_less : (d : Design) (place : Option ℕ) (insts : List Inst) → All (λ inst. IsCell d inst.of) insts → All (λ inst. IsCell d inst.of) (option_map_or (remove insts) place insts)
one_less d None insts all = all
one_less d (Some place) insts all = All-drop (λ (inst : Inst). IsCell d inst.of) place insts all

pub with_property : (d : Design) (property : Property) (place : Option ℕ) (insts : List Inst) → All (λ inst. IsCell d inst.of) insts → All (λ inst. IsCell d inst.of) (option_map_or (λ i. changed_at (λ (inst : Inst). record inst { properties = set_property property inst.properties }) i insts) place insts)
with_property d property None insts all = all
with_property d property (Some place) insts all = All-changed_at (λ (inst : Inst). IsCell d inst.of) (λ (inst : Inst). record inst { properties = set_property property inst.properties }) (λ inst is. is) place insts all
