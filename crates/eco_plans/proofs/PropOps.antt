-- Setting properties.
use Rattle.std.proofs.Common.{◌≡◌, ℕ, List, [], ◌∷◌, Option, Some, None, refl, sym, ap, subst, ◌∙◌}
use Rattle.std.specs.Prelude.{MatchResult, Result, Err, option_to_list}
use Rattle.std.specs.Option.{option_map, option_map_or}
use Rattle.netlist_schema.specs.Design.{Design, cell_at, insts_in, nets_in}
use Rattle.netlist_schema.specs.Hierarchy.{IsCell}
use Rattle.netlist_schema.specs.Types.{CellBody, CellId, Contents, Inst, Property}
use Rattle.netlist_schema.specs.Valid.{IsValid}
use Rattle.edit_rules_spec.specs.Edit.{inner, own}
use Rattle.edit_rules_spec.specs.Find.{cell_named, net_place}
use Rattle.edit_rules_spec.specs.Reading.{IsForName}
use Rattle.edit_rules_spec.specs.Rule.{Outcome, first, no_inst, unless}
use Rattle.edit_rules_spec.specs.Seen.{contents_at, inside, named}
use Rattle.edit_rules_spec.specs.Objects.{face_at, face_of}
use Rattle.edit_spec.specs.Inside.{no_net, set_insts, set_nets}
use Rattle.edit_spec.specs.Rows.{outcome}
use Rattle.edit_spec.specs.SetProp.{insts_with_property, nets_with_property, set_own, set_property}
use Rattle.edit_spec.specs.Typed.{IsTypedOp}
use Rattle.edit_rules_spec.specs.declared.reply.CellName.{CellName}
use Rattle.edit_spec.specs.declared.ops.Op.TheVariants.{SetProp}
use Rattle.edit_rules_spec.specs.declared.reply.Reply.{Reply}
use Rattle.edit_rules_spec.specs.declared.reply.Reply.TheVariants.{Done, NoNet}
use Rattle.edit_spec.specs.declared.ops.Target.TheVariants.{Whole, Inst as OfInst, Net as OfNet}
use Rattle.edit_rules_spec.proofs.Closed.{is_cell_found}
use Rattle.edit_rules_spec.proofs.Named.{cell_there}
use Rattle.edit_cells.specs.Change.{HasMade, edits_of}
use Rattle.edit_cells.specs.declared.change.CellChange.TheVariants.{Face as FaceChange}
use Rattle.edit_cells.specs.Parts.{IsFace, Seen, seen_at, seen_of, shown_by}
use Rattle.edit_cells.specs.State.{State, HasRead}
use Rattle.edit_cells.specs.declared.face.Face.{Face}
use Rattle.eco_reads.specs.declared.plan.Plan.{Plan}
use Rattle.eco_reads.specs.Done.{IsDone, IsDoneOrFails}
use Rattle.eco_reads.specs.Plan.{CanBePut, IsGood, IsNamed, IsPlanned, IsPut, one_change}
use Rattle.eco_plans.specs.Props.{insts_set, nets_set}
use Rattle.eco_reads.proofs.Found.{face_is, found_first, found_row, inside_is, refused_row}
use Rattle.eco_plans.proofs.Planned.{set_nets_is}
use Rattle.eco_reads.proofs.Reading.{HasFound, done_made, done_read, face_needs, inside_can, inside_done, inside_needs, made_valid, read_then}

pub no_net_found : (contents : Option Contents) (c : Contents) (net : List ℕ) → contents ≡ Some c → net_place net c.nets ≡ None → first (no_net contents net ∷ []) ≡ Some NoNet
no_net_found contents c net is none = rw (is, none) refl

pub net_found : (contents : Option Contents) (c : Contents) (net : List ℕ) (place : ℕ) → contents ≡ Some c → net_place net c.nets ≡ Some place → first (no_net contents net ∷ []) ≡ None
net_found contents c net place is found = rw (is, found) refl

-- ---- what the operations come to

set_insts_is : (d : Design) (name : CellName) (id : CellId) (change : List Inst → List Inst) → cell_named d name ≡ Some id → set_insts (named d name) (inside d name) change ≡ inner id (record { insts = change (insts_in (contents_at d id)); nets = nets_in (contents_at d id) }) ∷ []
set_insts_is d name id change is = λ i. option_to_list (option_map (λ (c : CellId). inner c (record { insts = change (insts_in (inside_is d name id is i)); nets = nets_in (inside_is d name id is i) })) (is i))

inst_comes : (d : Design) (name : CellName) (inst : List ℕ) (property : Property) (id : CellId) → cell_named d name ≡ Some id → outcome d (SetProp name (OfInst inst) property) ≡ unless (first (no_inst (contents_at d id) inst ∷ [])) Done (inner id (insts_set inst property (contents_at d id)) ∷ [])
inst_comes d name inst property id is =
    found_row d name id (no_inst (inside d name) inst ∷ []) Done (set_insts (named d name) (inside d name) (insts_with_property inst property)) is
    ∙ (λ i. unless (first (no_inst (inside_is d name id is i) inst ∷ [])) Done (set_insts_is d name id (insts_with_property inst property) is i))

net_comes : (d : Design) (name : CellName) (net : List ℕ) (property : Property) (id : CellId) → cell_named d name ≡ Some id → outcome d (SetProp name (OfNet net) property) ≡ unless (first (no_net (contents_at d id) net ∷ [])) Done (inner id (nets_set net property (contents_at d id)) ∷ [])
net_comes d name net property id is =
    found_row d name id (no_net (inside d name) net ∷ []) Done (set_nets (named d name) (inside d name) (nets_with_property net property)) is
    ∙ (λ i. unless (first (no_net (inside_is d name id is i) net ∷ [])) Done (set_nets_is d name id (nets_with_property net property) is i))

pub of_inst_can : (s u : State) (name : CellName) (inst : List ℕ) (property : Property) (id : CellId) (contents : Option Contents) (made : Result Plan Reply) → IsTypedOp (SetProp name (OfInst inst) property) → IsValid s.design → HasFound s u name id contents → IsPlanned contents (first (no_inst contents inst ∷ [])) (insts_set inst property contents) made → CanBePut u.design id None made
of_inst_can s u name inst property id contents made typed valid found planned =
    inside_can s u (SetProp name (OfInst inst) property) name id contents (λ c. first (no_inst c inst ∷ [])) (insts_set inst property) made typed valid found (inst_comes s.design name inst property id found.named) planned

pub of_inst_done : {E : Type 0} (s u v : State) (name : CellName) (inst : List ℕ) (property : Property) (id : CellId) (contents : Option Contents) (made : Result Plan Reply) (result : Result Reply E) → HasFound s u name id contents → IsPlanned contents (first (no_inst contents inst ∷ [])) (insts_set inst property contents) made → MatchResult result (IsPut u v id None made) (λ _. v ≡ u) → IsDoneOrFails result s v (SetProp name (OfInst inst) property)
of_inst_done s u v name inst property id contents made result found planned put =
    inside_done s u v (SetProp name (OfInst inst) property) name id contents (λ c. first (no_inst c inst ∷ [])) (insts_set inst property) made result found (λ o. inside_needs s.design name id o found.named) (inst_comes s.design name inst property id found.named) planned put

pub of_net_can : (s u : State) (name : CellName) (net : List ℕ) (property : Property) (id : CellId) (contents : Option Contents) (made : Result Plan Reply) → IsTypedOp (SetProp name (OfNet net) property) → IsValid s.design → HasFound s u name id contents → IsPlanned contents (first (no_net contents net ∷ [])) (nets_set net property contents) made → CanBePut u.design id None made
of_net_can s u name net property id contents made typed valid found planned =
    inside_can s u (SetProp name (OfNet net) property) name id contents (λ c. first (no_net c net ∷ [])) (nets_set net property) made typed valid found (net_comes s.design name net property id found.named) planned

pub of_net_done : {E : Type 0} (s u v : State) (name : CellName) (net : List ℕ) (property : Property) (id : CellId) (contents : Option Contents) (made : Result Plan Reply) (result : Result Reply E) → HasFound s u name id contents → IsPlanned contents (first (no_net contents net ∷ [])) (nets_set net property contents) made → MatchResult result (IsPut u v id None made) (λ _. v ≡ u) → IsDoneOrFails result s v (SetProp name (OfNet net) property)
of_net_done s u v name net property id contents made result found planned put =
    inside_done s u v (SetProp name (OfNet net) property) name id contents (λ c. first (no_net c net ∷ [])) (nets_set net property) made result found (λ o. inside_needs s.design name id o found.named) (net_comes s.design name net property id found.named) planned put

-- ---- the cell's own property

own_comes : (d : Design) (name : CellName) (property : Property) (id : CellId) → cell_named d name ≡ Some id → outcome d (SetProp name Whole property) ≡ record { reply = Done; edits = own id (set_property property (option_map_or (λ seen. seen.properties) (face_at d id) [])) ∷ [] }
own_comes d name property id is =
    λ i. unless (found_first d name id [] is i) Done (option_to_list (option_map (λ (c : CellId). own c (set_property property (option_map_or (λ (seen : CellBody). seen.properties) (face_is d name id is i) []))) (is i)))

properties_are : (face : Option Face) (o : Option CellBody) → option_map shown_by face ≡ option_map seen_of o → option_map_or (λ seen. seen.properties.now) face [] ≡ option_map_or (λ (b : CellBody). b.properties) (option_map face_of o) []
properties_are None None is = refl
properties_are None (Some body) is = cc
properties_are (Some face) None is = cc
properties_are (Some face) (Some body) is = ap (λ (s : Option Seen). option_map_or (λ (x : Seen). x.properties) s []) is

own_made : (s t u : State) (name : CellName) (property : Property) (id : CellId) (face : Option Face) (made : List Property) → cell_named s.design name ≡ Some id → HasRead s t (IsForName s.design name) → option_map shown_by face ≡ seen_at t.design id → made ≡ set_property property (option_map_or (λ seen. seen.properties.now) face []) → outcome s.design (SetProp name Whole property) ≡ record { reply = Done; edits = own id made ∷ [] }
own_made s t u name property id face made is one seen set =
    own_comes s.design name property id is
    ∙ ap (λ (ps : List Property). let out : Outcome = record { reply = Done; edits = own id ps ∷ [] } in out)
    (ap (set_property property) (sym (properties_are face (cell_at s.design id) (seen ∙ ap (λ (d : Design). seen_at d id) one.design))) ∙ sym set)

own_read : (s t u : State) (name : CellName) (id : CellId) → cell_named s.design name ≡ Some id → HasRead s t (IsForName s.design name) → HasRead t u (IsFace id) → HasRead s u (IsForName s.design name)
own_read s t u name id is one two = read_then s t u (IsForName s.design name) (IsFace id) (IsForName s.design name) one two (λ o. face_needs s.design name id o is)

pub own_can : (s t u : State) (name : CellName) (property : Property) (id : CellId) (face : Option Face) (made : List Property) → IsTypedOp (SetProp name Whole property) → IsValid s.design → cell_named s.design name ≡ Some id → HasRead s t (IsForName s.design name) → HasRead t u (IsFace id) → option_map shown_by face ≡ seen_at t.design id → made ≡ set_property property (option_map_or (λ seen. seen.properties.now) face []) → IsGood u.design (one_change (FaceChange id made) None)
own_can s t u name property id face made typed valid is one two seen set =
    let read = own_read s t u name id is one two in
    let there = cell_there s.design name id is in
    record {
      can = (subst (λ (d : Design). IsCell d id) (sym read.design) (is_cell_found s.design id there.0 there.1), tt);
      valid = made_valid s u (SetProp name Whole property) Done (own id made ∷ []) (IsForName s.design name) typed valid read (own_made s t u name property id face made is one seen set);
    }

pub own_done : (s t u v : State) (name : CellName) (property : Property) (id : CellId) (face : Option Face) (made : List Property) → cell_named s.design name ≡ Some id → HasRead s t (IsForName s.design name) → HasRead t u (IsFace id) → option_map shown_by face ≡ seen_at t.design id → made ≡ set_property property (option_map_or (λ seen. seen.properties.now) face []) → HasMade u v (edits_of u.design (one_change (FaceChange id made) None)) → IsDone s v (SetProp name Whole property) Done
own_done s t u v name property id face made is one two seen set wrote =
    done_made s u v (SetProp name Whole property) Done (own id made ∷ []) (IsForName s.design name) (own_read s t u name id is one two) (λ o. (λ x. x, λ x. x))
    (own_made s t u name property id face made is one seen set) wrote

pub own_missing : (s t : State) (name : CellName) (property : Property) (reply : Reply) → HasRead s t (IsForName s.design name) → IsNamed s.design name (Err reply) → IsDone s t (SetProp name Whole property) reply
own_missing s t name property reply read missing =
    done_read s t (SetProp name Whole property) reply (IsForName s.design name) read (λ o. (λ x. x, λ x. x))
    (refused_row s.design name [] reply Done (set_own (named s.design name) (set_property property)) missing.1)
