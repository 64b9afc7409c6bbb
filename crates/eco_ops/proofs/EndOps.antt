-- Operations on ends: what they read, and what they come to.
use Rattle.std.proofs.Common.{◌≡◌, ◌⊎◌, ◌↔◌, inl, inr, ⊎_elim, ℕ, List, [], ◌∷◌, Option, Some, None, refl, sym, ap, subst, ◌∙◌}
use Rattle.std.specs.Borrow.{Bor}
use Rattle.std.specs.List.{flat_map}
use Rattle.std.specs.Prelude.{IfSome, MatchResult, Result, option_to_list}
use Rattle.std.specs.Option.{option_and_then, option_copied, option_map}
use Rattle.netlist_schema.specs.Design.{Design, cell_at, insts_in, nets_in}
use Rattle.netlist_schema.specs.Names.{AreDistinct}
use Rattle.netlist_schema.specs.Types.{CellBody, CellId, Contents, Inst, Object, Port}
use Rattle.netlist_schema.specs.Valid.{IsValid}
use Rattle.edit_rules_spec.specs.Edit.{inner}
use Rattle.edit_rules_spec.specs.Find.{cell_named, inst_named}
use Rattle.edit_rules_spec.specs.Objects.{face_at}
use Rattle.edit_rules_spec.specs.Reading.{IsFaceOf, IsForCell, IsForEnd, IsForName}
use Rattle.edit_rules_spec.specs.Rule.{first, no_cell, no_lib, unless}
use Rattle.edit_rules_spec.specs.Seen.{contents_at, end_ports, inside, named, placed, ports_seen}
use Rattle.edit_rules_spec.specs.declared.reply.CellName.{CellName}
use Rattle.edit_rules_spec.specs.declared.reply.EndName.{EndName}
use Rattle.edit_rules_spec.specs.declared.reply.Reply.{Reply}
use Rattle.edit_rules_spec.specs.declared.reply.Reply.TheVariants.{Done}
use Rattle.edit_spec.specs.Cut.{without_end, no_cut}
use Rattle.edit_spec.specs.Ends.{end_named}
use Rattle.edit_spec.specs.Inside.{set_nets}
use Rattle.edit_spec.specs.Join.{no_join, with_end}
use Rattle.edit_spec.specs.Rows.{outcome}
use Rattle.edit_spec.specs.declared.ops.Op.TheVariants.{Cut, Join}
use Rattle.edit_cells.specs.Parts.{IsFace, IsInside}
use Rattle.edit_cells.specs.State.{State, HasRead}
use Rattle.edit_cells.proofs.Growing.{grows_by_same}
use Rattle.eco_reads.specs.Done.{IsDone, IsDoneOrFails}
use Rattle.eco_reads.specs.Plan.{CanBePut, IsPlanned, IsPut}
use Rattle.eco_reads.specs.declared.plan.Plan.{Plan}
use Rattle.eco_reads.proofs.Found.{face_is, found_row, inside_is, refused_row}
use Rattle.eco_reads.proofs.Reading.{both_edits, done_read, face_needs, inside_needs, only_name, planned_can, planned_done, put_result, read_both, read_then}
use Rattle.eco_ops.specs.Ends.{IsFaceAt, cell_of_end, end_ports_at}

-- what is inside the cell was read, and the face of the cell of the end's instance where there is one
at_is : (s : State) (id : CellId) (inst : Option (List ℕ)) (contents : Option Contents) (of : Option CellId) → contents ≡ contents_at s.design id → of ≡ cell_of_end contents id inst → of ≡ cell_of_end (contents_at s.design id) id inst
at_is s id inst contents of inside is = is ∙ ap (λ (c : Option Contents). cell_of_end c id inst) inside

pub no_port_read : (s t : State) (id : CellId) (inst : Option (List ℕ)) (contents : Option Contents) → contents ≡ contents_at s.design id → None ≡ cell_of_end contents id inst → HasRead s t (IsInside id) → HasRead s t (λ o. IsInside id o ⊎ IsFaceAt (cell_of_end (contents_at s.design id) id inst) o)
no_port_read s t id inst contents inside is read =
    subst (λ (c : Option CellId). HasRead s t (λ o. IsInside id o ⊎ IsFaceAt c o)) (at_is s id inst contents None inside is) (record {
      base = read.base;
      design = read.design;
      written = read.written;
      reads = grows_by_same s.reads t.reads (IsInside id) (λ o. IsInside id o ⊎ ⊥) read.reads (λ o. (λ x. inl x, λ x. ⊎_elim (λ (i : IsInside id o). i) (λ (never : ⊥). absurd never) x));
    })

pub port_read : (s t u : State) (id of : CellId) (inst : Option (List ℕ)) (contents : Option Contents) → contents ≡ contents_at s.design id → Some of ≡ cell_of_end contents id inst → HasRead s t (IsInside id) → HasRead t u (IsFace of) → HasRead s u (λ o. IsInside id o ⊎ IsFaceAt (cell_of_end (contents_at s.design id) id inst) o)
port_read s t u id of inst contents inside is one two =
    subst (λ (c : Option CellId). HasRead s u (λ o. IsInside id o ⊎ IsFaceAt c o)) (at_is s id inst contents (Some of) inside is)
    (read_then s t u (IsInside id) (IsFace of) (λ o. IsInside id o ⊎ IsFace of o) one two (λ o. (λ x. x, λ x. x)))

-- ---- the cell is found, and its contents and the port were read

pub record HasEnd (s u : State) (name : CellName) (inst : Option (List ℕ)) (id : CellId) (contents : Option Contents) (ports : Option (List Port)) : Type 0 where
  pub named : cell_named s.design name ≡ Some id
  pub inside : contents_at s.design id ≡ contents
  pub seen : end_ports_at s.design id inst ≡ ports
  pub read : HasRead s u (λ o. (IsForName s.design name o ⊎ (IsInside id o ⊎ IsFaceAt (cell_of_end (contents_at s.design id) id inst) o)) ⊎ IsInside id o)

pub end_read : (s t r u : State) (name : CellName) (inst : Option (List ℕ)) (id : CellId) (contents : Option Contents) → cell_named s.design name ≡ Some id → HasRead s t (IsForName s.design name) → HasRead t r (λ o. IsInside id o ⊎ IsFaceAt (cell_of_end (contents_at t.design id) id inst) o) → contents ≡ contents_at r.design id → HasRead r u (IsInside id) → HasEnd s u name inst id contents (end_ports_at t.design id inst)
end_read s t r u name inst id contents is one two inside three = record {
  named = is;
  inside = ap (λ (d : Design). contents_at d id) (sym (two.design ∙ one.design)) ∙ sym inside;
  seen = ap (λ (d : Design). end_ports_at d id inst) (sym one.design);
  read = read_both s r u _ (IsInside id) (read_both s t r (IsForName s.design name) _ one (subst (λ (d : Design). HasRead t r (λ o. IsInside id o ⊎ IsFaceAt (cell_of_end (contents_at d id) id inst) o)) one.design two)) three;
}

ports_of_inst : (d : Design) (o : Option Inst) → ports_seen (option_and_then (λ (inst : Inst). face_at d inst.of) o) ≡ option_and_then (λ (of : CellId). ports_seen (face_at d of)) (option_map (λ (inst : Inst). inst.of) o)
ports_of_inst d None = refl
ports_of_inst d (Some inst) = refl

end_ports_are : (d : Design) (name : CellName) (id : CellId) (inst : Option (List ℕ)) → cell_named d name ≡ Some id → end_ports d name inst ≡ end_ports_at d id inst
end_ports_are d name id None is = ap ports_seen (face_is d name id is)
end_ports_are d name id (Some inst) is =
    ap (λ (c : Option Contents). ports_seen (option_and_then (λ (i : Inst). face_at d i.of) (inst_named inst (insts_in c)))) (inside_is d name id is)
    ∙ ports_of_inst d (inst_named inst (insts_in (contents_at d id)))

-- ---- what an operation on an end needs

face_of_inst : (p : Option Inst) (o : Object) → IsFaceAt (option_map (λ (inst : Inst). inst.of) p) o ↔ IsFaceOf p o
face_of_inst None o = (λ x. x, λ x. x)
face_of_inst (Some inst) o = (λ x. x, λ x. x)

placed_is : (d : Design) (name : CellName) (id : CellId) (inst : List ℕ) → cell_named d name ≡ Some id → placed d name inst ≡ inst_named inst (insts_in (contents_at d id))
placed_is d name id inst is = ap (λ (c : Option Contents). inst_named inst (insts_in c)) (inside_is d name id is)

face_at_end : (d : Design) (name : CellName) (id : CellId) (inst : Option (List ℕ)) (o : Object) → cell_named d name ≡ Some id → IsFaceAt (cell_of_end (contents_at d id) id inst) o → IsForName d name o ⊎ IsForEnd d name inst o
face_at_end d name id None o is at = inl ((face_needs d name id o is).0 (inr at))
face_at_end d name id (Some inst) o is at =
    inr (subst (λ (p : Option Inst). IsFaceOf p o) (sym (placed_is d name id inst is)) ((face_of_inst (inst_named inst (insts_in (contents_at d id))) o).0 at))

end_at_face : (d : Design) (name : CellName) (id : CellId) (inst : Option (List ℕ)) (o : Object) → cell_named d name ≡ Some id → IsForEnd d name inst o → IsFaceAt (cell_of_end (contents_at d id) id inst) o
end_at_face d name id None o is never = absurd never
end_at_face d name id (Some inst) o is at =
    (face_of_inst (inst_named inst (insts_in (contents_at d id))) o).1 (subst (λ (p : Option Inst). IsFaceOf p o) (placed_is d name id inst is) at)

end_needs : (d : Design) (name : CellName) (id : CellId) (inst : Option (List ℕ)) (o : Object) → cell_named d name ≡ Some id → ((IsForName d name o ⊎ (IsInside id o ⊎ IsFaceAt (cell_of_end (contents_at d id) id inst) o)) ⊎ IsInside id o) ↔ (IsForCell d name o ⊎ IsForEnd d name inst o)
end_needs d name id inst o is =
    let cell = inside_needs d name id o is in (
      ⊎_elim
          (⊎_elim (λ (n : IsForName d name o). inl (cell.0 (inl n)))
          (⊎_elim (λ (i : IsInside id o). inl (cell.0 (inr i)))
          (λ (f : IsFaceAt (cell_of_end (contents_at d id) id inst) o). ⊎_elim (λ (n : IsForName d name o). inl (cell.0 (inl n))) (λ (e : IsForEnd d name inst o). inr e) (face_at_end d name id inst o is f))))
          (λ (i : IsInside id o). inl (cell.0 (inr i))),
      ⊎_elim
          (λ (c : IsForCell d name o). ⊎_elim (λ (n : IsForName d name o). inl (inl n)) (λ (i : IsInside id o). inr i) (cell.1 c))
          (λ (e : IsForEnd d name inst o). inl (inr (inr (end_at_face d name id inst o is e)))),
    )

no_end_needed : (d : Design) (name : CellName) (inst : Option (List ℕ)) (o : Object) → cell_named d name ≡ None → IsForEnd d name inst o → ⊥
no_end_needed d name None o none never = never
no_end_needed d name (Some inst) o none at = subst (λ (c : Option CellId). IsFaceOf (inst_named inst (insts_in (option_and_then (contents_at d) c))) o) none at

-- ---- joining

abbrev pub joined : List ℕ → EndName → Option Contents → Option (List Port) → Contents
joined net end contents ports = record { insts = insts_in contents; nets = with_end net (end_named contents ports end) (nets_in contents) }

join_comes : (d : Design) (name : CellName) (net : List ℕ) (end : EndName) (id : CellId) → cell_named d name ≡ Some id → outcome d (Join name net end) ≡ unless (first (no_join (contents_at d id) (end_ports_at d id end.inst) net end)) Done (both_edits id None (joined net end (contents_at d id) (end_ports_at d id end.inst)))
join_comes d name net end id is =
    found_row d name id (no_join (inside d name) (end_ports d name end.inst) net end) Done (set_nets (named d name) (inside d name) (with_end net (end_named (inside d name) (end_ports d name end.inst) end))) is
    ∙ (λ i. unless (first (no_join (inside_is d name id is i) (end_ports_are d name id end.inst is i) net end)) Done
    (option_to_list (option_map (λ (c : CellId). inner c (joined net end (inside_is d name id is i) (end_ports_are d name id end.inst is i))) (is i))))

join_here : (s u : State) (name : CellName) (net : List ℕ) (end : EndName) (id : CellId) (contents : Option Contents) (ports : Option (List Port)) (made : Result Plan Reply) → HasEnd s u name end.inst id contents ports → IsPlanned contents (first (no_join contents ports net end)) (joined net end contents ports) made → IsPlanned (contents_at s.design id) (first (no_join (contents_at s.design id) (end_ports_at s.design id end.inst) net end)) (joined net end (contents_at s.design id) (end_ports_at s.design id end.inst)) made
join_here s u name net end id contents ports made has planned =
    subst (λ (ps : Option (List Port)). IsPlanned (contents_at s.design id) (first (no_join (contents_at s.design id) ps net end)) (joined net end (contents_at s.design id) ps) made) (sym has.seen)
    (subst (λ (c : Option Contents). IsPlanned c (first (no_join c ports net end)) (joined net end c ports) made) (sym has.inside) planned)

pub join_can : (s u : State) (name : CellName) (net : List ℕ) (end : EndName) (id : CellId) (contents : Option Contents) (ports : Option (List Port)) (made : Result Plan Reply) → IsValid s.design → HasEnd s u name end.inst id contents ports → IsPlanned contents (first (no_join contents ports net end)) (joined net end contents ports) made → CanBePut u.design id None made
join_can s u name net end id contents ports made valid has planned =
    planned_can s u (Join name net end) id _ _ _ None made tt valid has.read (join_comes s.design name net end id has.named) (join_here s u name net end id contents ports made has planned)

pub join_done : {E : Type 0} (s u v : State) (name : CellName) (net : List ℕ) (end : EndName) (id : CellId) (contents : Option Contents) (ports : Option (List Port)) (made : Result Plan Reply) (result : Result Reply E) → HasEnd s u name end.inst id contents ports → IsPlanned contents (first (no_join contents ports net end)) (joined net end contents ports) made → MatchResult result (IsPut u v id None made) (λ _. v ≡ u) → IsDoneOrFails result s v (Join name net end)
join_done s u v name net end id contents ports made result has planned put =
    put_result s u v (Join name net end) id _ None made result has.read
    (λ reply is. planned_done s u v (Join name net end) id _ _ _ None made reply has.read (λ o. end_needs s.design name id end.inst o has.named) (join_comes s.design name net end id has.named) (join_here s u name net end id contents ports made has planned) is)
    put

pub join_missing : (s t : State) (name : CellName) (net : List ℕ) (end : EndName) (reply : Reply) → HasRead s t (IsForName s.design name) → (cell_named s.design name ≡ None) × (first (no_lib (named s.design name) ∷ no_cell (named s.design name) ∷ []) ≡ Some reply) → IsDone s t (Join name net end) reply
join_missing s t name net end reply read (none, refused) =
    done_read s t (Join name net end) reply (IsForName s.design name) read
    (λ o. (λ n. inl (inl n), ⊎_elim (λ (c : IsForCell s.design name o). (only_name s.design name o none).1 c) (λ (e : IsForEnd s.design name end.inst o). absurd (no_end_needed s.design name end.inst o none e))))
    (refused_row s.design name (no_join (inside s.design name) (end_ports s.design name end.inst) net end) reply Done (set_nets (named s.design name) (inside s.design name) (with_end net (end_named (inside s.design name) (end_ports s.design name end.inst) end))) refused)

-- ---- cutting

abbrev pub cut_of : EndName → Option Contents → Option (List Port) → Contents
cut_of end contents ports = record { insts = insts_in contents; nets = without_end (end_named contents ports end) (nets_in contents) }

cut_comes : (d : Design) (name : CellName) (end : EndName) (id : CellId) → cell_named d name ≡ Some id → outcome d (Cut name end) ≡ unless (first (no_cut (contents_at d id) (end_ports_at d id end.inst) end)) Done (both_edits id None (cut_of end (contents_at d id) (end_ports_at d id end.inst)))
cut_comes d name end id is =
    found_row d name id (no_cut (inside d name) (end_ports d name end.inst) end) Done (set_nets (named d name) (inside d name) (without_end (end_named (inside d name) (end_ports d name end.inst) end))) is
    ∙ (λ i. unless (first (no_cut (inside_is d name id is i) (end_ports_are d name id end.inst is i) end)) Done
    (option_to_list (option_map (λ (c : CellId). inner c (cut_of end (inside_is d name id is i) (end_ports_are d name id end.inst is i))) (is i))))

cut_here : (s u : State) (name : CellName) (end : EndName) (id : CellId) (contents : Option Contents) (ports : Option (List Port)) (made : Result Plan Reply) → HasEnd s u name end.inst id contents ports → IsPlanned contents (first (no_cut contents ports end)) (cut_of end contents ports) made → IsPlanned (contents_at s.design id) (first (no_cut (contents_at s.design id) (end_ports_at s.design id end.inst) end)) (cut_of end (contents_at s.design id) (end_ports_at s.design id end.inst)) made
cut_here s u name end id contents ports made has planned =
    subst (λ (ps : Option (List Port)). IsPlanned (contents_at s.design id) (first (no_cut (contents_at s.design id) ps end)) (cut_of end (contents_at s.design id) ps) made) (sym has.seen)
    (subst (λ (c : Option Contents). IsPlanned c (first (no_cut c ports end)) (cut_of end c ports) made) (sym has.inside) planned)

pub cut_can : (s u : State) (name : CellName) (end : EndName) (id : CellId) (contents : Option Contents) (ports : Option (List Port)) (made : Result Plan Reply) → IsValid s.design → HasEnd s u name end.inst id contents ports → IsPlanned contents (first (no_cut contents ports end)) (cut_of end contents ports) made → CanBePut u.design id None made
cut_can s u name end id contents ports made valid has planned =
    planned_can s u (Cut name end) id _ _ _ None made tt valid has.read (cut_comes s.design name end id has.named) (cut_here s u name end id contents ports made has planned)

pub cut_done : {E : Type 0} (s u v : State) (name : CellName) (end : EndName) (id : CellId) (contents : Option Contents) (ports : Option (List Port)) (made : Result Plan Reply) (result : Result Reply E) → HasEnd s u name end.inst id contents ports → IsPlanned contents (first (no_cut contents ports end)) (cut_of end contents ports) made → MatchResult result (IsPut u v id None made) (λ _. v ≡ u) → IsDoneOrFails result s v (Cut name end)
cut_done s u v name end id contents ports made result has planned put =
    put_result s u v (Cut name end) id _ None made result has.read
    (λ reply is. planned_done s u v (Cut name end) id _ _ _ None made reply has.read (λ o. end_needs s.design name id end.inst o has.named) (cut_comes s.design name end id has.named) (cut_here s u name end id contents ports made has planned) is)
    put

pub cut_missing : (s t : State) (name : CellName) (end : EndName) (reply : Reply) → HasRead s t (IsForName s.design name) → (cell_named s.design name ≡ None) × (first (no_lib (named s.design name) ∷ no_cell (named s.design name) ∷ []) ≡ Some reply) → IsDone s t (Cut name end) reply
cut_missing s t name end reply read (none, refused) =
    done_read s t (Cut name end) reply (IsForName s.design name) read
    (λ o. (λ n. inl (inl n), ⊎_elim (λ (c : IsForCell s.design name o). (only_name s.design name o none).1 c) (λ (e : IsForEnd s.design name end.inst o). absurd (no_end_needed s.design name end.inst o none e))))
    (refused_row s.design name (no_cut (inside s.design name) (end_ports s.design name end.inst) end) reply Done (set_nets (named s.design name) (inside s.design name) (without_end (end_named (inside s.design name) (end_ports s.design name end.inst) end))) refused)

-- in a valid design each bit stands at most once in the nets of a cell
once_in : (d : Design) (id : CellId) (o : Option CellBody) (contents : Contents) → IsValid d → cell_at d id ≡ o → option_and_then (λ (body : CellBody). body.contents) o ≡ Some contents → AreDistinct (flat_map (λ net. net.ends) contents.nets)
once_in d id None contents valid found is = cc
once_in d id (Some body) contents valid found is =
    subst (λ (c : Option Contents). AreDistinct (flat_map (λ net. net.ends) (nets_in c))) is (valid.cells id body found).joined_once

pub ends_once : (s t r : State) (id : CellId) (P Q : Object → Type 0) (lent : Option (Bor Contents)) → IsValid s.design → HasRead s t P → HasRead t r Q → option_copied lent ≡ contents_at r.design id → IfSome lent (λ contents. AreDistinct (flat_map (λ net. net.ends) contents.now.nets))
ends_once s t r id P Q None valid one two is = tt
ends_once s t r id P Q (Some contents) valid one two is =
    once_in s.design id (cell_at s.design id) contents.now valid refl (ap (λ (d : Design). contents_at d id) (sym (two.design ∙ one.design)) ∙ sym is)
