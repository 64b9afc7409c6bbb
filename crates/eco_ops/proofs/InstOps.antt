-- Adding an instance.
use Rattle.std.proofs.Common.{◌≡◌, ◌⊎◌, ◌↔◌, ◌||◌, inl, inr, ⊎_elim, ℕ, nat_lt, Bool, true, List, [], ◌∷◌, length, Option, Some, None, refl, sym, ap, subst, ◌∙◌}
use Rattle.std.specs.Prelude.{IsTrue, MatchResult, Result, option_to_list}
use Rattle.std.specs.Option.{option_map, option_map_or}
use Rattle.std.proofs.lemmas.Bool.{or_right, or_cases}
use Rattle.netlist_schema.specs.Design.{Design, insts_in, nets_in}
use Rattle.netlist_schema.specs.Hierarchy.{IsBelow}
use Rattle.netlist_schema.specs.Types.{CellId, Contents, Object}
use Rattle.netlist_schema.specs.Valid.{IsValid}
use Rattle.netlist_schema.proofs.Lists.{same_test}
use Rattle.edit_rules_spec.specs.Edit.{Edit, inner}
use Rattle.edit_rules_spec.specs.Find.{cell_named, lib_named}
use Rattle.edit_rules_spec.specs.Reading.{IsForPlacing as IsForBelow, IsForName}
use Rattle.edit_spec.specs.Needs.{Needs}
use Rattle.edit_rules_spec.specs.Paths.{is_below, same_cell}
use Rattle.edit_rules_spec.specs.Seen.{contents_at, holder, inside, named}
use Rattle.edit_rules_spec.specs.Rule.{first, is_leaf, no_cell, no_lib, refuse, too_many, unless}
use Rattle.edit_rules_spec.specs.Paths.{is_cyclic}
use Rattle.edit_spec.specs.AddInst.{is_later, taken_inst, with_inst, no_new_inst}
use Rattle.edit_spec.specs.Inside.{set_insts}
use Rattle.edit_spec.specs.Rows.{outcome}
use Rattle.edit_spec.specs.Typed.{IsTypedOp}
use Rattle.edit_rules_spec.specs.declared.reply.CellName.{CellName}
use Rattle.edit_spec.specs.declared.ops.Op.TheVariants.{AddInst}
use Rattle.edit_rules_spec.specs.declared.reply.Reply.{Reply}
use Rattle.edit_rules_spec.specs.declared.reply.Reply.TheVariants.{Done, IsCyclic, LaterLibrary}
use Rattle.edit_spec.proofs.AddInst.{lib_of_named}
use Rattle.edit_rules_spec.proofs.Levels.{below_test, is_same_cell, same_cell-refl}
use Rattle.edit_cells.specs.Parts.{IsInside}
use Rattle.edit_rules_spec.specs.Objects.{contents_object}
use Rattle.edit_cells.specs.State.{State, HasRead}
use Rattle.eco_reads.specs.declared.plan.Plan.{Plan}
use Rattle.eco_reads.specs.Done.{IsDone, IsDoneOrFails}
use Rattle.eco_ops.specs.Insts.{more_insts}
use Rattle.eco_reads.specs.Plan.{CanBePut, IsPlanned, IsPut}
use Rattle.eco_reads.specs.Walk.{IsAtOrBelow, IsInsideBelow}
use Rattle.eco_reads.proofs.Found.{found_row, inside_is, refused_row}
use Rattle.eco_reads.proofs.Reading.{done_read, planned_can, planned_done, put_result, read_both}

-- the refusals behind those of the names, and the changes
abbrev checks : Design → CellName → CellName → List ℕ → List (Option Reply)
checks d name of inst =
    is_leaf (holder (cell_named d of) (inside d name)) ∷ taken_inst (holder (cell_named d of) (inside d name)) inst ∷ refuse (is_later (lib_named d name.lib) (lib_named d of.lib)) LaterLibrary
    ∷ refuse (is_cyclic d (cell_named d name) (cell_named d of)) IsCyclic ∷ too_many (length (insts_in (holder (cell_named d of) (inside d name)))) 1048576 ∷ []

abbrev changes : Design → CellName → CellName → List ℕ → List Edit
changes d name of inst = option_map_or (λ (c : CellId). set_insts (named d name) (holder (cell_named d of) (inside d name)) (with_inst inst c)) (cell_named d of) []

-- ---- what adding an instance comes to

pub add_inst_comes : (d : Design) (name of : CellName) (inst : List ℕ) (id oid : CellId) → cell_named d name ≡ Some id → cell_named d of ≡ Some oid → outcome d (AddInst name inst of) ≡ unless (first (no_new_inst (contents_at d id) inst (nat_lt id.lib.0 oid.lib.0) (is_cyclic d (Some id) (Some oid)))) Done (inner id (more_insts inst oid (contents_at d id)) ∷ [])
add_inst_comes d name of inst id oid is to =
    found_row d name id (no_lib (named d of) ∷ no_cell (named d of) ∷ checks d name of inst) Done (changes d name of inst) is
    ∙ found_row d of oid (checks d name of inst) Done (changes d name of inst) to
    ∙ (λ i. unless
    (first (is_leaf (holder (to i) (inside_is d name id is i)) ∷ taken_inst (holder (to i) (inside_is d name id is i)) inst ∷ refuse (is_later (lib_of_named d name id is i) (lib_of_named d of oid to i)) LaterLibrary ∷ refuse (is_cyclic d (is i) (to i)) IsCyclic ∷ too_many (length (insts_in (holder (to i) (inside_is d name id is i)))) 1048576 ∷ []))
    Done
    (option_map_or (λ (p : CellId). option_to_list (option_map (λ (c : CellId). inner c (record { insts = with_inst inst p (insts_in (holder (to i) (inside_is d name id is i))); nets = nets_in (holder (to i) (inside_is d name id is i)) })) (is i))) (to i) []))

or_left : (a b : Bool) → a ≡ true → (a || b) ≡ true
or_left a b is = ap (λ (x : Bool). x || b) is

pub cyclic_is : (d : Design) (id oid : CellId) (cyclic : Bool) → IsValid d → IsTrue cyclic ↔ IsAtOrBelow d oid id → cyclic ≡ is_cyclic d (Some id) (Some oid)
cyclic_is d id oid cyclic valid walked =
    same_test cyclic (same_cell oid id || is_below d id oid)
    (λ yes. ⊎_elim
    (λ (same : id ≡ oid). or_left (same_cell oid id) (is_below d id oid) (ap (same_cell oid) same ∙ same_cell-refl oid))
    (λ (below : IsBelow d id oid). or_right (same_cell oid id) (is_below d id oid) ((below_test d id oid valid).1 below))
    (walked.0 yes))
    (λ yes. walked.1 (⊎_elim
    (λ (same : same_cell oid id ≡ true). inl (sym (is_same_cell oid id same)))
    (λ (below : is_below d id oid ≡ true). inr ((below_test d id oid valid).0 below))
    (or_cases (same_cell oid id) (is_below d id oid) yes)))

-- ---- what it needs

below_needs : (d : Design) (name of : CellName) (inst : List ℕ) (id oid : CellId) (o : Object) → cell_named d name ≡ Some id → cell_named d of ≡ Some oid → (((IsForName d name o ⊎ IsForName d of o) ⊎ IsInsideBelow d oid o) ⊎ IsInside id o) ↔ Needs d (AddInst name inst of) o
below_needs d name of inst id oid o is to = (
  ⊎_elim
      (⊎_elim
      (⊎_elim (λ (n : IsForName d name o). inl n) (λ (n : IsForName d of o). inr (inl n)))
      (λ (b : IsInsideBelow d oid o). inr (inr (there is to (inr (⊎_elim
      (λ (same : b.0 ≡ oid). inl (b.2 ∙ ap contents_object same))
      (λ (below : IsBelow d b.0 oid). inr (b.0, b.2, below))
      b.1))))))
      (λ (i : IsInside id o). inr (inr (there is to (inl i)))),
  ⊎_elim
      (λ (n : IsForName d name o). inl (inl (inl n)))
      (⊎_elim
      (λ (n : IsForName d of o). inl (inl (inr n)))
      (λ (b : IsForBelow d (cell_named d name) (cell_named d of) o). ⊎_elim
      (λ (i : o ≡ contents_object id). inr i)
      (⊎_elim
      (λ (same : o ≡ contents_object oid). inl (inr (oid, inl refl, same)))
      (λ (found : (c : CellId) × (o ≡ contents_object c) × IsBelow d c oid). inl (inr (found.0, inr found.2, found.1))))
      (back is to b))),
)
  where
    there : cell_named d name ≡ Some id → cell_named d of ≡ Some oid → (o ≡ contents_object id) ⊎ ((o ≡ contents_object oid) ⊎ ((c : CellId) × (o ≡ contents_object c) × IsBelow d c oid)) → IsForBelow d (cell_named d name) (cell_named d of) o
    there p q b = subst (λ (x : Option CellId). IsForBelow d x (cell_named d of) o) (sym p) (subst (λ (x : Option CellId). IsForBelow d (Some id) x o) (sym q) b)

    back : cell_named d name ≡ Some id → cell_named d of ≡ Some oid → IsForBelow d (cell_named d name) (cell_named d of) o → (o ≡ contents_object id) ⊎ ((o ≡ contents_object oid) ⊎ ((c : CellId) × (o ≡ contents_object c) × IsBelow d c oid))
    back p q b = subst (λ (x : Option CellId). IsForBelow d (Some id) x o) q (subst (λ (x : Option CellId). IsForBelow d x (cell_named d of) o) p b)

-- one of the two names leads nowhere
pub holder_missing : (s t u : State) (name of : CellName) (inst : List ℕ) (reply : Reply) → HasRead s t (IsForName s.design name) → HasRead t u (IsForName t.design of) → (cell_named s.design name ≡ None) × (first (no_lib (named s.design name) ∷ no_cell (named s.design name) ∷ []) ≡ Some reply) → IsDone s u (AddInst name inst of) reply
holder_missing s t u name of inst reply first_read second (none, refused) =
    done_read s u (AddInst name inst of) reply (λ o. IsForName s.design name o ⊎ IsForName s.design of o)
    (read_both s t u (IsForName s.design name) (IsForName s.design of) first_read (subst (λ (d : Design). HasRead t u (IsForName d of)) first_read.design second))
    (λ o. (
      ⊎_elim (λ (n : IsForName s.design name o). inl n) (λ (n : IsForName s.design of o). inr (inl n)),
      ⊎_elim (λ (n : IsForName s.design name o). inl n) (⊎_elim
          (λ (n : IsForName s.design of o). inr n)
          (λ (b : IsForBelow s.design (cell_named s.design name) (cell_named s.design of) o). absurd (subst (λ (x : Option CellId). IsForBelow s.design x (cell_named s.design of) o) none b))),
    ))
    (refused_row s.design name (no_lib (named s.design of) ∷ no_cell (named s.design of) ∷ checks s.design name of inst) reply Done (changes s.design name of inst) refused)

pub placed_missing : (s t u : State) (name of : CellName) (inst : List ℕ) (id : CellId) (reply : Reply) → HasRead s t (IsForName s.design name) → HasRead t u (IsForName t.design of) → cell_named s.design name ≡ Some id → (cell_named t.design of ≡ None) × (first (no_lib (named t.design of) ∷ no_cell (named t.design of) ∷ []) ≡ Some reply) → IsDone s u (AddInst name inst of) reply
placed_missing s t u name of inst id reply first_read second is missing =
    let here : (cell_named s.design of ≡ None) × (first (no_lib (named s.design of) ∷ no_cell (named s.design of) ∷ []) ≡ Some reply) =
    subst (λ (d : Design). (cell_named d of ≡ None) × (first (no_lib (named d of) ∷ no_cell (named d of) ∷ []) ≡ Some reply)) first_read.design missing in
    done_read s u (AddInst name inst of) reply (λ o. IsForName s.design name o ⊎ IsForName s.design of o)
    (read_both s t u (IsForName s.design name) (IsForName s.design of) first_read (subst (λ (d : Design). HasRead t u (IsForName d of)) first_read.design second))
    (λ o. (
      ⊎_elim (λ (n : IsForName s.design name o). inl n) (λ (n : IsForName s.design of o). inr (inl n)),
      ⊎_elim (λ (n : IsForName s.design name o). inl n) (⊎_elim
          (λ (n : IsForName s.design of o). inr n)
          (λ (b : IsForBelow s.design (cell_named s.design name) (cell_named s.design of) o). absurd (nowhere o (cell_named s.design name) (subst (λ (x : Option CellId). IsForBelow s.design (cell_named s.design name) x o) here.0 b)))),
    ))
    (found_row s.design name id (no_lib (named s.design of) ∷ no_cell (named s.design of) ∷ checks s.design name of inst) Done (changes s.design name of inst) is
    ∙ refused_row s.design of (checks s.design name of inst) reply Done (changes s.design name of inst) here.1)
  where
    nowhere : (o : Object) (x : Option CellId) → IsForBelow s.design x None o → ⊥
    nowhere o None never = never
    nowhere o (Some c) never = never

-- ---- both are found

pub record HasWalked (s u : State) (name of : CellName) (id oid : CellId) (contents : Option Contents) (found : Bool) : Type 0 where
  pub named : cell_named s.design name ≡ Some id
  pub placed : cell_named s.design of ≡ Some oid
  pub inside : contents_at s.design id ≡ contents
  pub cyclic : found ≡ is_cyclic s.design (Some id) (Some oid)
  pub read : HasRead s u (λ o. ((IsForName s.design name o ⊎ IsForName s.design of o) ⊎ IsInsideBelow s.design oid o) ⊎ IsInside id o)

pub walked_both : (s t r q u : State) (name of : CellName) (id oid : CellId) (contents : Option Contents) (cyclic : Bool) → IsValid s.design → cell_named s.design name ≡ Some id → HasRead s t (IsForName s.design name) → cell_named t.design of ≡ Some oid → HasRead t r (IsForName t.design of) → IsTrue cyclic ↔ IsAtOrBelow r.design oid id → HasRead r q (IsInsideBelow r.design oid) → contents ≡ contents_at q.design id → HasRead q u (IsInside id) → HasWalked s u name of id oid contents cyclic
walked_both s t r q u name of id oid contents cyclic valid is one to two walked three inside four =
    let at_r : r.design ≡ s.design = two.design ∙ one.design in
    let at_q : q.design ≡ s.design = three.design ∙ at_r in
    record {
      named = is;
      placed = subst (λ (d : Design). cell_named d of ≡ Some oid) one.design to;
      inside = ap (λ (d : Design). contents_at d id) (sym at_q) ∙ sym inside;
      cyclic = cyclic_is s.design id oid cyclic valid (subst (λ (d : Design). IsTrue cyclic ↔ IsAtOrBelow d oid id) at_r walked);
      read = read_both s q u _ (IsInside id)
          (read_both s r q _ (IsInsideBelow s.design oid)
          (read_both s t r (IsForName s.design name) (IsForName s.design of) one (subst (λ (d : Design). HasRead t r (IsForName d of)) one.design two))
          (subst (λ (d : Design). HasRead r q (IsInsideBelow d oid)) at_r three))
          four;
    }

planned_here : (s u : State) (name of : CellName) (inst : List ℕ) (id oid : CellId) (contents : Option Contents) (cyclic later : Bool) (made : Result Plan Reply) → HasWalked s u name of id oid contents cyclic → later ≡ nat_lt id.lib.0 oid.lib.0 → IsPlanned contents (first (no_new_inst contents inst later cyclic)) (more_insts inst oid contents) made → IsPlanned (contents_at s.design id) (first (no_new_inst (contents_at s.design id) inst (nat_lt id.lib.0 oid.lib.0) (is_cyclic s.design (Some id) (Some oid)))) (more_insts inst oid (contents_at s.design id)) made
planned_here s u name of inst id oid contents cyclic later made walked late planned =
    subst (λ (c : Option Contents). IsPlanned c (first (no_new_inst c inst (nat_lt id.lib.0 oid.lib.0) (is_cyclic s.design (Some id) (Some oid)))) (more_insts inst oid c) made) (sym walked.inside)
    (subst (λ (b : Bool). IsPlanned contents (first (no_new_inst contents inst b (is_cyclic s.design (Some id) (Some oid)))) (more_insts inst oid contents) made) late
    (subst (λ (b : Bool). IsPlanned contents (first (no_new_inst contents inst later b)) (more_insts inst oid contents) made) walked.cyclic planned))

pub add_inst_can : (s u : State) (name of : CellName) (inst : List ℕ) (id oid : CellId) (contents : Option Contents) (cyclic later : Bool) (made : Result Plan Reply) → IsTypedOp (AddInst name inst of) → IsValid s.design → HasWalked s u name of id oid contents cyclic → later ≡ nat_lt id.lib.0 oid.lib.0 → IsPlanned contents (first (no_new_inst contents inst later cyclic)) (more_insts inst oid contents) made → CanBePut u.design id None made
add_inst_can s u name of inst id oid contents cyclic later made typed valid walked late planned =
    planned_can s u (AddInst name inst of) id _ _ _ None made typed valid walked.read (add_inst_comes s.design name of inst id oid walked.named walked.placed)
    (planned_here s u name of inst id oid contents cyclic later made walked late planned)

pub add_inst_done : {E : Type 0} (s u v : State) (name of : CellName) (inst : List ℕ) (id oid : CellId) (contents : Option Contents) (cyclic later : Bool) (made : Result Plan Reply) (result : Result Reply E) → HasWalked s u name of id oid contents cyclic → later ≡ nat_lt id.lib.0 oid.lib.0 → IsPlanned contents (first (no_new_inst contents inst later cyclic)) (more_insts inst oid contents) made → MatchResult result (IsPut u v id None made) (λ _. v ≡ u) → IsDoneOrFails result s v (AddInst name inst of)
add_inst_done s u v name of inst id oid contents cyclic later made result walked late planned put =
    put_result s u v (AddInst name inst of) id _ None made result walked.read
    (λ reply is. planned_done s u v (AddInst name inst of) id _ _ _ None made reply walked.read (λ o. below_needs s.design name of inst id oid o walked.named walked.placed)
    (add_inst_comes s.design name of inst id oid walked.named walked.placed)
    (planned_here s u name of inst id oid contents cyclic later made walked late planned) is)
    put
