-- Removing an instance.
use Rattle.std.proofs.Common.{◌≡◌, ◌≤◌, ◌<◌, ◌+◌, ◌⊎◌, ◌↔◌, ◌++◌, inl, inr, ⊎_elim, ℕ, zero, suc, Bool, true, false, not, cond, length, map, take, get_or, slice_get, eq-eqb, arith, List, [], ◌∷◌, Option, Some, None, refl, sym, ap, subst, ◌∙◌}
use Rattle.std.specs.Prelude.{◌==◌, MatchResult, Result, filter, option_to_list}
use Rattle.std.specs.Option.{option_map}
use Rattle.netlist_schema.specs.Design.{Design}
use Rattle.netlist_schema.specs.Types.{CellId, Contents, Note, Object, TopHead}
use Rattle.netlist_schema.specs.Valid.{IsValid}
use Rattle.netlist_schema.specs.declared.ids.Object.TheVariants.{Notes}
use Rattle.edit_rules_spec.specs.Edit.{inner, noted}
use Rattle.edit_rules_spec.specs.Find.{cell_named}
use Rattle.edit_rules_spec.specs.Reading.{IsForName, IsForNotes, IsForCell, IsInside as IsInsideOf}
use Rattle.edit_spec.specs.Needs.{Needs}
use Rattle.edit_rules_spec.specs.Rule.{first, no_cell, no_inst, no_lib, unless}
use Rattle.edit_rules_spec.specs.Seen.{contents_at, inside, named}
use Rattle.edit_rules_spec.specs.Notes.{goes_on, other_notes, seen_if}
use Rattle.edit_spec.specs.DropInst.{set_notes, without_inst}
use Rattle.edit_spec.specs.Rows.{outcome}
use Rattle.edit_rules_spec.specs.declared.reply.CellName.{CellName}
use Rattle.edit_spec.specs.declared.ops.Op.TheVariants.{DropInst}
use Rattle.edit_rules_spec.specs.declared.reply.Reply.{Reply}
use Rattle.edit_rules_spec.specs.declared.reply.Reply.TheVariants.{Done}
use Rattle.edit_cells.specs.Parts.{IsInside}
use Rattle.edit_cells.specs.State.{State, HasRead}
use Rattle.eco_reads.specs.Done.{IsDone, IsDoneOrFails}
use Rattle.eco_reads.specs.Plan.{CanBePut, IsPlanned, IsPut}
use Rattle.eco_reads.specs.declared.plan.Plan.{Plan}
use Rattle.eco_reads.proofs.Found.{found_row, inside_is, refused_row}
use Rattle.eco_reads.proofs.Reading.{both_edits, done_read, only_name, planned_can, planned_done, put_result, read_then}
use Rattle.eco_reads.proofs.Below.{take_whole}
use Rattle.eco_reads.proofs.NoteReads.{no_top, some_top}
use Rattle.eco_ops.specs.Insts.{is_other}
use Rattle.netlist_schema.proofs.Lists.{take_next}
use Rattle.edit_rules_spec.proofs.Lists.{filter_both}
use Rattle.edit_rules_spec.specs.Paths.{goes_through}
use Rattle.std.specs.List.{list_all}
use Rattle.std.proofs.lemmas.Bool.{and_parts, ne_eqb}
use Rattle.std.proofs.lemmas.List.{length-map}

-- ---- the notes that are left

-- without a top all notes are left
filter_all : (p : Note → Bool) (notes : List Note) → ((n : Note) → p n ≡ true) → filter p notes ≡ notes
filter_all p [] all = refl
filter_all p (n ∷ ns) all = ap (λ (b : Bool). cond b (n ∷ filter p ns) (filter p ns)) (all n) ∙ ap (λ (l : List Note). n ∷ l) (filter_all p ns all)

-- where all stay, all are left
pub all_kept : (keep : Note → Bool) (notes : List Note) → list_all (λ stays. stays) (map keep notes) ≡ true → filter keep notes ≡ notes
all_kept keep [] all = refl
all_kept keep (n ∷ ns) all =
    let both = and_parts (keep n) (list_all (λ stays. stays) (map keep ns)) all in
    ap (λ (b : Bool). cond b (n ∷ filter keep ns) (filter keep ns)) both.0 ∙ ap (λ (l : List Note). n ∷ l) (all_kept keep ns both.1)

-- with a top the notes that are left are those whose paths do not go through the instance
others_seen : (d : Design) (id top : CellId) (inst : List ℕ) → Some top ≡ option_map (λ head. head.cell) d.top → other_notes d (Some id) inst ≡ filter (is_other d id inst top) d.notes
others_seen d id top inst some =
    let known = some_top d.top top some in
    (λ i. filter (λ (note : Note). not (goes_on d (known.1 i) (Some id) inst note)) d.notes) ∙ (λ i. filter (λ (note : Note). not (goes_through d id inst (known.2 i) note.path)) d.notes)

-- none goes through it
pub none_gone : (d : Design) (id top : CellId) (inst : List ℕ) (others : List Bool) → Some top ≡ option_map (λ head. head.cell) d.top → others ≡ map (is_other d id inst top) d.notes → list_all (λ stays. stays) others ≡ true
    → set_notes d.notes (other_notes d (Some id) inst) ≡ []
none_gone d id top inst others some told all =
    ap (set_notes d.notes) (others_seen d id top inst some ∙ all_kept (is_other d id inst top) d.notes (ap (list_all (λ stays. stays)) (sym told) ∙ all))
    ∙ ap (λ (b : Bool). cond b [] (noted d.notes ∷ [])) (eq-eqb (length d.notes) (length d.notes) refl)

-- these are left
pub left_are : (d : Design) (id top : CellId) (inst : List ℕ) (left : List Note) → Some top ≡ option_map (λ head. head.cell) d.top → left ≡ filter (is_other d id inst top) d.notes
    → set_notes d.notes (other_notes d (Some id) inst) ≡ cond (length left == length d.notes) [] (noted left ∷ [])
left_are d id top inst left some is = ap (set_notes d.notes) (others_seen d id top inst some ∙ sym is)

-- what was told over designs that are one, in lists that are one
pub left_told : (d e u : Design) (id top : CellId) (inst : List ℕ) (others lent : List Bool) (left : List Note) → e ≡ d → u ≡ e → others ≡ map (is_other e id inst top) e.notes → lent ≡ others
    → ((keep : Note → Bool) → lent ≡ map keep u.notes → left ≡ filter keep u.notes) → left ≡ filter (is_other d id inst top) d.notes
left_told d e u id top inst others lent left e_is u_is told lent_is value =
    value (is_other d id inst top)
    (lent_is ∙ told ∙ ap (λ (x : Design). map (is_other x id inst top) x.notes) e_is ∙ ap (λ (x : Design). map (is_other d id inst top) x.notes) (sym (u_is ∙ e_is)))
    ∙ ap (λ (x : Design). filter (is_other d id inst top) x.notes) (u_is ∙ e_is)

pub told_long : (d e : Design) (id top : CellId) (inst : List ℕ) (others : List Bool) → e ≡ d → others ≡ map (is_other e id inst top) e.notes → length others ≡ length d.notes
told_long d e id top inst others e_is told = ap length told ∙ length-map e.notes (is_other e id inst top) ∙ ap (λ (x : Design). length x.notes) e_is

-- as many are left as there were
pub not_fewer : (d : Design) (id top : CellId) (inst : List ℕ) (left : List Note) → Some top ≡ option_map (λ head. head.cell) d.top → left ≡ filter (is_other d id inst top) d.notes → length left ≡ length d.notes
    → set_notes d.notes (other_notes d (Some id) inst) ≡ []
not_fewer d id top inst left some is same = left_are d id top inst left some is ∙ ap (λ (b : Bool). cond b [] (noted left ∷ [])) (eq-eqb (length left) (length d.notes) same)

-- fewer are left
pub are_fewer : (d : Design) (id top : CellId) (inst : List ℕ) (left row : List Note) → Some top ≡ option_map (λ head. head.cell) d.top → left ≡ filter (is_other d id inst top) d.notes → (length left ≡ length d.notes → ⊥) → row ≡ left
    → set_notes d.notes (other_notes d (Some id) inst) ≡ noted row ∷ []
are_fewer d id top inst left row some is apart row_is =
    left_are d id top inst left some is ∙ ap (λ (b : Bool). cond b [] (noted left ∷ [])) (ne_eqb (length left) (length d.notes) apart) ∙ ap (λ (ns : List Note). noted ns ∷ []) (sym row_is)

pub got_path : (paths : List (List (List ℕ))) (k : ℕ) (path : List (List ℕ)) → k < length paths → path ≡ get_or paths k path → slice_get paths k ≡ Some path
got_path [] k path within is = absurd (omega arith)
got_path (p ∷ paths) zero path within is = ap (λ x. Some x) (sym is)
got_path (p ∷ paths) (suc k) path within is = got_path paths k path (omega arith) is

got_note : (notes : List Note) (k : ℕ) (note : Note) → k < length notes → note ≡ get_or notes k note → slice_get notes k ≡ Some note
got_note [] k note within is = absurd (omega arith)
got_note (n ∷ notes) zero note within is = ap (λ x. Some x) (sym is)
got_note (n ∷ notes) (suc k) note within is = got_note notes k note (omega arith) is

told_at : (keep : Note → Bool) (notes : List Note) (k : ℕ) (note : Note) → k < length notes → note ≡ get_or notes k note → get_or (map keep notes) k false ≡ keep note
told_at keep [] k note within is = absurd (omega arith)
told_at keep (n ∷ notes) zero note within is = ap keep (sym is)
told_at keep (n ∷ notes) (suc k) note within is = told_at keep notes k note (omega arith) is

-- one note more that stays, or goes
pub left_next : (keep : Note → Bool) (notes : List Note) (others : List Bool) (k : ℕ) (note : Note) (left new : List Note) → others ≡ map keep notes → k < length notes → note ≡ get_or notes k note → left ≡ filter keep (take k notes)
    → new ≡ left ++ cond (get_or others k false) (note ∷ []) [] → new ≡ filter keep (take (k + 1) notes)
left_next keep notes others k note left new told within is before more =
    let one : k + 1 ≡ suc k = omega arith in
    let longer : take (k + 1) notes ≡ take k notes ++ note ∷ [] = ap (λ n. take n notes) one ∙ take_next notes k note (got_note notes k note within is) in
    let stays : get_or others k false ≡ keep note = ap (λ bs. get_or bs k false) told ∙ told_at keep notes k note within is in
    more ∙ (λ i. before i ++ cond (stays i) (note ∷ []) []) ∙ sym (filter_both keep (take k notes) (note ∷ [])) ∙ ap (filter keep) (sym longer)

pub left_all : (keep : Note → Bool) (items notes : List Note) (k : ℕ) (left : List Note) → items ≡ notes → length items ≤ k → left ≡ filter keep (take k items) → left ≡ filter keep notes
left_all keep items notes k left same past is = is ∙ ap (filter keep) (take_whole items k past ∙ same)

-- ---- the operation

pub drop_comes : (d : Design) (name : CellName) (inst : List ℕ) (id : CellId) → cell_named d name ≡ Some id → outcome d (DropInst name inst) ≡ unless (first (no_inst (contents_at d id) inst ∷ [])) Done (inner id (without_inst (contents_at d id) inst) ∷ set_notes d.notes (other_notes d (Some id) inst))
drop_comes d name inst id is =
    found_row d name id (no_inst (inside d name) inst ∷ []) Done (option_to_list (option_map (λ c. inner c (without_inst (inside d name) inst)) (cell_named d name)) ++ set_notes (seen_if (cell_named d name) d.notes) (seen_if (cell_named d name) (other_notes d (cell_named d name) inst))) is
    ∙ (λ i. unless (first (no_inst (inside_is d name id is i) inst ∷ [])) Done (option_to_list (option_map (λ (c : CellId). inner c (without_inst (inside_is d name id is i) inst)) (is i)) ++ set_notes (seen_if (is i) d.notes) (seen_if (is i) (other_notes d (is i) inst))))

-- the cell that is found, its contents, and the notes that are left
pub record HasDropRead (s u : State) (name : CellName) (inst : List ℕ) (id : CellId) (contents : Option Contents) (others : Option (List Note)) : Type 0 where
  pub named : cell_named s.design name ≡ Some id
  pub inside : contents_at s.design id ≡ contents
  pub notes : set_notes s.design.notes (other_notes s.design (Some id) inst) ≡ option_to_list (option_map noted others)
  pub read : HasRead s u (λ o. (IsForName s.design name o ⊎ IsForNotes s.design (Some id) s.design.top o) ⊎ IsInside id o)

pub drop_read : (s t r u : State) (name : CellName) (inst : List ℕ) (id : CellId) (contents : Option Contents) (others : Option (List Note)) → cell_named s.design name ≡ Some id → HasRead s t (IsForName s.design name) → set_notes t.design.notes (other_notes t.design (Some id) inst) ≡ option_to_list (option_map noted others) → HasRead t r (IsForNotes t.design (Some id) t.design.top) → contents ≡ contents_at r.design id → HasRead r u (IsInside id) → HasDropRead s u name inst id contents others
drop_read s t r u name inst id contents others is one left two inside three = record {
  named = is;
  inside = ap (λ (d : Design). contents_at d id) (sym (two.design ∙ one.design)) ∙ sym inside;
  notes = subst (λ (d : Design). set_notes d.notes (other_notes d (Some id) inst) ≡ option_to_list (option_map noted others)) one.design left;
  read = read_then s r u (λ o. IsForName s.design name o ⊎ IsForNotes s.design (Some id) s.design.top o) (IsInside id) _
      (read_then s t r (IsForName s.design name) (IsForNotes s.design (Some id) s.design.top) (λ o. IsForName s.design name o ⊎ IsForNotes s.design (Some id) s.design.top o) one (subst (λ (d : Design). HasRead t r (IsForNotes d (Some id) d.top)) one.design two) (λ o. (λ x. x, λ x. x)))
      three (λ o. (λ x. x, λ x. x));
}

drop_needs : (d : Design) (name : CellName) (inst : List ℕ) (id : CellId) (o : Object) → cell_named d name ≡ Some id → ((IsForName d name o ⊎ IsForNotes d (Some id) d.top o) ⊎ IsInside id o) ↔ Needs d (DropInst name inst) o
drop_needs d name inst id o is =
    subst (λ (c : Option CellId). ((IsForName d name o ⊎ IsForNotes d (Some id) d.top o) ⊎ IsInside id o) ↔ ((IsForName d name o ⊎ IsInsideOf c o) ⊎ IsForNotes d c d.top o)) (sym is) (
      ⊎_elim (⊎_elim (λ (n : IsForName d name o). inl (inl n)) (λ (x : IsForNotes d (Some id) d.top o). inr x)) (λ (i : IsInside id o). inl (inr i)),
      ⊎_elim (⊎_elim (λ (n : IsForName d name o). inl (inl n)) (λ (i : IsInsideOf (Some id) o). inr i)) (λ (x : IsForNotes d (Some id) d.top o). inl (inr x)),
    )

drop_outcome : (s u : State) (name : CellName) (inst : List ℕ) (id : CellId) (contents : Option Contents) (others : Option (List Note)) → HasDropRead s u name inst id contents others → outcome s.design (DropInst name inst) ≡ unless (first (no_inst contents inst ∷ [])) Done (both_edits id others (without_inst contents inst))
drop_outcome s u name inst id contents others read =
    drop_comes s.design name inst id read.named
    ∙ (λ i. unless (first (no_inst (read.inside i) inst ∷ [])) Done (inner id (without_inst (read.inside i) inst) ∷ read.notes i))

drop_planned : (s u : State) (name : CellName) (inst : List ℕ) (id : CellId) (contents : Option Contents) (others : Option (List Note)) (made : Result Plan Reply) → HasDropRead s u name inst id contents others → IsPlanned contents (first (no_inst contents inst ∷ [])) (without_inst contents inst) made → IsPlanned (contents_at s.design id) (first (no_inst contents inst ∷ [])) (without_inst contents inst) made
drop_planned s u name inst id contents others made read planned =
    subst (λ (c : Option Contents). IsPlanned c (first (no_inst contents inst ∷ [])) (without_inst contents inst) made) (sym read.inside) planned

pub drop_can : (s u : State) (name : CellName) (inst : List ℕ) (id : CellId) (contents : Option Contents) (others : Option (List Note)) (made : Result Plan Reply) → IsValid s.design → HasDropRead s u name inst id contents others → IsPlanned contents (first (no_inst contents inst ∷ [])) (without_inst contents inst) made → CanBePut u.design id others made
drop_can s u name inst id contents others made valid read planned =
    planned_can s u (DropInst name inst) id _ _ _ others made tt valid read.read (drop_outcome s u name inst id contents others read) (drop_planned s u name inst id contents others made read planned)

pub drop_done : {E : Type 0} (s u v : State) (name : CellName) (inst : List ℕ) (id : CellId) (contents : Option Contents) (others : Option (List Note)) (made : Result Plan Reply) (result : Result Reply E) → HasDropRead s u name inst id contents others → IsPlanned contents (first (no_inst contents inst ∷ [])) (without_inst contents inst) made → MatchResult result (IsPut u v id others made) (λ _. v ≡ u) → IsDoneOrFails result s v (DropInst name inst)
drop_done s u v name inst id contents others made result read planned put =
    put_result s u v (DropInst name inst) id _ others made result read.read
    (λ reply is. planned_done s u v (DropInst name inst) id _ _ _ others made reply read.read (λ o. drop_needs s.design name inst id o read.named)
    (drop_outcome s u name inst id contents others read) (drop_planned s u name inst id contents others made read planned) is)
    put

-- the cell that is named is not there
pub drop_refused : (s t : State) (name : CellName) (inst : List ℕ) (reply : Reply) → HasRead s t (IsForName s.design name) → (cell_named s.design name ≡ None) × (first (no_lib (named s.design name) ∷ no_cell (named s.design name) ∷ []) ≡ Some reply) → IsDone s t (DropInst name inst) reply
drop_refused s t name inst reply read (none, refused) =
    done_read s t (DropInst name inst) reply (IsForName s.design name) read
    (λ o. (
      λ n. inl (inl n),
      ⊎_elim (λ (n : IsForCell s.design name o). (only_name s.design name o none).1 n) (λ (x : IsForNotes s.design (cell_named s.design name) s.design.top o). absurd (subst (λ (c : Option CellId). IsForNotes s.design c s.design.top o) none x)),
    ))
    (refused_row s.design name (no_inst (inside s.design name) inst ∷ []) reply Done (option_to_list (option_map (λ c. inner c (without_inst (inside s.design name) inst)) (cell_named s.design name)) ++ set_notes (seen_if (cell_named s.design name) s.design.notes) (seen_if (cell_named s.design name) (other_notes s.design (cell_named s.design name) inst))) refused)

pub notes_alone : (s t : State) (id : CellId) → None ≡ option_map (λ head. head.cell) s.design.top → HasRead s t (λ o. o ≡ Notes) → HasRead s t (IsForNotes s.design (Some id) s.design.top)
notes_alone s t id none read = subst (λ (top : Option TopHead). HasRead s t (IsForNotes s.design (Some id) top)) (sym (no_top s.design.top none)) read

-- the notes are read once more
pub notes_again : (s u v : State) (id top : CellId) → Some top ≡ option_map (λ head. head.cell) s.design.top → HasRead s u (IsForNotes s.design (Some id) s.design.top) → HasRead u v (λ o. o ≡ Notes) → HasRead s v (IsForNotes s.design (Some id) s.design.top)
notes_again s u v id top some first second =
    let known = some_top s.design.top top some in
    read_then s u v (IsForNotes s.design (Some id) s.design.top) (λ o. o ≡ Notes) (IsForNotes s.design (Some id) s.design.top) first second
    (λ o. (
      ⊎_elim (λ (x : IsForNotes s.design (Some id) s.design.top o). x) (λ (n : o ≡ Notes). subst (λ (t : Option TopHead). IsForNotes s.design (Some id) t o) (sym known.1) (inl n)),
      λ x. inl x,
    ))
