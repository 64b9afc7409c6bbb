-- Showing an instance.
use Rattle.std.proofs.Common.{◌≡◌, ℕ, Bool, true, false, List, [], ◌∷◌, length, take, Option, Some, None, refl, sym, ap, ◌∙◌, slice_get}
use Rattle.std.specs.Prelude.{is_none, option_and_then, option_map}
use Rattle.std.proofs.lemmas.Option.{slice_get-map}
use Rattle.netlist_schema.specs.Design.{Design, cell_at, insts_in, lib_at}
use Rattle.netlist_schema.specs.Types.{CellBody, CellId, Contents, Inst, Lib, LibHead, Object, Property}
use Rattle.edit_rules_spec.specs.Find.{cell_named, inst_named, inst_place}
use Rattle.edit_rules_spec.specs.Objects.{cell_name_at, name_of, outside_at, outside_of}
use Rattle.edit_rules_spec.specs.Reading.{IsForName}
use Rattle.edit_rules_spec.specs.Rule.{Outcome, first, no_cell, no_inst, no_lib, refuse, unless}
use Rattle.edit_rules_spec.specs.Seen.{contents_at, inside, named}
use Rattle.edit_rules_spec.specs.declared.reply.CellName.{CellName}
use Rattle.edit_rules_spec.specs.declared.reply.Reply.{Reply}
use Rattle.edit_rules_spec.specs.declared.reply.Reply.TheVariants.{Inst as ShownInst, NoInst}
use Rattle.edit_spec.specs.Rows.{outcome}
use Rattle.edit_spec.specs.ShowInst.{inst_cell_name, inst_shown}
use Rattle.edit_spec.specs.declared.ops.Op.TheVariants.{ShowInst}
use Rattle.edit_cells.specs.Parts.{Seen, seen_at, seen_of}
use Rattle.edit_cells.specs.State.{State, HasRead}
use Rattle.eco_reads.specs.Done.{IsDone}
use Rattle.eco_reads.proofs.Found.{found_row, inside_is, refused_row}
use Rattle.eco_reads.proofs.Reading.{HasFound, back_is, done_read, inside_needs, only_name, read_some}

show_comes : (d : Design) (name : CellName) (inst : List ℕ) (id : CellId) → cell_named d name ≡ Some id → outcome d (ShowInst name inst) ≡ unless (first (no_inst (contents_at d id) inst ∷ [])) (inst_shown (inst_named inst (insts_in (contents_at d id))) (option_and_then (λ i. cell_name_at d i.of) (inst_named inst (insts_in (contents_at d id))))) []
show_comes d name inst id is =
    found_row d name id (no_inst (inside d name) inst ∷ []) (inst_shown (inst_named inst (insts_in (inside d name))) (inst_cell_name d name inst)) [] is
    ∙ ap (λ (c : Option Contents). unless (first (no_inst c inst ∷ [])) (inst_shown (inst_named inst (insts_in c)) (option_and_then (λ i. cell_name_at d i.of) (inst_named inst (insts_in c)))) []) (inside_is d name id is)

-- the same with the contents that were read
shown_here : (s u : State) (name : CellName) (inst : List ℕ) (id : CellId) (contents : Option Contents) → HasFound s u name id contents → outcome s.design (ShowInst name inst) ≡ unless (first (no_inst contents inst ∷ [])) (inst_shown (inst_named inst (insts_in contents)) (option_and_then (λ i. cell_name_at s.design i.of) (inst_named inst (insts_in contents)))) []
shown_here s u name inst id contents found =
    show_comes s.design name inst id found.named
    ∙ ap (λ (c : Option Contents). unless (first (no_inst c inst ∷ [])) (inst_shown (inst_named inst (insts_in c)) (option_and_then (λ i. cell_name_at s.design i.of) (inst_named inst (insts_in c)))) []) found.inside

either_way : (b : Bool) → unless (first (refuse b NoInst ∷ [])) NoInst [] ≡ record { reply = NoInst; edits = [] }
either_way true = refl
either_way false = refl

none_of : {X Y : Type 0} (f : X → Y) (o : Option X) → None ≡ option_map f o → o ≡ None
none_of f None is = refl
none_of f (Some x) is = cc

abbrev pub shown_parts : Inst → CellId × List Property
shown_parts i = (i.of, i.properties)

-- there is no such instance
pub show_no_inst : (s u : State) (name : CellName) (inst : List ℕ) (id : CellId) (contents : Option Contents) → HasFound s u name id contents → None ≡ option_map shown_parts (inst_named inst (insts_in contents)) → IsDone s u (ShowInst name inst) NoInst
show_no_inst s u name inst id contents found none =
    done_read s u (ShowInst name inst) NoInst _ found.read (λ o. inside_needs s.design name id o found.named)
    (shown_here s u name inst id contents found
    ∙ ap (λ (i : Option Inst). unless (first (no_inst contents inst ∷ [])) (inst_shown i (option_and_then (λ x. cell_name_at s.design x.of) i)) []) (none_of shown_parts (inst_named inst (insts_in contents)) none)
    ∙ either_way (is_none (inst_place inst (insts_in contents))))

some_of : {X Y : Type 0} (f : X → Y) (o : Option X) (y : Y) → Some y ≡ option_map f o → (x : X) × (o ≡ Some x) × (y ≡ f x)
some_of f None y is = cc
some_of f (Some x) y is = (x, refl, same)
  where
    same : y ≡ f x
    same = cc

place_there : (insts : List Inst) (place : Option ℕ) (i : Inst) → option_and_then (slice_get insts) place ≡ Some i → is_none place ≡ false
place_there insts None i is = cc
place_there insts (Some place) i is = refl

pub show_inst_done : (s u : State) (name : CellName) (inst : List ℕ) (id : CellId) (contents : Option Contents) (shown : CellId × List Property) (of : Option CellName) (reply : Reply) → HasFound s u name id contents → Some shown ≡ option_map shown_parts (inst_named inst (insts_in contents)) → of ≡ cell_name_at u.design shown.0 → reply ≡ inst_shown (Some (record { name = record { id = []; shown = None }; of = shown.0; designator = None; properties = shown.1 })) of → IsDone s u (ShowInst name inst) reply
show_inst_done s u name inst id contents shown of reply found some called is =
    let there = some_of shown_parts (inst_named inst (insts_in contents)) shown some in
    let fits = place_there (insts_in contents) (inst_place inst (insts_in contents)) there.0 there.1 in
    done_read s u (ShowInst name inst) reply _ found.read (λ o. inside_needs s.design name id o found.named)
    (shown_here s u name inst id contents found
    ∙ (λ k. unless (first (refuse (fits k) NoInst ∷ [])) (inst_shown (there.1 k) (option_and_then (λ x. cell_name_at s.design x.of) (there.1 k))) [])
    ∙ ap (λ (r : Reply). let out : Outcome = record { reply = r; edits = [] } in out) (same there.0 there.2 (cell_name_at s.design there.0.of) refl))
  where
    here : of ≡ cell_name_at s.design shown.0
    here = called ∙ ap (λ (d : Design). cell_name_at d shown.0) found.read.design

    same : (i : Inst) → shown ≡ shown_parts i → (o : Option CellName) → cell_name_at s.design i.of ≡ o → inst_shown (Some i) (cell_name_at s.design i.of) ≡ reply
    same i at None none = ap (inst_shown (Some i)) none ∙ sym (is ∙ ap (inst_shown (Some (record { name = record { id = []; shown = None }; of = shown.0; designator = None; properties = shown.1 }))) (here ∙ ap (λ (p : CellId × List Property). cell_name_at s.design p.0) at ∙ none))
    same i at (Some n) some_n =
        ap (inst_shown (Some i)) some_n ∙ ap (λ (ps : List Property). ShownInst n ps) (sym (ap (λ (p : CellId × List Property). p.1) at))
        ∙ sym (is ∙ ap (inst_shown (Some (record { name = record { id = []; shown = None }; of = shown.0; designator = None; properties = shown.1 }))) (here ∙ ap (λ (p : CellId × List Property). cell_name_at s.design p.0) at ∙ some_n))

pub name_is : (d : Design) (id : CellId) (cell lib : Option (List ℕ)) → cell ≡ option_map (λ seen. seen.name.id) (seen_at d id) → lib ≡ option_map (λ h. h.name.id) (option_map (λ l. l.head) (lib_at d id.lib)) → option_and_then (λ l. option_map (λ c. let n : CellName = record { lib = l; cell = c } in n) cell) lib ≡ cell_name_at d id
name_is d id cell lib seen head =
    (λ i. option_and_then (λ l. option_map (λ c. let n : CellName = record { lib = l; cell = c } in n) (seen i)) (head i))
    ∙ whole (lib_at d id.lib) (cell_at d id)
    ∙ ap (λ (h : Option LibHead). option_and_then (λ x. option_map (name_of x) (outside_at d id)) h) (sym (slice_get-map (λ (l : Lib). l.head) d.libs id.lib.0))
  where
    whole : (l : Option Lib) (b : Option CellBody) → option_and_then (λ x. option_map (λ c. let n : CellName = record { lib = x; cell = c } in n) (option_map (λ (seen : Seen). seen.name.id) (option_map seen_of b))) (option_map (λ (h : LibHead). h.name.id) (option_map (λ (y : Lib). y.head) l)) ≡ option_and_then (λ x. option_map (name_of x) (option_map outside_of b)) (option_map (λ (y : Lib). y.head) l)
    whole None b = refl
    whole (Some l) None = refl
    whole (Some l) (Some b) = refl

-- the cell is not there
pub show_inst_missing : (s t : State) (name : CellName) (inst : List ℕ) (reply : Reply) → HasRead s t (IsForName s.design name) → (cell_named s.design name ≡ None) × (first (no_lib (named s.design name) ∷ no_cell (named s.design name) ∷ []) ≡ Some reply) → IsDone s t (ShowInst name inst) reply
show_inst_missing s t name inst reply read (none, refused) =
    done_read s t (ShowInst name inst) reply (IsForName s.design name) read (λ o. only_name s.design name o none)
    (refused_row s.design name (no_inst (inside s.design name) inst ∷ []) reply (inst_shown (inst_named inst (insts_in (inside s.design name))) (inst_cell_name s.design name inst)) [] refused)

-- a look that is cut off again
pub cut_off : (s t u : State) (P : Object → Type 0) (mark : ℕ) → mark ≡ length s.reads → HasRead s t P → u ≡ record t { reads = take mark t.reads } → u ≡ s
cut_off s t u P mark is read cut = back_is s t u mark is (read_some s t P read) cut
