-- What designs that agree on objects have in common.
use Rattle.std.proofs.Common.{◌≡◌, List, [], ◌∷◌, ◌++◌, map, length, refl, sym, ap, ◌∙◌, inl, inr, Option, Some, None, cond}
use Rattle.std.specs.Prelude.{is_some, option_and_then}
use Rattle.std.specs.List.{flat_map}
use Rattle.std.specs.Option.{option_map, option_map_or, option_to_list}
use Rattle.netlist_schema.specs.Design.{Design, lib_at, cell_at, cells_in, insts_in, insts_of}
use Rattle.netlist_schema.specs.Hierarchy.{insts_at}
use Rattle.netlist_schema.specs.Names.{cell_names}
use Rattle.netlist_schema.specs.Types.{CellBody, CellId, Contents, LibId, Object}
use Rattle.netlist_schema.specs.declared.ids.Object.TheVariants.{Directory}
use Rattle.edit_rules_spec.specs.Edit.{fresh, inner}
use Rattle.edit_rules_spec.specs.Objects.{Agrees}
use Rattle.edit_rules_spec.specs.Seen.{contents_at}
use Rattle.edit_rules_spec.proofs.Same.{names_of_directory}
use Rattle.flat_spec.specs.Occurrences.{Occurrence}
use Rattle.flat_spec.proofs.ListLemmas.{Member}
use Rattle.uniquify_spec.specs.Blocks.{is_block}
use Rattle.uniquify_spec.specs.Copies.{Copy, names_with, copies_in, name_at, copy_name, copy_after, copies_after}
use Rattle.edit_rules_spec.specs.Objects.{face_of, face_object, contents_object}
use Rattle.uniquify_spec.specs.Parts.{IsPartOf}
use Rattle.uniquify_spec.specs.Split.{Split, Owner, renamed, is_turned, turned, new_cell, turned_cell, owners, split_edits}

-- ---- objects; these two lemmas say what the objects of a cell tell

-- who agrees on the contents has the same contents
contents_of_inside : (o : Option CellBody) → option_and_then (λ (b : CellBody). b.contents) o ≡ option_and_then (λ (c : Option Contents). c) (option_map (λ (b : CellBody). b.contents) o)
contents_of_inside None = refl
contents_of_inside (Some body) = refl

pub contents_agree : (d e : Design) (id : CellId) → Agrees d e (contents_object id) → contents_at d id ≡ contents_at e id
contents_agree d e id agree = contents_of_inside (cell_at d id) ∙ ap (option_and_then (λ (c : Option Contents). c)) agree ∙ sym (contents_of_inside (cell_at e id))

-- who agrees on both parts has the same cell
abbrev joined : Option CellBody → Option (Option Contents) → Option CellBody
joined face inside = option_and_then (λ (f : CellBody). option_map (λ c. record f { contents = c }) inside) face

cell_of_parts : (o : Option CellBody) → joined (option_map face_of o) (option_map (λ (b : CellBody). b.contents) o) ≡ o
cell_of_parts None = refl
cell_of_parts (Some body) = refl

pub cell_agrees : (d e : Design) (id : CellId) → Agrees d e (face_object id) → Agrees d e (contents_object id) → cell_at d id ≡ cell_at e id
cell_agrees d e id face contents = sym (cell_of_parts (cell_at d id)) ∙ (λ i. joined (face i) (contents i)) ∙ cell_of_parts (cell_at e id)

pub parts_agree : (d e : Design) (id : CellId) → ((o : Object) → IsPartOf id o → Agrees d e o) → cell_at d id ≡ cell_at e id
parts_agree d e id agree = cell_agrees d e id (agree (face_object id) (inl refl)) (agree (contents_object id) (inr refl))

pub directory_agrees : (d e : Design) (lib : LibId) → Agrees d e (Directory lib) → cell_names (cells_in d lib) ≡ cell_names (cells_in e lib)
directory_agrees d e lib agree = names_of_directory (lib_at d lib) (lib_at e lib) agree

-- ---- contents

pub insts_inside : (o : Option CellBody) → insts_in (option_and_then (λ (b : CellBody). b.contents) o) ≡ option_map_or insts_of o []
insts_inside None = refl
insts_inside (Some body) = refl

pub insts_agree : (d e : Design) (id : CellId) → contents_at d id ≡ contents_at e id → insts_at d id ≡ insts_at e id
insts_agree d e id same = sym (insts_inside (cell_at d id)) ∙ ap insts_in same ∙ insts_inside (cell_at e id)

pub block_agrees : (d e : Design) (id : CellId) → contents_at d id ≡ contents_at e id → is_block d id ≡ is_block e id
block_agrees d e id same = ap is_some same

-- ---- lists

pub flat_map-same : {A B : Type 0} (f g : A → List B) (xs : List A) → ((x : A) → Member xs x → f x ≡ g x) → flat_map f xs ≡ flat_map g xs
flat_map-same f g [] h = refl
flat_map-same f g (x ∷ xs) h =
    let here = h x (inl refl) in
    let later = flat_map-same f g xs (λ y m. h y (inr m)) in
    λ t. here t ++ later t

-- ---- splits

-- the copies are the same where the directories and the cells are
pub copies_same : (d e : Design) (os : List Occurrence) (before : List Copy)
    → ((o : Occurrence) → Member os o → cell_names (cells_in d o.cell.lib) ≡ cell_names (cells_in e o.cell.lib))
    → ((o : Occurrence) → Member os o → cell_at d o.cell ≡ cell_at e o.cell)
    → copies_after d before os ≡ copies_after e before os
copies_same d e [] before directories cells = refl
copies_same d e (o ∷ os) before directories cells =
    let names : names_with d before o.cell.lib ≡ names_with e before o.cell.lib = ap (λ ns. ns ++ map (λ (m : Copy). m.name.id) (copies_in o.cell.lib before)) (directories o (inl refl)) in
    let name : name_at d o.cell ≡ name_at e o.cell = ap (λ b. option_map_or (λ (body : CellBody). body.name) b (record { id = []; shown = None })) (cells o (inl refl)) in
    let copy : copy_after d before o ≡ copy_after e before o =
    λ t. record { path = o.path; of = o.cell; id = record { lib = o.cell.lib; slot = length (names t) }; name = copy_name (names t) (name t) } in
    let later = copies_same d e os (before ++ copy_after d before o ∷ []) (λ q m. directories q (inr m)) (λ q m. cells q (inr m)) in
    (λ t. copy_after d before o ∷ later t)
    ∙ (λ t. copy t ∷ copies_after e (before ++ copy t ∷ []) os)

-- the changes are the same where the cells that are copied and the contents that are turned are
pub edits_same : (d e : Design) (s : Split) → ((m : Copy) → Member s.copies m → cell_at d m.of ≡ cell_at e m.of)
    → ((o : Owner) → Member (owners s) o → contents_at d o.cell ≡ contents_at e o.cell) → split_edits d s ≡ split_edits e s
edits_same d e s cells contents =
    let new = flat_map-same (new_cell d) (new_cell e) s.copies (λ m member. ap (λ b. option_to_list (option_map (λ body. fresh m.id (renamed m body)) b)) (cells m member)) in
    let turns = flat_map-same (turned_cell d s.copies) (turned_cell e s.copies) (owners s)
    (λ o member. ap (λ c. cond (is_turned s.copies o.path) (option_to_list (option_map (λ (inside : Contents). inner o.own (turned s.copies o.path inside)) c)) []) (contents o member)) in
    λ t. new t ++ turns t
