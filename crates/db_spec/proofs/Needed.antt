-- What an operation needs is there.
use Rattle.std.proofs.Common.{◌≡◌, ℕ, List, [], ◌∷◌, Option, Some, None, IsSome, inl, inr, refl, sym, subst, map, arith}
use Rattle.std.specs.Prelude.{IsSomeAnd, option_and_then, option_map, slice_get}
use Rattle.std.specs.List.{AllByRecursion, Contains}
use Rattle.std.specs.Option.{option_map_or}
use Rattle.netlist_schema.specs.Design.{Design, cell_at, insts_in, lib_at}
use Rattle.netlist_schema.specs.Hierarchy.{IsBelow, IsCell, insts_at, placed, deeper}
use Rattle.netlist_schema.specs.Types.{CellBody, CellId, End, Inst, Lib, LibId, Note, Object, TopHead}
use Rattle.netlist_schema.specs.declared.ids.Object.TheVariants.{Directory}
use Rattle.edit_rules_spec.specs.Find.{cell_named, inst_named, inst_place, lib_named}
use Rattle.edit_rules_spec.specs.Objects.{IsClosed, IsThere, contents_object, face_object, face_of, of_contents, of_interface}
use Rattle.edit_rules_spec.specs.Reading.{IsFaceOf, IsFor, IsForCell, IsForEnd, IsForLib, IsForName, IsForNotes, IsForPath, IsForPlacing, IsInside, IsNotesBelow, IsReached, IsReachedBy}
use Rattle.edit_rules_spec.specs.Seen.{contents_at, inside, placed as placed_inst}
use Rattle.edit_rules_spec.specs.declared.reply.CellName.{CellName}
use Rattle.edit_rules_spec.proofs.Closed.{valid_is_closed}
use Rattle.edit_rules_spec.proofs.Named.{inst_at, named_inst}
use Rattle.edit_rules_spec.proofs.There.{named_cell_there, named_lib_there, some_map}
use Rattle.edit_spec.specs.Needs.{Needs}
use Rattle.edit_spec.specs.ShowNet.{IsAtEnd, ends_of_net, inst_of_end}
use Rattle.edit_spec.specs.declared.ops.Op.{Op}
use Rattle.edit_spec.specs.declared.ops.Op.TheVariants.{ShowCell, ShowNet, ShowInst, AddCell, AddNet, DropNet, AddInst, DropInst, Join, Cut, SetProp, SetNote, DropNote, Uniquify, UniquePath, Ungroup}
use Rattle.edit_spec.specs.declared.ops.Target.TheVariants as target
use Rattle.edit_spec.proofs.Shown.{insts_found, placed_there}
use Rattle.flat_spec.specs.Occurrences.{Occurrence, under}
use Rattle.db_spec.proofs.Lists.{in_cases}
use Rattle.ungroup_spec.specs.Needs.{IsForInst}
use Rattle.uniquify_spec.specs.Blocks.{root_of, steps_along}
use Rattle.uniquify_spec.specs.Needs.{IsDirectoryOfBlock, IsPartOfEach, UniquePathNeedsBelow, UniquifyNeedsBelow}
use Rattle.uniquify_spec.specs.Parts.{IsPartOf}
use Rattle.uniquify_spec.proofs.Reached.{top_is_cell}
use Rattle.db_spec.specs.ReadLaws.{NeedsAreThere}

-- ---- the objects of a cell and of its library

pub face_there : (d : Design) (id : CellId) → IsCell d id → IsThere d (face_object id)
face_there d id is = some_map of_interface (option_map face_of (cell_at d id)) (some_map face_of (cell_at d id) is)

pub inside_there : (d : Design) (id : CellId) → IsCell d id → IsThere d (contents_object id)
inside_there d id is = some_map of_contents (option_map (λ (b : CellBody). b.contents) (cell_at d id)) (some_map (λ (b : CellBody). b.contents) (cell_at d id) is)

directory_there : (d : Design) (lib : LibId) → IsSome (lib_at d lib) → IsThere d (Directory lib)
directory_there d lib is = some_map _ (lib_at d lib) is

-- a cell's library is there
of_cells : (found : Option Lib) (k : ℕ) → IsSome (slice_get (option_map_or (λ (lib : Lib). lib.cells) found []) k) → IsSome found
of_cells None k is = is
of_cells (Some lib) k is = refl

lib_there : (d : Design) (id : CellId) → IsCell d id → IsThere d (Directory id.lib)
lib_there d id is = directory_there d id.lib (of_cells (lib_at d id.lib) id.slot is)

part_there : (d : Design) (id : CellId) (o : Object) → IsCell d id → IsPartOf id o → IsThere d o
part_there d id o is (inl e) = subst (IsThere d) (sym e) (face_there d id is)
part_there d id o is (inr e) = subst (IsThere d) (sym e) (inside_there d id is)

-- ---- by names

module _ (d : Design) (closed : IsClosed d) where
  for_there : (cell : Option CellId) (lib : Option LibId) (o : Object) → ((id : CellId) → cell ≡ Some id → IsCell d id) → ((l : LibId) → lib ≡ Some l → IsSome (lib_at d l))
      → IsFor cell lib o → IsThere d o
  for_there (Some id) lib o c l e = subst (IsThere d) (sym e) (face_there d id (c id refl))
  for_there None (Some lib) o c l e = subst (IsThere d) (sym e) (directory_there d lib (l lib refl))
  for_there None None o c l e = absurd e

  name_there : (name : CellName) (o : Object) → IsForName d name o → IsThere d o
  name_there name o e = for_there (cell_named d name) (lib_named d name.lib) o (λ id is. named_cell_there d name id is) (λ l is. named_lib_there d name.lib l is) e

  in_there : (cell : Option CellId) (o : Object) → ((id : CellId) → cell ≡ Some id → IsCell d id) → IsInside cell o → IsThere d o
  in_there (Some id) o c e = subst (IsThere d) (sym e) (inside_there d id (c id refl))
  in_there None o c e = absurd e

  by_name : (name : CellName) (o : Object) → IsForCell d name o → IsThere d o
  by_name name o (inl e) = name_there name o e
  by_name name o (inr e) = in_there (cell_named d name) o (λ id is. named_cell_there d name id is) e

  face_of_there : (inst : Option Inst) (o : Object) → ((i : Inst) → inst ≡ Some i → IsCell d i.of) → IsFaceOf inst o → IsThere d o
  face_of_there (Some inst) o c e = subst (IsThere d) (sym e) (face_there d inst.of (c inst refl))
  face_of_there None o c e = absurd e

  end_there : (cell : CellName) (inst : Option (List ℕ)) (o : Object) → IsForEnd d cell inst o → IsThere d o
  end_there cell None o e = absurd e
  end_there cell (Some name) o e = face_of_there (placed_inst d cell name) o (λ i is. placed_there d cell name i closed is) e

  inst_there : (inst : Option Inst) (o : Object) → ((i : Inst) → inst ≡ Some i → IsCell d i.of) → IsForInst inst o → IsThere d o
  inst_there (Some inst) o c (inl e) = subst (IsThere d) (sym e) (face_there d inst.of (c inst refl))
  inst_there (Some inst) o c (inr e) = subst (IsThere d) (sym e) (inside_there d inst.of (c inst refl))
  inst_there None o c e = absurd e

  lib_found : (lib : Option LibId) (o : Object) → ((l : LibId) → lib ≡ Some l → IsSome (lib_at d l)) → IsForLib lib o → IsThere d o
  lib_found (Some lib) o c e = subst (IsThere d) (sym e) (directory_there d lib (c lib refl))
  lib_found None o c e = absurd e

  -- ---- below a cell and along paths

  below_there : {inner outer : CellId} → IsBelow d inner outer → IsCell d inner
  below_there (placed {id} inst has) = closed id inst has
  below_there (deeper inst has below) = below_there below

  placing_there : (cell of : Option CellId) (o : Object) → ((id : CellId) → cell ≡ Some id → IsCell d id) → ((id : CellId) → of ≡ Some id → IsCell d id) → IsForPlacing d cell of o → IsThere d o
  placing_there None of o c p e = absurd e
  placing_there (Some cell) None o c p e = absurd e
  placing_there (Some cell) (Some of) o c p (inl e) = subst (IsThere d) (sym e) (inside_there d cell (c cell refl))
  placing_there (Some cell) (Some of) o c p (inr (inl e)) = subst (IsThere d) (sym e) (inside_there d of (p of refl))
  placing_there (Some cell) (Some of) o c p (inr (inr (inner, e, below))) = subst (IsThere d) (sym e) (inside_there d inner (below_there below))

  next_there : (step : List ℕ) (path : List (List ℕ)) (at : CellId) (o : Object) → ((c : CellId) → IsCell d c → IsReached d c path o → IsThere d o) → (found : Option Inst)
      → inst_named step (insts_at d at) ≡ found → IsSomeAnd found (λ inst. IsReached d inst.of path o) → IsThere d o
  next_there step path at o below (Some inst) by r = below inst.of (closed at inst (named_inst step (insts_at d at) inst by)) r
  next_there step path at o below None by r = absurd r

  reached_there : (path : List (List ℕ)) (at : CellId) (o : Object) → IsCell d at → IsReached d at path o → IsThere d o
  reached_there [] at o is e = subst (IsThere d) (sym e) (inside_there d at is)
  reached_there (step ∷ path) at o is (inl e) = subst (IsThere d) (sym e) (inside_there d at is)
  reached_there (step ∷ path) at o is (inr e) =
      next_there step path at o (λ c there reached. reached_there path c o there reached) (inst_named step (insts_at d at)) refl e

  notes_there : (top : CellId) (notes : List Note) (o : Object) → IsCell d top → IsReachedBy d top notes o → IsThere d o
  notes_there top [] o is e = absurd e
  notes_there top (note ∷ notes) o is (inl e) = reached_there note.path top o is e
  notes_there top (note ∷ notes) o is (inr e) = notes_there top notes o is e

  all_notes_there : (cell : Option CellId) (top : Option TopHead) (o : Object) → ((t : TopHead) → top ≡ Some t → IsCell d t.cell) → IsForNotes d cell top o → IsThere d o
  all_notes_there None top o c e = absurd e
  all_notes_there (Some cell) None o c e = subst (IsThere d) (sym e) refl
  all_notes_there (Some cell) (Some top) o c (inl e) = subst (IsThere d) (sym e) refl
  all_notes_there (Some cell) (Some top) o c (inr e) = notes_there top.cell d.notes o (c top refl) e

  path_there : (top : Option TopHead) (path : List (List ℕ)) (o : Object) → ((t : TopHead) → top ≡ Some t → IsCell d t.cell) → IsForPath d top path o → IsThere d o
  path_there None path o c e = absurd e
  path_there (Some top) path o c (inl e) = subst (IsThere d) (sym e) refl
  path_there (Some top) path o c (inr e) = reached_there path top.cell o (c top refl) e

  top_notes_there : (top : Option TopHead) (o : Object) → IsNotesBelow top o → IsThere d o
  top_notes_there None o e = absurd e
  top_notes_there (Some top) o e = subst (IsThere d) (sym e) refl

  -- ---- copies

  each_there : (Cells : CellId → Type 0) (o : Object) → ((id : CellId) → Cells id → IsCell d id) → IsPartOfEach Cells o → IsThere d o
  each_there Cells o c (id, is, part) = part_there d id o (c id is) part

  blocks_there : (Cells : CellId → Type 0) (o : Object) → ((id : CellId) → Cells id → IsCell d id) → IsDirectoryOfBlock d Cells o → IsThere d o
  blocks_there Cells o c (id, is, block, e) = subst (IsThere d) (sym e) (lib_there d id (c id is))

  uniquify_there : (top : Option TopHead) (o : Object) → ((t : TopHead) → top ≡ Some t → IsCell d t.cell) → UniquifyNeedsBelow d top o → IsThere d o
  uniquify_there None o c e = absurd e
  uniquify_there (Some top) o c (inl e) = subst (IsThere d) (sym e) (inside_there d top.cell (c top refl))
  uniquify_there (Some top) o c (inr (inl e)) = each_there (λ id. IsBelow d id top.cell) o (λ id below. below_there below) e
  uniquify_there (Some top) o c (inr (inr e)) = blocks_there (λ id. IsBelow d id top.cell) o (λ id below. below_there below) e

  -- the cells at the ends of steps
  abbrev AreCells : List Occurrence → Type 0
  AreCells os = AllByRecursion (λ (o : Occurrence). IsCell d o.cell) os

  deeper_cells : (place : ℕ) (os : List Occurrence) → AreCells os → AreCells (map (under place) os)
  deeper_cells place [] a = tt
  deeper_cells place (o ∷ os) a = (a.0, deeper_cells place os a.1)

  inst_cells : (c : CellId) (path : List (List ℕ)) → ((k : CellId) → AreCells (steps_along d k path)) → (place : ℕ) (found : Option Inst) → slice_get (insts_at d c) place ≡ found
      → AreCells (option_map_or (λ (inst : Inst). map (under place) (root_of inst.of ∷ steps_along d inst.of path)) found [])
  inst_cells c path below place None e = tt
  inst_cells c path below place (Some inst) e =
      deeper_cells place (root_of inst.of ∷ steps_along d inst.of path) (closed c inst (inst_at (insts_at d c) (Some place) inst e), below inst.of)

  place_cells : (c : CellId) (path : List (List ℕ)) → ((k : CellId) → AreCells (steps_along d k path)) → (found : Option ℕ)
      → AreCells (option_map_or (λ place. option_map_or (λ (inst : Inst). map (under place) (root_of inst.of ∷ steps_along d inst.of path)) (slice_get (insts_at d c) place) []) found [])
  place_cells c path below None = tt
  place_cells c path below (Some place) = inst_cells c path below place (slice_get (insts_at d c) place) refl

  steps_are_cells : (path : List (List ℕ)) (c : CellId) → AreCells (steps_along d c path)
  steps_are_cells [] c = tt
  steps_are_cells (step ∷ path) c = place_cells c path (λ k. steps_are_cells path k) (inst_place step (insts_at d c))

  one_of_cells : (os : List Occurrence) (id : CellId) → AreCells os → Contains (map (λ (o : Occurrence). o.cell) os) id → IsCell d id
  one_of_cells [] id a m = absurd (omega (arith, m.1))
  one_of_cells (o ∷ os) id a m = elim (in_cases o.cell id (map (λ (x : Occurrence). x.cell) os) m) [
    | inl e ↦ subst (λ (c : CellId). IsCell d c) e a.0
    | inr later ↦ one_of_cells os id a.1 later
  ]

  unique_path_there : (top : Option TopHead) (path : List (List ℕ)) (o : Object) → ((t : TopHead) → top ≡ Some t → IsCell d t.cell) → UniquePathNeedsBelow d top path o → IsThere d o
  unique_path_there None path o c e = absurd e
  unique_path_there (Some top) path o c (inl e) = part_there d top.cell o (c top refl) e
  unique_path_there (Some top) path o c (inr (inl e)) =
      each_there (λ id. Contains (map (λ (step : Occurrence). step.cell) (steps_along d top.cell path)) id) o (λ id m. one_of_cells (steps_along d top.cell path) id (steps_are_cells path top.cell) m) e
  unique_path_there (Some top) path o c (inr (inr e)) =
      blocks_there (λ id. Contains (map (λ (step : Occurrence). step.cell) (steps_along d top.cell path)) id) o (λ id m. one_of_cells (steps_along d top.cell path) id (steps_are_cells path top.cell) m) e

  -- ---- the ends of a net

  in_contents : (cell : Option CellId) (i : Inst) → Contains (insts_in (option_and_then (contents_at d) cell)) i → IsCell d i.of
  in_contents None i m = absurd (omega (arith, m.1))
  in_contents (Some id) i m = closed id i (subst (λ (insts : List Inst). Contains insts i) (insts_found (cell_at d id)) m)

  end_inst_there : (cell : CellName) (end : End) (i : Inst) → inst_of_end (inside d cell) end ≡ Some i → IsCell d i.of
  end_inst_there cell end i is = in_contents (cell_named d cell) i (inst_at (insts_in (inside d cell)) end.inst i is)

  ends_there : (cell : CellName) (ends : List End) (o : Object) → IsAtEnd (inside d cell) ends o → IsThere d o
  ends_there cell [] o e = absurd e
  ends_there cell (end ∷ ends) o (inl e) = face_of_there (inst_of_end (inside d cell) end) o (λ i is. end_inst_there cell end i is) e
  ends_there cell (end ∷ ends) o (inr e) = ends_there cell ends o e

  -- ---- each operation

  module _ (top_there : (t : TopHead) → d.top ≡ Some t → IsCell d t.cell) where
    pub needed : (op : Op) (o : Object) → Needs d op o → IsThere d o
    needed (ShowCell cell) o e = by_name cell o e
    needed (ShowNet cell net) o (inl e) = by_name cell o e
    needed (ShowNet cell net) o (inr e) = ends_there cell (ends_of_net (inside d cell) net) o e
    needed (ShowInst cell inst) o e = by_name cell o e
    needed (AddCell cell leaf ports) o e = lib_found (lib_named d cell.lib) o (λ l is. named_lib_there d cell.lib l is) e
    needed (AddNet cell net) o e = by_name cell o e
    needed (DropNet cell net) o e = by_name cell o e
    needed (AddInst cell inst of) o (inl e) = name_there cell o e
    needed (AddInst cell inst of) o (inr (inl e)) = name_there of o e
    needed (AddInst cell inst of) o (inr (inr e)) = placing_there (cell_named d cell) (cell_named d of) o (λ id is. named_cell_there d cell id is) (λ id is. named_cell_there d of id is) e
    needed (DropInst cell inst) o (inl e) = by_name cell o e
    needed (DropInst cell inst) o (inr e) = all_notes_there (cell_named d cell) d.top o top_there e
    needed (Join cell net end) o (inl e) = by_name cell o e
    needed (Join cell net end) o (inr e) = end_there cell end.inst o e
    needed (Cut cell end) o (inl e) = by_name cell o e
    needed (Cut cell end) o (inr e) = end_there cell end.inst o e
    needed (SetProp cell target.Whole property) o e = name_there cell o e
    needed (SetProp cell (target.Inst inst) property) o e = by_name cell o e
    needed (SetProp cell (target.Net net) property) o e = by_name cell o e
    needed (SetNote path property) o e = path_there d.top path o top_there e
    needed (DropNote path key) o e = top_notes_there d.top o e
    needed Uniquify o e = uniquify_there d.top o top_there e
    needed (UniquePath path) o e = unique_path_there d.top path o top_there e
    needed (Ungroup cell inst) o (inl e) = by_name cell o e
    needed (Ungroup cell inst) o (inr (inl e)) = all_notes_there (cell_named d cell) d.top o top_there e
    needed (Ungroup cell inst) o (inr (inr e)) = inst_there (placed_inst d cell inst) o (λ i is. placed_there d cell inst i closed is) e

pub needs_are_there : NeedsAreThere
needs_are_there d op o valid e = needed d (valid_is_closed d valid) (λ t is. top_is_cell d t is valid) op o e
