-- What operations read is there, or they read the directory of a cell that is not.
use Rattle.std.proofs.Common.{◌≡◌, ◌∙◌, ℕ, zero, suc, List, [], ◌∷◌, Option, Some, None, IsSome, inl, inr, ⊎_elim, refl, map, ◌⊎◌}
use Rattle.std.specs.Prelude.{option_map, slice_get}
use Rattle.std.specs.Option.{option_map_or}
use Rattle.netlist_schema.specs.Design.{Design, cell_at, lib_at}
use Rattle.netlist_schema.specs.Hierarchy.{IsCell}
use Rattle.netlist_schema.specs.Names.{cell_names}
use Rattle.netlist_schema.specs.Types.{CellBody, CellId, Lib, LibId, Object, TopHead}
use Rattle.netlist_schema.specs.declared.ids.Object.TheVariants.{Directory, Interface, Contents, Notes}
use Rattle.edit_rules_spec.specs.Edit.{Edit, fresh, inner, own, noted, IsChanged, IsMade}
use Rattle.edit_rules_spec.specs.Rule.{first, unless}
use Rattle.edit_rules_spec.specs.declared.reply.Reply.{Reply}
use Rattle.edit_rules_spec.specs.Objects.{Agrees, Grown, IsClosed, IsThere, face_of, of_contents, of_directory, of_interface}
use Rattle.edit_rules_spec.proofs.There.{there_stays, some_from_map}
use Rattle.edit_spec.specs.Needs.{Needs, Reads, Writes, Written}
use Rattle.edit_spec.specs.Rows.{row_of}
use Rattle.edit_spec.specs.Step.{step}
use Rattle.edit_spec.specs.declared.ops.Op.{Op}
use Rattle.edit_spec.proofs.Framed.{step_closed, step_is_grown}
use Rattle.edit_spec.proofs.Local.{local}
use Rattle.edit_spec.proofs.Overlaid.{run_stays, written_told}
use Rattle.db_spec.proofs.Needed.{face_there, needed}

-- ---- a cell, by the names in its library's directory

same_count : (xs ys : List CellBody) (k : ℕ) → cell_names xs ≡ cell_names ys → IsSome (slice_get ys k) → IsSome (slice_get xs k)
same_count [] [] k e is = is
same_count [] (y ∷ ys) k e is = cc
same_count (x ∷ xs) [] k e is = cc
same_count (x ∷ xs) (y ∷ ys) zero e is = refl
same_count (x ∷ xs) (y ∷ ys) (suc k) e is = let rest : cell_names xs ≡ cell_names ys = cc in same_count xs ys k rest is

by_names : (old new : Option Lib) (k : ℕ) → option_map (λ (l : Lib). cell_names l.cells) old ≡ option_map (λ (l : Lib). cell_names l.cells) new
    → IsSome (slice_get (option_map_or (λ (l : Lib). l.cells) new []) k) → IsSome (slice_get (option_map_or (λ (l : Lib). l.cells) old []) k)
by_names None None k e is = is
by_names None (Some new) k e is = cc
by_names (Some old) None k e is = cc
by_names (Some old) (Some new) k e is = let same : cell_names old.cells ≡ cell_names new.cells = cc in same_count old.cells new.cells k same is

-- where the directory stays, a cell that is there was there
pub was_there : (d e : Design) (id : CellId) → Agrees d e (Directory id.lib) → IsCell e id → IsCell d id
was_there d e id same is = by_names (lib_at d id.lib) (lib_at e id.lib) id.slot same is

-- ---- operations

-- what the object is of, where it is of a cell
abbrev pub IsReadPart : Design → List Op → Object → Type 0
IsReadPart d ops (Directory lib) = IsThere d (Directory lib)
IsReadPart d ops (Interface id) = IsCell d id ⊎ Reads d ops (Directory id.lib)
IsReadPart d ops (Contents id) = IsCell d id ⊎ Reads d ops (Directory id.lib)
IsReadPart d ops Notes = Unit {0}

-- the cell of an object that is there
pub cell_of_face : (d : Design) (id : CellId) → IsThere d (Interface id) → IsCell d id
cell_of_face d id is = some_from_map face_of (cell_at d id) (some_from_map of_interface (option_map face_of (cell_at d id)) is)

pub cell_of_inside : (d : Design) (id : CellId) → IsThere d (Contents id) → IsCell d id
cell_of_inside d id is = some_from_map (λ (b : CellBody). b.contents) (cell_at d id) (some_from_map of_contents (option_map (λ (b : CellBody). b.contents) (cell_at d id)) is)

-- an object that is there
there_part : (d : Design) (ops : List Op) (o : Object) → IsThere d o → IsReadPart d ops o
there_part d ops (Directory lib) is = is
there_part d ops (Interface id) is = inl (cell_of_face d id is)
there_part d ops (Contents id) is = inl (cell_of_inside d id is)
there_part d ops Notes is = tt

-- a directory is made by no change
made_no_directory : (edits : List Edit) (lib : LibId) → IsMade edits (Directory lib) → ⊥
made_no_directory [] lib m = m
made_no_directory (fresh id body ∷ edits) lib (inl (inl e)) = cc
made_no_directory (fresh id body ∷ edits) lib (inl (inr e)) = cc
made_no_directory (inner id contents ∷ edits) lib (inl m) = m
made_no_directory (own id properties ∷ edits) lib (inl m) = m
made_no_directory (noted notes ∷ edits) lib (inl m) = m
made_no_directory (edit ∷ edits) lib (inr m) = made_no_directory edits lib m

-- what an operation changes is changed by its row
by_row : (refused : Option Reply) (reply : Reply) (edits : List Edit) (o : Object) → IsChanged (unless refused reply edits).edits o → IsChanged edits o
by_row None reply edits o m = m
by_row (Some refusal) reply edits o m = absurd m

-- the directory of a new cell is needed
directory_needed : (d : Design) (op : Op) (lib : LibId) → Writes d op (Directory lib) → Needs d op (Directory lib)
directory_needed d op lib w =
    let edits : List Edit = (row_of d op).edits in
    let changed : IsChanged edits (Directory lib) = by_row (first (row_of d op).refusals) (row_of d op).reply edits (Directory lib) w in
    ⊎_elim (λ (needs : Needs d op (Directory lib)). needs) (λ (m : IsMade edits (Directory lib)). absurd (made_no_directory edits lib m)) ((local op).writes_seen d (Directory lib) changed)

-- the cell was there, or the operation that made it read the directory
cell_or_directory : (d : Design) (op : Op) (id : CellId) → IsCell (step d op).design id → IsCell d id ⊎ Needs d op (Directory id.lib)
cell_or_directory d op id is = ⊎_elim
    (λ (written : Written d (op ∷ []) (Directory id.lib)). inr (wrote written))
    (λ (free : ¬ Written d (op ∷ []) (Directory id.lib)). inl (was_there d (step d op).design id (run_stays (op ∷ []) d (Directory id.lib) free) is))
    (written_told (op ∷ []) d (Directory id.lib))
  where
    wrote : Written d (op ∷ []) (Directory id.lib) → Needs d op (Directory id.lib)
    wrote (inl w) = directory_needed d op id.lib w
    wrote (inr w) = absurd w

-- as seen before an operation
cell_before : (d : Design) (op : Op) (ops : List Op) (id : CellId) → IsCell (step d op).design id ⊎ Reads (step d op).design ops (Directory id.lib)
    → IsCell d id ⊎ Reads d (op ∷ ops) (Directory id.lib)
cell_before d op ops id (inr reads) = inr (inr reads)
cell_before d op ops id (inl is) = later (cell_or_directory d op id is)
  where
    later : IsCell d id ⊎ Needs d op (Directory id.lib) → IsCell d id ⊎ Reads d (op ∷ ops) (Directory id.lib)
    later (inl here) = inl here
    later (inr needs) = inr (inl needs)

-- a library stays
lib_before : (d e : Design) (lib : LibId) → Grown d e → IsThere e (Directory lib) → IsThere d (Directory lib)
lib_before d e lib g is = has_lib d.libs e.libs lib.0 g.libs is
  where
    has_lib : (xs ys : List Lib) (k : ℕ) → map (λ (lib : Lib). lib.head) xs ≡ map (λ (lib : Lib). lib.head) ys
        → IsSome (option_map (λ (l : Lib). of_directory (cell_names l.cells)) (slice_get ys k)) → IsSome (option_map (λ (l : Lib). of_directory (cell_names l.cells)) (slice_get xs k))
    has_lib [] [] k e is = is
    has_lib [] (y ∷ ys) k e is = cc
    has_lib (x ∷ xs) [] k e is = cc
    has_lib (x ∷ xs) (y ∷ ys) zero e is = refl
    has_lib (x ∷ xs) (y ∷ ys) (suc k) e is = let rest : map (λ (lib : Lib). lib.head) xs ≡ map (λ (lib : Lib). lib.head) ys = cc in has_lib xs ys k rest is

part_before : (d : Design) (op : Op) (ops : List Op) (o : Object) → IsReadPart (step d op).design ops o → IsReadPart d (op ∷ ops) o
part_before d op ops (Directory lib) is = lib_before d (step d op).design lib (step_is_grown d op) is
part_before d op ops (Interface id) is = cell_before d op ops id is
part_before d op ops (Contents id) is = cell_before d op ops id is
part_before d op ops Notes is = tt

-- the top's cell is there
abbrev TopIsThere : Design → Type 0
TopIsThere d = (t : TopHead) → d.top ≡ Some t → IsCell d t.cell

cell_stays : (d e : Design) (id : CellId) → Grown d e → IsCell d id → IsCell e id
cell_stays d e id g is = cell_of_face e id (there_stays d e (Interface id) g (face_there d id is))

pub read_part : (ops : List Op) (d : Design) (o : Object) → IsClosed d → TopIsThere d → Reads d ops o → IsReadPart d ops o
read_part [] d o closed top e = absurd e
read_part (op ∷ ops) d o closed top (inl needs) = there_part d (op ∷ ops) o (needed d closed top op o needs)
read_part (op ∷ ops) d o closed top (inr reads) =
    let g = step_is_grown d op in
    part_before d op ops o (read_part ops (step d op).design o (step_closed d op closed)
    (λ t is. cell_stays d (step d op).design t.cell g (top t (g.top ∙ is))) reads)
