-- Changes keep that each instance is of a cell of the design.
use Rattle.std.proofs.Common.{◌≡◌, ◌≢◌, ◌⊎◌, inl, inr, ⊎_elim, ℕ, zero, suc, ◌++◌, true, false, arith, List, [], ◌∷◌, Option, Some, None, refl, sym, ap, subst, ◌∙◌, slice_get}
use Rattle.std.proofs.lemmas.Bool.{cases_eq}
use Rattle.std.specs.Prelude.{IsSome}
use Rattle.std.specs.List.{All, AllByRecursion, Contains}
use Rattle.std.specs.Option.{option_map, option_map_or}
use Rattle.std.proofs.lemmas.List.Elements.{All-from_recursion}
use Rattle.netlist_schema.specs.Design.{Design, lib_at, cell_at, insts_in, insts_of}
use Rattle.netlist_schema.specs.Hierarchy.{HasInst, IsCell}
use Rattle.netlist_schema.specs.Types.{CellBody, CellId, Contents, Inst, Lib, LibId, Property}
use Rattle.netlist_schema.specs.Valid.{IsValid}
use Rattle.netlist_schema.proofs.Cells.{cell_of_inst}
use Rattle.edit_rules_spec.specs.Edit.{PlacesOld, AllPlaceOld, Edit, fresh, inner, own, noted, edited, edited_once, with_more_cell, lib_with_more, with_contents, with_properties}
use Rattle.edit_rules_spec.specs.Objects.{IsClosed, outside_of}
use Rattle.netlist_schema.proofs.WithCell.{cases_cell}
use Rattle.edit_rules_spec.proofs.Edits.{cells_of, more_same, more_other, once_alike, cell_at-changed_same, cell_at-changed_other}

pub valid_is_closed : (d : Design) → IsValid d → IsClosed d
valid_is_closed d valid id inst has =
    let found = cell_of_inst d id inst has in
    subst (λ (i : Inst). IsCell d i.of) found.2.2 ((valid.cells id found.0 found.1).placed found.2.0 inst found.2.1)

-- a longer list has the same items at the places of the shorter
kept_in_longer : {X : Type 0} (xs : List X) (y : X) (k : ℕ) (x : X) → slice_get xs k ≡ Some x → slice_get (xs ++ y ∷ []) k ≡ Some x
kept_in_longer [] y k x is = cc
kept_in_longer (z ∷ xs) y zero x is = is
kept_in_longer (z ∷ xs) y (suc k) x is = kept_in_longer xs y k x is

old_or_last : {X : Type 0} (xs : List X) (y : X) (k : ℕ) (x : X) → slice_get (xs ++ y ∷ []) k ≡ Some x → (slice_get xs k ≡ Some x) ⊎ (x ≡ y)
old_or_last [] y zero x is = inr (cc)
old_or_last [] y (suc k) x is = cc
old_or_last (z ∷ xs) y zero x is = inl is
old_or_last (z ∷ xs) y (suc k) x is = old_or_last xs y k x is

kept_in_lib : (body : CellBody) (o : Option Lib) (slot : ℕ) (old : CellBody) → slice_get (cells_of o) slot ≡ Some old → slice_get (cells_of (option_map (lib_with_more body) o)) slot ≡ Some old
kept_in_lib body None slot old is = is
kept_in_lib body (Some lib) slot old is = kept_in_longer lib.cells body slot old is

old_in_lib : (body : CellBody) (o : Option Lib) (slot : ℕ) (found : CellBody) → slice_get (cells_of (option_map (lib_with_more body) o)) slot ≡ Some found → (slice_get (cells_of o) slot ≡ Some found) ⊎ (found ≡ body)
old_in_lib body None slot found is = inl is
old_in_lib body (Some lib) slot found is = old_or_last lib.cells body slot found is

-- a cell that is there stays where one more comes
pub kept_with_more : (d : Design) (lib : LibId) (body : CellBody) (id : CellId) (old : CellBody) → cell_at d id ≡ Some old → cell_at (with_more_cell d lib body) id ≡ Some old
kept_with_more d lib body id old is =
    ⊎_elim
    (λ (same : id.lib.0 ≡ lib.0). ap (λ (o : Option Lib). slice_get (cells_of o) id.slot) (more_same d lib body id.lib same) ∙ kept_in_lib body (lib_at d id.lib) id.slot old is)
    (λ (apart : id.lib.0 ≢ lib.0). ap (λ (o : Option Lib). slice_get (cells_of o) id.slot) (more_other d lib body id.lib apart) ∙ is)
    (cases_eq id.lib.0 lib.0)

pub old_or_new : (d : Design) (lib : LibId) (body : CellBody) (id : CellId) (found : CellBody) → cell_at (with_more_cell d lib body) id ≡ Some found → (cell_at d id ≡ Some found) ⊎ (found ≡ body)
old_or_new d lib body id found is =
    ⊎_elim
    (λ (same : id.lib.0 ≡ lib.0). old_in_lib body (lib_at d id.lib) id.slot found (sym (ap (λ (o : Option Lib). slice_get (cells_of o) id.slot) (more_same d lib body id.lib same)) ∙ is))
    (λ (apart : id.lib.0 ≢ lib.0). inl (sym (ap (λ (o : Option Lib). slice_get (cells_of o) id.slot) (more_other d lib body id.lib apart)) ∙ is))
    (cases_eq id.lib.0 lib.0)

-- and a new one is in the library to which it was added
pub old_or_new_here : (d : Design) (lib : LibId) (body : CellBody) (id : CellId) (found : CellBody) → cell_at (with_more_cell d lib body) id ≡ Some found → (cell_at d id ≡ Some found) ⊎ ((found ≡ body) × (id.lib.0 ≡ lib.0))
old_or_new_here d lib body id found is =
    ⊎_elim
    (λ (same : id.lib.0 ≡ lib.0). ⊎_elim
    (λ (old : cell_at d id ≡ Some found). inl old)
    (λ (new : found ≡ body). inr (new, same))
    (old_or_new d lib body id found is))
    (λ (apart : id.lib.0 ≢ lib.0). inl (sym (ap (λ (o : Option Lib). slice_get (cells_of o) id.slot) (more_other d lib body id.lib apart)) ∙ is))
    (cases_eq id.lib.0 lib.0)

pub some_cell : (o : Option CellBody) → IsSome o → (body : CellBody) × (o ≡ Some body)
some_cell None is = let never : false ≡ true = is in cc
some_cell (Some body) is = (body, refl)

pub is_cell_found : (d : Design) (id : CellId) (body : CellBody) → cell_at d id ≡ Some body → IsCell d id
is_cell_found d id body found = subst (λ (o : Option CellBody). IsSome o) (sym found) refl

pub some_of_outside : (o p : Option CellBody) → option_map outside_of o ≡ option_map outside_of p → IsSome p → IsSome o
some_of_outside None None same is = is
some_of_outside None (Some b) same is = cc
some_of_outside (Some a) p same is = refl

-- no cell goes
pub is_cell_after : (edit : Edit) (d : Design) (id : CellId) → IsCell d id → IsCell (edited_once d edit) id
is_cell_after (fresh new body) d id is =
    let old = some_cell (cell_at d id) is in
    is_cell_found (with_more_cell d new.lib body) id old.0 (kept_with_more d new.lib body id old.0 old.1)
is_cell_after (inner at contents) d id is = some_of_outside (cell_at (edited_once d (inner at contents)) id) (cell_at d id) ((once_alike d (inner at contents) tt).outside id) is
is_cell_after (own at properties) d id is = some_of_outside (cell_at (edited_once d (own at properties)) id) (cell_at d id) ((once_alike d (own at properties) tt).outside id) is
is_cell_after (noted notes) d id is = is

pub has_inst : (d : Design) (id : CellId) (body : CellBody) (inst : Inst) → cell_at d id ≡ Some body → Contains (insts_of body) inst → HasInst d id inst
has_inst d id body inst found has = subst (λ (o : Option CellBody). Contains (option_map_or insts_of o []) inst) (sym found) has

pub changed_body : (f : CellBody → CellBody) (o : Option CellBody) (found : CellBody) → option_map f o ≡ Some found → (old : CellBody) × (o ≡ Some old) × (found ≡ f old)
changed_body f None found is = cc
changed_body f (Some old) found is = (old, refl, cc)

pub All-contained : {X : Type 0} (P : X → Type 0) (xs : List X) (x : X) → All P xs → Contains xs x → P x
All-contained P xs x all has = subst P has.2 (all has.0 x has.1)

-- other contents are inside where anything is
pub from_inside : (contents : Contents) (o : Option Contents) (inst : Inst) → Contains (insts_in (option_map (λ _. contents) o)) inst → Contains contents.insts inst
from_inside contents None inst has = let never : Contains {X = Inst} [] inst = has in absurd (omega (arith, never.1))
from_inside contents (Some old) inst has = has

inner_placed : (d : Design) (id : CellId) (contents : Contents) (other : CellId) (inst : Inst) → All (λ i. IsCell d i.of) contents.insts → IsClosed d → HasInst (edited_once d (inner id contents)) other inst → IsCell d inst.of
inner_placed d id contents other inst old closed has =
    let e = edited_once d (inner id contents) in
    let found = cell_of_inst e other inst has in
    ⊎_elim
    (λ (at : other ≡ id).
    let here : cell_at e id ≡ Some found.0 = subst (λ (c : CellId). cell_at e c ≡ Some found.0) at found.1 in
    let changed = changed_body (with_contents contents) (cell_at d id) found.0 (sym (cell_at-changed_same d id (with_contents contents)) ∙ here) in
    All-contained (λ (i : Inst). IsCell d i.of) contents.insts inst old (from_inside contents changed.0.contents inst (subst (λ (b : CellBody). Contains (insts_of b) inst) changed.2 found.2)))
    (λ (apart : other ≢ id). closed other inst (has_inst d other found.0 inst (sym (cell_at-changed_other d id (with_contents contents) other apart) ∙ found.1) found.2))
    (cases_cell other id)

own_placed : (d : Design) (id : CellId) (properties : List Property) (other : CellId) (inst : Inst) → IsClosed d → HasInst (edited_once d (own id properties)) other inst → IsCell d inst.of
own_placed d id properties other inst closed has =
    let e = edited_once d (own id properties) in
    let found = cell_of_inst e other inst has in
    ⊎_elim
    (λ (at : other ≡ id).
    let here : cell_at e id ≡ Some found.0 = subst (λ (c : CellId). cell_at e c ≡ Some found.0) at found.1 in
    let changed = changed_body (with_properties properties) (cell_at d id) found.0 (sym (cell_at-changed_same d id (with_properties properties)) ∙ here) in
    closed id inst (has_inst d id changed.0 inst changed.1 (subst (λ (b : CellBody). Contains (insts_of b) inst) changed.2 found.2)))
    (λ (apart : other ≢ id). closed other inst (has_inst d other found.0 inst (sym (cell_at-changed_other d id (with_properties properties) other apart) ∙ found.1) found.2))
    (cases_cell other id)

pub more_placed : (d : Design) (lib : LibId) (body : CellBody) (other : CellId) (inst : Inst) → All (λ i. IsCell d i.of) (insts_of body) → IsClosed d → HasInst (with_more_cell d lib body) other inst → IsCell d inst.of
more_placed d lib body other inst old closed has =
    let found = cell_of_inst (with_more_cell d lib body) other inst has in
    ⊎_elim
    (λ (was : cell_at d other ≡ Some found.0). closed other inst (has_inst d other found.0 inst was found.2))
    (λ (new : found.0 ≡ body). All-contained (λ (i : Inst). IsCell d i.of) (insts_of body) inst old (subst (λ (b : CellBody). Contains (insts_of b) inst) new found.2))
    (old_or_new d lib body other found.0 found.1)

once_closed : (edit : Edit) (d : Design) → PlacesOld d edit → IsClosed d → IsClosed (edited_once d edit)
once_closed (fresh id body) d old closed other inst has = is_cell_after (fresh id body) d inst.of (more_placed d id.lib body other inst old closed has)
once_closed (inner id contents) d old closed other inst has = is_cell_after (inner id contents) d inst.of (inner_placed d id contents other inst old closed has)
once_closed (own id properties) d old closed other inst has = is_cell_after (own id properties) d inst.of (own_placed d id properties other inst closed has)
once_closed (noted notes) d old closed other inst has = closed other inst has

pub edited_closed : (edits : List Edit) (d : Design) → AllPlaceOld d edits → IsClosed d → IsClosed (edited d edits)
edited_closed [] d old closed = closed
edited_closed (edit ∷ edits) d old closed = edited_closed edits (edited_once d edit) old.1 (once_closed edit d old.0 closed)

-- the instances that are there
each_contained : {X : Type 0} (P : X → Type 0) (xs : List X) → ((x : X) → Contains xs x → P x) → AllByRecursion P xs
each_contained P [] holds = tt
each_contained {X} P (x ∷ xs) holds = (holds x (0, omega arith, refl), each_contained P xs (λ y has. holds y (suc has.0, omega (arith, has.1), has.2)))

pub All-from_contained : {X : Type 0} (P : X → Type 0) (xs : List X) → ((x : X) → Contains xs x → P x) → All P xs
All-from_contained P xs holds = All-from_recursion P xs (each_contained P xs holds)
