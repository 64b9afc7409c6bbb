-- What a change writes is there afterwards.
use Rattle.std.proofs.Common.{◌≡◌, ◌⊎◌, ⊎_elim, ℕ, zero, suc, List, [], ◌∷◌, map, Option, Some, None, refl, sym, ap, subst, slice_get}
use Rattle.std.specs.Prelude.{IsSome}
use Rattle.std.specs.Option.{option_map}
use Rattle.netlist_schema.specs.Design.{Design, lib_at, cell_at}
use Rattle.netlist_schema.specs.Hierarchy.{IsCell}
use Rattle.netlist_schema.specs.Names.{lib_names}
use Rattle.netlist_schema.specs.Types.{CellBody, CellId, Lib, LibHead, LibId, Object}
use Rattle.netlist_schema.specs.declared.ids.Object.TheVariants.{Directory, Interface, Contents, Notes}
use Rattle.edit_rules_spec.specs.Edit.{Edit, fresh, inner, own, noted, edited, edited_once, with_more_cell, lib_with_more, IsChanged, IsChangedBy, AllGoLast, FindsOld, AllFindOld}
use Rattle.edit_rules_spec.specs.Find.{lib_named, cell_named, place_of}
use Rattle.edit_rules_spec.specs.Objects.{Grown, IsThere, Outside, outside_of, outside_at, of_interface, of_contents, face_of, face_object, contents_object}
use Rattle.edit_rules_spec.specs.declared.reply.CellName.{CellName}
use Rattle.edit_rules_spec.proofs.Closed.{is_cell_after, is_cell_found, some_cell}
use Rattle.edit_rules_spec.proofs.Edits.{directory_of, more_same, new_cell_at}
use Rattle.edit_rules_spec.proofs.Growing.{edited_is_grown}
use Rattle.edit_rules_spec.proofs.Named.{cell_there, found_at}

-- ---- what is there stays there

pub some_map : {X Y : Type 0} (f : X → Y) (o : Option X) → IsSome o → IsSome (option_map f o)
some_map f None is = is
some_map f (Some x) is = refl

pub some_from_map : {X Y : Type 0} (f : X → Y) (o : Option X) → IsSome (option_map f o) → IsSome o
some_from_map f None is = is
some_from_map f (Some x) is = refl

-- a library is there where its head is
head_there : (libs : List Lib) (k : ℕ) → IsSome (slice_get libs k) → IsSome (slice_get (map (λ lib. lib.head) libs) k)
head_there [] k is = is
head_there (lib ∷ libs) zero is = refl
head_there (lib ∷ libs) (suc k) is = head_there libs k is

there_by_head : (libs : List Lib) (k : ℕ) → IsSome (slice_get (map (λ lib. lib.head) libs) k) → IsSome (slice_get libs k)
there_by_head [] k is = is
there_by_head (lib ∷ libs) zero is = refl
there_by_head (lib ∷ libs) (suc k) is = there_by_head libs k is

lib_stays : (d e : Design) (lib : LibId) → Grown d e → IsSome (lib_at d lib) → IsSome (lib_at e lib)
lib_stays d e lib grown is =
    there_by_head e.libs lib.0 (subst (λ (heads : List LibHead). IsSome (slice_get heads lib.0)) grown.libs (head_there d.libs lib.0 is))

cell_stays : (d e : Design) (id : CellId) → Grown d e → IsCell d id → IsCell e id
cell_stays d e id grown is =
    let body = some_cell (cell_at d id) is in
    let outside : outside_at d id ≡ Some (outside_of body.0) = ap (option_map outside_of) body.1 in
    some_from_map outside_of (cell_at e id) (subst (λ (o : Option Outside). IsSome o) (sym (grown.cells id (outside_of body.0) outside)) refl)

pub there_stays : (d e : Design) (o : Object) → Grown d e → IsThere d o → IsThere e o
there_stays d e (Directory lib) grown is = some_map _ (lib_at e lib) (lib_stays d e lib grown (some_from_map _ (lib_at d lib) is))
there_stays d e (Interface id) grown is =
    some_map of_interface _ (some_map face_of (cell_at e id) (cell_stays d e id grown (some_from_map face_of (cell_at d id) (some_from_map of_interface _ is))))
there_stays d e (Contents id) grown is =
    some_map of_contents _ (some_map (λ (b : CellBody). b.contents) (cell_at e id) (cell_stays d e id grown (some_from_map (λ (b : CellBody). b.contents) (cell_at d id) (some_from_map of_contents _ is))))
there_stays d e Notes grown is = refl

-- ---- what a change writes

face_there : (d : Design) (id : CellId) → IsCell d id → IsThere d (face_object id)
face_there d id is = some_map of_interface _ (some_map face_of (cell_at d id) is)

contents_there : (d : Design) (id : CellId) → IsCell d id → IsThere d (contents_object id)
contents_there d id is = some_map of_contents _ (some_map (λ (b : CellBody). b.contents) (cell_at d id) is)

some_lib : (body : CellBody) (o : Option Lib) → IsSome o → IsSome (option_map (λ (_ : List (List ℕ)). body) (directory_of o))
some_lib body None is = is
some_lib body (Some lib) is = refl

-- a new cell is there where its library was
pub new_cell_there : (d : Design) (id : CellId) (body : CellBody) → AllGoLast d (fresh id body ∷ []) → IsSome (lib_at d id.lib) → IsCell (with_more_cell d id.lib body) id
new_cell_there d id body last is = subst (λ (o : Option CellBody). IsSome o) (sym (new_cell_at d id body last.0)) (some_lib body (lib_at d id.lib) is)

once_there : (edit : Edit) (d : Design) (o : Object) → AllGoLast d (edit ∷ []) → FindsOld d edit → IsChangedBy edit o → IsThere (edited_once d edit) o
once_there (fresh id body) d o last finds is =
    let after : Object → Type 0 = λ ob. IsThere (with_more_cell d id.lib body) ob in
    let cell = new_cell_there d id body last finds in
    let lib : IsSome (lib_at (with_more_cell d id.lib body) id.lib) =
    subst (λ (x : Option Lib). IsSome x) (sym (more_same d id.lib body id.lib refl)) (some_map (lib_with_more body) (lib_at d id.lib) finds) in
    ⊎_elim
    (λ (directory : o ≡ Directory id.lib). subst after (sym directory) (some_map _ (lib_at (with_more_cell d id.lib body) id.lib) lib))
    (λ (part : (o ≡ face_object id) ⊎ (o ≡ contents_object id)). ⊎_elim
    (λ (face : o ≡ face_object id). subst after (sym face) (face_there (with_more_cell d id.lib body) id cell))
    (λ (contents : o ≡ contents_object id). subst after (sym contents) (contents_there (with_more_cell d id.lib body) id cell))
    part)
    is
once_there (inner id contents) d o last finds is =
    subst (λ (ob : Object). IsThere (edited_once d (inner id contents)) ob) (sym is) (contents_there (edited_once d (inner id contents)) id (is_cell_after (inner id contents) d id finds))
once_there (own id properties) d o last finds is =
    subst (λ (ob : Object). IsThere (edited_once d (own id properties)) ob) (sym is) (face_there (edited_once d (own id properties)) id (is_cell_after (own id properties) d id finds))
once_there (noted notes) d o last finds is = subst (λ (ob : Object). IsThere (edited_once d (noted notes)) ob) (sym is) refl

pub edits_there : (edits : List Edit) (d : Design) (o : Object) → AllGoLast d edits → AllFindOld d edits → IsChanged edits o → IsThere (edited d edits) o
edits_there [] d o last finds is = absurd is
edits_there (edit ∷ edits) d o last finds is =
    let next = edited_once d edit in
    ⊎_elim
    (λ (here : IsChangedBy edit o). there_stays next (edited next edits) o (edited_is_grown edits next) (once_there edit d o (last.0, tt) finds.0 here))
    (λ (later : IsChanged edits o). edits_there edits next o last.1 finds.1 later)
    is

-- ---- what is found by its name is there

pub named_cell_there : (d : Design) (name : CellName) (id : CellId) → cell_named d name ≡ Some id → IsCell d id
named_cell_there d name id is = let found = cell_there d name id is in is_cell_found d id found.0 found.1

lib_at_place : (d : Design) (name : List ℕ) (place : Option ℕ) (lib : LibId) → place_of name (lib_names d.libs) ≡ place → option_map (λ k. let l : LibId = record { 0 = k } in l) place ≡ Some lib → IsSome (lib_at d lib)
lib_at_place d name None lib found is = cc
lib_at_place d name (Some k) lib found is =
    let item = found_at (λ (l : Lib). l.head.name.id) name d.libs k found in
    let same : ◌≡◌ {A = LibId} (record { 0 = k }) lib = cc in
    subst (λ (l : LibId). IsSome (lib_at d l)) same (subst (λ (o : Option Lib). IsSome o) (sym item.1) refl)

pub named_lib_there : (d : Design) (name : List ℕ) (lib : LibId) → lib_named d name ≡ Some lib → IsSome (lib_at d lib)
named_lib_there d name lib is = lib_at_place d name (place_of name (lib_names d.libs)) lib refl is
