-- Objects determine a design.
use Rattle.std.proofs.Common.{◌≡◌, ◌⊎◌, ⊎_elim, ℕ, suc, List, [], ◌∷◌, map, Option, Some, None, refl, sym, ap, ◌∙◌, slice_get}
use Rattle.std.specs.Option.{option_map, option_map_or}
use Rattle.netlist_schema.specs.Design.{Design, cell_at, cells_in}
use Rattle.netlist_schema.specs.Types.{CellBody, CellId, Lib, LibId, Object}
use Rattle.netlist_schema.specs.declared.ids.Object.TheVariants.{Directory, Interface, Contents, Notes}
use Rattle.edit_rules_spec.specs.Objects.{Agrees, face_of, face_object, contents_object}
use Rattle.edit_rules_spec.specs.Overlay.{HasSameHeads, IsOverlaid}
use Rattle.edit_rules_spec.proofs.Edits.{Agrees-trans}

pub list_ext : {X : Type 0} (xs ys : List X) → ((k : ℕ) → slice_get xs k ≡ slice_get ys k) → xs ≡ ys
list_ext [] [] same = refl
list_ext [] (y ∷ ys) same = let never : None ≡ Some y = same 0 in cc
list_ext (x ∷ xs) [] same = let never : Some x ≡ None = same 0 in cc
list_ext (x ∷ xs) (y ∷ ys) same =
    let head : Some x ≡ Some y = same 0 in
    let here : x ≡ y = cc in
    let rest : xs ≡ ys = list_ext xs ys (λ k. same (suc k)) in
    λ i. here i ∷ rest i

libs_same : (xs ys : List Lib) → map (λ lib. lib.head) xs ≡ map (λ lib. lib.head) ys → ((k : ℕ) → option_map_or (λ lib. lib.cells) (slice_get xs k) [] ≡ option_map_or (λ lib. lib.cells) (slice_get ys k) []) → xs ≡ ys
libs_same [] [] heads cells = refl
libs_same [] (y ∷ ys) heads cells = cc
libs_same (x ∷ xs) [] heads cells = cc
libs_same (x ∷ xs) (y ∷ ys) heads cells =
    let head : x.head ≡ y.head = cc in
    let more : map (λ (lib : Lib). lib.head) xs ≡ map (λ (lib : Lib). lib.head) ys = cc in
    let here : x.cells ≡ y.cells = cells 0 in
    let rest : xs ≡ ys = libs_same xs ys more (λ k. cells (suc k)) in
    λ i. record { head = head i; cells = here i } ∷ rest i

-- a cell is its outside and its inside
body_by_parts : (a b : CellBody) → face_of a ≡ face_of b → a.contents ≡ b.contents → a ≡ b
body_by_parts a b face contents = λ i. record (face i) { contents = contents i }

cell_by_objects : (o p : Option CellBody) → option_map face_of o ≡ option_map face_of p → option_map (λ body. body.contents) o ≡ option_map (λ body. body.contents) p → o ≡ p
cell_by_objects None None face contents = refl
cell_by_objects None (Some b) face contents = cc
cell_by_objects (Some a) None face contents = cc
cell_by_objects (Some a) (Some b) face contents =
    let faces : face_of a ≡ face_of b = cc in
    let inside : a.contents ≡ b.contents = cc in
    ap (λ (body : CellBody). Some body) (body_by_parts a b faces inside)

pub design_by_objects : (d e : Design) → HasSameHeads d e → ((o : Object) → Agrees d e o) → d ≡ e
design_by_objects d e heads agree =
    let cell : (id : CellId) → cell_at d id ≡ cell_at e id = λ id. cell_by_objects (cell_at d id) (cell_at e id) (agree (face_object id)) (agree (contents_object id)) in
    let cells : (lib : LibId) → cells_in d lib ≡ cells_in e lib = λ lib. list_ext (cells_in d lib) (cells_in e lib) (λ k. cell (record { lib = lib; slot = k })) in
    let libs : d.libs ≡ e.libs = libs_same d.libs e.libs heads.libs (λ k. cells (record { 0 = k })) in
    λ i. record { title = heads.title i; libs = libs i; top = heads.top i; notes = agree Notes i }

Agrees-sym : (d e : Design) (o : Object) → Agrees d e o → Agrees e d o
Agrees-sym d e (Directory lib) is = sym is
Agrees-sym d e (Interface id) is = sym is
Agrees-sym d e (Contents id) is = sym is
Agrees-sym d e Notes is = sym is

pub one_overlay : (base over a b : Design) (P : Object → Type 0) → ((o : Object) → P o ⊎ (¬ P o)) → IsOverlaid base over P a → IsOverlaid base over P b → a ≡ b
one_overlay base over a b P decides x y =
    design_by_objects a b
    (record { title = sym x.heads.title ∙ y.heads.title; libs = sym x.heads.libs ∙ y.heads.libs; top = sym x.heads.top ∙ y.heads.top })
    (λ o. ⊎_elim
    (λ (is : P o). Agrees-trans a over b o (Agrees-sym over a o (x.laid o is)) (y.laid o is))
    (λ (no : ¬ P o). Agrees-trans a base b o (Agrees-sym base a o (x.others o no)) (y.others o no))
    (decides o))
