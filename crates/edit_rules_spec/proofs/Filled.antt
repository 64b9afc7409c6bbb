-- Other contents of a cell: a leaf stays as it is, and any other cell gets them.
use Rattle.std.proofs.Common.{◌≡◌, ℕ, zero, suc, List, [], ◌∷◌, Option, Some, None, refl, sym, ap, subst, ◌∙◌, slice_get}
use Rattle.std.specs.Option.{option_map}
use Rattle.netlist_schema.specs.Design.{Design, cell_at, insts_in}
use Rattle.netlist_schema.specs.Hierarchy.{IsCell}
use Rattle.netlist_schema.specs.Types.{CellBody, CellId, Contents, Inst, Lib}
use Rattle.netlist_schema.specs.Valid.{IsValid}
use Rattle.netlist_schema.proofs.WithCell.{lib_of_cell}
use Rattle.edit_rules_spec.specs.Edit.{inner, changed_at, with_changed_cell, with_contents, edited_once}
use Rattle.edit_rules_spec.proofs.Closed.{some_of_outside}
use Rattle.edit_rules_spec.proofs.Edits.{IsAlike, changed_alike}
use Rattle.std.specs.Prelude.{slice_set}
use Rattle.netlist_schema.specs.Change.{with_cell, lib_with_cell, libs_with_cell}
use Rattle.netlist_schema.specs.Design.{lib_at}

-- the design where a cell has these contents, also where it was a leaf
abbrev pub fill : Contents → CellBody → CellBody
fill contents body = record body { contents = Some contents }

abbrev pub filled : Design → CellId → Contents → Design
filled d id contents = with_changed_cell d id (fill contents)

pub filled_alike : (d : Design) (id : CellId) (contents : Contents) → IsAlike (filled d id contents) d
filled_alike d id contents = changed_alike d id (fill contents) (record { outside = λ body. refl })

pub filled_cell_after : (d : Design) (id : CellId) (contents : Contents) (other : CellId) → IsCell d other → IsCell (filled d id contents) other
filled_cell_after d id contents other is = some_of_outside (cell_at (filled d id contents) other) (cell_at d other) ((filled_alike d id contents).outside other) is

-- two changes that do the same to the item that is there
changed_same : {X : Type 0} (f g : X → X) (i : ℕ) (xs : List X) (x : X) → slice_get xs i ≡ Some x → f x ≡ g x → changed_at f i xs ≡ changed_at g i xs
changed_same f g i [] x found same = cc
changed_same f g zero (y ∷ ys) x found same = let is : x ≡ y = cc in ap (λ z. z ∷ ys) (subst (λ z. f z ≡ g z) is same)
changed_same f g (suc i) (y ∷ ys) x found same = ap (λ zs. y ∷ zs) (changed_same f g i ys x found same)

abbrev lib_changed : (CellBody → CellBody) → ℕ → Lib → Lib
lib_changed f slot lib = record lib { cells = changed_at f slot lib.cells }

cell_changed_same : (d : Design) (id : CellId) (f g : CellBody → CellBody) (body : CellBody) → cell_at d id ≡ Some body → f body ≡ g body → with_changed_cell d id f ≡ with_changed_cell d id g
cell_changed_same d id f g body found same =
    let lib = lib_of_cell d id body found in
    ap (λ (libs : List Lib). record d { libs = libs })
    (changed_same (lib_changed f id.slot) (lib_changed g id.slot) id.lib.0 d.libs lib.0 lib.1 (ap (λ (cells : List CellBody). record lib.0 { cells = cells }) (changed_same f g id.slot lib.0.cells body lib.2 same)))

nothing_changed : {X : Type 0} (f : X → X) → ((x : X) → f x ≡ x) → (i : ℕ) (xs : List X) → changed_at f i xs ≡ xs
nothing_changed f keeps i [] = refl
nothing_changed f keeps zero (x ∷ xs) = ap (λ y. y ∷ xs) (keeps x)
nothing_changed f keeps (suc i) (x ∷ xs) = ap (λ ys. x ∷ ys) (nothing_changed f keeps i xs)

no_cell_changed : (d : Design) (id : CellId) → with_changed_cell d id (λ body. body) ≡ d
no_cell_changed d id =
    ap (λ (libs : List Lib). record d { libs = libs })
    (nothing_changed (lib_changed (λ body. body) id.slot) (λ lib. ap (λ (cells : List CellBody). record lib { cells = cells }) (nothing_changed (λ body. body) (λ body. refl) id.slot lib.cells)) id.lib.0 d.libs)

with_contents_is : (contents : Contents) (body : CellBody) (o : Option Contents) → body.contents ≡ o → with_contents contents body ≡ record body { contents = option_map (λ _. contents) o }
with_contents_is contents body o is = ap (λ (x : Option Contents). record body { contents = option_map (λ _. contents) x }) is

inner_of_leaf : (d : Design) (id : CellId) (contents : Contents) (body : CellBody) → cell_at d id ≡ Some body → body.contents ≡ None → edited_once d (inner id contents) ≡ d
inner_of_leaf d id contents body found is =
    cell_changed_same d id (with_contents contents) (λ b. b) body found (with_contents_is contents body None is ∙ ap (λ (x : Option Contents). record body { contents = x }) (sym is)) ∙ no_cell_changed d id

pub inner_filled : (d : Design) (id : CellId) (contents : Contents) (body : CellBody) (old : Contents) → cell_at d id ≡ Some body → body.contents ≡ Some old → edited_once d (inner id contents) ≡ filled d id contents
inner_filled d id contents body old found is = cell_changed_same d id (with_contents contents) (fill contents) body found (with_contents_is contents body (Some old) is)

pub inner_is_valid : (d : Design) (id : CellId) (contents : Contents) (body : CellBody) → cell_at d id ≡ Some body → IsValid d → IsValid (filled d id contents) → IsValid (edited_once d (inner id contents))
inner_is_valid d id contents body found valid good = by_contents body.contents refl
  where
    by_contents : (o : Option Contents) → body.contents ≡ o → IsValid (edited_once d (inner id contents))
    by_contents None is = subst IsValid (sym (inner_of_leaf d id contents body found is)) valid
    by_contents (Some old) is = subst IsValid (sym (inner_filled d id contents body old found is)) good

-- a cell with an instance is no leaf
pub has_contents : (o : Option Contents) (k : ℕ) (inst : Inst) → slice_get (insts_in o) k ≡ Some inst → (contents : Contents) × (o ≡ Some contents)
has_contents None k inst is = let never : ◌≡◌ {A = Option Inst} None (Some inst) = is in cc
has_contents (Some contents) k inst is = (contents, refl)

changed_at-set : {X : Type 0} (f : X → X) (i : ℕ) (xs : List X) (x : X) → slice_get xs i ≡ Some x → changed_at f i xs ≡ slice_set xs i (f x)
changed_at-set f i [] x found = cc
changed_at-set f zero (y ∷ ys) x found = let same : y ≡ x = cc in ap (λ z. f z ∷ ys) same
changed_at-set f (suc i) (y ∷ ys) x found = ap (λ zs. y ∷ zs) (changed_at-set f i ys x found)

-- the cell that is there, changed
pub with_changed_is : (d : Design) (id : CellId) (f : CellBody → CellBody) (old : CellBody) → cell_at d id ≡ Some old → with_changed_cell d id f ≡ with_cell d id (f old)
with_changed_is d id f old found =
    let lib = lib_of_cell d id old found in
    let change : Lib → Lib = λ l. record l { cells = changed_at f id.slot l.cells } in
    let here : change lib.0 ≡ lib_with_cell lib.0 id.slot (f old) = ap (λ (cells : List CellBody). record lib.0 { cells = cells }) (changed_at-set f id.slot lib.0.cells old lib.2) in
    let libs : changed_at change id.lib.0 d.libs ≡ slice_set d.libs id.lib.0 (lib_with_cell lib.0 id.slot (f old)) = changed_at-set change id.lib.0 d.libs lib.0 lib.1 ∙ ap (slice_set d.libs id.lib.0) here in
    let there : libs_with_cell d.libs (lib_at d id.lib) id (f old) ≡ slice_set d.libs id.lib.0 (lib_with_cell lib.0 id.slot (f old)) = ap (λ (o : Option Lib). libs_with_cell d.libs o id (f old)) lib.1 in
    ap (λ (ls : List Lib). record d { libs = ls }) (libs ∙ sym there)
