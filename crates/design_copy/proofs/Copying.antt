-- Cells and libraries, one more at a time.
use Rattle.std.proofs.Common.{◌≡◌, ◌+◌, ◌<◌, ℕ, suc, arith, List, [], ◌∷◌, ◌++◌, length, take, Option, Some, None, refl, sym, ap, ◌∙◌, slice_get}
use Rattle.std.specs.Prelude.{option_map}
use Rattle.std.specs.Option.{option_map_or}
use Rattle.netlist_schema.specs.Design.{Design, cells_in, lib_at}
use Rattle.netlist_schema.specs.Types.{Lib, LibHead, Name, Note, TopHead}
use Rattle.netlist_schema.proofs.Lists.{get_there, take_next}

-- one item more
pub item_next : {X : Type 0} (xs made : List X) (i : ℕ) (x : X) → Some x ≡ slice_get xs i → made ≡ take i xs → made ++ x ∷ [] ≡ take (i + 1) xs
item_next xs made i x is so_far =
    let next : i + 1 ≡ suc i = omega arith in
    ap (λ ys. ys ++ x ∷ []) so_far ∙ sym (ap (λ k. take k xs) next ∙ take_next xs i x (sym is))

pub no_item : {X : Type 0} (xs : List X) (i : ℕ) → i < length xs → None ≡ slice_get xs i → ⊥
no_item xs i within is = let there = get_there xs i within in let never : None ≡ Some there.0 = is ∙ there.1 in cc

-- one library more
pub lib_next : (d : Design) (made : List Lib) (lib : ℕ) (head : LibHead) → Some head ≡ option_map (λ (l : Lib). l.head) (lib_at d (record { 0 = lib })) → made ≡ take lib d.libs
    → made ++ record { head = head; cells = cells_in d (record { 0 = lib }) } ∷ [] ≡ take (lib + 1) d.libs
lib_next d made lib head is so_far = go (slice_get d.libs lib) refl is
  where
    go : (o : Option Lib) → slice_get d.libs lib ≡ o → Some head ≡ option_map (λ (l : Lib). l.head) o
        → made ++ record { head = head; cells = cells_in d (record { 0 = lib }) } ∷ [] ≡ take (lib + 1) d.libs
    go None there is = cc
    go (Some l) there is =
        let same : head ≡ l.head = cc is in
        let cells : cells_in d (record { 0 = lib }) ≡ l.cells = ap (λ (o : Option Lib). option_map_or (λ (x : Lib). x.cells) o []) there in
        (λ i. made ++ record { head = same i; cells = cells i } ∷ []) ∙ item_next d.libs made lib l (sym there) so_far

pub no_lib : (d : Design) (lib : ℕ) → lib < length d.libs → None ≡ option_map (λ (l : Lib). l.head) (lib_at d (record { 0 = lib })) → ⊥
no_lib d lib within is =
    let there = get_there d.libs lib within in
    let never : None ≡ Some there.0.head = is ∙ ap (option_map (λ (l : Lib). l.head)) there.1 in
    cc

-- the parts of the design
pub parts_are : (d : Design) (title : Name) (libs : List Lib) (top : Option TopHead) (notes : List Note) → title ≡ d.title → libs ≡ d.libs → top ≡ d.top → notes ≡ d.notes
    → record { title = title; libs = libs; top = top; notes = notes } ≡ d
parts_are d title libs top notes a b c e = λ i. record { title = a i; libs = b i; top = c i; notes = e i }
