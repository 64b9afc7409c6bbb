-- Alike designs have the same paths, and instances of the same names and properties along them.
use Rattle.std.proofs.Common.{◌≡◌, ℕ, suc, List, [], ◌∷◌, ◌++◌, map, refl, sym, ap, ◌∙◌, Option, Some, None}
use Rattle.std.specs.Prelude.{slice_get, option_map, option_and_then}
use Rattle.std.specs.List.{last_or}
use Rattle.std.specs.Option.{option_map_or}
use Rattle.std.proofs.lemmas.List.{map-append}
use Rattle.std.proofs.lemmas.Option.{none-some, slice_get-map}
use Rattle.netlist_schema.specs.Design.{Design, cell_at, insts_in, insts_of}
use Rattle.netlist_schema.specs.Hierarchy.{insts_at, NoCellIsBelowItself}
use Rattle.netlist_schema.specs.Types.{CellBody, CellId, Contents, Inst, Property, TopHead}
use Rattle.flat_spec.specs.Effective.{insts_along, merged, notes_for, effective}
use Rattle.flat_spec.specs.Occurrences.{Occurrence, under, occurrences_from, occurrences}
use Rattle.flat_spec.specs.Paths.{cell_along}
use Rattle.flat_spec.specs.Trees.{Forest, Bare, Grown, UnfoldEach, tree}
use Rattle.flat_spec.proofs.TreeLemmas.{tree-unfolds}
use Rattle.uniquify_spec.specs.Alike.{unplaced, all_unplaced, Inside, inside_of, inside_along}

-- the same stands in the cells along all paths
abbrev pub AreSameInside : Design → Design → CellId → CellId → Type 0
AreSameInside d e c k = (path : List ℕ) → inside_along d c path ≡ inside_along e k path

-- ---- instances

abbrev insts_inside : Option Inside → List Inst
insts_inside o = option_map_or (λ (s : Inside). insts_in s.contents) o []

insts_unplaced : (o : Option Contents) → insts_in (option_map all_unplaced o) ≡ map unplaced (insts_in o)
insts_unplaced None = refl
insts_unplaced (Some contents) = refl

insts_seen : (o : Option CellBody) → insts_inside (option_map inside_of o) ≡ map unplaced (option_map_or insts_of o [])
insts_seen None = refl
insts_seen (Some body) = insts_unplaced body.contents

-- the instances of the two cells differ in their cells alone
pub insts_same : (d e : Design) (c k : CellId) → AreSameInside d e c k → map unplaced (insts_at d c) ≡ map unplaced (insts_at e k)
insts_same d e c k same = sym (insts_seen (cell_at d c)) ∙ ap insts_inside (same []) ∙ insts_seen (cell_at e k)

-- and the cells of two instances at one place are the same inside
pub same_below : (d e : Design) (c k : CellId) → AreSameInside d e c k → (i : ℕ) (x y : Inst) → slice_get (insts_at d c) i ≡ Some x → slice_get (insts_at e k) i ≡ Some y
    → AreSameInside d e x.of y.of
same_below d e c k same i x y is is' path =
    sym (ap (λ (o : Option Inst). option_map inside_of (option_and_then (cell_at d) (option_and_then (λ inst. cell_along d inst.of path) o))) is)
    ∙ same (i ∷ path)
    ∙ ap (λ (o : Option Inst). option_map inside_of (option_and_then (cell_at e) (option_and_then (λ inst. cell_along e inst.of path) o))) is'

-- ---- paths

-- the cells of the instances are the same inside, one by one
abbrev AreSameEach : Design → Design → List Inst → List Inst → Type 0
AreSameEach d e [] [] = Unit {0}
AreSameEach d e (x ∷ xs) (y ∷ ys) = AreSameInside d e x.of y.of × AreSameEach d e xs ys
AreSameEach d e [] (y ∷ ys) = ⊥
AreSameEach d e (x ∷ xs) [] = ⊥

same_each_of : (d e : Design) (xs ys : List Inst) → map unplaced xs ≡ map unplaced ys
    → ((i : ℕ) (x y : Inst) → slice_get xs i ≡ Some x → slice_get ys i ≡ Some y → AreSameInside d e x.of y.of) → AreSameEach d e xs ys
same_each_of d e [] [] same h = tt
same_each_of d e [] (y ∷ ys) same h = cc
same_each_of d e (x ∷ xs) [] same h = cc
same_each_of d e (x ∷ xs) (y ∷ ys) same h =
    let rest : map unplaced xs ≡ map unplaced ys = cc in
    (h 0 x y refl refl, same_each_of d e xs ys rest (λ i a b is is'. h (suc i) a b is is'))

same_each : (d e : Design) (c k : CellId) → AreSameInside d e c k → AreSameEach d e (insts_at d c) (insts_at e k)
same_each d e c k same = same_each_of d e (insts_at d c) (insts_at e k) (insts_same d e c k same) (same_below d e c k same)

abbrev pub path_of : Occurrence → List ℕ
path_of o = o.path

paths_under : (i : ℕ) (os : List Occurrence) → map path_of (map (under i) os) ≡ map (λ p. i ∷ p) (map path_of os)
paths_under i [] = refl
paths_under i (o ∷ os) = ap (λ ps. (i ∷ o.path) ∷ ps) (paths_under i os)

paths_grown : (i : ℕ) (cell : CellId) (below others : Forest)
    → map path_of (occurrences_from i (Grown cell below others))
    ≡ map (λ p. i ∷ p) ([] ∷ map path_of (occurrences_from 0 below)) ++ map path_of (occurrences_from (suc i) others)
paths_grown i cell below others =
    let mine : List Occurrence = record { path = []; cell = cell } ∷ occurrences_from 0 below in
    map-append path_of (map (under i) mine) (occurrences_from (suc i) others) ∙ ap (λ ps. ps ++ map path_of (occurrences_from (suc i) others)) (paths_under i mine)

forest_paths : (d e : Design) (f g : Forest) (xs ys : List Inst) (i : ℕ) → UnfoldEach d xs f → UnfoldEach e ys g → AreSameEach d e xs ys
    → map path_of (occurrences_from i f) ≡ map path_of (occurrences_from i g)
forest_paths d e Bare Bare xs ys i u v same = refl
forest_paths d e Bare (Grown cell below others) [] [] i u v same = absurd v
forest_paths d e Bare (Grown cell below others) [] (y ∷ ys) i u v same = absurd same
forest_paths d e Bare (Grown cell below others) (x ∷ xs) ys i u v same = absurd u
forest_paths d e (Grown cell below others) g [] ys i u v same = absurd u
forest_paths d e (Grown cell below others) Bare (x ∷ xs) [] i u v same = absurd same
forest_paths d e (Grown cell below others) Bare (x ∷ xs) (y ∷ ys) i u v same = absurd v
forest_paths d e (Grown cell below others) (Grown cell' below' others') (x ∷ xs) [] i u v same = absurd same
forest_paths d e (Grown cell below others) (Grown cell' below' others') (x ∷ xs) (y ∷ ys) i u v same =
    let deep = forest_paths d e below below' (insts_at d x.of) (insts_at e y.of) 0 u.1 v.1 (same_each d e x.of y.of same.0) in
    let wide = forest_paths d e others others' xs ys (suc i) u.2 v.2 same.1 in
    paths_grown i cell below others
    ∙ (λ t. map (λ p. i ∷ p) ([] ∷ deep t) ++ wide t)
    ∙ sym (paths_grown i cell' below' others')

-- the occurrences have the same paths
pub paths_same : (d e : Design) → NoCellIsBelowItself d → NoCellIsBelowItself e → (c k : CellId) → AreSameInside d e c k
    → map path_of (occurrences d c) ≡ map path_of (occurrences e k)
unfolding occurrences
paths_same d e acyclic acyclic' c k same =
    ap (λ ps. [] ∷ ps)
    (forest_paths d e (tree d c).below (tree e k).below (insts_at d c) (insts_at e k) 0 (tree-unfolds d acyclic c).1 (tree-unfolds e acyclic' k).1 (same_each d e c k same))

-- ---- properties

along_step : (d e : Design) (path : List ℕ) (o p : Option Inst) → option_map unplaced o ≡ option_map unplaced p
    → ((x y : Inst) → o ≡ Some x → p ≡ Some y → map unplaced (insts_along d x.of path) ≡ map unplaced (insts_along e y.of path))
    → map unplaced (option_map_or (λ inst. inst ∷ insts_along d inst.of path) o []) ≡ map unplaced (option_map_or (λ inst. inst ∷ insts_along e inst.of path) p [])
along_step d e path None None same h = refl
along_step d e path None (Some y) same h = absurd (none-some (unplaced y) same)
along_step d e path (Some x) None same h = absurd (none-some (unplaced x) (sym same))
along_step d e path (Some x) (Some y) same h =
    let head : unplaced x ≡ unplaced y = cc in
    let rest = h x y refl refl in
    λ i. head i ∷ rest i

-- the instances along a path differ in their cells alone
pub along_same : (d e : Design) (path : List ℕ) (c k : CellId) → AreSameInside d e c k → map unplaced (insts_along d c path) ≡ map unplaced (insts_along e k path)
along_same d e [] c k same = refl
along_same d e (i ∷ path) c k same =
    along_step d e path (slice_get (insts_at d c) i) (slice_get (insts_at e k) i)
    (sym (slice_get-map unplaced (insts_at d c) i) ∙ ap (λ xs. slice_get xs i) (insts_same d e c k same) ∙ slice_get-map unplaced (insts_at e k) i)
    (λ x y is is'. along_same d e path x.of y.of (same_below d e c k same i x y is is'))

abbrev properties_of : Inst → List Property
properties_of inst = inst.properties

last_properties : (o : Option Inst) (xs : List Inst) (base : List Property)
    → option_map_or properties_of (last_or (option_map unplaced o) (map unplaced xs)) base ≡ option_map_or properties_of (last_or o xs) base
last_properties None [] base = refl
last_properties (Some x) [] base = refl
last_properties o (x ∷ xs) base = last_properties (Some x) xs base

names_unplaced : (xs : List Inst) → map (λ (inst : Inst). inst.name.id) (map unplaced xs) ≡ map (λ (inst : Inst). inst.name.id) xs
names_unplaced [] = refl
names_unplaced (x ∷ xs) = ap (λ ns. x.name.id ∷ ns) (names_unplaced xs)

-- the effective properties are the same
pub effective_same : (d e : Design) (top : TopHead) → d.notes ≡ e.notes → AreSameInside d e top.cell top.cell → (path : List ℕ) → effective d top path ≡ effective e top path
effective_same d e top notes same path =
    let along = along_same d e path top.cell top.cell same in
    let base = sym (last_properties None (insts_along d top.cell path) top.properties)
    ∙ ap (λ xs. option_map_or properties_of (last_or None xs) top.properties) along
    ∙ last_properties None (insts_along e top.cell path) top.properties in
    let names = sym (names_unplaced (insts_along d top.cell path)) ∙ ap (map (λ (inst : Inst). inst.name.id)) along ∙ names_unplaced (insts_along e top.cell path) in
    λ i. merged (base i) (notes_for (names i) (notes i))
