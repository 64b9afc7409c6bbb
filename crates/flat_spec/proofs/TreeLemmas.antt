-- In a design in which no cell is below itself, each cell has one tree.
use Rattle.std.proofs.Common.{◌≡◌, ◌≤◌, ◌⊎◌, ℕ, zero, suc, ◌+◌, List, [], ◌∷◌, ◌++◌, length, refl, sym, ap, subst, ◌∙◌, inl, inr, arith, Option, Some, None, add-zero, zero-add, length-append}
use Rattle.std.specs.Prelude.{slice_get}
use Rattle.std.specs.List.{flat_map}
use Rattle.std.specs.Option.{option_map_or}
use Rattle.std.proofs.lemmas.Option.{none-some}
use Rattle.netlist_schema.specs.Design.{Design}
use Rattle.netlist_schema.specs.Hierarchy.{insts_at, HasInst, IsBelow, placed, deeper, NoCellIsBelowItself}
use Rattle.netlist_schema.specs.Types.{CellBody, CellId, Inst, Lib}
use Rattle.netlist_schema.proofs.Cells.{cell_of_inst}
use Rattle.flat_spec.specs.Trees.{Forest, Bare, Grown, Tree, UnfoldEach, Unfolds, grown, tree}
use Rattle.flat_spec.proofs.ListLemmas.{Member, Member-append_left, Member-append_right, slice_get-contains, without}

pub UnfoldEach-same : (d : Design) (f g : Forest) (insts : List Inst) → UnfoldEach d insts f → UnfoldEach d insts g → f ≡ g
UnfoldEach-same d Bare Bare insts p q = refl
UnfoldEach-same d Bare (Grown cell below others) [] p q = absurd q
UnfoldEach-same d Bare (Grown cell below others) (inst ∷ insts) p q = absurd p
UnfoldEach-same d (Grown cell below others) g [] p q = absurd p
UnfoldEach-same d (Grown cell below others) Bare (inst ∷ insts) p q = absurd q
UnfoldEach-same d (Grown cell below others) (Grown cell' below' others') (inst ∷ insts) p q =
    let deep = UnfoldEach-same d below below' (insts_at d inst.of) p.1 q.1 in
    let wide = UnfoldEach-same d others others' insts p.2 q.2 in
    cc (deep, wide, p.0, q.0)

-- a cell has one tree at most
pub Unfolds-same : (d : Design) (c : CellId) (t u : Tree) → Unfolds d c t → Unfolds d c u → t ≡ u
Unfolds-same d c t u p q =
    let roots : t.cell ≡ u.cell = p.0 ∙ sym q.0 in
    let forests : t.below ≡ u.below = UnfoldEach-same d t.below u.below (insts_at d c) p.1 q.1 in
    λ i. record { cell = roots i; below = forests i }

grown_each : (d : Design) (depth : ℕ) (insts : List Inst)
    → ((i : ℕ) (inst : Inst) → slice_get insts i ≡ Some inst → UnfoldEach d (insts_at d inst.of) (grown d depth (insts_at d inst.of)))
    → UnfoldEach d insts (grown d (suc depth) insts)
grown_each d depth [] h = tt
grown_each d depth (inst ∷ insts) h = (refl, h 0 inst refl, grown_each d depth insts (λ i x e. h (suc i) x e))

-- a tree stands within a depth of as many cells as are at or below its root and have instances
grown_within : (d : Design) → NoCellIsBelowItself d → (depth : ℕ) (rest : List CellId) (c : CellId) → length rest ≤ depth
    → ((e : CellId) (inst : Inst) → (e ≡ c) ⊎ IsBelow d e c → HasInst d e inst → Member rest e)
    → UnfoldEach d (insts_at d c) (grown d depth (insts_at d c))
grown_within d acyclic zero rest c few covers =
    none (insts_at d c) (λ i inst e. covers c inst (inl refl) (slice_get-contains (insts_at d c) i inst e))
  where
    none : (insts : List Inst) → ((i : ℕ) (inst : Inst) → slice_get insts i ≡ Some inst → Member rest c)
        → UnfoldEach d insts (grown d zero insts)
    none [] h = tt
    none (inst ∷ insts) h =
        let w = without rest c (h 0 inst refl) in
        absurd (omega (arith, few, w.1))
grown_within d acyclic (suc depth) rest c few covers =
    grown_each d depth (insts_at d c)
    (λ i inst e.
    let has : HasInst d c inst = slice_get-contains (insts_at d c) i inst e in
    let w = without rest c (covers c inst (inl refl) has) in
    let fewer : length w.0 ≤ depth = omega (arith, few, w.1) in
    grown_within d acyclic depth w.0 inst.of fewer
    (λ x other under has_other.
    let below : IsBelow d x c = elim under [
      | inl same ↦ subst (λ v. IsBelow d v c) (sym same) (placed inst has)
      | inr further ↦ deeper inst has further
    ] in
    w.2 x (covers x other (inr below) has_other) (λ same. acyclic c (subst (λ v. IsBelow d v c) same below))))

-- the ids of the cells of one library, from a slot on, and of the cells of libraries, from one on
abbrev ids_in : ℕ → ℕ → List CellBody → List CellId
ids_in lib slot [] = []
ids_in lib slot (cell ∷ cells) = record { lib = record { 0 = lib }; slot = slot } ∷ ids_in lib (suc slot) cells

abbrev ids_from : ℕ → List Lib → List CellId
ids_from lib [] = []
ids_from lib (l ∷ ls) = ids_in lib 0 l.cells ++ ids_from (suc lib) ls

length-ids_in : (lib slot : ℕ) (cells : List CellBody) → length (ids_in lib slot cells) ≡ length cells
length-ids_in lib slot [] = refl
length-ids_in lib slot (cell ∷ cells) = ap suc (length-ids_in lib (suc slot) cells)

length-ids_from : (lib : ℕ) (ls : List Lib) → length (ids_from lib ls) ≡ length (flat_map (λ (l : Lib). l.cells) ls)
length-ids_from lib [] = refl
length-ids_from lib (l ∷ ls) =
    let here = length-ids_in lib 0 l.cells in
    let others = length-ids_from (suc lib) ls in
    length-append (ids_in lib 0 l.cells) (ids_from (suc lib) ls)
    ∙ cc (here, others)
    ∙ sym (length-append l.cells (flat_map (λ (l : Lib). l.cells) ls))

ids_in-member : (lib slot : ℕ) (cells : List CellBody) (k : ℕ) (b : CellBody) → slice_get cells k ≡ Some b
    → Member (ids_in lib slot cells) (record { lib = record { 0 = lib }; slot = slot + k })
ids_in-member lib slot [] k b e = absurd (none-some b e)
ids_in-member lib slot (x ∷ xs) zero b e = inl (rw add-zero refl)
ids_in-member lib slot (x ∷ xs) (suc k) b e =
    let sum : suc slot + k ≡ slot + suc k = omega arith in
    inr (subst (λ n. Member (ids_in lib (suc slot) xs) (record { lib = record { 0 = lib }; slot = n })) sum (ids_in-member lib (suc slot) xs k b e))

ids_from-member : (lib : ℕ) (ls : List Lib) (k : ℕ) (l : Lib) (j : ℕ) (b : CellBody) → slice_get ls k ≡ Some l → slice_get l.cells j ≡ Some b
    → Member (ids_from lib ls) (record { lib = record { 0 = lib + k }; slot = j })
ids_from-member lib [] k l j b e f = absurd (none-some l e)
ids_from-member lib (x ∷ xs) zero l j b e f =
    let same : x ≡ l = cc e in
    let found = ids_in-member lib 0 x.cells j b (subst (λ (v : Lib). slice_get v.cells j ≡ Some b) (sym same) f) in
    Member-append_left (ids_in lib 0 x.cells) (ids_from (suc lib) xs) _
    (subst (λ n. Member (ids_in lib 0 x.cells) (record { lib = record { 0 = n }; slot = j })) (sym (add-zero lib))
    (subst (λ n. Member (ids_in lib 0 x.cells) (record { lib = record { 0 = lib }; slot = n })) (zero-add j) found))
ids_from-member lib (x ∷ xs) (suc k) l j b e f =
    let sum : suc lib + k ≡ lib + suc k = omega arith in
    Member-append_right (ids_in lib 0 x.cells) (ids_from (suc lib) xs) _
    (subst (λ n. Member (ids_from (suc lib) xs) (record { lib = record { 0 = n }; slot = j })) sum (ids_from-member (suc lib) xs k l j b e f))

pub lib_found : (o : Option Lib) (slot : ℕ) (body : CellBody) → slice_get (option_map_or (λ (l : Lib). l.cells) o []) slot ≡ Some body
    → (l : Lib) × (o ≡ Some l) × (slice_get l.cells slot ≡ Some body)
lib_found None slot body e = absurd (none-some body e)
lib_found (Some l) slot body e = (l, refl, e)

-- a cell that has an instance is one of the design's
has_inst-member : (d : Design) (c : CellId) (inst : Inst) → HasInst d c inst → Member (ids_from 0 d.libs) c
has_inst-member d c inst has =
    let found = cell_of_inst d c inst has in
    let l = lib_found (slice_get d.libs c.lib.0) c.slot found.0 found.1 in
    let member = ids_from-member 0 d.libs c.lib.0 l.0 c.slot found.0 l.1 l.2 in
    subst (λ n. Member (ids_from 0 d.libs) (record { lib = record { 0 = n }; slot = c.slot })) (zero-add c.lib.0) member

-- the tree of a cell unfolds it
pub tree-unfolds : (d : Design) → NoCellIsBelowItself d → (c : CellId) → Unfolds d c (tree d c)
unfolding tree
tree-unfolds d acyclic c = (
  refl,
  grown_within d acyclic (length (flat_map (λ (l : Lib). l.cells) d.libs)) (ids_from 0 d.libs) c (omega (arith, length-ids_from 0 d.libs))
      (λ e inst under has. has_inst-member d e inst has),
)
