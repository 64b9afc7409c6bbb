-- In a valid design the trees below a cell are deep enough: their occurrences are all that are below the cell.
use Rattle.std.proofs.Common.{◌≡◌, ◌≢◌, ◌≤◌, ◌*◌, ℕ, zero, suc, List, [], ◌∷◌, length, refl, sym, ap, subst, ◌∙◌, inl, inr, arith, length-append}
use Rattle.std.specs.List.{AllByRecursion, flat_map}
use Rattle.std.proofs.lemmas.List.Elements.{recursion_from_All}
use Rattle.netlist_schema.specs.Design.{Design}
use Rattle.netlist_schema.specs.Hierarchy.{insts_at}
use Rattle.netlist_schema.specs.Types.{CellId, Inst, Lib}
use Rattle.netlist_schema.specs.Valid.{IsValid}
use Rattle.edit_rules_spec.specs.Paths.{most_cells}
use Rattle.flat_spec.specs.Occurrences.{Occurrence, occurrences_from, occurrences}
use Rattle.flat_spec.specs.Paths.{Reaches}
use Rattle.flat_spec.specs.Trees.{Grown, UnfoldEach, grown, tree}
use Rattle.flat_spec.proofs.ListLemmas.{Member, Ascends}
use Rattle.flat_spec.proofs.OccurrenceLemmas.{OccurrenceBefore, occurrences_from-head, occurrences_from-ascends, occurrences-member, occurrences-reaches}
use Rattle.flat_spec.proofs.TreeLemmas.{tree-unfolds}
use Rattle.uniquify_spec.specs.Blocks.{trees_below}

-- a tree that is deep enough does not change with more depth
grown-more : (d : Design) (n : ℕ) (insts : List Inst) (m : ℕ) → UnfoldEach d insts (grown d n insts) → n ≤ m → grown d m insts ≡ grown d n insts
grown-more d zero [] m u less = refl
grown-more d zero (inst ∷ insts) m u less = absurd u
grown-more d (suc n) [] m u less = refl
grown-more d (suc n) (inst ∷ insts) zero u less = absurd (omega (arith, less))
grown-more d (suc n) (inst ∷ insts) (suc m) u less =
    let fewer : n ≤ m = omega (arith, less) in
    let deep = grown-more d n (insts_at d inst.of) m u.1 fewer in
    let wide = grown-more d (suc n) insts (suc m) u.2 less in
    λ t. Grown inst.of (deep t) (wide t)

few_cells : (libs : List Lib) → AllByRecursion (λ (lib : Lib). length lib.cells ≤ 65536) libs → length (flat_map (λ (lib : Lib). lib.cells) libs) ≤ 65536 * length libs
few_cells [] all = omega arith
few_cells (lib ∷ libs) all =
    let rest = few_cells libs all.1 in
    let here = all.0 in
    let sum = length-append lib.cells (flat_map (λ (l : Lib). l.cells) libs) in
    omega (arith, rest, here, sum)

most_are : most_cells ≡ 67108864
unfolding most_cells
most_are = refl

enough : (d : Design) → IsValid d → length (flat_map (λ (lib : Lib). lib.cells) d.libs) ≤ most_cells
enough d valid =
    let few = few_cells d.libs (recursion_from_All (λ (lib : Lib). length lib.cells ≤ 65536) d.libs valid.limits.cells) in
    let libs = valid.limits.libs in
    let most = most_are in
    omega (arith, few, libs, most)

-- they are the trees below the cell
pub trees_are : (d : Design) → IsValid d → (c : CellId) → trees_below d c ≡ (tree d c).below
unfolding trees_below tree
trees_are d valid c = grown-more d (length (flat_map (λ (lib : Lib). lib.cells) d.libs)) (insts_at d c) most_cells (tree-unfolds d valid.no_cycle c).1 (enough d valid)

abbrev pub below : Design → CellId → List Occurrence
below d c = occurrences_from 0 (trees_below d c)

occurrences_are : (d : Design) (c : CellId) → occurrences d c ≡ record { path = []; cell = (tree d c).cell } ∷ occurrences_from 0 (tree d c).below
unfolding occurrences
occurrences_are d c = refl

pub below_are : (d : Design) → IsValid d → (c : CellId) → occurrences d c ≡ record { path = []; cell = (tree d c).cell } ∷ below d c
below_are d valid c = occurrences_are d c ∙ ap (λ f. record { path = []; cell = (tree d c).cell } ∷ occurrences_from 0 f) (sym (trees_are d valid c))

-- what is listed is at the end of its path, which has a step
pub below_reached : (d : Design) → IsValid d → (c : CellId) (o : Occurrence) → Member (below d c) o → Reaches d c o.path o.cell
below_reached d valid c o member = occurrences-reaches d valid.no_cycle c o (subst (λ os. Member os o) (sym (below_are d valid c)) (inr member))

pub below_has_step : (d : Design) (c : CellId) (o : Occurrence) → Member (below d c) o → o.path ≢ []
below_has_step d c o member same =
    let head = occurrences_from-head 0 (trees_below d c) o member in
    let never : head.0 ∷ head.1 ≡ [] = head.2 ∙ same in
    cc

-- and each path with a step leads to one that is listed
pub reached_below : (d : Design) → IsValid d → (c : CellId) (i : ℕ) (path : List ℕ) (k : CellId) → Reaches d c (i ∷ path) k → Member (below d c) (record { path = i ∷ path; cell = k })
reached_below d valid c i path k reached =
    let all = occurrences-member d valid.no_cycle c (record { path = i ∷ path; cell = k }) reached in
    let listed : Member (record { path = []; cell = (tree d c).cell } ∷ below d c) (record { path = i ∷ path; cell = k }) = subst (λ os. Member os (record { path = i ∷ path; cell = k })) (below_are d valid c) all in
    elim listed [
      | inl same ↦ let never : [] ≡ i ∷ path = ap (λ (o : Occurrence). o.path) same in absurd (cc)
      | inr rest ↦ rest
    ]

pub below_ascends : (d : Design) (c : CellId) → Ascends OccurrenceBefore (below d c)
below_ascends d c = occurrences_from-ascends 0 (trees_below d c)
