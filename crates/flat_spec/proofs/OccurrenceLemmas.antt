-- The list of occurrences has each path below the root, in order, and the list of nets each net.
use Rattle.std.proofs.Common.{◌≡◌, ◌<◌, ◌≤◌, ◌⊎◌, ℕ, zero, suc, ◌+◌, List, [], ◌∷◌, length, map, refl, sym, ap, subst, ◌∙◌, inl, inr, arith, Some, zero-add, add-zero, add-one}
use Rattle.std.specs.Prelude.{slice_get}
use Rattle.std.specs.List.{enumerate_from, flat_map, range_with_len}
use Rattle.std.proofs.lemmas.Option.{none-some}
use Rattle.netlist_schema.specs.Design.{Design}
use Rattle.netlist_schema.specs.Hierarchy.{insts_at, NoCellIsBelowItself}
use Rattle.netlist_schema.specs.Types.{CellId, Inst}
use Rattle.flat_spec.specs.Occurrences.{Occurrence, under, occurrences_from, occurrences_in, occurrences, own_nets, nets, AreOccurrences, AreNets}
use Rattle.flat_spec.specs.PathOrder.{PathBefore, NetBefore}
use Rattle.flat_spec.specs.Paths.{Reaches, nets_at, at_path, IsNet}
use Rattle.flat_spec.specs.Trees.{Forest, Bare, Grown, Tree, UnfoldEach, Unfolds, tree}
use Rattle.flat_spec.specs.declared.item.NetAt.{NetAt}
use Rattle.flat_spec.proofs.ListLemmas.{Member, Member-append_left, Member-append_right, Member-append_cases, Member-map, Member-from_map, Contains-member, Member-contains, Ascends, Ascends-append, Ascends-map, Ascends-pairs}
use Rattle.flat_spec.proofs.PathLemmas.{Some-same, Reaches-parts, Reaches-cons, IsNet-parts, IsNet-from}
use Rattle.flat_spec.proofs.TreeLemmas.{tree-unfolds, Unfolds-same}

abbrev root_and_below : CellId → Forest → List Occurrence
root_and_below cell below = record { path = []; cell = cell } ∷ occurrences_from 0 below

-- each path below trees side by side begins with the place of one of them
pub occurrences_from-head : (i : ℕ) (f : Forest) (o : Occurrence) → Member (occurrences_from i f) o
    → (j : ℕ) × (p : List ℕ) × (j ∷ p ≡ o.path) × (i ≤ j)
occurrences_from-head i Bare o m = absurd m
occurrences_from-head i (Grown cell below others) o m =
    elim (Member-append_cases (map (under i) (root_and_below cell below)) (occurrences_from (suc i) others) o m) [
      | inl left ↦
          let found = Member-from_map (under i) (root_and_below cell below) o left in
          (i, found.0.path, ap (λ (v : Occurrence). v.path) found.2, omega arith)
      | inr right ↦
          let found = occurrences_from-head (suc i) others o right in
          (found.0, found.1, found.2, omega (arith, found.3))
    ]

abbrev pub OccurrenceBefore : Occurrence → Occurrence → Type 0
OccurrenceBefore o q = PathBefore o.path q.path

root-first : (cell : CellId) (i : ℕ) (f : Forest) (o : Occurrence) → Member (occurrences_from i f) o
    → OccurrenceBefore (record { path = []; cell = cell }) o
root-first cell i f o m =
    let found = occurrences_from-head i f o m in
    subst (λ p. PathBefore [] p) found.2 tt

pub occurrences_from-ascends : (i : ℕ) (f : Forest) → Ascends OccurrenceBefore (occurrences_from i f)
occurrences_from-ascends i Bare = tt
occurrences_from-ascends i (Grown cell below others) =
    Ascends-append OccurrenceBefore (map (under i) (root_and_below cell below)) (occurrences_from (suc i) others)
    (Ascends-map OccurrenceBefore OccurrenceBefore (under i) (λ o q before. inr (refl, before))
    (root_and_below cell below)
    (root-first cell 0 below, occurrences_from-ascends 0 below))
    (occurrences_from-ascends (suc i) others)
    (λ o q left right.
    let from = Member-from_map (under i) (root_and_below cell below) o left in
    let later = occurrences_from-head (suc i) others q right in
    subst (λ (v : Occurrence). PathBefore v.path q.path) from.2
    (subst (λ p. PathBefore (i ∷ from.0.path) p) later.2 (inl (omega (arith, later.3)))))

-- the occurrences of a tree are in path order
occurrences_in-ascends : (t : Tree) → Ascends OccurrenceBefore (occurrences_in t)
occurrences_in-ascends t = (root-first t.cell 0 t.below, occurrences_from-ascends 0 t.below)

occurrences_from-member : (d : Design) (f : Forest) (insts : List Inst) (i k : ℕ) (inst : Inst) (p : List ℕ) (c : CellId) → UnfoldEach d insts f
    → slice_get insts k ≡ Some inst → Reaches d inst.of p c → Member (occurrences_from i f) (record { path = (i + k) ∷ p; cell = c })
occurrences_from-member d f [] i k inst p c u is at = absurd (none-some inst is)
occurrences_from-member d Bare (x ∷ xs) i k inst p c u is at = absurd u
occurrences_from-member d (Grown cell below others) (x ∷ xs) i (suc k) inst p c u is at =
    let sum : suc i + k ≡ i + suc k = omega arith in
    Member-append_right (map (under i) (root_and_below cell below)) (occurrences_from (suc i) others) _
    (subst (λ n. Member (occurrences_from (suc i) others) (record { path = n ∷ p; cell = c })) sum
    (occurrences_from-member d others xs (suc i) k inst p c u.2 is at))
occurrences_from-member d (Grown cell below others) (x ∷ xs) i zero inst [] c u is at =
    let first : x ≡ inst = Some-same (Some x) refl is in
    let same : cell ≡ c = u.0 ∙ ap (λ (v : Inst). v.of) first ∙ Some-same (Some inst.of) refl at in
    Member-append_left (map (under i) (root_and_below cell below)) (occurrences_from (suc i) others) _
    (inl (λ t. record { path = sym (add-zero i) t ∷ []; cell = same t }))
occurrences_from-member d (Grown cell below others) (x ∷ xs) i zero inst (j ∷ q) c u is at =
    let first : x ≡ inst = Some-same (Some x) refl is in
    let parts = Reaches-parts d x.of j q c (subst (λ (v : Inst). Reaches d v.of (j ∷ q) c) (sym first) at) in
    let deep = occurrences_from-member d below (insts_at d x.of) 0 j parts.0 q c u.1 parts.1 parts.2 in
    let whole : Member (root_and_below cell below) (record { path = j ∷ q; cell = c }) =
    inr (subst (λ n. Member (occurrences_from 0 below) (record { path = n ∷ q; cell = c })) (zero-add j) deep) in
    Member-append_left (map (under i) (root_and_below cell below)) (occurrences_from (suc i) others) _
    (subst (λ n. Member (map (under i) (root_and_below cell below)) (record { path = n ∷ j ∷ q; cell = c }))
    (sym (add-zero i))
    (Member-map (under i) (root_and_below cell below) (record { path = j ∷ q; cell = c }) whole))

-- each path from the root is that of an occurrence
occurrences_in-member : (d : Design) (t : Tree) (root : CellId) (p : List ℕ) (c : CellId) → Unfolds d root t → Reaches d root p c
    → Member (occurrences_in t) (record { path = p; cell = c })
occurrences_in-member d t root [] c u at =
    let same : t.cell ≡ c = u.0 ∙ Some-same (Some root) refl at in
    inl (λ i. record { path = []; cell = same i })
occurrences_in-member d t root (j ∷ q) c u at =
    let parts = Reaches-parts d root j q c at in
    inr (subst (λ n. Member (occurrences_from 0 t.below) (record { path = n ∷ q; cell = c })) (zero-add j)
    (occurrences_from-member d t.below (insts_at d root) 0 j parts.0 q c u.1 parts.1 parts.2))

-- the instance that an occurrence goes through, and the way on from its cell
abbrev Way : Design → List Inst → ℕ → Occurrence → Type 0
Way d insts i o =
    (k : ℕ) × (inst : Inst) × (p : List ℕ) × (slice_get insts k ≡ Some inst) × (o.path ≡ (i + k) ∷ p) × Reaches d inst.of p o.cell

-- the way from a cell through one of its instances
Way-reaches : (d : Design) (root : CellId) (o : Occurrence) → Way d (insts_at d root) 0 o → Reaches d root o.path o.cell
Way-reaches d root o way =
    let path_is : o.path ≡ way.0 ∷ way.2 = way.4 ∙ ap (λ n. n ∷ way.2) (zero-add way.0) in
    subst (λ p. Reaches d root p o.cell) (sym path_is) (Reaches-cons d root way.0 way.1 way.2 o.cell way.3 way.5)

occurrences_from-way : (d : Design) (f : Forest) (insts : List Inst) (i : ℕ) (o : Occurrence) → UnfoldEach d insts f
    → Member (occurrences_from i f) o → Way d insts i o
occurrences_from-way d Bare insts i o u m = absurd m
occurrences_from-way d (Grown cell below others) [] i o u m = absurd u
occurrences_from-way d (Grown cell below others) (x ∷ xs) i o u m =
    elim (Member-append_cases (map (under i) (root_and_below cell below)) (occurrences_from (suc i) others) o m) [
      | inl left ↦
          let from = Member-from_map (under i) (root_and_below cell below) o left in
          let path_is : i ∷ from.0.path ≡ o.path = ap (λ (v : Occurrence). v.path) from.2 in
          let cell_is : from.0.cell ≡ o.cell = ap (λ (v : Occurrence). v.cell) from.2 in
          let inner : Reaches d x.of from.0.path from.0.cell = elim from.1 [
            | inl e ↦ subst (λ (v : Occurrence). Reaches d x.of v.path v.cell) e (ap Some (sym u.0))
            | inr rest ↦ Way-reaches d x.of from.0 (occurrences_from-way d below (insts_at d x.of) 0 from.0 u.1 rest)
          ] in (
            0,
            x,
            from.0.path,
            refl,
            sym path_is ∙ ap (λ n. n ∷ from.0.path) (sym (add-zero i)),
            subst (λ v. Reaches d x.of from.0.path v) cell_is inner,
          )
      | inr right ↦
          let way = occurrences_from-way d others xs (suc i) o u.2 right in
          let sum : suc i + way.0 ≡ i + suc way.0 = omega arith in
          (suc way.0, way.1, way.2, way.3, way.4 ∙ ap (λ n. n ∷ way.2) sum, way.5)
    ]

-- a listed occurrence is at the end of its path
occurrences_in-reaches : (d : Design) (t : Tree) (root : CellId) (o : Occurrence) → Unfolds d root t → Member (occurrences_in t) o
    → Reaches d root o.path o.cell
occurrences_in-reaches d t root o u m =
    elim m [
      | inl e ↦ subst (λ (v : Occurrence). Reaches d root v.path v.cell) e (ap Some (sym u.0))
      | inr rest ↦ Way-reaches d root o (occurrences_from-way d t.below (insts_at d root) 0 o u.1 rest)
    ]

pub occurrences-member : (d : Design) → NoCellIsBelowItself d → (root : CellId) (o : Occurrence) → Reaches d root o.path o.cell → Member (occurrences d root) o
unfolding occurrences
occurrences-member d acyclic root o at = occurrences_in-member d (tree d root) root o.path o.cell (tree-unfolds d acyclic root) at

pub occurrences-reaches : (d : Design) → NoCellIsBelowItself d → (root : CellId) (o : Occurrence) → Member (occurrences d root) o → Reaches d root o.path o.cell
unfolding occurrences
occurrences-reaches d acyclic root o m = occurrences_in-reaches d (tree d root) root o (tree-unfolds d acyclic root) m

pub occurrences_are_all : (d : Design) (root : CellId) → NoCellIsBelowItself d → AreOccurrences d root (occurrences d root)
unfolding occurrences
occurrences_are_all d root acyclic = record {
  each = λ o. (
    λ c. occurrences-reaches d acyclic root o (Contains-member (occurrences d root) o c),
    λ at. Member-contains (occurrences d root) o (occurrences-member d acyclic root o at),
  );
  in_order = Ascends-pairs OccurrenceBefore (occurrences d root) (occurrences_in-ascends (tree d root));
}

-- trees that unfold instances have the occurrences of the instances' cells
occurrences_from-each : (d : Design) → NoCellIsBelowItself d → (f : Forest) (insts : List Inst) (i : ℕ) → UnfoldEach d insts f
    → occurrences_from i f ≡ flat_map (λ (p : ℕ × Inst). map (under p.0) (occurrences d p.1.of)) (enumerate_from i insts)
unfolding occurrences
occurrences_from-each d acyclic Bare [] i u = refl
occurrences_from-each d acyclic Bare (inst ∷ insts) i u = absurd u
occurrences_from-each d acyclic (Grown cell below others) [] i u = absurd u
occurrences_from-each d acyclic (Grown cell below others) (inst ∷ insts) i u =
    let one : record { cell = cell; below = below } ≡ tree d inst.of = Unfolds-same d inst.of (record { cell = cell; below = below }) (tree d inst.of) (u.0, u.1) (tree-unfolds d acyclic inst.of) in
    let later = occurrences_from-each d acyclic others insts (suc i) u.2 in
    let each = λ (p : ℕ × Inst). map (under p.0) (occurrences d p.1.of) in
    cc (ap (λ (t : Tree). map (under i) (occurrences_in t)) one, later, ap (λ k. flat_map each (enumerate_from k insts)) (add-one i))

pub occurrences_go_down : (d : Design) (root : CellId) → NoCellIsBelowItself d
    → occurrences d root
    ≡ record { path = []; cell = root } ∷ flat_map (λ (p : ℕ × Inst). map (under p.0) (occurrences d p.1.of)) (enumerate_from 0 (insts_at d root))
unfolding occurrences
occurrences_go_down d root acyclic =
    let u = tree-unfolds d acyclic root in
    let each = occurrences_from-each d acyclic (tree d root).below (insts_at d root) 0 u.1 in
    let head : ◌≡◌ {A = Occurrence} (record { path = []; cell = (tree d root).cell }) (record { path = []; cell = root }) =
    λ i. record { path = []; cell = u.0 i } in
    λ i. head i ∷ each i

pub range_with_len-least : (n count k : ℕ) → Member (range_with_len n count) k → n ≤ k
range_with_len-least n zero k m = absurd m
range_with_len-least n (suc count) k m =
    elim m [ inl same ↦ omega (arith, same) | inr rest ↦ omega (arith, range_with_len-least (n + 1) count k rest) ]

pub range_with_len-most : (n count k : ℕ) → Member (range_with_len n count) k → k < n + count
range_with_len-most n zero k m = absurd m
range_with_len-most n (suc count) k m =
    elim m [ inl same ↦ omega (arith, same) | inr rest ↦ omega (arith, range_with_len-most (n + 1) count k rest) ]

pub range_with_len-ascends : (n count : ℕ) → Ascends (λ j k. j < k) (range_with_len n count)
range_with_len-ascends n zero = tt
range_with_len-ascends n (suc count) =
    (λ k m. omega (arith, range_with_len-least (n + 1) count k m), range_with_len-ascends (n + 1) count)

pub range_with_len-member : (n count k : ℕ) → n ≤ k → k < n + count → Member (range_with_len n count) k
range_with_len-member n zero k low high = absurd (omega arith)
range_with_len-member n (suc count) k low high =
    elim (cases n k low) [
      | inl same ↦ inl same
      | inr less ↦ let high' : k < (n + 1) + count = omega arith in inr (range_with_len-member (n + 1) count k less high')
    ]
  where
    cases : (a b : ℕ) → a ≤ b → (a ≡ b) ⊎ (a + 1 ≤ b)
    cases a b h = grind arith

own_nets-ascends : (d : Design) (o : Occurrence) → Ascends NetBefore (own_nets d o)
own_nets-ascends d o =
    Ascends-map (λ j k. j < k) NetBefore (at_path o.path) (λ j k less. inr (refl, less))
    (range_with_len 0 (length (nets_at d o.cell))) (range_with_len-ascends 0 (length (nets_at d o.cell)))

own_nets-parts : (d : Design) (o : Occurrence) (x : NetAt) → Member (own_nets d o) x → (o.path ≡ x.path) × (x.net < length (nets_at d o.cell))
own_nets-parts d o x m =
    let from = Member-from_map (at_path o.path) (range_with_len 0 (length (nets_at d o.cell))) x m in
    let net_is : from.0 ≡ x.net = ap (λ (v : NetAt). v.net) from.2 in
    let most = range_with_len-most 0 (length (nets_at d o.cell)) from.0 from.1 in
    (ap (λ (v : NetAt). v.path) from.2, omega (arith, most, net_is))

nets_of_each-parts : (d : Design) (os : List Occurrence) (x : NetAt) → Member (flat_map (own_nets d) os) x
    → (o : Occurrence) × Member os o × (o.path ≡ x.path) × (x.net < length (nets_at d o.cell))
nets_of_each-parts d [] x m = absurd m
nets_of_each-parts d (o ∷ os) x m =
    elim (Member-append_cases (own_nets d o) (flat_map (own_nets d) os) x m) [
      | inl here ↦ let parts = own_nets-parts d o x here in (o, inl refl, parts.0, parts.1)
      | inr later ↦ let found = nets_of_each-parts d os x later in (found.0, inr found.1, found.2, found.3)
    ]

-- the nets of occurrences in path order are in order
nets_of_each-ascends : (d : Design) (os : List Occurrence) → Ascends OccurrenceBefore os → Ascends NetBefore (flat_map (own_nets d) os)
nets_of_each-ascends d [] p = tt
nets_of_each-ascends d (o ∷ os) p =
    Ascends-append NetBefore (own_nets d o) (flat_map (own_nets d) os) (own_nets-ascends d o) (nets_of_each-ascends d os p.1)
    (λ x y here later.
    let found = nets_of_each-parts d os y later in
    inl (subst (λ q. PathBefore q y.path) (own_nets-parts d o x here).0
    (subst (λ q. PathBefore o.path q) found.2 (p.0 found.0 found.1))))

nets_of_each-member : (d : Design) (os : List Occurrence) (o : Occurrence) (n : ℕ) → Member os o → n < length (nets_at d o.cell)
    → Member (flat_map (own_nets d) os) (at_path o.path n)
nets_of_each-member d [] o n m h = absurd m
nets_of_each-member d (q ∷ os) o n m h =
    elim m [
      | inl same ↦
          Member-append_left (own_nets d q) (flat_map (own_nets d) os) (at_path o.path n)
          (subst (λ (v : Occurrence). Member (own_nets d v) (at_path o.path n)) (sym same)
          (Member-map (at_path o.path) (range_with_len 0 (length (nets_at d o.cell))) n
          (range_with_len-member 0 (length (nets_at d o.cell)) n (omega arith) (omega arith))))
      | inr rest ↦ Member-append_right (own_nets d q) (flat_map (own_nets d) os) (at_path o.path n) (nets_of_each-member d os o n rest h)
    ]

pub nets-member : (d : Design) → NoCellIsBelowItself d → (root : CellId) (x : NetAt) → IsNet d root x → Member (nets d root) x
nets-member d acyclic root x is =
    let parts = IsNet-parts d root x is in
    let o : Occurrence = record { path = x.path; cell = parts.0 } in
    nets_of_each-member d (occurrences d root) o x.net (occurrences-member d acyclic root o parts.1) parts.2

pub nets-is_net : (d : Design) → NoCellIsBelowItself d → (root : CellId) (x : NetAt) → Member (nets d root) x → IsNet d root x
nets-is_net d acyclic root x m =
    let found = nets_of_each-parts d (occurrences d root) x m in
    let at = subst (λ p. Reaches d root p found.0.cell) found.2 (occurrences-reaches d acyclic root found.0 found.1) in
    IsNet-from d root found.0.cell x.path x.net at found.3

pub nets-ascends : (d : Design) (root : CellId) → Ascends NetBefore (nets d root)
unfolding occurrences
nets-ascends d root = nets_of_each-ascends d (occurrences d root) (occurrences_in-ascends (tree d root))

pub nets_are_all : (d : Design) (root : CellId) → NoCellIsBelowItself d → AreNets d root (nets d root)
nets_are_all d root acyclic = record {
  each = λ x. (
    λ c. nets-is_net d acyclic root x (Contains-member (nets d root) x c),
    λ is. Member-contains (nets d root) x (nets-member d acyclic root x is),
  );
  in_order = Ascends-pairs NetBefore (nets d root) (nets-ascends d root);
}
