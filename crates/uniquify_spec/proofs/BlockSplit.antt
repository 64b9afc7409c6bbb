-- The blocks below the top are split as the laws on splits ask.
use Rattle.std.proofs.Common.{◌≡◌, ◌≢◌, ◌⊎◌, ℕ, List, [], ◌∷◌, ◌++◌, refl, sym, ap, subst, ◌∙◌, inl, inr, arith, Option, Some, Bool, true, false, not}
use Rattle.std.specs.Prelude.{find, filter}
use Rattle.std.specs.Option.{option_map_or}
use Rattle.std.proofs.lemmas.Bool.{cases_Bool, true≢false, not_from_false}
use Rattle.netlist_schema.specs.Design.{Design}
use Rattle.netlist_schema.specs.Hierarchy.{IsCell}
use Rattle.netlist_schema.specs.Types.{CellId}
use Rattle.netlist_schema.specs.Valid.{IsValid}
use Rattle.edit_rules_spec.specs.Paths.{same_cell}
use Rattle.edit_rules_spec.proofs.Closed.{valid_is_closed}
use Rattle.flat_spec.specs.Occurrences.{Occurrence}
use Rattle.flat_spec.specs.PathOrder.{PathBefore}
use Rattle.flat_spec.specs.Paths.{Reaches}
use Rattle.flat_spec.proofs.ListLemmas.{Member, Ascends, Member-filter, Member-from_filter, Ascends-filter}
use Rattle.flat_spec.proofs.OccurrenceLemmas.{OccurrenceBefore}
use Rattle.flat_spec.proofs.PathLemmas.{Some-same, Reaches-front, Reaches-parts}
use Rattle.uniquify_spec.specs.Blocks.{is_block, blocks_below, is_first, root_of, each_block}
use Rattle.uniquify_spec.specs.Copies.{Copy, same_path, copy_after, copies_after}
use Rattle.uniquify_spec.proofs.CopyLists.{AreNew, find-cases, same_path-true}
use Rattle.uniquify_spec.proofs.Reached.{reached_is_below, reached_is_cell, block_of_inst}
use Rattle.uniquify_spec.proofs.SplitCells.{IsSplit, IsKept, HasCopy}
use Rattle.uniquify_spec.proofs.Unfolded.{below, below_reached, below_has_step, reached_below, below_ascends}

-- ---- copies of occurrences

pub copies_are_new : (d : Design) (os : List Occurrence) (before : List Copy) → ((o : Occurrence) → Member os o → IsCell d o.cell) → AreNew d before (copies_after d before os)
copies_are_new d [] before cells = tt
copies_are_new d (o ∷ os) before cells =
    (record { slot = refl; lib = refl; cell = cells o (inl refl) }, copies_are_new d os (before ++ copy_after d before o ∷ []) (λ q m. cells q (inr m)))

-- each copy is for one of the occurrences, and each of them has one
pub copy_comes : (d : Design) (os : List Occurrence) (before : List Copy) (m : Copy) → Member (copies_after d before os) m
    → (o : Occurrence) × Member os o × (m.path ≡ o.path) × (m.of ≡ o.cell)
copy_comes d [] before m member = absurd member
copy_comes d (o ∷ os) before m member = elim member [
  | inl e ↦ (o, inl refl, ap (λ (x : Copy). x.path) (sym e), ap (λ (x : Copy). x.of) (sym e))
  | inr rest ↦ let more = copy_comes d os (before ++ copy_after d before o ∷ []) m rest in (more.0, inr more.1, more.2, more.3)
]

pub copy_made : (d : Design) (os : List Occurrence) (before : List Copy) (o : Occurrence) → Member os o
    → (m : Copy) × Member (copies_after d before os) m × (m.path ≡ o.path)
copy_made d [] before o member = absurd member
copy_made d (v ∷ os) before o member = elim member [
  | inl e ↦ (copy_after d before v, inl refl, ap (λ (x : Occurrence). x.path) e)
  | inr rest ↦ let more = copy_made d os (before ++ copy_after d before v ∷ []) o rest in (more.0, inr more.1, more.2)
]

-- ---- firsts

first_found : (os : List Occurrence) (o : Occurrence) → is_first os o ≡ true
    → (f : Occurrence) × (find (λ (other : Occurrence). same_cell other.cell o.cell) os ≡ Some f) × (f.path ≡ o.path)
first_found os o is = elim (find-cases (λ (other : Occurrence). same_cell other.cell o.cell) os) [
  | inl none ↦ absurd (true≢false (sym is ∙ ap (λ (f : Option Occurrence). option_map_or (λ first. same_path first.path o.path) f false) none.0))
  | inr some ↦ (some.0, some.1, same_path-true some.0.path o.path (sym (ap (λ (f : Option Occurrence). option_map_or (λ first. same_path first.path o.path) f false) some.1) ∙ is))
]

-- two firsts of one cell are at one path
pub firsts_same : (os : List Occurrence) (o q : Occurrence) → is_first os o ≡ true → is_first os q ≡ true → o.cell ≡ q.cell → o.path ≡ q.path
firsts_same os o q a b same =
    let f = first_found os o a in
    let g = first_found os q b in
    let moved : find (λ (other : Occurrence). same_cell other.cell q.cell) os ≡ Some f.0 = subst (λ c. find (λ (other : Occurrence). same_cell other.cell c) os ≡ Some f.0) same f.1 in
    sym f.2 ∙ ap (λ (x : Occurrence). x.path) (Some-same (find (λ (other : Occurrence). same_cell other.cell q.cell) os) moved g.1) ∙ g.2

pub PathBefore-never : (p : List ℕ) → PathBefore p p → ⊥
PathBefore-never [] h = h
PathBefore-never (i ∷ p) h = elim h [ inl less ↦ omega (arith, less) | inr same ↦ PathBefore-never p same.1 ]

firsts_apart : (os xs : List Occurrence) → Ascends OccurrenceBefore xs → ((o : Occurrence) → Member xs o → is_first os o ≡ true) → Ascends (λ o q. o.cell ≢ q.cell) xs
firsts_apart os [] p firsts = tt
firsts_apart os (x ∷ xs) p firsts = (
  λ y m same.
      let paths = firsts_same os x y (firsts x (inl refl)) (firsts y (inr m)) same in
      PathBefore-never x.path (subst (λ q. PathBefore x.path q) (sym paths) (p.0 y m)),
  firsts_apart os xs p.1 (λ o m. firsts o (inr m)),
)

-- ---- the split

root_apart : (d : Design) → IsValid d → (r : CellId) (path : List ℕ) → path ≢ [] → Reaches d r path r → ⊥
root_apart d valid r [] some reached = some refl
root_apart d valid r (i ∷ path) some reached = valid.no_cycle r (reached_is_below d path i r r reached)

abbrev pub block_parts : (d : Design) (r : CellId) (o : Occurrence) → Member (blocks_below d r) o → Member (below d r) o × (is_block d o.cell ≡ true)
block_parts d r o member = Member-from_filter (λ (o : Occurrence). is_block d o.cell) (below d r) o member

pub block_reached : (d : Design) → IsValid d → (r : CellId) (o : Occurrence) → Member (blocks_below d r) o → Reaches d r o.path o.cell
block_reached d valid r o member = below_reached d valid r o (block_parts d r o member).0

pub reached_block : (d : Design) → IsValid d → (r : CellId) (i : ℕ) (path : List ℕ) (c : CellId) → Reaches d r (i ∷ path) c → is_block d c ≡ true
    → Member (blocks_below d r) (record { path = i ∷ path; cell = c })
reached_block d valid r i path c reached block =
    Member-filter (λ (o : Occurrence). is_block d o.cell) (below d r) (record { path = i ∷ path; cell = c }) (reached_below d valid r i path c reached) block

abbrev is_later : Design → CellId → Occurrence → Bool
is_later d r o = not (is_first (blocks_below d r) o)

-- each block below the top is kept or gets a copy
pub block_owned : (d : Design) → IsValid d → (r : CellId) (path : List ℕ) (c : CellId) → Reaches d r path c → is_block d c ≡ true
    → IsKept (each_block d r) path ⊎ HasCopy (each_block d r) path
block_owned d valid r [] c reached block = inl (root_of r, inl refl, refl)
block_owned d valid r (i ∷ path) c reached block =
    let os = blocks_below d r in
    let q : Occurrence = record { path = i ∷ path; cell = c } in
    let member = reached_block d valid r i path c reached block in
    elim (cases_Bool (is_first os q)) [
      | inl first ↦ inl (q, inr (Member-filter (is_first os) os q member first), refl)
      | inr later ↦
          let made = copy_made d (filter (is_later d r) os) [] q (Member-filter (is_later d r) os q member (not_from_false (is_first os q) later)) in
          inr (made.0, made.1, made.2)
    ]

pub each_block_is_split : (d : Design) → IsValid d → (r : CellId) → IsCell d r → IsSplit d r (each_block d r)
each_block_is_split d valid r is = record {
  cells = reached;
  kept_reached = λ o member. elim member [ inl e ↦ subst (λ (x : Occurrence). Reaches d r x.path x.cell) e refl | inr rest ↦ block_reached d valid r o (first_parts o rest).0 ];
  kept_apart = (
    λ q member same. root_apart d valid r q.path (below_has_step d r q (block_parts d r q (first_parts q member).0).0) (subst (λ k. Reaches d r q.path k) (sym same) (block_reached d valid r q (first_parts q member).0)),
    firsts_apart os (filter (is_first os) os) (Ascends-filter OccurrenceBefore (is_first os) os (Ascends-filter OccurrenceBefore (λ (o : Occurrence). is_block d o.cell) (below d r) (below_ascends d r))) (λ o member. (first_parts o member).1),
  );
  copies_reached = λ m member. let from = copy_parts m member in subst (λ p. Reaches d r p m.of) (sym from.2) (subst (λ k. Reaches d r from.0.path k) (sym from.3) (block_reached d valid r from.0 from.1));
  copies_below = λ m member same. let from = copy_parts m member in below_has_step d r from.0 (block_parts d r from.0 from.1).0 (sym from.2 ∙ same);
  copies_of_blocks = λ m member. let from = copy_parts m member in ap (is_block d) from.3 ∙ (block_parts d r from.0 from.1).1;
  new = copies_are_new d (filter (is_later d r) os) [] (λ o member. let block = (Member-from_filter (is_later d r) os o member).0 in reached o.path o.cell (block_reached d valid r o block));
  mine = λ path o member at. elim member [
    | inl e ↦ block_or_root path (subst (λ (x : Occurrence). Reaches d r path x.cell) (sym e) at)
    | inr rest ↦ block_owned d valid r path o.cell at (block_parts d r o (first_parts o rest).0).1
  ];
  parents = λ m member path i at.
      let from = copy_parts m member in
      let there : Reaches d r (path ++ i ∷ []) m.of = subst (λ p. Reaches d r p m.of) (sym from.2 ∙ at) (subst (λ k. Reaches d r from.0.path k) (sym from.3) (block_reached d valid r from.0 from.1)) in
      let front = Reaches-front d r m.of path (i ∷ []) there in
      let parts = Reaches-parts d front.0 i [] m.of front.2 in
      block_owned d valid r path front.0 front.1 (block_of_inst d front.0 i parts.0 parts.1);
}
  where
    os : List Occurrence
    os = blocks_below d r

    reached : (path : List ℕ) (c : CellId) → Reaches d r path c → IsCell d c
    reached = reached_is_cell d (valid_is_closed d valid) r is

    first_parts : (o : Occurrence) → Member (filter (is_first (blocks_below d r)) (blocks_below d r)) o → Member (blocks_below d r) o × (is_first (blocks_below d r) o ≡ true)
    first_parts o member = Member-from_filter (is_first (blocks_below d r)) (blocks_below d r) o member

    copy_parts : (m : Copy) → Member (each_block d r).copies m → (o : Occurrence) × Member (blocks_below d r) o × (m.path ≡ o.path) × (m.of ≡ o.cell)
    copy_parts m member =
        let from = copy_comes d (filter (is_later d r) (blocks_below d r)) [] m member in
        (from.0, (Member-from_filter (is_later d r) (blocks_below d r) from.0 from.1).0, from.2, from.3)

    block_or_root : (path : List ℕ) → Reaches d r path r → IsKept (each_block d r) path ⊎ HasCopy (each_block d r) path
    block_or_root [] at = inl (root_of r, inl refl, refl)
    block_or_root (i ∷ path) at = absurd (valid.no_cycle r (reached_is_below d path i r r at))

-- a copy is in the library of its cell
pub copy_lib : (d : Design) (os : List Occurrence) (before : List Copy) (m : Copy) → Member (copies_after d before os) m → m.id.lib ≡ m.of.lib
copy_lib d [] before m member = absurd member
copy_lib d (o ∷ os) before m member = elim member [
  | inl e ↦ subst (λ (x : Copy). x.id.lib ≡ x.of.lib) e refl
  | inr rest ↦ copy_lib d os (before ++ copy_after d before o ∷ []) m rest
]
