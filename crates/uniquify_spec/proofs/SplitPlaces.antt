-- After a split the cells of the kept and the copied occurrences are at one path each.
use Rattle.std.proofs.Common.{◌≡◌, ◌≢◌, ◌⊎◌, ℕ, List, [], ◌∷◌, sym, ap, subst, ◌∙◌, inl, inr, Option, true}
use Rattle.std.specs.Option.{option_map_or}
use Rattle.netlist_schema.specs.Design.{Design}
use Rattle.netlist_schema.specs.Hierarchy.{IsCell}
use Rattle.netlist_schema.specs.Types.{CellId}
use Rattle.flat_spec.specs.Occurrences.{Occurrence}
use Rattle.flat_spec.specs.Paths.{cell_along, Reaches}
use Rattle.flat_spec.proofs.ListLemmas.{Member, Ascends}
use Rattle.flat_spec.proofs.PathLemmas.{Some-same}
use Rattle.flat_spec.proofs.PinLemmas.{map-parts}
use Rattle.uniquify_spec.specs.Blocks.{is_block}
use Rattle.uniquify_spec.specs.Copies.{Copy}
use Rattle.uniquify_spec.specs.Split.{Split}
use Rattle.uniquify_spec.specs.Laws.{IsAtOnePath}
use Rattle.uniquify_spec.proofs.CopyLists.{copy-cases, same_copy, new_apart}
use Rattle.uniquify_spec.proofs.SplitAlike.{along_root, own_block}
use Rattle.uniquify_spec.proofs.SplitCells.{IsSplit, IsKept, HasCopy, split_design, own}

-- where a path leads after the split: to the own cell of where it led before
pub reached_own : (d : Design) (r : CellId) (s : Split) → IsSplit d r s → (path : List ℕ) (id : CellId) → Reaches (split_design d s) r path id
    → (c : CellId) × Reaches d r path c × (own s path c ≡ id)
reached_own d r s is path id reached = map-parts (own s path) (cell_along d r path) id (sym (along_root d r s is path) ∙ reached)

-- the own cell is that of a copy, or the cell itself where there is no copy
own-cases : (s : Split) (path : List ℕ) (c : CellId)
    → ((m : Copy) × Member s.copies m × (m.path ≡ path) × (own s path c ≡ m.id)) ⊎ ((HasCopy s path → ⊥) × (own s path c ≡ c))
own-cases s path c = elim (copy-cases s.copies path) [
  | inl absent ↦ inr (λ h. absent.1 h.0 h.1 h.2, ap (λ (o : Option Copy). option_map_or (λ copy. copy.id) o c) absent.0)
  | inr found ↦ inl (found.0, found.2, found.3, ap (λ (o : Option Copy). option_map_or (λ copy. copy.id) o c) found.1)
]

-- two paths to one cell are one, or none of them has a copy
paths_to : (d : Design) (r : CellId) (s : Split) → IsSplit d r s → (id : CellId) (p q : List ℕ) (b c : CellId)
    → Reaches d r p b → own s p b ≡ id → Reaches d r q c → own s q c ≡ id
    → (p ≡ q) ⊎ ((HasCopy s p → ⊥) × (HasCopy s q → ⊥) × (b ≡ id) × (c ≡ id))
paths_to d r s is id p q b c at_p own_p at_q own_q = elim (own-cases s p b) [
  | inl copy ↦ elim (own-cases s q c) [
    | inl other ↦
        let same = same_copy d s.copies [] is.new copy.0 other.0 copy.1 other.1 (sym copy.3 ∙ own_p ∙ sym own_q ∙ other.3) in
        inl (sym copy.2 ∙ ap (λ (m : Copy). m.path) same ∙ other.2)
    | inr none ↦ absurd (new_apart d s.copies is.new copy.0 copy.1 c (is.cells q c at_q) (sym none.1 ∙ own_q ∙ sym own_p ∙ copy.3))
  ]
  | inr none ↦ elim (own-cases s q c) [
    | inl other ↦ absurd (new_apart d s.copies is.new other.0 other.1 b (is.cells p b at_p) (sym none.1 ∙ own_p ∙ sym own_q ∙ other.3))
    | inr neither ↦ inr (none.0, neither.0, sym none.1 ∙ own_p, sym neither.1 ∙ own_q)
  ]
]

-- a cell that is new is at one path
pub new_at_one_path : (d : Design) (r : CellId) (s : Split) → IsSplit d r s → (id : CellId) → ¬ IsCell d id → IsAtOnePath (split_design d s) r id
new_at_one_path d r s is id new p q at_p at_q =
    let b = reached_own d r s is p id at_p in
    let c = reached_own d r s is q id at_q in
    elim (paths_to d r s is id p q b.0 c.0 b.1 b.2 c.1 c.2) [
      | inl same ↦ same
      | inr old ↦ absurd (new (subst (λ k. IsCell d k) old.2 (is.cells p b.0 b.1)))
    ]

-- kept occurrences of one cell are one
kept_same : (os : List Occurrence) → Ascends (λ o q. o.cell ≢ q.cell) os → (o q : Occurrence) → Member os o → Member os q → o.cell ≡ q.cell → o ≡ q
kept_same [] p o q m n same = absurd m
kept_same (x ∷ os) p o q m n same = elim m [
  | inl e ↦ elim n [
    | inl f ↦ sym e ∙ f
    | inr later ↦ absurd (p.0 q later (ap (λ (v : Occurrence). v.cell) e ∙ same))
  ]
  | inr rest ↦ elim n [
    | inl f ↦ absurd (p.0 o rest (ap (λ (v : Occurrence). v.cell) f ∙ sym same))
    | inr later ↦ kept_same os p.1 o q rest later same
  ]
]

-- where each block is kept or gets a copy, each block is at one path
pub block_at_one_path : (d : Design) (r : CellId) (s : Split) → IsSplit d r s
    → ((path : List ℕ) (c : CellId) → Reaches d r path c → is_block d c ≡ true → IsKept s path ⊎ HasCopy s path)
    → (id : CellId) → is_block (split_design d s) id ≡ true → IsAtOnePath (split_design d s) r id
block_at_one_path d r s is owned id block p q at_p at_q =
    let b = reached_own d r s is p id at_p in
    let c = reached_own d r s is q id at_q in
    elim (paths_to d r s is id p q b.0 c.0 b.1 b.2 c.1 c.2) [
      | inl same ↦ same
      | inr old ↦
          let block_b = sym (own_block d r s is p b.0 b.1) ∙ ap (is_block (split_design d s)) b.2 ∙ block in
          let block_c = sym (own_block d r s is q c.0 c.1) ∙ ap (is_block (split_design d s)) c.2 ∙ block in
          elim (owned p b.0 b.1 block_b) [
            | inr copy ↦ absurd (old.0 copy)
            | inl kept ↦ elim (owned q c.0 c.1 block_c) [
              | inr copy ↦ absurd (old.1 copy)
              | inl other ↦
                  let cell = at kept.0 p b.0 kept.1 kept.2 b.1 in
                  let cell' = at other.0 q c.0 other.1 other.2 c.1 in
                  let same = kept_same s.kept is.kept_apart kept.0 other.0 kept.1 other.1 (cell ∙ old.2 ∙ sym old.3 ∙ sym cell') in
                  sym kept.2 ∙ ap (λ (v : Occurrence). v.path) same ∙ other.2
            ]
          ]
    ]
  where
    at : (o : Occurrence) (path : List ℕ) (k : CellId) → Member s.kept o → o.path ≡ path → Reaches d r path k → o.cell ≡ k
    at o path k member same reached = Some-same (cell_along d r path) (subst (λ x. Reaches d r x o.cell) same (is.kept_reached o member)) reached
