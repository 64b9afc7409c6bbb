-- How the flattening of a tower begins: its list is too long to be computed, so it is followed down the first instances.
use Rattle.std.proofs.Common.{◌≡◌, ◌<◌, ◌+◌, ℕ, zero, suc, List, [], ◌∷◌, ◌++◌, map, refl, sym, ap, subst, ◌∙◌, arith, Some, add-zero, zero-add, append_assoc, inl, inr}
use Rattle.std.specs.Prelude.{slice_get, codes}
use Rattle.std.specs.List.{Contains, enumerate_from, flat_map, range_with_len}
use Rattle.std.proofs.lemmas.Option.{none-some, same_Some}
use Rattle.netlist_schema.specs.Design.{Design, insts_of}
use Rattle.netlist_schema.specs.Hierarchy.{insts_at, NoCellIsBelowItself}
use Rattle.netlist_schema.specs.Types.{CellBody, CellId, Inst, Lib}
use Rattle.netlist_schema.proofs.Cells.{cell_of_inst, ranked_has_no_cycle}
use Rattle.flat_spec.specs.ExampleParts.{named, id_of, inst}
use Rattle.flat_spec.specs.ExampleTower.{storey, tower, TowerBegins}
use Rattle.flat_spec.specs.Flattening.{items_of}
use Rattle.flat_spec.specs.Occurrences.{Occurrence, under, occurrences}
use Rattle.flat_spec.proofs.ListLemmas.{Contains-member}
use Rattle.flat_spec.proofs.OccurrenceLemmas.{occurrences_go_down}
use Rattle.flat_spec.proofs.TreeLemmas.{lib_found}

storey_at : (first count k : ℕ) (body : CellBody) → slice_get (map storey (range_with_len first count)) k ≡ Some body → body ≡ storey (first + k)
storey_at first zero k body e = absurd (none-some body e)
storey_at first (suc count) zero body e = sym (same_Some (storey first) body e) ∙ ap storey (sym (add-zero first))
storey_at first (suc count) (suc k) body e =
    let sum : (first + 1) + k ≡ first + suc k = omega arith in
    storey_at (first + 1) count k body e ∙ ap storey sum

only : (l k : Lib) (i : ℕ) → slice_get (l ∷ []) i ≡ Some k → l ≡ k
only l k zero e = same_Some l k e
only l k (suc i) e = absurd (none-some k e)

lower : (height : ℕ) (i : Inst) → Contains (insts_of (storey height)) i → i.of.slot < height
lower zero i has = absurd (omega arith)
lower (suc height) i has =
    elim (Contains-member (insts_of (storey (suc height))) i has) [
      | inl first ↦ let same : height ≡ i.of.slot = ap (λ (v : Inst). v.of.slot) first in omega arith
      | inr rest ↦ elim rest [
        | inl second ↦ let same : height ≡ i.of.slot = ap (λ (v : Inst). v.of.slot) second in omega arith
        | inr none ↦ absurd none
      ]
    ]

-- each storey is above those placed in it
pub tower_has_no_cycle : (height : ℕ) → NoCellIsBelowItself (tower height)
tower_has_no_cycle height = ranked_has_no_cycle (tower height) (λ id. id.slot) (λ id i has.
    let found = cell_of_inst (tower height) id i has in
    let l = lib_found (slice_get (tower height).libs id.lib.0) id.slot found.0 found.1 in
    let cells : slice_get (map storey (range_with_len 0 (height + 1))) id.slot ≡ Some found.0 =
    subst (λ (v : Lib). slice_get v.cells id.slot ≡ Some found.0) (sym (only _ l.0 id.lib.0 l.1)) l.2 in
    let body : found.0 ≡ storey id.slot = storey_at 0 (height + 1) id.slot found.0 cells ∙ ap storey (zero-add id.slot) in
    lower id.slot i (subst (λ (b : CellBody). Contains (insts_of b) i) body found.2))

-- the occurrences of the cell begin with these
abbrev Begins : Design → CellId → List Occurrence → Type 0
Begins d c os = (others : List Occurrence) × (occurrences d c ≡ os ++ others)

map-append_lem : (i : ℕ) (xs ys : List Occurrence) → map (under i) (xs ++ ys) ≡ map (under i) xs ++ map (under i) ys
map-append_lem i [] ys = refl
map-append_lem i (x ∷ xs) ys = ap (λ v. under i x ∷ v) (map-append_lem i xs ys)

begins_more : (d : Design) → NoCellIsBelowItself d → (c : CellId) (i : Inst) (insts : List Inst) (os : List Occurrence) → insts_at d c ≡ i ∷ insts
    → Begins d i.of os → Begins d c (record { path = []; cell = c } ∷ map (under 0) os)
begins_more d acyclic c i insts os is begins =
    let each = λ (p : ℕ × Inst). map (under p.0) (occurrences d p.1.of) in
    let later = flat_map each (enumerate_from 1 insts) in
    let root : Occurrence = record { path = []; cell = c } in
    let opened : occurrences d c ≡ root ∷ map (under 0) (occurrences d i.of) ++ later =
    occurrences_go_down d c acyclic ∙ ap (λ v. root ∷ flat_map each (enumerate_from 0 v)) is in
    let split : map (under 0) (occurrences d i.of) ++ later ≡ map (under 0) os ++ (map (under 0) begins.0 ++ later) =
    ap (λ v. map (under 0) v ++ later) begins.1
    ∙ ap (λ v. v ++ later) (map-append_lem 0 os begins.0)
    ∙ append_assoc (map (under 0) os) (map (under 0) begins.0) later in
    (map (under 0) begins.0 ++ later, opened ∙ ap (λ v. root ∷ v) split)

begins_here : (d : Design) → NoCellIsBelowItself d → (c : CellId) → Begins d c (record { path = []; cell = c } ∷ [])
begins_here d acyclic c =
    (flat_map (λ (p : ℕ × Inst). map (under p.0) (occurrences d p.1.of)) (enumerate_from 0 (insts_at d c)), occurrences_go_down d c acyclic)

-- one storey up
begins_above : (height : ℕ) (os : List Occurrence)
    → insts_at (tower 60) (id_of 0 (suc height)) ≡ inst (codes "a") (id_of 0 height) [] ∷ inst (codes "b") (id_of 0 height) [] ∷ []
    → Begins (tower 60) (id_of 0 height) os
    → Begins (tower 60) (id_of 0 (suc height)) (record { path = []; cell = id_of 0 (suc height) } ∷ map (under 0) os)
begins_above height os is begins =
    begins_more (tower 60) (tower_has_no_cycle 60) (id_of 0 (suc height)) (inst (codes "a") (id_of 0 height) [])
    (inst (codes "b") (id_of 0 height) [] ∷ []) os is begins

-- the first way down, from a storey on
abbrev way_down : ℕ → ℕ → List Occurrence
way_down height zero = record { path = []; cell = id_of 0 height } ∷ []
way_down height (suc storeys) = record { path = []; cell = id_of 0 (height + suc storeys) } ∷ map (under 0) (way_down height storeys)

tower_begins_at : Begins (tower 60) (id_of 0 60) (way_down 51 9)
tower_begins_at =
    begins_above 59 (way_down 51 8) refl
    (begins_above 58 (way_down 51 7) refl
    (begins_above 57 (way_down 51 6) refl
    (begins_above 56 (way_down 51 5) refl
    (begins_above 55 (way_down 51 4) refl
    (begins_above 54 (way_down 51 3) refl
    (begins_above 53 (way_down 51 2) refl
    (begins_above 52 (way_down 51 1) refl
    (begins_above 51 (way_down 51 0) refl (begins_here (tower 60) (tower_has_no_cycle 60) (id_of 0 51))))))))))

pub tower_begins : TowerBegins
tower_begins = (
  flat_map (items_of (tower 60) (record { name = named (codes "tower"); cell = id_of 0 60; properties = [] })) tower_begins_at.0,
  ap (flat_map (items_of (tower 60) (record { name = named (codes "tower"); cell = id_of 0 60; properties = [] }))) tower_begins_at.1,
)
