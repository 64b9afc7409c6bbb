-- The occurrences below a path, one instance after another.
use Rattle.std.proofs.Common.{◌≡◌, ◌<◌, ◌≤◌, ◌+◌, ℕ, zero, suc, List, [], ◌∷◌, ◌++◌, map, length, get_or, drop, sym, ap, ◌∙◌, arith, length-append}
use Rattle.std.specs.List.{enumerate_from, flat_map}
use Rattle.std.proofs.lemmas.List.{length-map}
use Rattle.netlist_schema.specs.Design.{Design}
use Rattle.netlist_schema.specs.Hierarchy.{insts_at, NoCellIsBelowItself}
use Rattle.netlist_schema.specs.Types.{CellId, Inst}
use Rattle.flat_spec.specs.Occurrences.{Occurrence, occurrences, under}
use Rattle.flat_spec.specs.Below.{under_path}
use Rattle.flat_spec.proofs.BelowLemmas.{below_each, occurrences-under_path}
use Rattle.flat_spec.proofs.OccurrenceLemmas.{occurrences_go_down}
use Rattle.flat_spec.proofs.RunLemmas.{drop-first, part_more}

-- the occurrences of the cells of instances, in order, each tree under the place of its instance; the first has that place
abbrev under_each : Design → ℕ → List Inst → List Occurrence
under_each d i insts = flat_map (λ (p : ℕ × Inst). map (under p.0) (occurrences d p.1.of)) (enumerate_from i insts)

-- the root is found, and what is below it is left
pub root_found : (d : Design) → NoCellIsBelowItself d → (path here : List ℕ) (cell : CellId) (insts : List Inst) (found pushed : List Occurrence)
    → here ≡ path → insts ≡ insts_at d cell → pushed ≡ found ++ record { path = here; cell = cell } ∷ []
    → pushed ++ below_each d path 0 insts ≡ found ++ map (under_path path) (occurrences d cell)
root_found d acyclic path here cell insts found pushed here_is insts_are pushed_is =
    let root : Occurrence = record { path = path; cell = cell } in
    let pushed_root : pushed ≡ found ++ root ∷ [] = pushed_is ∙ ap (λ p. found ++ record { path = p; cell = cell } ∷ []) here_is in
    ap (λ v. pushed ++ below_each d path 0 v) insts_are
    ∙ part_more (root ∷ []) (below_each d path 0 (insts_at d cell)) found pushed (found ++ map (under_path path) (occurrences d cell)) pushed_root
    (ap (λ v. found ++ v) (sym (occurrences-under_path d acyclic path cell)))

-- one instance more
pub instance_more : (d : Design) (path here : List ℕ) (i : ℕ) (inst : Inst) (insts : List Inst) (found deep whole : List Occurrence)
    → i < length insts → inst ≡ get_or insts i inst → here ≡ path ++ i ∷ []
    → deep ≡ found ++ map (under_path here) (occurrences d inst.of)
    → found ++ below_each d path i (drop i insts) ≡ whole
    → deep ++ below_each d path (i + 1) (drop (i + 1) insts) ≡ whole
instance_more d path here i inst insts found deep whole within is here_is deep_is so_far =
    let below = map (under_path (path ++ i ∷ [])) (occurrences d inst.of) in
    let rest = below_each d path (i + 1) (drop (i + 1) insts) in
    let opened : below_each d path i (drop i insts) ≡ below ++ rest = ap (below_each d path i) (drop-first insts i inst within is) in
    let deep_here : deep ≡ found ++ below = deep_is ∙ ap (λ p. found ++ map (under_path p) (occurrences d inst.of)) here_is in
    part_more below rest found deep whole deep_here (sym (ap (λ v. found ++ v) opened) ∙ so_far)

under_each-length : (d : Design) (k i : ℕ) (inst : Inst) (insts : List Inst) → i < length insts → inst ≡ get_or insts i inst
    → length (occurrences d inst.of) ≤ length (under_each d k insts)
under_each-length d k i inst [] within is = absurd (omega arith)
under_each-length d k zero inst (x ∷ insts) within is =
    let same : length (occurrences d inst.of) ≡ length (occurrences d x.of) = ap (λ (v : Inst). length (occurrences d v.of)) is in
    let parts = length-append (map (under k) (occurrences d x.of)) (under_each d (k + 1) insts) in
    let first = length-map (occurrences d x.of) (under k) in
    omega arith
under_each-length d k (suc i) inst (x ∷ insts) within is =
    let less : i < length insts = omega arith in
    let later = under_each-length d (k + 1) i inst insts less is in
    let parts = length-append (map (under k) (occurrences d x.of)) (under_each d (k + 1) insts) in
    omega arith

-- an instance's cell has fewer occurrences than the cell that has the instance
pub occurrences-fewer : (d : Design) → NoCellIsBelowItself d → (cell : CellId) (insts : List Inst) (i : ℕ) (inst : Inst) → insts ≡ insts_at d cell
    → i < length insts → inst ≡ get_or insts i inst → length (occurrences d inst.of) < length (occurrences d cell)
occurrences-fewer d acyclic cell insts i inst insts_are within is =
    let down : length (occurrences d cell) ≡ suc (length (under_each d 0 (insts_at d cell))) = ap length (occurrences_go_down d cell acyclic) in
    let here : length (under_each d 0 insts) ≡ length (under_each d 0 (insts_at d cell)) = ap (λ v. length (under_each d 0 v)) insts_are in
    let piece = under_each-length d 0 i inst insts within is in
    omega arith
