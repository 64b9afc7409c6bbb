-- What stands at and below an occurrence, one instance after another.
use Rattle.std.proofs.Common.{◌≡◌, ◌+◌, ℕ, List, [], ◌∷◌, ◌++◌, map, refl, sym, ap, subst, ◌∙◌, append_assoc, append-nil, inl, inr, Some}
use Rattle.std.specs.List.{enumerate_from, flat_map}
use Rattle.std.specs.Option.{option_map_or}
use Rattle.std.proofs.lemmas.List.{map-append}
use Rattle.std.proofs.lemmas.Grind.{flat_map-append}
use Rattle.netlist_schema.specs.Design.{Design}
use Rattle.netlist_schema.specs.Hierarchy.{insts_at, NoCellIsBelowItself}
use Rattle.netlist_schema.specs.Types.{CellId, Inst, TopHead}
use Rattle.flat_spec.specs.Below.{under_path, items_under}
use Rattle.flat_spec.specs.Flattening.{flattening, items_of}
use Rattle.flat_spec.specs.Occurrences.{Occurrence, occurrences, under}
use Rattle.flat_spec.proofs.ListLemmas.{Member, Ascends}
use Rattle.flat_spec.proofs.OccurrenceLemmas.{occurrences_go_down}

abbrev under_each : Design → ℕ → List Inst → List Occurrence
under_each d i insts = flat_map (λ (p : ℕ × Inst). map (under p.0) (occurrences d p.1.of)) (enumerate_from i insts)

abbrev pub below_each : Design → List ℕ → ℕ → List Inst → List Occurrence
below_each d path i insts = flat_map (λ (p : ℕ × Inst). map (under_path (path ++ p.0 ∷ [])) (occurrences d p.1.of)) (enumerate_from i insts)

under_path-under : (path : List ℕ) (i : ℕ) (os : List Occurrence) → map (under_path path) (map (under i) os) ≡ map (under_path (path ++ i ∷ [])) os
under_path-under path i [] = refl
under_path-under path i (o ∷ os) =
    let same : path ++ i ∷ o.path ≡ (path ++ i ∷ []) ++ o.path = sym (append_assoc path (i ∷ []) o.path) in
    let others = under_path-under path i os in
    λ t. record { path = same t; cell = o.cell } ∷ others t

under_path-each : (d : Design) (path : List ℕ) (i : ℕ) (insts : List Inst) → map (under_path path) (under_each d i insts) ≡ below_each d path i insts
under_path-each d path i [] = refl
under_path-each d path i (inst ∷ insts) =
    let one = under_path-under path i (occurrences d inst.of) in
    let others = under_path-each d path (i + 1) insts in
    map-append (under_path path) (map (under i) (occurrences d inst.of)) (under_each d (i + 1) insts)
    ∙ (λ t. one t ++ others t)

pub occurrences-under_path : (d : Design) → NoCellIsBelowItself d → (path : List ℕ) (cell : CellId)
    → map (under_path path) (occurrences d cell) ≡ record { path = path; cell = cell } ∷ below_each d path 0 (insts_at d cell)
occurrences-under_path d acyclic path cell =
    let root : path ++ [] ≡ path = append-nil path in
    let others = under_path-each d path 0 (insts_at d cell) in
    ap (map (under_path path)) (occurrences_go_down d cell acyclic)
    ∙ (λ t. record { path = root t; cell = cell } ∷ others t)

items_under-each : (d : Design) (top : TopHead) (path : List ℕ) (i : ℕ) (insts : List Inst)
    → flat_map (items_of d top) (below_each d path i insts)
    ≡ flat_map (λ (p : ℕ × Inst). items_under d top (path ++ p.0 ∷ []) p.1.of) (enumerate_from i insts)
items_under-each d top path i [] = refl
items_under-each d top path i (inst ∷ insts) =
    flat_map-append (items_of d top) (map (under_path (path ++ i ∷ [])) (occurrences d inst.of)) (below_each d path (i + 1) insts)
    ∙ ap (λ v. items_under d top (path ++ i ∷ []) inst.of ++ v) (items_under-each d top path (i + 1) insts)

pub items_go_down : (d : Design) (top : TopHead) (path : List ℕ) (c : CellId) → NoCellIsBelowItself d
    → items_under d top path c
    ≡ items_of d top (record { path = path; cell = c }) ++ flat_map (λ (p : ℕ × Inst). items_under d top (path ++ p.0 ∷ []) p.1.of) (enumerate_from 0 (insts_at d c))
items_go_down d top path c acyclic =
    ap (flat_map (items_of d top)) (occurrences-under_path d acyclic path c)
    ∙ ap (λ v. items_of d top (record { path = path; cell = c }) ++ v) (items_under-each d top path 0 (insts_at d c))

-- two lists in strict order with the same elements are one
pub Ascends-same : {A : Type 0} (R : A → A → Type 0) → ((x y : A) → R x y → R y x → ⊥) → (xs ys : List A) → Ascends R xs → Ascends R ys
    → ((x : A) → Member xs x → Member ys x) → ((x : A) → Member ys x → Member xs x) → xs ≡ ys
Ascends-same R apart [] [] p q to from = refl
Ascends-same R apart [] (y ∷ ys) p q to from = absurd (from y (inl refl))
Ascends-same R apart (x ∷ xs) [] p q to from = absurd (to x (inl refl))
Ascends-same {A} R apart (x ∷ xs) (y ∷ ys) p q to from =
    let heads : x ≡ y = elim (to x (inl refl)) [
      | inl e ↦ sym e
      | inr later ↦ elim (from y (inl refl)) [ inl e ↦ e | inr after ↦ absurd (apart x y (p.0 y after) (q.0 x later)) ]
    ] in
    let rest : xs ≡ ys = Ascends-same R apart xs ys p.1 q.1
    (λ v m. elim (to v (inr m)) [
      | inl e ↦
          let twice : R x x = subst (λ w. R x w) (sym e ∙ sym heads) (p.0 v m) in
          absurd (apart x x twice twice)
      | inr there ↦ there
    ])
    (λ v m. elim (from v (inr m)) [
      | inl e ↦
          let twice : R y y = subst (λ w. R y w) (sym e ∙ heads) (q.0 v m) in
          absurd (apart y y twice twice)
      | inr there ↦ there
    ]) in
    λ t. heads t ∷ rest t

pub under_path-none : (os : List Occurrence) → map (under_path []) os ≡ os
under_path-none [] = refl
under_path-none (o ∷ os) = ap (λ v. o ∷ v) (under_path-none os)

-- the flattening is what stands under the top
pub flattening_is_under_top : (d : Design) (top : TopHead) → d.top ≡ Some top → flattening d ≡ items_under d top [] top.cell
flattening_is_under_top d top is =
    ap (λ t. option_map_or (λ (v : TopHead). flat_map (items_of d v) (occurrences d v.cell)) t []) is
    ∙ ap (flat_map (items_of d top)) (sym (under_path-none (occurrences d top.cell)))
