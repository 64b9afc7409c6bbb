-- The blocks below a cell are its own blocks, each with the blocks below it.
use Rattle.std.proofs.Common.{◌≡◌, ℕ, Bool, true, false, cond, List, [], ◌∷◌, ◌++◌, map, Option, Some, None, refl, sym, ap, ◌∙◌}
use Rattle.std.specs.Prelude.{filter, is_some}
use Rattle.std.specs.List.{enumerate_from, flat_map}
use Rattle.netlist_schema.specs.Design.{Design, cell_at, insts_in}
use Rattle.netlist_schema.specs.Hierarchy.{insts_at}
use Rattle.netlist_schema.specs.Types.{CellId, Contents, Inst}
use Rattle.netlist_schema.specs.Valid.{IsValid}
use Rattle.edit_rules_spec.specs.Seen.{contents_at}
use Rattle.edit_rules_spec.proofs.Lists.{filter_both}
use Rattle.flat_spec.specs.Occurrences.{Occurrence, occurrences, under}
use Rattle.flat_spec.specs.Trees.{tree}
use Rattle.flat_spec.proofs.OccurrenceLemmas.{occurrences_go_down}
use Rattle.uniquify_spec.specs.Blocks.{blocks, blocks_below, is_block, root_of}
use Rattle.uniquify_spec.proofs.Unfolded.{below, below_are}
use Rattle.uniquify_spec.proofs.Agreed.{insts_inside}
use Rattle.uniquify_copies.specs.declared.spot.Step.{Step}
use Rattle.uniquify_blocks.specs.Kids.{kids_of, step_of}
use Rattle.uniquify_op.specs.Walks.{all_under}

-- one level of the occurrences below a cell
abbrev level : Design → List (ℕ × Inst) → List Occurrence
level d ps = flat_map (λ (p : ℕ × Inst). map (under p.0) (occurrences d p.1.of)) ps

down : (d : Design) → IsValid d → (c : CellId) → record { path = []; cell = (tree d c).cell } ∷ below d c ≡ root_of c ∷ level d (enumerate_from 0 (insts_at d c))
down d valid c = sym (below_are d valid c) ∙ occurrences_go_down d c valid.no_cycle

below_level : (d : Design) → IsValid d → (c : CellId) → below d c ≡ level d (enumerate_from 0 (insts_at d c))
below_level d valid c = let whole = down d valid c in cc

all_of : (d : Design) → IsValid d → (c : CellId) → occurrences d c ≡ root_of c ∷ below d c
all_of d valid c =
    let whole = down d valid c in
    let head : ◌≡◌ {A = Occurrence} (record { path = []; cell = (tree d c).cell }) (root_of c) = cc in
    below_are d valid c ∙ ap (λ (o : Occurrence). o ∷ below d c) head

-- a leaf has nothing below it
no_insts : (o : Option Contents) → is_some o ≡ false → insts_in o ≡ []
no_insts None is = refl
no_insts (Some contents) is = cc

leaf_below : (d : Design) → IsValid d → (c : CellId) → is_block d c ≡ false → below d c ≡ []
leaf_below d valid c leaf =
    let none : insts_at d c ≡ [] = sym (insts_inside (cell_at d c)) ∙ no_insts (contents_at d c) leaf in
    below_level d valid c ∙ ap (λ (insts : List Inst). level d (enumerate_from 0 insts)) none

-- blocks under a step
blocks_under : (d : Design) (i : ℕ) (os : List Occurrence) → blocks d (map (under i) os) ≡ map (under i) (blocks d os)
blocks_under d i [] = refl
blocks_under d i (o ∷ os) = by (is_block d o.cell) (blocks_under d i os)
  where
    by : (b : Bool) → blocks d (map (under i) os) ≡ map (under i) (blocks d os) → cond b (under i o ∷ blocks d (map (under i) os)) (blocks d (map (under i) os)) ≡ map (under i) (cond b (o ∷ blocks d os) (blocks d os))
    by true rest = ap (λ l. under i o ∷ l) rest
    by false rest = rest

one_blocks : (d : Design) → IsValid d → (c : CellId) → blocks d (occurrences d c) ≡ cond (is_block d c) (root_of c ∷ blocks_below d c) []
one_blocks d valid c = ap (blocks d) (all_of d valid c) ∙ by (is_block d c) refl
  where
    by : (b : Bool) → is_block d c ≡ b → cond b (root_of c ∷ blocks d (below d c)) (blocks d (below d c)) ≡ cond b (root_of c ∷ blocks_below d c) []
    by true is = refl
    by false is = ap (blocks d) (leaf_below d valid c is)

level_blocks : (d : Design) → IsValid d → (ps : List (ℕ × Inst)) → blocks d (level d ps) ≡ all_under d (filter (λ (step : Step). is_block d step.of) (map step_of ps))
level_blocks d valid [] = refl
level_blocks d valid (p ∷ ps) =
    filter_both (λ (o : Occurrence). is_block d o.cell) (map (under p.0) (occurrences d p.1.of)) (level d ps)
    ∙ (λ t. (blocks_under d p.0 (occurrences d p.1.of) ∙ ap (map (under p.0)) (one_blocks d valid p.1.of)) t ++ level_blocks d valid ps t)
    ∙ by (is_block d p.1.of) (filter (λ (step : Step). is_block d step.of) (map step_of ps))
  where
    by : (b : Bool) (steps : List Step) → map (under p.0) (cond b (root_of p.1.of ∷ blocks_below d p.1.of) []) ++ all_under d steps ≡ all_under d (cond b (step_of p ∷ steps) steps)
    by true steps = refl
    by false steps = refl

pub blocks_go_down : (d : Design) → IsValid d → (c : CellId) → blocks_below d c ≡ all_under d (kids_of d c)
blocks_go_down d valid c = ap (blocks d) (below_level d valid c) ∙ level_blocks d valid (enumerate_from 0 (insts_at d c))
