-- Which occurrences get cells of their own.
use Rattle.std.specs.Prelude.{ℕ, Bool, false, not, List, [], ◌∷◌, filter, find, map, is_some, slice_get}
use Rattle.std.specs.Option.{option_map_or}
use Rattle.netlist_schema.specs.Design.{Design}
use Rattle.netlist_schema.specs.Hierarchy.{insts_at}
use Rattle.netlist_schema.specs.Types.{CellId}
use Rattle.edit_rules_spec.specs.Find.{inst_place}
use Rattle.edit_rules_spec.specs.Paths.{most_cells, same_cell}
use Rattle.edit_rules_spec.specs.Seen.{contents_at}
use Rattle.flat_spec.specs.Occurrences.{Occurrence, under, occurrences_from}
use Rattle.flat_spec.specs.Trees.{Forest, grown}
use Rattle.uniquify_spec.specs.Copies.{same_path, copies_after}
use Rattle.uniquify_spec.specs.Split.{Split}

-- a block is a cell that is no leaf
abbrev pub is_block : Design → CellId → Bool
is_block d id = is_some (contents_at d id)

abbrev pub blocks : Design → List Occurrence → List Occurrence
blocks d os = filter (λ o. is_block d o.cell) os

-- The trees below a cell. They are as deep as any design's may be, and not as this one's, so that they do not change where cells
-- are added elsewhere. Rest nothing on the depth: in a valid design they are the trees below the cell.
unfoldable pub trees_below : Design → CellId → Forest
trees_below d c = grown d most_cells (insts_at d c)

-- the occurrences of blocks below a cell, in path order
abbrev pub blocks_below : Design → CellId → List Occurrence
blocks_below d top = blocks d (occurrences_from 0 (trees_below d top))

-- among these occurrences it is the first of its cell
abbrev pub is_first : List Occurrence → Occurrence → Bool
is_first os o = option_map_or (λ first. same_path first.path o.path) (find (λ other. same_cell other.cell o.cell) os) false

abbrev pub root_of : CellId → Occurrence
root_of top = record { path = []; cell = top }

-- each block below the top: the first occurrence of a cell keeps it, and each later one gets a copy
abbrev pub each_block : Design → CellId → Split
each_block d top =
    let os = blocks_below d top in
    record {
      kept = root_of top ∷ filter (is_first os) os;
      copies = copies_after d [] (filter (λ o. not (is_first os o)) os);
    }

-- the occurrences at the ends of the steps of a path of identifiers, from a cell downwards, as far as the path leads
abbrev pub steps_along : Design → CellId → List (List ℕ) → List Occurrence
steps_along d c [] = []
steps_along d c (step ∷ steps) =
    option_map_or (λ place. option_map_or (λ inst. map (under place) (root_of inst.of ∷ steps_along d inst.of steps)) (slice_get (insts_at d c) place) [])
    (inst_place step (insts_at d c)) []

-- the blocks along a path: each gets a copy, also where it is at one place only
abbrev pub along_path : Design → List (List ℕ) → CellId → Split
along_path d path top = record { kept = root_of top ∷ []; copies = copies_after d [] (blocks d (steps_along d top path)) }
