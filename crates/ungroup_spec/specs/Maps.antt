-- Where occurrences and nets of a tree are after an instance is dissolved.
use Rattle.std.specs.Prelude.{◌+◌, ◌==◌, ◌&&◌, ℕ, Bool, cond, List, [], ◌∷◌, Option, Some, None, option_and_then, option_map, slice_get}
use Rattle.netlist_schema.specs.Design.{Design}
use Rattle.netlist_schema.specs.Hierarchy.{insts_at}
use Rattle.netlist_schema.specs.Types.{CellId}
use Rattle.edit_rules_spec.specs.Paths.{same_cell}
use Rattle.flat_spec.specs.Occurrences.{Occurrence}
use Rattle.flat_spec.specs.Paths.{at_path}
use Rattle.flat_spec.specs.Types.{NetAt}
use Rattle.ungroup_spec.specs.Dissolved.{moved_place}
use Rattle.ungroup_spec.specs.Groups.{Site, outer, inner, became}

-- an instance that is dissolved: the cell that it stands in, and the site
pub record Dissolving : Type 0 where
  pub cell : CellId
  pub site : Site

-- instance i of a cell is the dissolved one
abbrev pub is_dissolved : Dissolving → CellId → ℕ → Bool
is_dissolved q c i = same_cell c q.cell && (i == q.site.place)

-- where any other instance of a cell stands afterwards
abbrev pub step_after : Dissolving → CellId → ℕ → ℕ
step_after q c i = cond (same_cell c q.cell) (moved_place q.site i) i

-- and the children of the dissolved one
abbrev pub child_after : Dissolving → ℕ → ℕ
child_after q j = q.site.place + j

-- which net of a cell's contents a net of these becomes
abbrev pub net_kept : Dissolving → CellId → ℕ → ℕ
net_kept q c n = cond (same_cell c q.cell) (became q.site (outer n)) n

-- The path, from a cell downwards, afterwards. Where it goes through the dissolved instance on to a child, these two steps become one;
-- the other steps move with their instances. A path that ends at the dissolved instance, or leads nowhere, has none.
abbrev mutual
  pub path_after : Design → Dissolving → CellId → List ℕ → Option (List ℕ)
  path_after d q c [] = Some []
  path_after d q c (i ∷ path) =
      cond (is_dissolved q c i) (path_inside d q path)
      (option_map (λ rest. step_after q c i ∷ rest) (option_and_then (λ inst. path_after d q inst.of path) (slice_get (insts_at d c) i)))

  pub path_inside : Design → Dissolving → List ℕ → Option (List ℕ)
  path_inside d q [] = None
  path_inside d q (j ∷ path) =
      option_map (λ rest. child_after q j ∷ rest) (option_and_then (λ inst. path_after d q inst.of path) (slice_get q.site.within.insts j))

-- the same net, where its tree stands at a step
abbrev pub net_under : ℕ → NetAt → NetAt
net_under i x = at_path (i ∷ x.path) x.net

-- The net at a path, from a cell downwards, afterwards: a net of the dissolved instance becomes that of its group in the contents
-- around, a net of these contents that of its group; any other stays what it is, at its path's place.
abbrev mutual
  pub net_after : Design → Dissolving → CellId → List ℕ → ℕ → Option NetAt
  net_after d q c [] n = Some (at_path [] (net_kept q c n))
  net_after d q c (i ∷ path) n =
      cond (is_dissolved q c i) (net_inside d q path n)
      (option_map (net_under (step_after q c i)) (option_and_then (λ inst. net_after d q inst.of path n) (slice_get (insts_at d c) i)))

  pub net_inside : Design → Dissolving → List ℕ → ℕ → Option NetAt
  net_inside d q [] n = Some (at_path [] (became q.site (inner n)))
  net_inside d q (j ∷ path) n =
      option_map (net_under (child_after q j)) (option_and_then (λ inst. net_after d q inst.of path n) (slice_get q.site.within.insts j))

-- the image of a net of a root's tree
abbrev pub image : Design → Dissolving → CellId → NetAt → Option NetAt
image d q root x = net_after d q root x.path x.net

-- the image of an occurrence, of the same cell
abbrev pub occurrence_after : Design → Dissolving → CellId → Occurrence → Option Occurrence
occurrence_after d q root o = option_map (λ path. record { path = path; cell = o.cell }) (path_after d q root o.path)
