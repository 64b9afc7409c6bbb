-- Nets that are the first of their groups.
use Rattle.std.specs.Prelude.{◌≡◌, ◌+◌, ◌==◌, ℕ, Bool, List, [], filter, map, slice_index, slice_index_or}
use Rattle.std.specs.List.{enumerate_from}
use Rattle.netlist_schema.specs.Types.{End, Net}
use Rattle.ungroup_spec.specs.Dissolved.{joined, kept, loose}
use Rattle.ungroup_spec.specs.Groups.{Site, outer, inner}
use Rattle.ungroup_plans.specs.declared.groups.Grouped.{Grouped}

-- for the number of the net stands that number itself; the first net is numbered as that many
abbrev pub is_first : ℕ → List ℕ → ℕ × Net → Bool
is_first behind heads p = slice_index heads (behind + p.0) == behind + p.0

-- the net with the ends that are listed for its number
abbrev pub with_list : ℕ → List (List End) → ℕ × Net → Net
with_list behind lists p = record p.1 { ends = slice_index_or lists (behind + p.0) [] }

-- the nets whose numbers stand for themselves, with the ends that are listed for them
abbrev pub first_nets : ℕ → List ℕ → List (List End) → List Net → List Net
first_nets behind heads lists nets = map (with_list behind lists) (filter (is_first behind heads) (enumerate_from 0 nets))

-- the nets that stay, and those that become new ones, with the ends of their groups; each under its own name
pub record AreGrouped (s : Site) (made : Grouped) : Type 0 where
  pub stay : made.kept ≡ map (joined s outer) (kept s)
  pub come : made.loose ≡ map (joined s inner) (loose s)
