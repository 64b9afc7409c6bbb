-- What the fields of stamps stand for.
use Rattle.std.specs.Prelude.{ℕ, List, [], ◌∷◌, Option, Some, None}
use Rattle.std.specs.FinMap.{from_entries}
use Rattle.std.specs.BTreeMap.{IsOrdered}
use Rattle.netlist_schema.specs.Order.{object_cmp}
use Rattle.netlist_schema.specs.declared.ids.Object.{Object}
use Rattle.conflict_check.specs.Commits.{Commits}
use Rattle.conflict_check.specs.declared.stamps.Stamps.TheInside.{Inside}

-- the entries that have a mark
abbrev pub stamped : List (Object × Option ℕ) → List (Object × ℕ)
stamped [] = []
stamped ((object, None) ∷ entries) = stamped entries
stamped ((object, Some last) ∷ entries) = (object, last) ∷ stamped entries

-- the marks, as a finite map
abbrev pub commits_of : Inside → Commits
commits_of stamps = from_entries (stamped stamps.marks.entries)

-- the entries stand in the order of their objects, each object once
abbrev pub IsInOrder : Inside → Type 0
IsInOrder stamps = IsOrdered object_cmp stamps.marks
