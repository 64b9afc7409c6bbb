-- Marks by object.
use Rattle.std.specs.Prelude.{◌≡◌, ℕ, Bool, List, Option, Some, None, IsSome, option_and_then, if◌then◌else◌, nat_lt, All}
use Rattle.std.specs.BTreeMap.{BTreeMap, get}
use Rattle.std.specs.List.{list_any}
use Rattle.std.specs.Ordering.{eq_by_cmp, is_lt}
use Rattle.netlist_schema.specs.Order.{object_cmp}
use Rattle.netlist_schema.specs.declared.ids.Object.{Object}
use Rattle.conflict_check.specs.Commits.{later_of}
use Rattle.conflict_check.specs.declared.stamps.Later.{Later}

-- the mark of an object, where it has one
abbrev pub mark_at : BTreeMap Object (Option ℕ) → Object → Option ℕ
mark_at marks object = option_and_then (λ mark. mark) (get object_cmp marks object)

-- each object has the same mark in both
abbrev pub HasSameMarks : BTreeMap Object (Option ℕ) → BTreeMap Object (Option ℕ) → Type 0
HasSameMarks old new = (object : Object) → mark_at new object ≡ mark_at old object

-- each of the objects has an entry
abbrev pub HasEntries : BTreeMap Object (Option ℕ) → List Object → Type 0
HasEntries marks objects = All (λ object. IsSome (get object_cmp marks object)) objects

-- whether the object is among these
abbrev pub is_among : List Object → Object → Bool
is_among objects object = list_any (eq_by_cmp object_cmp object) objects

-- the mark of an object once these were marked
abbrev pub marked_at : BTreeMap Object (Option ℕ) → List Object → ℕ → Object → Option ℕ
marked_at marks written version object = if is_among written object then Some (later_of (mark_at marks object) version) else mark_at marks object

-- the object with this mark, where it is greater than the version
abbrev pub later_mark : Object → ℕ → Option ℕ → Option Later
later_mark object version None = None
later_mark object version (Some last) = if nat_lt version last then Some (record { object = object; version = last }) else None

-- the object with its mark, where that is greater than the version
abbrev pub later_at : BTreeMap Object (Option ℕ) → Object → ℕ → Option Later
later_at marks object version = later_mark object version (mark_at marks object)

-- the one of the lesser object
abbrev pub IsFirst : Option Later → Option Later → Option Later → Type 0
IsFirst None next result = result ≡ next
IsFirst (Some found) None result = result ≡ Some found
IsFirst (Some found) (Some next) result = result ≡ (if is_lt (object_cmp next.object found.object) then Some next else Some found)
