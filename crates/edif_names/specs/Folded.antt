-- Names of a scope that are equal when the case of ASCII letters is ignored.
use Rattle.std.specs.Prelude.{◌≡◌, ℕ, ◌<◌, true, false, not, List, [], ◌∷◌, length, nat_eq, slice_get, Option, None, Some, IfSome, if◌then◌else◌}
use Rattle.std.specs.List.{list_any}
use Rattle.netlist_schema.specs.Marks.{hash_of}
use Rattle.edif_spec.specs.Keyword.{same}
use Rattle.edif_names.specs.declared.folded.Noted.{Noted}
use Rattle.edif_names.specs.declared.folded.Spot.{Spot}
use Rattle.edif_names.specs.declared.folded.Folded.{Folded}
use Rattle.indexmap.specs.IndexMap.{get}

-- a name, and the number that it was defined with
pub record Numbered : Type 0 where
  pub name : List ℕ
  pub id : ℕ

-- the number of the first name that is the same, and whether it is the only one
abbrev pub noted : List ℕ → List Numbered → Option Noted
noted name [] = None
noted name (n ∷ ns) = if same name n.name then Some (record { id = n.id; is_only = not (list_any (λ m. same name m.name) ns) }) else noted name ns

-- the same, where a first one was seen before these or not
abbrev pub noted_from : Option ℕ → List ℕ → List Numbered → Option Noted
noted_from None name ns = noted name ns
noted_from (Some id) name ns = Some (record { id = id; is_only = not (list_any (λ m. same name m.name) ns) })

-- with one more name that is the same
abbrev pub one_more : ℕ → Option Noted → Option Noted
one_more id None = Some (record { id = id; is_only = true })
one_more id (Some n) = Some (record { id = n.id; is_only = false })

-- with one more name, the same or not
abbrev pub noted_after : List ℕ → List ℕ → ℕ → Option Noted → Option Noted
noted_after name added id old = if same name added then one_more id old else old

-- what is noted of a name where at most this one is the same
abbrev pub noted_at : List ℕ → Option Numbered → Option Noted
noted_at name None = None
noted_at name (Some n) = if same name n.name then Some (record { id = n.id; is_only = true }) else None

-- what is noted of a name among these, by the spot of its hash
abbrev pub noted_by : List ℕ → List Numbered → Option Spot → Option Noted
noted_by name ns None = None
noted_by name ns (Some s) = if s.is_alone then noted_at name (slice_get ns s.first) else noted name ns

-- the spots tell of each name what is noted of it among these, and each is the place of one of them
abbrev pub AreSpotsOf : List Numbered → Folded → Type 0
AreSpotsOf ns f = ((name : List ℕ) → noted_by name ns (get nat_eq f.spots (hash_of name)) ≡ noted name ns)
    × ((hash : ℕ) → IfSome (get nat_eq f.spots hash) (λ s. s.first < length ns))
