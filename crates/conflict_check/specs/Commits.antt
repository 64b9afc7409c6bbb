-- The last commits, as callers see them.
use Rattle.std.specs.Prelude.{◌≡◌, ℕ, ◌<◌, max, List, Option, Some, None, Contains, IsTrue}
use Rattle.std.specs.Ordering.{is_le}
use Rattle.std.specs.FinMap.{FinMap, get}
use Rattle.netlist_schema.specs.Order.{object_cmp}
use Rattle.netlist_schema.specs.declared.ids.Object.{Object}
use Rattle.conflict_check.specs.declared.stamps.Later.{Later}

-- a finite map from objects to their last commits
abbrev pub Commits : Type 0
Commits = FinMap object_cmp ℕ

-- the last commit that wrote the object, where one did
abbrev pub last_commit : Commits → Object → Option ℕ
last_commit commits object = get commits object

-- the later of an object's last commit, if it has one, and this version
abbrev pub later_of : Option ℕ → ℕ → ℕ
later_of None version = version
later_of (Some last) version = max last version

-- each object written has the later of its last commit and the version, and every other object keeps its own
pub record IsMarked (old new : Commits) (written : List Object) (version : ℕ) : Type 0 where
  pub marked : (object : Object) → Contains written object → last_commit new object ≡ Some (later_of (last_commit old object) version)
  pub others : (object : Object) → (Contains written object → ⊥) → last_commit new object ≡ last_commit old object

-- an object that was read has a last commit after the version
pub record IsLater (commits : Commits) (reads : List Object) (version : ℕ) (object : Object) (last : ℕ) : Type 0 where
  pub read : Contains reads object
  pub is_last : last_commit commits object ≡ Some last
  pub after : version < last

-- no object that was read has one
abbrev pub HasNoLater : Commits → List Object → ℕ → Type 0
HasNoLater commits reads version = (object : Object) (last : ℕ) → IsLater commits reads version object last → ⊥

-- the least such object, with its last commit
pub record IsFirstLater (commits : Commits) (reads : List Object) (version : ℕ) (found : Later) : Type 0 where
  pub later : IsLater commits reads version found.object found.version
  pub least : (object : Object) (last : ℕ) → IsLater commits reads version object last → IsTrue (is_le (object_cmp found.object object))
