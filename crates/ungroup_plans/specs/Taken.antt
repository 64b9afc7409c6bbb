-- Names that are taken, as a set.
use Rattle.std.specs.Prelude.{◌≡◌, ◌≤◌, ◌<◌, ◌^◌, ◌||◌, ℕ, Bool, not, true, List, ◌∷◌, Some, length, map}
use Rattle.std.specs.BTreeMap.{BTreeMap, get}
use Rattle.std.specs.Char.{to_ascii_lowercase}
use Rattle.std.specs.Cmp.Lexicographic.{slice_cmp}
use Rattle.std.specs.List.{list_any}
use Rattle.std.specs.Ordering.{nat_cmp}
use Rattle.edit_rules_spec.specs.Find.{is_name}
use Rattle.netlist_schema.specs.Types.{Name}
use Rattle.ungroup_spec.specs.Names.{free_name, is_taken, name_up, numbered}

abbrev pub lower : List ℕ → List ℕ
lower name = map to_ascii_lowercase name

-- these are the names in lower case, in whatever order
abbrev pub IsOf : List (List ℕ) → List (List ℕ) → Type 0
IsOf taken names = (name : List ℕ) → list_any (is_name name) taken ≡ list_any (is_name name) (map lower names)

-- whether the name was free; it is taken from then on
abbrev pub IsTold : List (List ℕ) → List ℕ → List (List ℕ) → Bool → Type 0
IsTold old name new free = (names : List (List ℕ)) → IsOf old names → (free ≡ not (is_taken names name)) × IsOf new (name ∷ names)

-- of a name that is wanted this one is free, and is taken from then on
abbrev pub IsMadeFree : List (List ℕ) → List ℕ → List ℕ → List (List ℕ) → Type 0
IsMadeFree old wanted made new =
    (names : List (List ℕ)) → IsOf old names → length names < 2 ^ 62 → (made ≡ free_name names wanted) × IsOf new (made ∷ names)

-- the name for what moves up; its identifier is taken from then on
abbrev pub IsNamedUp : List (List ℕ) → Name → Name → List (List ℕ) → Name → Type 0
IsNamedUp old inst name new made =
    (names : List (List ℕ)) → IsOf old names → length names < 2 ^ 62 → (made ≡ name_up names inst name) × IsOf new (made.id ∷ names)

-- the name is one of these, which are in lower case
abbrev pub has : List (List ℕ) → List ℕ → Bool
has taken name = list_any (is_name (lower name)) taken

-- the name in lower case is added, where it is not there, and the answer is whether it was not
pub record IsAdded (old : List (List ℕ)) (name : List ℕ) (new : List (List ℕ)) (answer : Bool) : Type 0 where
  pub free : answer ≡ not (has old name)
  pub names : (other : List ℕ) → list_any (is_name other) new ≡ (is_name other (lower name) || list_any (is_name other) old)

-- the name is taken with each number from 1 that is below the next one
abbrev pub AreUsed : List (List ℕ) → List ℕ → ℕ → Type 0
AreUsed taken name next = (number : ℕ) → 1 ≤ number → number < next → has taken (numbered name number) ≡ true

-- this is so for each name with these letters in lower case
pub record AreUsedUp (taken : List (List ℕ)) (letters : List ℕ) (next : ℕ) : Type 0 where
  pub from_one : 1 ≤ next
  pub used : (name : List ℕ) → letters ≡ lower name → AreUsed taken name next

-- the next numbers that are kept, each by the letters of a name
abbrev pub AreKept : {K : Type 0} → BTreeMap K ℕ → (K → List ℕ) → List (List ℕ) → Type 0
AreKept {K} kept letters taken =
    (key : K) (next : ℕ) → get (λ x y. slice_cmp nat_cmp (letters x) (letters y)) kept key ≡ Some next → AreUsedUp taken (letters key) next
