-- One instance of a cell is dissolved, seen from the designs before and after: what both have to do with each other.
use Rattle.std.specs.Prelude.{◌≡◌, ◌<◌, ◌+◌, ◌⊎◌, ◌↔◌, ℕ, List, [], ◌∷◌, Some, length, slice_get}
use Rattle.std.specs.List.{Contains}
use Rattle.netlist_schema.specs.Design.{Design}
use Rattle.netlist_schema.specs.Hierarchy.{insts_at}
use Rattle.netlist_schema.specs.Types.{CellId, End, Inst, Net}
use Rattle.flat_spec.specs.Chains.{Chain}
use Rattle.flat_spec.specs.Paths.{Bit, own, on, nets_at}
use Rattle.ungroup_spec.specs.Groups.{Part, outer, inner}

-- instance i of the cell is of that child
abbrev pub IsChild : Design → CellId → ℕ → CellId → Type 0
IsChild d c i child = (inst : Inst) × (slice_get (insts_at d c) i ≡ Some inst) × (child ≡ inst.of)

-- net m of the cell joins that end
abbrev pub JoinsIn : Design → CellId → ℕ → End → Type 0
JoinsIn d c m e = (net : Net) × (slice_get (nets_at d c) m ≡ Some net) × Contains net.ends e

-- the instance at a place of the cell is dissolved, whose cell is the child with count instances;
-- the cell's own nets become those that keep tells, and the child's those that image tells
pub record Cut : Type 0 where
  pub old : Design
  pub cell : CellId
  pub child : CellId
  pub place : ℕ
  pub count : ℕ
  pub keep : ℕ → ℕ
  pub image : ℕ → ℕ

-- which net a net of the cell or of the child becomes
abbrev pub became : Cut → Part → ℕ
became q (outer n) = q.keep n
became q (inner m) = q.image m

abbrev pub IsPartOf : Cut → Part → Type 0
IsPartOf q (outer n) = n < length (nets_at q.old q.cell)
IsPartOf q (inner m) = m < length (nets_at q.old q.child)

-- the outer net joins a bit of the instance that the inner net joins as the child's own
abbrev pub ShareBit : Cut → ℕ → ℕ → Type 0
ShareBit q n m = (b : Bit) × JoinsIn q.old q.cell n (on q.place b) × JoinsIn q.old q.child m (own b)

abbrev pub AreLinked : Cut → Part → Part → Type 0
AreLinked q (outer n) (inner m) = ShareBit q n m
AreLinked q (inner m) (outer n) = ShareBit q n m
AreLinked q (outer n) (outer n') = ⊥
AreLinked q (inner m) (inner m') = ⊥

-- where an instance of the cell stands afterwards: before the dissolved one, or after its children
abbrev pub Shifts : Cut → ℕ → ℕ → Type 0
Shifts q s t = ((s < q.place) × (t ≡ s)) ⊎ ((q.place < s) × (t + 1 ≡ s + q.count))

-- what the new design is, seen from the old one, and the other way
pub record Dissolves (q : Cut) (new : Design) : Type 0 where
  pub dissolved : IsChild q.old q.cell q.place q.child
  pub counted : (j : ℕ) (k : CellId) → IsChild q.old q.child j k → j < q.count
  pub other_insts : (x : CellId) → (x ≡ q.cell → ⊥) → insts_at new x ≡ insts_at q.old x
  pub other_nets : (x : CellId) → (x ≡ q.cell → ⊥) → nets_at new x ≡ nets_at q.old x
  pub shifted : (s t : ℕ) (k : CellId) → Shifts q s t → IsChild q.old q.cell s k ↔ IsChild new q.cell t k
  pub placed : (j : ℕ) (k : CellId) → IsChild q.old q.child j k → IsChild new q.cell (q.place + j) k
  pub placed_from : (j : ℕ) (k : CellId) → j < q.count → IsChild new q.cell (q.place + j) k → IsChild q.old q.child j k
  pub own_kept : (n : ℕ) (b : Bit) → JoinsIn q.old q.cell n (own b) → JoinsIn new q.cell (q.keep n) (own b)
  pub on_kept : (n s t : ℕ) (b : Bit) → Shifts q s t → JoinsIn q.old q.cell n (on s b) → JoinsIn new q.cell (q.keep n) (on t b)
  pub on_placed : (m j : ℕ) (b : Bit) → JoinsIn q.old q.child m (on j b) → JoinsIn new q.cell (q.image m) (on (q.place + j) b)
  pub own_from : (n : ℕ) (b : Bit) → JoinsIn new q.cell n (own b) → (o : ℕ) × (n ≡ q.keep o) × JoinsIn q.old q.cell o (own b)
  pub on_from : (n s t : ℕ) (b : Bit) → Shifts q s t → JoinsIn new q.cell n (on t b) → (o : ℕ) × (n ≡ q.keep o) × JoinsIn q.old q.cell o (on s b)
  pub on_placed_from : (n j : ℕ) (b : Bit) → j < q.count → JoinsIn new q.cell n (on (q.place + j) b)
      → (o : ℕ) × (n ≡ q.image o) × JoinsIn q.old q.child o (on j b)
  -- the nets that became one net are those that are linked
  pub grouped : (n m : ℕ) → ShareBit q n m → q.keep n ≡ q.image m
  -- a group's net is where the group's earliest outer net was; a group with none comes after those, by its only net
  pub kept_order : (a b : ℕ) → a < length (nets_at q.old q.cell) → b < length (nets_at q.old q.cell) → q.keep a < q.keep b
      → (o : ℕ) × (o < b) × (o < length (nets_at q.old q.cell)) × (q.keep o ≡ q.keep a)
  pub image_kept_order : (m b : ℕ) → m < length (nets_at q.old q.child) → b < length (nets_at q.old q.cell) → q.image m < q.keep b
      → (o : ℕ) × (o < b) × (o < length (nets_at q.old q.cell)) × (q.keep o ≡ q.image m)
  pub image_order : (m n : ℕ) → m < length (nets_at q.old q.child) → n < length (nets_at q.old q.child) → q.image m < q.image n
      → ((o : ℕ) × (o < length (nets_at q.old q.cell)) × ((q.keep o ≡ q.image m) ⊎ (q.keep o ≡ q.image n))) ⊎ (m < n)
  pub groups : (u v : Part) → IsPartOf q u → IsPartOf q v → became q u ≡ became q v → Chain (AreLinked q) u v

-- the step that an instance of any cell becomes
abbrev pub StepTo : Cut → CellId → ℕ → ℕ → Type 0
StepTo q x s t = ((x ≡ q.cell → ⊥) × (t ≡ s)) ⊎ ((x ≡ q.cell) × Shifts q s t)

-- the net that a net of any cell becomes
abbrev pub Keeps : Cut → CellId → ℕ → ℕ → Type 0
Keeps q x n m = ((x ≡ q.cell → ⊥) × (m ≡ n)) ⊎ ((x ≡ q.cell) × (m ≡ q.keep n))

-- In the tree of cell x, the net n at the first path becomes the net m at the second;
-- inside the dissolved instance, two steps become one, and a net becomes one of the cell.
abbrev mutual
  pub Carries : Cut → CellId → List ℕ → ℕ → List ℕ → ℕ → Type 0
  Carries q x [] n path m = (path ≡ []) × (n < length (nets_at q.old x)) × Keeps q x n m
  Carries q x (s ∷ rest) n path m =
      ((k : CellId) × (t : ℕ) × (tail : List ℕ) × IsChild q.old x s k × StepTo q x s t × Carries q k rest n tail m × (path ≡ t ∷ tail))
      ⊎ ((x ≡ q.cell) × (s ≡ q.place) × CarriesInside q rest n path m)

  pub CarriesInside : Cut → List ℕ → ℕ → List ℕ → ℕ → Type 0
  CarriesInside q [] n path m = (path ≡ []) × (n < length (nets_at q.old q.child)) × (m ≡ q.image n)
  CarriesInside q (j ∷ rest) n path m =
      (k : CellId) × (tail : List ℕ) × IsChild q.old q.child j k × Carries q k rest n tail m × (path ≡ (q.place + j) ∷ tail)
