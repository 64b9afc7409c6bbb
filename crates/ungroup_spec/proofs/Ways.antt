-- Paths and meetings step by step: each with the cells that it goes through.
use Rattle.std.proofs.Common.{◌≡◌, ◌<◌, ℕ, List, [], ◌∷◌, ◌++◌, length, refl, sym, ap, subst, ◌∙◌, Option, Some, None, arith}
use Rattle.std.specs.Prelude.{slice_get, option_and_then}
use Rattle.std.specs.List.{Contains}
use Rattle.std.specs.Option.{option_map_or}
use Rattle.netlist_schema.specs.Design.{Design}
use Rattle.netlist_schema.specs.Hierarchy.{insts_at}
use Rattle.netlist_schema.specs.Types.{CellId, End, Inst, Net}
use Rattle.flat_spec.specs.Connection.{Meets, AreNeighbours, Connected}
use Rattle.flat_spec.specs.Paths.{Bit, own, on, at_path, at_root, nets_at, cell_along, Reaches, Joins}
use Rattle.flat_spec.specs.Types.{NetAt}
use Rattle.flat_spec.proofs.ConnectionLemmas.{Connected-below}
use Rattle.flat_spec.proofs.PathLemmas.{Some-same, Reaches-parts, Reaches-cons, Joins-outward_here, Joins-reaches, cell_along-below, IsNet-parts}
use Rattle.flat_spec.proofs.RepresentativeLemmas.{AreNeighbours-net}
use Rattle.ungroup_spec.proofs.Cut.{IsChild, JoinsIn}

-- the path leads there, child by child
abbrev pub Way : Design → CellId → List ℕ → CellId → Type 0
Way d c [] end = end ≡ c
Way d c (i ∷ path) end = (child : CellId) × IsChild d c i child × Way d child path end

pub Way-reaches : (d : Design) (c : CellId) (path : List ℕ) (end : CellId) → Way d c path end → Reaches d c path end
Way-reaches d c [] end w = ap (λ v. Some v) (sym w)
Way-reaches d c (i ∷ path) end w =
    let inst = w.1.0 in
    Reaches-cons d c i inst path end w.1.1 (Way-reaches d inst.of path end (subst (λ v. Way d v path end) w.1.2 w.2))

pub Reaches-way : (d : Design) (c : CellId) (path : List ℕ) (end : CellId) → Reaches d c path end → Way d c path end
Reaches-way d c [] end r = sym (Some-same (Some c) refl r)
Reaches-way d c (i ∷ path) end r =
    let parts = Reaches-parts d c i path end r in
    (parts.0.of, (parts.0, parts.1, refl), Reaches-way d parts.0.of path end parts.2)

pub IsChild-same : (d : Design) (c : CellId) (i : ℕ) {a b : CellId} → IsChild d c i a → IsChild d c i b → a ≡ b
IsChild-same d c i p q =
    let one : p.0 ≡ q.0 = Some-same (slice_get (insts_at d c) i) p.1 q.1 in
    p.2 ∙ ap (λ (v : Inst). v.of) one ∙ sym q.2

pub child-reaches : (d : Design) (c child : CellId) (i : ℕ) → IsChild d c i child → Reaches d c (i ∷ []) child
child-reaches d c child i kid = Way-reaches d c (i ∷ []) child (child, kid, refl)

-- what stands behind a path
pub Way-rest : (d : Design) (root : CellId) (path : List ℕ) (c : CellId) (rest : List ℕ) (end : CellId) → Way d root path c
    → Way d root (path ++ rest) end → Way d c rest end
Way-rest d root path c rest end at whole =
    Reaches-way d c rest end
    (sym (cell_along-below d root c path rest (Way-reaches d root path c at)) ∙ Way-reaches d root (path ++ rest) end whole)

pub JoinsIn-joins : (d : Design) (c : CellId) (n : ℕ) (e : End) → JoinsIn d c n e → Joins d c (at_root n) e
JoinsIn-joins d c n e j = subst (λ o. Contains (option_map_or (λ (net : Net). net.ends) o []) e) (sym j.1) j.2

pub Joins-joins_in : (d : Design) (c : CellId) (n : ℕ) (e : End) → Joins d c (at_root n) e → JoinsIn d c n e
Joins-joins_in d c n e j = there (slice_get (nets_at d c) n) j
  where
    there : (o : Option Net) → Contains (option_map_or (λ (net : Net). net.ends) o []) e
        → (net : Net) × (o ≡ Some net) × Contains net.ends e
    there None j = absurd (omega arith)
    there (Some net) j = (net, refl, j)

-- a net below the root that meets another, with the cells in which both stand
pub record Meeting (d : Design) (root : CellId) (upper lower : NetAt) : Type 0 where
  pub parent : CellId
  pub child : CellId
  pub step : ℕ
  pub joint : Bit
  pub parent_at : Way d root upper.path parent
  pub is_child : IsChild d parent step child
  pub below : lower.path ≡ upper.path ++ step ∷ []
  pub joins_on : JoinsIn d parent upper.net (on step joint)
  pub joins_own : JoinsIn d child lower.net (own joint)

pub joins_here : (d : Design) (root c : CellId) (path : List ℕ) (n : ℕ) (e : End) → Reaches d root path c → Joins d root (at_path path n) e
    → JoinsIn d c n e
joins_here d root c path n e at j =
    let same : option_and_then (λ k. slice_get (nets_at d k) n) (cell_along d root path) ≡ slice_get (nets_at d c) n =
    ap (λ o. option_and_then (λ k. slice_get (nets_at d k) n) o) at in
    Joins-joins_in d c n e (subst (λ o. Contains (option_map_or (λ (net : Net). net.ends) o []) e) same j)

pub meeting : (d : Design) (root : CellId) (x y : NetAt) → Meets d root x y → Meeting d root x y
meeting d root x y m =
    let parent = Joins-reaches d root x (on m.step m.joint) m.joins_on in
    let child = Joins-reaches d root y (own m.joint) m.joins_own in
    let way = Reaches-way d root (x.path ++ m.step ∷ []) child.0 (subst (λ p. Reaches d root p child.0) m.below child.1) in
    let last = Way-rest d root x.path parent.0 (m.step ∷ []) child.0 (Reaches-way d root x.path parent.0 parent.1) way in
    record {
      parent = parent.0;
      child = child.0;
      step = m.step;
      joint = m.joint;
      parent_at = Reaches-way d root x.path parent.0 parent.1;
      is_child = subst (λ v. IsChild d parent.0 m.step v) (sym last.2) last.1;
      below = m.below;
      joins_on = joins_here d root parent.0 x.path x.net (on m.step m.joint) parent.1 m.joins_on;
      joins_own = joins_here d root child.0 y.path y.net (own m.joint) child.1 m.joins_own;
    }

Way-append : (d : Design) (root : CellId) (path : List ℕ) (c : CellId) (step : ℕ) (child : CellId) → Way d root path c → IsChild d c step child
    → Way d root (path ++ step ∷ []) child
Way-append d root [] c step child at kid = (child, subst (λ v. IsChild d v step child) at kid, refl)
Way-append d root (i ∷ path) c step child at kid = (at.0, at.1, Way-append d at.0 path c step child at.2 kid)

pub meets_at : (d : Design) (root parent child : CellId) (path : List ℕ) (step m n : ℕ) (b : Bit) → Way d root path parent
    → IsChild d parent step child → JoinsIn d parent m (on step b) → JoinsIn d child n (own b)
    → Meets d root (at_path path m) (at_path (path ++ step ∷ []) n)
meets_at d root parent child path step m n b at kid over inner = record {
  step = step;
  joint = b;
  below = refl;
  joins_on = Joins-outward_here d root parent path m (on step b) (Way-reaches d root path parent at) (JoinsIn-joins d parent m (on step b) over);
  joins_own = Joins-outward_here d root child (path ++ step ∷ []) n (own b)
      (Way-reaches d root (path ++ step ∷ []) child (Way-append d root path parent step child at kid)) (JoinsIn-joins d child n (own b) inner);
}

-- what is connected in the tree of a child is connected in that of the cell
pub Connected-under : (d : Design) (c child : CellId) (i : ℕ) (x y : NetAt) → IsChild d c i child → Connected d child x y
    → Connected d c (at_path (i ∷ x.path) x.net) (at_path (i ∷ y.path) y.net)
Connected-under d c child i x y kid k = Connected-below d c child (i ∷ []) x y (child-reaches d c child i kid) k

-- a neighbour is a net
pub neighbour-net : (d : Design) (root : CellId) (x y : NetAt) → AreNeighbours d root x y
    → (c : CellId) × Way d root y.path c × (y.net < length (nets_at d c))
neighbour-net d root x y t =
    let parts = IsNet-parts d root y (AreNeighbours-net d root x y t) in
    (parts.0, Reaches-way d root y.path parts.0 parts.1, parts.2)
