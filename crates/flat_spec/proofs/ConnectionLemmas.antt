-- Connection in a tree, and connection in the trees below it.
use Rattle.std.proofs.Common.{ℕ, List, [], ◌∷◌, ◌++◌, refl, sym, ap, subst, inl, inr, ◌∙◌, append_assoc}
use Rattle.netlist_schema.specs.Design.{Design}
use Rattle.netlist_schema.specs.Types.{CellId}
use Rattle.flat_spec.specs.Chains.{Leads, Chain}
use Rattle.flat_spec.specs.Paths.{Bit, own, on, at_path, at_root, Joins, Reaches}
use Rattle.flat_spec.specs.Connection.{Meets, AreNeighbours, Connected, IsConnectedBit, AreLinked}
use Rattle.flat_spec.specs.declared.item.NetAt.{NetAt}
use Rattle.flat_spec.proofs.ChainLemmas.{Chain-same, Chain-cons, Chain-one, Chain-append, Chain-mono, Chain-sym}
use Rattle.flat_spec.proofs.PathLemmas.{Joins-outward, Joins-outward_here, Joins-inward, Joins-reaches}

pub AreNeighbours-sym : (d : Design) (c : CellId) (x y : NetAt) → AreNeighbours d c x y → AreNeighbours d c y x
AreNeighbours-sym d c x y t = elim t [ inl m ↦ inr m | inr m ↦ inl m ]

pub Connected-same : (d : Design) (c : CellId) (x : NetAt) → Connected d c x x
Connected-same d c x = Chain-same {R = AreNeighbours d c} x

pub Connected-sym : (d : Design) (c : CellId) (x y : NetAt) → Connected d c x y → Connected d c y x
Connected-sym d c x y k = Chain-sym (AreNeighbours d c) (AreNeighbours-sym d c) x y k

pub Connected-append : (d : Design) (c : CellId) (x y z : NetAt) → Connected d c x y → Connected d c y z → Connected d c x z
Connected-append d c x y z k l = Chain-append (AreNeighbours d c) k l

pub Connected-one : (d : Design) (c : CellId) (x y : NetAt) → AreNeighbours d c x y → Connected d c x y
Connected-one d c x y t = Chain-one {R = AreNeighbours d c} t

-- the net in the tree above, where the subtree stands at the path
abbrev pub below_at : List ℕ → NetAt → NetAt
below_at path x = at_path (path ++ x.path) x.net

Meets-below : (d : Design) (root c : CellId) (path : List ℕ) (x y : NetAt) → Reaches d root path c → Meets d c x y
    → Meets d root (below_at path x) (below_at path y)
Meets-below d root c path x y at m = record {
  step = m.step;
  joint = m.joint;
  below = ap (λ p. path ++ p) m.below ∙ sym (append_assoc path x.path (m.step ∷ []));
  joins_on = Joins-outward d root c path x.path x.net (on m.step m.joint) at m.joins_on;
  joins_own = Joins-outward d root c path y.path y.net (own m.joint) at m.joins_own;
}

AreNeighbours-below : (d : Design) (root c : CellId) (path : List ℕ) (x y : NetAt) → Reaches d root path c → AreNeighbours d c x y
    → AreNeighbours d root (below_at path x) (below_at path y)
AreNeighbours-below d root c path x y at t =
    elim t [ inl m ↦ inl (Meets-below d root c path x y at m) | inr m ↦ inr (Meets-below d root c path y x at m) ]

-- what is connected in the tree of an occurrence's cell is connected in the tree above
pub Connected-below : (d : Design) (root c : CellId) (path : List ℕ) (x y : NetAt) → Reaches d root path c → Connected d c x y
    → Connected d root (below_at path x) (below_at path y)
Connected-below d root c path x y at k =
    Chain-mono (AreNeighbours d c) (AreNeighbours d root) (below_at path)
    (λ a b t. Connected-one d root (below_at path a) (below_at path b) (AreNeighbours-below d root c path a b at t)) x y k

-- what meets below an occurrence meets in the tree of its cell
pub Meets-inward : (d : Design) (root c : CellId) (path rest : List ℕ) (step m n : ℕ) (b : Bit) → Reaches d root path c
    → Joins d root (at_path (path ++ rest) m) (on step b) → Joins d root (at_path (path ++ (rest ++ step ∷ [])) n) (own b)
    → Meets d c (at_path rest m) (at_path (rest ++ step ∷ []) n)
Meets-inward d root c path rest step m n b at over inner = record {
  step = step;
  joint = b;
  below = refl;
  joins_on = Joins-inward d root c path rest m (on step b) at over;
  joins_own = Joins-inward d root c path (rest ++ step ∷ []) n (own b) at inner;
}

-- a net meets the net of an instance's contents that joins the same bit
pub Meets-here : (d : Design) (root child : CellId) (path : List ℕ) (step m n : ℕ) (b : Bit) → Reaches d root (path ++ step ∷ []) child
    → Joins d root (at_path path m) (on step b) → Joins d child (at_root n) (own b)
    → Meets d root (at_path path m) (at_path (path ++ step ∷ []) n)
Meets-here d root child path step m n b at over inner = record {
  step = step;
  joint = b;
  below = refl;
  joins_on = over;
  joins_own = Joins-outward_here d root child (path ++ step ∷ []) n (own b) at inner;
}

AreLinked-connected : (d : Design) (c : CellId) (m n : ℕ) → AreLinked d c m n → Connected d c (at_root m) (at_root n)
AreLinked-connected d c m n l =
    let last = l.connected.0 in
    let inner = l.connected.2 in
    let down = Meets-here d c l.child [] l.step m inner.0 l.first l.child_at l.first_on inner.1 in
    let up = Meets-here d c l.child [] l.step n last l.second l.child_at l.second_on l.connected.1 in
    Chain-cons {R = AreNeighbours d c} (inl down)
    (Connected-append d c _ _ _ (Connected-below d c l.child (l.step ∷ []) (at_root inner.0) (at_root last) l.child_at inner.2)
    (Connected-one d c _ _ (inr up)))

pub IsConnectedBit-more : (d : Design) (c : CellId) (b : Bit) (x y : NetAt) → IsConnectedBit d c b x → AreNeighbours d c x y → IsConnectedBit d c b y
IsConnectedBit-more d c b x y h t = (h.0, h.1, Connected-append d c _ _ _ h.2 (Connected-one d c x y t))

-- The way from a net k at the path out to net n of the contents: at the root a list of linked nets; below an instance, a net m
-- of the contents that joins a bit of the instance which is connected with net k inside, and from m on a list of linked nets.
abbrev WayOut : Design → CellId → ℕ → List ℕ → ℕ → Type 0
WayOut d c n [] k = Chain (AreLinked d c) k n
WayOut d c n (i ∷ path) k =
    (child : CellId) × (m : ℕ) × (b : Bit) × Reaches d c (i ∷ []) child × Joins d c (at_root m) (on i b)
    × IsConnectedBit d child b (at_path path k) × Chain (AreLinked d c) m n

-- a way out of the upper net goes on to the lower net
down : (d : Design) (c : CellId) (n : ℕ) (path : List ℕ) (step m k : ℕ) (b : Bit)
    → Joins d c (at_path path m) (on step b) → Joins d c (at_path (path ++ step ∷ []) k) (own b)
    → WayOut d c n path m → WayOut d c n (path ++ step ∷ []) k
down d c n [] step m k b over inner w =
    let child = Joins-reaches d c (at_path (step ∷ []) k) (own b) inner in
    let own_bit = Joins-inward d c child.0 (step ∷ []) [] k (own b) child.1 inner in
    (child.0, m, b, child.1, over, (k, own_bit, Connected-same d child.0 (at_root k)), w)
down d c n (i ∷ path) step m k b over inner w =
    let meets = Meets-inward d c w.0 (i ∷ []) path step m k b w.3 over inner in
    (w.0, w.1, w.2, w.3, w.4, IsConnectedBit-more d w.0 w.2 _ _ w.5 (inl meets), w.6)

-- and a way out of the lower net to the upper one
up : (d : Design) (c : CellId) (n : ℕ) (path : List ℕ) (step m k : ℕ) (b : Bit)
    → Joins d c (at_path path m) (on step b) → Joins d c (at_path (path ++ step ∷ []) k) (own b)
    → WayOut d c n (path ++ step ∷ []) k → WayOut d c n path m
up d c n [] step m k b over inner w =
    let link : AreLinked d c m w.1 = record {
      step = step;
      child = w.0;
      first = b;
      second = w.2;
      child_at = w.3;
      first_on = over;
      second_on = w.4;
      connected = (
        w.5.0,
        w.5.1,
        (k, Joins-inward d c w.0 (step ∷ []) [] k (own b) w.3 inner, Connected-sym d w.0 (at_root w.5.0) (at_root k) w.5.2),
      );
    } in
    Chain-cons {R = AreLinked d c} link w.6
up d c n (i ∷ path) step m k b over inner w =
    let meets = Meets-inward d c w.0 (i ∷ []) path step m k b w.3 over inner in
    (w.0, w.1, w.2, w.3, w.4, IsConnectedBit-more d w.0 w.2 _ _ w.5 (inr meets), w.6)

WayOut-neighbour : (d : Design) (c : CellId) (n : ℕ) (x y : NetAt) → AreNeighbours d c x y → WayOut d c n y.path y.net → WayOut d c n x.path x.net
WayOut-neighbour d c n x y t w =
    elim t [
      | inl m ↦
          let inner = subst (λ p. Joins d c (at_path p y.net) (own m.joint)) m.below m.joins_own in
          up d c n x.path m.step x.net y.net m.joint m.joins_on inner (subst (λ p. WayOut d c n p y.net) m.below w)
      | inr m ↦
          let inner = subst (λ p. Joins d c (at_path p x.net) (own m.joint)) m.below m.joins_own in
          subst (λ p. WayOut d c n p x.net) (sym m.below) (down d c n y.path m.step y.net x.net m.joint m.joins_on inner w)
    ]

Leads-way_out : (d : Design) (c : CellId) (n : ℕ) (x : NetAt) (via : List NetAt)
    → Leads (AreNeighbours d c) x via (at_root n) → WayOut d c n x.path x.net
Leads-way_out d c n x [] e = subst (λ (v : NetAt). WayOut d c n v.path v.net) (sym e) (Chain-same n)
Leads-way_out d c n x (y ∷ ys) e = WayOut-neighbour d c n x y e.0 (Leads-way_out d c n y ys e.1)

pub Connected-linked : (d : Design) (c : CellId) (m n : ℕ) → Connected d c (at_root m) (at_root n) → Chain (AreLinked d c) m n
Connected-linked d c m n k = Leads-way_out d c n (at_root m) k.0 k.1

pub Connected-from_linked : (d : Design) (c : CellId) (m n : ℕ) → Chain (AreLinked d c) m n → Connected d c (at_root m) (at_root n)
Connected-from_linked d c m n k = Chain-mono (AreLinked d c) (AreNeighbours d c) at_root (AreLinked-connected d c) m n k
