-- Nets of a cell's contents by the first net that each is connected with inside, and what is handed down by these.
use Rattle.std.proofs.Common.{◌≡◌, ℕ, sym, ap, subst, inl, inr}
use Rattle.std.proofs.lemmas.Bool.{cases_order}
use Rattle.netlist_schema.specs.Design.{Design}
use Rattle.netlist_schema.specs.Hierarchy.{NoCellIsBelowItself}
use Rattle.netlist_schema.specs.Types.{CellId}
use Rattle.netlist_schema.specs.Valid.{IsValid}
use Rattle.flat_spec.specs.Connection.{Connected, AreConnectedBits}
use Rattle.flat_spec.specs.HandedDown.{Inner, IsInner, inner_net, outer_net, IsFirstInside}
use Rattle.flat_spec.specs.Paths.{Bit, own, on, at_root, Joins, IsNet}
use Rattle.flat_spec.specs.Representatives.{representative}
use Rattle.flat_spec.proofs.ConnectionLemmas.{Connected-same, Connected-sym, Connected-append}
use Rattle.flat_spec.proofs.HandedDownLemmas.{representative-handed, representative-untouched}
use Rattle.flat_spec.proofs.PathLemmas.{Some-same}
use Rattle.flat_spec.proofs.PinLemmas.{net_joining-from}
use Rattle.flat_spec.specs.declared.item.NetAt.{NetAt}

module _ (d : Design) (c : CellId) where
  -- connected nets have one first
  pub firsts-same : (m n f g : ℕ) → IsFirstInside d c m f → IsFirstInside d c n g → Connected d c (at_root m) (at_root n) → f ≡ g
  firsts-same m n f g p q k =
      elim (cases_order f g) [
        | inl same ↦ same
        | inr rest ↦ elim rest [
          | inl less ↦ absurd (q.least f (Connected-append d c _ (at_root m) _ (Connected-sym d c (at_root m) (at_root n) k) p.connected) less)
          | inr more ↦ absurd (p.least g (Connected-append d c _ (at_root n) _ k q.connected) more)
        ]
      ]

  -- nets of one first are connected
  pub firsts-connected : (m n f : ℕ) → IsFirstInside d c m f → IsFirstInside d c n f → Connected d c (at_root m) (at_root n)
  firsts-connected m n f p q = Connected-append d c _ (at_root f) _ p.connected (Connected-sym d c (at_root n) (at_root f) q.connected)

-- one net at most joins an own bit
pub own_bit-once : (d : Design) → IsValid d → (c : CellId) (b : Bit) (m n : ℕ) → Joins d c (at_root m) (own b) → Joins d c (at_root n) (own b) → m ≡ n
own_bit-once d valid c b m n j k =
    ap (λ (x : NetAt). x.net) (Some-same _ (net_joining-from d valid c (own b) (at_root m) j) (net_joining-from d valid c (own b) (at_root n) k))

-- own bits that are connected fall into classes
pub AreConnectedBits-same : (d : Design) (c : CellId) (b : Bit) (n : ℕ) → Joins d c (at_root n) (own b) → AreConnectedBits d c b b
AreConnectedBits-same d c b n j = (n, j, (n, j, Connected-same d c (at_root n)))

pub AreConnectedBits-sym : (d : Design) (c : CellId) (a b : Bit) → AreConnectedBits d c a b → AreConnectedBits d c b a
AreConnectedBits-sym d c a b h = (h.2.0, h.2.1, (h.0, h.1, Connected-sym d c (at_root h.2.0) (at_root h.0) h.2.2))

pub AreConnectedBits-append : (d : Design) → IsValid d → (c : CellId) (a b e : Bit) → AreConnectedBits d c a b → AreConnectedBits d c b e → AreConnectedBits d c a e
AreConnectedBits-append d valid c a b e h k =
    let one : k.2.0 ≡ h.0 = own_bit-once d valid c b k.2.0 h.0 k.2.1 h.1 in
    let on_ : Connected d c (at_root h.0) (at_root k.0) = subst (λ v. Connected d c (at_root v) (at_root k.0)) one k.2.2 in
    (k.0, k.1, (h.2.0, h.2.1, Connected-append d c (at_root h.2.0) (at_root h.0) (at_root k.0) h.2.2 on_))

-- a bit of the instance that net m joins outside, and a net of the first of net n inside
pub record IsNamedThrough (d : Design) (root : CellId) (o : Inner) (first : ℕ → ℕ) (m n : ℕ) : Type 0 where
  pub joint : Bit
  pub inner : ℕ
  pub outside : Joins d root (outer_net o m) (on o.step joint)
  pub inside : Joins d o.cell (at_root inner) (own joint)
  pub same : first inner ≡ first n

-- The names of a child's nets by those of the parent's.
module _ (d : Design) (root : CellId) (o : Inner) (is : IsInner d root o) (acyclic : NoCellIsBelowItself d) (first : ℕ → ℕ)
    (firsts : (n : ℕ) → IsNet d o.cell (at_root n) → IsFirstInside d o.cell n (first n)) (joined_is_net : (n : ℕ) (b : Bit) → Joins d o.cell (at_root n) (own b) → IsNet d o.cell (at_root n)) where
  pub named_by_parent : (m n : ℕ) → IsNet d o.cell (at_root n) → IsNamedThrough d root o first m n
      → representative d root (inner_net o n) ≡ representative d root (outer_net o m)
  named_by_parent m n net h =
      let there = firsts h.inner (joined_is_net h.inner h.joint h.inside) in
      let one : IsFirstInside d o.cell n (first h.inner) = subst (λ v. IsFirstInside d o.cell n v) (sym h.same) (firsts n net) in
      representative-handed d root o is m n acyclic (record {
        joint = h.joint;
        inside = (h.inner, h.inside, firsts-connected d o.cell h.inner n (first h.inner) there one);
        outside = h.outside;
      })

  pub named_by_itself : (n : ℕ) → IsNet d o.cell (at_root n) → ((m : ℕ) → IsNamedThrough d root o first m n → ⊥)
      → representative d root (inner_net o n) ≡ inner_net o (first n)
  named_by_itself n net none =
      representative-untouched d root o is n (first n) acyclic net
      (λ m h. none m (record {
        joint = h.joint;
        inner = h.inside.0;
        outside = h.outside;
        inside = h.inside.1;
        same = firsts-same d o.cell h.inside.0 n (first h.inside.0) (first n) (firsts h.inside.0 (joined_is_net h.inside.0 h.joint h.inside.1)) (firsts n net) h.inside.2;
      }))
      (firsts n net)
