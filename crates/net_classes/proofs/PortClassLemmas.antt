-- The class of an own bit, from the nets of own bits and the first nets inside.
use Rattle.std.proofs.Common.{◌≡◌, ℕ, List, refl, sym, ap, subst, ◌∙◌, Some, None, Option, slice_get}
use Rattle.std.specs.Prelude.{option_and_then}
use Rattle.netlist_schema.specs.Design.{Design}
use Rattle.netlist_schema.specs.Types.{CellId}
use Rattle.netlist_schema.specs.Valid.{IsValid}
use Rattle.flat_spec.specs.HandedDown.{IsFirstInside}
use Rattle.flat_spec.specs.Paths.{Bit, own, at_root, Joins}
use Rattle.flat_spec.specs.Pins.{own_bits}
use Rattle.flat_spec.proofs.FirstLemmas.{firsts-same, firsts-connected, own_bit-once}
use Rattle.net_classes.specs.Facts.{entry}
use Rattle.net_classes.specs.LeastBits.{IsLeastOf, first_of_bit}
use Rattle.net_classes.specs.PortClasses.{AreConnectedNumbers, IsNetAnswer, IsPortClass, IsUnjoined}

module _ (d : Design) (valid : IsValid d) (c : CellId) (nets : List (Option ℕ)) (firsts : List ℕ)
    (joined : (bit : ℕ) (b : Bit) → slice_get (own_bits d c) bit ≡ Some b → IsNetAnswer d c b (entry nets bit))
    (inside : (n : ℕ) (b : Bit) → Joins d c (at_root n) (own b) → (first : ℕ) × (slice_get firsts n ≡ Some first) × IsFirstInside d c n first) where
  -- a net that joins an own bit is the one that is kept for the bit
  net_kept : (bit : ℕ) (b : Bit) (n : ℕ) → slice_get (own_bits d c) bit ≡ Some b → Joins d c (at_root n) (own b) → entry nets bit ≡ Some n
  net_kept bit b n at joins = go (entry nets bit) (joined bit b at)
    where
      go : (o : Option ℕ) → IsNetAnswer d c b o → o ≡ Some n
      go None none = absurd (none n joins)
      go (Some m) is = ap Some (own_bit-once d valid c b m n is joins)

  -- connected own bits have one first net
  connected-first : (j k f : ℕ) → AreConnectedNumbers d c j k → first_of_bit nets firsts j ≡ Some f → first_of_bit nets firsts k ≡ Some f
  connected-first j k f h has =
      let a = h.0 in
      let b = h.1 in
      let n = h.4.0 in
      let m = h.4.2.0 in
      let of_j = inside m a h.4.2.1 in
      let of_k = inside n b h.4.1 in
      let same : of_j.0 ≡ of_k.0 = firsts-same d c m n of_j.0 of_k.0 of_j.2 of_k.2 h.4.2.2 in
      let j_is : first_of_bit nets firsts j ≡ Some of_j.0 = ap (option_and_then (slice_get firsts)) (net_kept j a m h.2 h.4.2.1) ∙ of_j.1 in
      let k_is : first_of_bit nets firsts k ≡ Some of_k.0 = ap (option_and_then (slice_get firsts)) (net_kept k b n h.3 h.4.1) ∙ of_k.1 in
      k_is ∙ ap Some (sym same) ∙ sym j_is ∙ has

  -- own bits of one first net are connected
  first-connected : (j k f : ℕ) (a b : Bit) → slice_get (own_bits d c) j ≡ Some a → slice_get (own_bits d c) k ≡ Some b
      → first_of_bit nets firsts j ≡ Some f → first_of_bit nets firsts k ≡ Some f → AreConnectedNumbers d c j k
  first-connected j k f a b at_j at_k has_j has_k =
      let of_j = net_of j f a at_j has_j in
      let of_k = net_of k f b at_k has_k in
      (a, b, at_j, at_k, (of_k.0, of_k.1, (of_j.0, of_j.1, firsts-connected d c of_j.0 of_k.0 f of_j.2 of_k.2)))
    where
      Some-same : (x y : ℕ) → Some x ≡ Some y → x ≡ y
      Some-same x y e = cc e

      net_of : (i f : ℕ) (e : Bit) → slice_get (own_bits d c) i ≡ Some e → first_of_bit nets firsts i ≡ Some f
          → (n : ℕ) × Joins d c (at_root n) (own e) × IsFirstInside d c n f
      net_of i f e at has = go (entry nets i) refl (joined i e at)
        where
          go : (o : Option ℕ) → entry nets i ≡ o → IsNetAnswer d c e o → (n : ℕ) × Joins d c (at_root n) (own e) × IsFirstInside d c n f
          go None is none = absurd (cc (ap (option_and_then (slice_get firsts)) is, has))
          go (Some n) is joins =
              let of_n = inside n e joins in
              let same : of_n.0 ≡ f = Some-same of_n.0 f (sym (ap (option_and_then (slice_get firsts)) is ∙ of_n.1) ∙ has) in
              (n, joins, subst (λ v. IsFirstInside d c n v) same of_n.2)

  -- the least bit of one first net is the port class; with no first net the bit is not joined
  pub least-class : (bit least f : ℕ) (a b : Bit) → slice_get (own_bits d c) bit ≡ Some a → slice_get (own_bits d c) least ≡ Some b
      → first_of_bit nets firsts bit ≡ Some f → IsLeastOf (first_of_bit nets firsts) f least → IsPortClass d c bit least
  least-class bit least f a b at at_least has is = record {
    connected = first-connected bit least f a b at at_least has is.has;
    none_less = λ k h. is.none_less k (connected-first bit k f h has);
  }

  pub none-unjoined : (bit : ℕ) → first_of_bit nets firsts bit ≡ None → IsUnjoined d c bit
  none-unjoined bit none = λ b n at joins.
      let of_n = inside n b joins in
      absurd (cc (sym none ∙ ap (option_and_then (slice_get firsts)) (net_kept bit b n at joins) ∙ of_n.1))
