-- Connection in a cell's tree, from pairs of nets that are joined by way of instances.
use Rattle.std.proofs.Common.{◌≡◌, ℕ, List, refl, sym, ap, subst, ◌∙◌, arith, Some, None, Option}
use Rattle.netlist_schema.specs.Design.{Design}
use Rattle.netlist_schema.specs.Types.{CellId}
use Rattle.netlist_schema.specs.Valid.{IsValid}
use Rattle.flat_spec.specs.Chains.{Chain}
use Rattle.flat_spec.specs.Connection.{AreLinked, Connected}
use Rattle.flat_spec.specs.HandedDown.{IsFirstInside}
use Rattle.flat_spec.specs.Paths.{Bit, own, at_root, Joins}
use Rattle.flat_spec.proofs.ChainLemmas.{Chain-one, Chain-mono}
use Rattle.flat_spec.proofs.ConnectionLemmas.{Connected-linked, Connected-from_linked}
use Rattle.flat_spec.proofs.FirstLemmas.{firsts-same, firsts-connected, own_bit-once}
use Rattle.net_classes.specs.Inside.{IsFirstAt, TellsFirsts, AreJoinedInside}
use Rattle.flat_joined_numbers.specs.Joined.{AreJoined, IsLeastJoined}
use Rattle.net_classes.specs.Links.{StandFor}
use Rattle.flat_joined_numbers.specs.declared.joined.Pair.{Pair}

-- a bit that a net joins has a first net inside
first_there : (d : Design) (c : CellId) (b : Bit) (n : ℕ) → Joins d c (at_root n) (own b) → (answer : Option ℕ) → IsFirstAt d c b answer
    → (first : ℕ) × (answer ≡ Some first) × IsFirstAt d c b (Some first)
first_there d c b n joins None none = absurd (none n joins)
first_there d c b n joins (Some first) is = (first, refl, is)

module _ (d : Design) (valid : IsValid d) (c : CellId) (inside : ℕ → Bit → Option ℕ) (tells : TellsFirsts d c inside) where
  -- linked nets are joined inside
  linked-joined : (m n : ℕ) → AreLinked d c m n → AreJoinedInside d c inside m n
  linked-joined m n link =
      let last = link.connected.0 in
      let head = link.connected.2.0 in
      let one = first_there d link.child link.first head link.connected.2.1 (inside link.step link.first)
      (tells.tells link.step link.child link.first m link.child_at link.first_on) in
      let two = first_there d link.child link.second last link.connected.1 (inside link.step link.second)
      (tells.tells link.step link.child link.second n link.child_at link.second_on) in
      let head_is : one.2.0 ≡ head = own_bit-once d valid link.child link.first one.2.0 head one.2.1 link.connected.2.1 in
      let last_is : two.2.0 ≡ last = own_bit-once d valid link.child link.second two.2.0 last two.2.1 link.connected.1 in
      let from : Connected d link.child (at_root one.2.0) (at_root last) =
      subst (λ v. Connected d link.child (at_root v) (at_root last)) (sym head_is) link.connected.2.2 in
      let both : Connected d link.child (at_root one.2.0) (at_root two.2.0) =
      subst (λ v. Connected d link.child (at_root one.2.0) (at_root v)) (sym last_is) from in
      let same : one.0 ≡ two.0 = firsts-same d link.child one.2.0 two.2.0 one.0 two.0 one.2.2 two.2.2 both in
      record {
        step = link.step;
        first = link.first;
        second = link.second;
        net = one.0;
        first_on = link.first_on;
        second_on = link.second_on;
        first_inside = one.1;
        second_inside = two.1 ∙ ap Some (sym same);
      }

  -- nets that are joined inside are linked
  joined-linked : (m n : ℕ) → AreJoinedInside d c inside m n → AreLinked d c m n
  joined-linked m n j =
      let child = tells.there j.step j.first j.net j.first_inside in
      let one : IsFirstAt d child.0 j.first (Some j.net) =
      subst (λ v. IsFirstAt d child.0 j.first v) j.first_inside (tells.tells j.step child.0 j.first m child.1 j.first_on) in
      let two : IsFirstAt d child.0 j.second (Some j.net) =
      subst (λ v. IsFirstAt d child.0 j.second v) j.second_inside (tells.tells j.step child.0 j.second n child.1 j.second_on) in
      record {
        step = j.step;
        child = child.0;
        first = j.first;
        second = j.second;
        child_at = child.1;
        first_on = j.first_on;
        second_on = j.second_on;
        connected = (two.0, two.1, (one.0, one.1, firsts-connected d child.0 one.0 two.0 j.net one.2 two.2));
      }

  module _ (pairs : List Pair) (stand : StandFor (AreJoinedInside d c inside) pairs) where
    connected-chain : (m n : ℕ) → Connected d c (at_root m) (at_root n) → Chain (AreJoined pairs) m n
    connected-chain m n k =
        Chain-mono (AreLinked d c) (AreJoined pairs) (λ v. v) (λ v w link. stand.complete v w (linked-joined v w link)) m n
        (Connected-linked d c m n k)

    chain-connected : (m n : ℕ) → Chain (AreJoined pairs) m n → Connected d c (at_root m) (at_root n)
    chain-connected m n k =
        Connected-from_linked d c m n
        (Chain-mono (AreJoined pairs) (AreLinked d c) (λ v. v)
        (λ v w pair. Chain-one {R = AreLinked d c} (joined-linked v w (stand.sound v w pair))) m n k)

    -- the least number to which the pairs lead from a net is the first net inside that is connected with it
    pub least-first : (n first : ℕ) → IsLeastJoined pairs n first → IsFirstInside d c n first
    least-first n first is = record {
      connected = chain-connected n first is.reached;
      least = λ k connected less. omega (arith, is.none_less k (connected-chain n k connected), less);
    }
