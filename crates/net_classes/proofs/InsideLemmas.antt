-- Joints of one class are nets that are joined inside.
use Rattle.std.proofs.Common.{◌≡◌, ◌<◌, ℕ, List, [], length, get_or, refl, sym, ap, subst, inl, arith, Some, None, Option, slice_get}
use Rattle.std.specs.List.{All, Contains}
use Rattle.std.specs.Option.{option_map, option_map_or}
use Rattle.std.proofs.lemmas.Option.{slice_get_within}
use Rattle.std.proofs.lemmas.List.{get_or_default}
use Rattle.netlist_schema.specs.Design.{Design}
use Rattle.netlist_schema.specs.Types.{CellId, Inst, Net}
use Rattle.netlist_schema.specs.Valid.{IsValid}
use Rattle.flat_spec.specs.HandedDown.{IsFirstInside}
use Rattle.flat_spec.specs.Paths.{on, at_root, nets_at, Joins}
use Rattle.net_classes.specs.Facts.{Facts}
use Rattle.net_classes.specs.Inside.{TellsFirsts, AreJoinedInside}
use Rattle.flat_joined_numbers.specs.Joined.{AreLeastJoined, IsWithin}
use Rattle.net_classes.specs.Joints.{IsJointIn}
use Rattle.net_classes.specs.Links.{MeetInClass, StandFor, class_in, inside_in}
use Rattle.flat_joined_numbers.specs.declared.joined.Pair.{Pair}
use Rattle.net_classes.specs.declared.joints.Joint.{Joint}
use Rattle.net_classes.specs.declared.links.Class.{Class}
use Rattle.net_classes.proofs.CompositionLemmas.{least-first}

-- what a joint's class says
opened : (inst : ℕ) (o : Option ℕ) (k : Class) → option_map (λ first. record { inst = inst; first = first }) o ≡ Some k
    → (inst ≡ k.inst) × (o ≡ Some k.first)
opened inst None k e = absurd (cc e)
opened inst (Some f) k e =
    let same : record { inst = inst; first = f } ≡ k = Some-class (record { inst = inst; first = f }) k e in
    (ap (λ (v : Class). v.inst) same, ap (λ (v : Class). Some v.first) same)
  where
    Some-class : (a b : Class) → Some a ≡ Some b → a ≡ b
    Some-class a b e = cc e

StandFor-same : (R S : ℕ → ℕ → Type 0) → ((m n : ℕ) → R m n → S m n) → ((m n : ℕ) → S m n → R m n) → (pairs : List Pair) → StandFor R pairs → StandFor S pairs
StandFor-same R S to from pairs stand = record {
  sound = λ m n j. to m n (stand.sound m n j);
  complete = λ m n h. stand.complete m n (from m n h);
}

module _ (facts : Facts) (insts : List Inst) (nets : List Net) (joints : List Joint)
    (each : (j : Joint) → (Contains joints j → IsJointIn nets j) × (IsJointIn nets j → Contains joints j)) where
  -- the numbers of pairs are places of nets
  pub pairs_within : (pairs : List Pair) → StandFor (MeetInClass (class_in facts insts) (Contains joints)) pairs → All (IsWithin (length nets)) pairs
  pairs_within pairs stand = λ k d inside.
      let p : Pair = get_or pairs k d in
      let h = stand.sound p.first p.second (p, (k, inside, get_or_same pairs k d inside), inl (refl, refl)) in
      record {
        first = subst (λ v. v < length nets) h.first_net (within h.first ((each h.first).0 h.first_among));
        second = subst (λ v. v < length nets) h.second_net (within h.second ((each h.second).0 h.second_among));
      }
    where
      get_or_same : (pairs : List Pair) (k : ℕ) (d : Pair) → k < length pairs → get_or pairs k (get_or pairs k d) ≡ get_or pairs k d
      get_or_same pairs k d inside = get_or_default pairs k (get_or pairs k d) d inside

      within : (j : Joint) → IsJointIn nets j → j.net < length nets
      within j is = go (slice_get nets j.net) refl is
        where
          go : (o : Option Net) → slice_get nets j.net ≡ o → Contains (option_map_or (λ (net : Net). net.ends) o []) (on j.inst (record { port = j.port; bit = j.bit })) → j.net < length nets
          go None e there = absurd (omega (arith, there.1))
          go (Some net) e there = slice_get_within nets j.net net e

  module _ (d : Design) (c : CellId) (are : nets ≡ nets_at d c) where
    joins_from : (j : Joint) → IsJointIn nets j → Joins d c (at_root j.net) (on j.inst (record { port = j.port; bit = j.bit }))
    joins_from j is = subst (λ v. IsJointIn v j) are is

    joins_to : (j : Joint) → Joins d c (at_root j.net) (on j.inst (record { port = j.port; bit = j.bit })) → IsJointIn nets j
    joins_to j joins = subst (λ v. IsJointIn v j) (sym are) joins

    meet-joined : (m n : ℕ) → MeetInClass (class_in facts insts) (Contains joints) m n → AreJoinedInside d c (inside_in facts insts) m n
    meet-joined m n h =
        let one = opened h.first.inst (inside_in facts insts h.first.inst (record { port = h.first.port; bit = h.first.bit })) h.shared h.first_class in
        let two = opened h.second.inst (inside_in facts insts h.second.inst (record { port = h.second.port; bit = h.second.bit })) h.shared h.second_class in
        let first_joins = joins_from h.first ((each h.first).0 h.first_among) in
        let second_joins = joins_from h.second ((each h.second).0 h.second_among) in
        record {
          step = h.shared.inst;
          first = record { port = h.first.port; bit = h.first.bit };
          second = record { port = h.second.port; bit = h.second.bit };
          net = h.shared.first;
          first_on = subst (λ v. Joins d c (at_root v) (on h.shared.inst (record { port = h.first.port; bit = h.first.bit }))) h.first_net
              (subst (λ v. Joins d c (at_root h.first.net) (on v (record { port = h.first.port; bit = h.first.bit }))) one.0 first_joins);
          second_on = subst (λ v. Joins d c (at_root v) (on h.shared.inst (record { port = h.second.port; bit = h.second.bit }))) h.second_net
              (subst (λ v. Joins d c (at_root h.second.net) (on v (record { port = h.second.port; bit = h.second.bit }))) two.0 second_joins);
          first_inside = subst (λ v. inside_in facts insts v (record { port = h.first.port; bit = h.first.bit }) ≡ Some h.shared.first) one.0 one.1;
          second_inside = subst (λ v. inside_in facts insts v (record { port = h.second.port; bit = h.second.bit }) ≡ Some h.shared.first) two.0 two.1;
        }

    joined-meet : (m n : ℕ) → AreJoinedInside d c (inside_in facts insts) m n → MeetInClass (class_in facts insts) (Contains joints) m n
    joined-meet m n j =
        let one : Joint = record { inst = j.step; port = j.first.port; bit = j.first.bit; net = m } in
        let two : Joint = record { inst = j.step; port = j.second.port; bit = j.second.bit; net = n } in
        let class : Option ℕ → Option Class = option_map (λ first. record { inst = j.step; first = first }) in
        record {
          first = one;
          second = two;
          shared = record { inst = j.step; first = j.net };
          first_among = (each one).1 (joins_to one j.first_on);
          second_among = (each two).1 (joins_to two j.second_on);
          first_net = refl;
          second_net = refl;
          first_class = ap class j.first_inside;
          second_class = ap class j.second_inside;
        }

    -- the least numbers to which the pairs lead are the first nets that are connected inside
    pub firsts_inside : (pairs : List Pair) (firsts : List ℕ) → StandFor (MeetInClass (class_in facts insts) (Contains joints)) pairs
        → AreLeastJoined (length nets) pairs firsts → IsValid d → TellsFirsts d c (inside_in facts insts)
        → (n : ℕ) → n < length nets → IsFirstInside d c n (get_or firsts n 0)
    firsts_inside pairs firsts stand least valid tells n inside =
        least-first d valid c (inside_in facts insts) tells pairs
        (StandFor-same (MeetInClass (class_in facts insts) (Contains joints)) (AreJoinedInside d c (inside_in facts insts)) meet-joined joined-meet pairs stand)
        n (get_or firsts n 0) (least.each n inside)
