-- What is kept of a cell is so in its tree.
use Rattle.std.proofs.Common.{◌≡◌, ◌<◌, ◌≤◌, ℕ, List, [], length, get_or, refl, sym, ap, subst, ◌∙◌, inl, inr, arith, Some, None, Option, slice_get}
use Rattle.std.specs.Prelude.{option_and_then}
use Rattle.std.specs.List.{AllPairs, Contains}
use Rattle.std.specs.Option.{option_map_or}
use Rattle.std.proofs.lemmas.Bool.{cases_lt}
use Rattle.std.proofs.lemmas.List.{get_or_default}
use Rattle.std.proofs.lemmas.Option.{none-some, slice_get-get_or, slice_get_past, slice_get_within}
use Rattle.netlist_schema.specs.Design.{Design, bit_count, cell_at}
use Rattle.netlist_schema.specs.Types.{CellBody, CellId, End, Net}
use Rattle.netlist_schema.specs.Valid.{IsValid}
use Rattle.flat_spec.specs.HandedDown.{IsFirstInside}
use Rattle.flat_spec.specs.Paths.{Bit, own, at_root, nets_at, IsNet, Joins}
use Rattle.flat_spec.specs.Pins.{own_bits}
use Rattle.flat_spec.proofs.BitLemmas.{bits_from, bits_from-length, own_there}
use Rattle.flat_spec.proofs.PathLemmas.{IsNet-parts, Joins-net, Some-same}
use Rattle.net_classes.specs.Bits.{AreStarts}
use Rattle.net_classes.specs.Facts.{CellFacts, entry, no_facts, number_of}
use Rattle.net_classes.specs.Inside.{IsFirstAt}
use Rattle.net_classes.specs.Joints.{IsJointIn, IsNotBehind}
use Rattle.net_classes.specs.Known.{AreTold, IsClassIn}
use Rattle.net_classes.specs.LeastBits.{IsLeastAnswer, first_of_bit}
use Rattle.net_classes.specs.Own.{AreOwn, end_number, no_end}
use Rattle.net_classes.specs.PortClasses.{IsNetAnswer}
use Rattle.net_classes.specs.declared.joints.Joint.{Joint}
use Rattle.net_classes.proofs.BitLemmas.{number_of-back}
use Rattle.net_classes.proofs.PortClassLemmas.{least-class, none-unjoined}

-- the number of a net is below that of the nets of the cell
net_below : (d : Design) (c : CellId) (n : ℕ) → IsNet d c (at_root n) → n < length (nets_at d c)
net_below d c n is =
    let parts = IsNet-parts d c (at_root n) is in
    let same : c ≡ parts.0 = Some-same (Some c) refl parts.1 in
    subst (λ v. n < length (nets_at d v)) (sym same) parts.2

entry_at : (answers : List (Option ℕ)) (place : ℕ) (o : Option ℕ) → place < length answers → get_or answers place None ≡ o → entry answers place ≡ o
entry_at answers place o within is = ap (option_and_then (λ (answer : Option ℕ). answer)) (slice_get-get_or answers place None within ∙ ap Some is)

entry_past : (answers : List (Option ℕ)) (place : ℕ) → length answers ≤ place → entry answers place ≡ None
entry_past answers place past = ap (option_and_then (λ (answer : Option ℕ). answer)) (slice_get_past answers place past)

module _ (d : Design) (valid : IsValid d) (c : CellId) (body : CellBody) (found : cell_at d c ≡ Some body) (starts : List ℕ) (are_starts : AreStarts body.ports starts)
    (nets : List (Option ℕ)) (nets_long : length nets ≡ bit_count body) (are_nets : AreOwn starts (nets_at d c) (length (nets_at d c)) nets) where
  bits_are : own_bits d c ≡ bits_from 0 body.ports
  bits_are = ap (λ o. option_map_or (λ (b : CellBody). bits_from 0 b.ports) o []) found

  number_is : (bit : ℕ) (b : Bit) → slice_get (own_bits d c) bit ≡ Some b → number_of starts b ≡ Some bit
  number_is bit b at = number_of-back body.ports starts bit b are_starts (ap (λ v. slice_get v bit) (sym bits_are) ∙ at)

  bits_long : length (own_bits d c) ≡ length nets
  bits_long = ap length bits_are ∙ bits_from-length 0 body.ports ∙ sym nets_long

  bit_below : (bit : ℕ) (b : Bit) → slice_get (own_bits d c) bit ≡ Some b → bit < length nets
  bit_below bit b at = omega (arith, slice_get_within (own_bits d c) bit b at, bits_long)

  bit_there : (bit : ℕ) → bit < length nets → (b : Bit) × (slice_get (own_bits d c) bit ≡ Some b)
  bit_there bit within =
      let none : Bit = record { port = 0; bit = 0 } in
      (get_or (own_bits d c) bit none, slice_get-get_or (own_bits d c) bit none (omega (arith, within, bits_long)))

  -- an end with the number of a bit is that bit
  end_is : (n bit : ℕ) (b : Bit) → slice_get (own_bits d c) bit ≡ Some b → (inst : Option ℕ) (port place : ℕ)
      → Joins d c (at_root n) (record { inst = inst; port = port; bit = place }) → end_number starts (record { inst = inst; port = port; bit = place }) ≡ Some bit
      → Joins d c (at_root n) (own b)
  end_is n bit b at (Some i) port place joins number = absurd (none-some bit number)
  end_is n bit b at None port place joins number =
      let r : Bit = record { port = port; bit = place } in
      let there = own_there d c n r valid joins in
      let stands : slice_get (own_bits d c) there.0 ≡ Some r = slice_get-get_or (own_bits d c) there.0 r there.1 ∙ ap Some there.2 in
      let same : there.0 ≡ bit = Some-same (number_of starts r) (number_is there.0 r stands) number in
      let one : r ≡ b = Some-same (slice_get (own_bits d c) bit) (ap (slice_get (own_bits d c)) (sym same) ∙ stands) at in
      subst (λ v. Joins d c (at_root n) (own v)) one joins

  -- the net that is kept for a bit joins it
  pub net_answer : (bit : ℕ) (b : Bit) → slice_get (own_bits d c) bit ≡ Some b → IsNetAnswer d c b (entry nets bit)
  net_answer bit b at =
      let within = bit_below bit b at in
      elim (are_nets bit within) [
        | inl none ↦ subst (λ v. IsNetAnswer d c b v) (sym (entry_at nets bit None within none.0))
            (λ n joins. none.1 n (net_below d c n (Joins-net d c (at_root n) (own b) joins))
            (joins.0, joins.1, ap (end_number starts) (get_or_default_is (ends n) joins.0 joins.1 joins.2) ∙ number_is bit b at))
        | inr some ↦ subst (λ v. IsNetAnswer d c b v) (sym (entry_at nets bit (Some some.0) within some.2))
            (let e : End = get_or (ends some.0) some.3.0 no_end in
            end_is some.0 bit b at e.inst e.port e.bit (some.3.0, some.3.1, get_or_default (ends some.0) some.3.0 e no_end some.3.1) some.3.2)
      ]
    where
      ends : ℕ → List End
      ends n = option_map_or (λ (net : Net). net.ends) (slice_get (nets_at d c) n) []

      get_or_default_is : (es : List End) (k : ℕ) → k < length es → get_or es k (own b) ≡ own b → get_or es k no_end ≡ own b
      get_or_default_is es k within is = get_or_default es k no_end (own b) within ∙ is

  module _ (firsts : List ℕ) (firsts_long : length firsts ≡ length (nets_at d c)) (are_firsts : (n : ℕ) → n < length (nets_at d c) → IsFirstInside d c n (get_or firsts n 0))
      (joints : List Joint) (are_joints : (j : Joint) → (Contains joints j → IsJointIn (nets_at d c) j) × (IsJointIn (nets_at d c) j → Contains joints j))
      (joints_order : AllPairs IsNotBehind joints) (least : List (Option ℕ)) (least_long : length least ≡ length nets)
      (are_least : (bit : ℕ) → bit < length nets → IsLeastAnswer (first_of_bit nets firsts) (first_of_bit nets firsts bit) (get_or least bit None)) where
    facts : CellFacts
    facts = record { starts = starts; nets = nets; least = least; firsts = firsts; joints = joints }

    first_there : (n : ℕ) → IsNet d c (at_root n) → (first : ℕ) × (slice_get firsts n ≡ Some first) × IsFirstInside d c n first
    first_there n is =
        let below = net_below d c n is in
        (get_or firsts n 0, slice_get-get_or firsts n 0 (omega (arith, below, firsts_long)), are_firsts n below)

    first_joined : (n : ℕ) (b : Bit) → Joins d c (at_root n) (own b) → (first : ℕ) × (slice_get firsts n ≡ Some first) × IsFirstInside d c n first
    first_joined n b joins = first_there n (Joins-net d c (at_root n) (own b) joins)

    first_answer : (b : Bit) → Contains (own_bits d c) b → IsFirstAt d c b (option_and_then (λ number. option_and_then (slice_get firsts) (entry nets number)) (number_of starts b))
    first_answer b has =
        let at : slice_get (own_bits d c) has.0 ≡ Some b = slice_get-get_or (own_bits d c) has.0 b has.1 ∙ ap Some has.2 in
        subst (λ o. IsFirstAt d c b (option_and_then (λ number. option_and_then (slice_get firsts) (entry nets number)) o)) (sym (number_is has.0 b at))
        (go (entry nets has.0) (net_answer has.0 b at))
      where
        go : (o : Option ℕ) → IsNetAnswer d c b o → IsFirstAt d c b (option_and_then (slice_get firsts) o)
        go None none = none
        go (Some n) joins =
            let first = first_joined n b joins in
            subst (λ v. IsFirstAt d c b v) (sym first.1) (n, joins, first.2)

    class_answer : (bit : ℕ) → IsClassIn d c bit (entry least bit)
    class_answer bit = elim (cases_lt bit (length nets)) [
      | inl within ↦ subst (λ v. IsClassIn d c bit v) (sym (entry_at least bit (get_or least bit None) (omega (arith, within, least_long)) refl))
          (go (first_of_bit nets firsts bit) refl (get_or least bit None) (are_least bit within) within)
      | inr past ↦ subst (λ v. IsClassIn d c bit v) (sym (entry_past least bit (omega (arith, past, least_long))))
          (λ b n at joins. absurd (omega (arith, past, bit_below bit b at)))
    ]
      where
        below : (k f : ℕ) → first_of_bit nets firsts k ≡ Some f → k < length nets
        below k f is = elim (cases_lt k (length nets)) [
          | inl within ↦ within
          | inr past ↦ absurd (none-some f (sym (ap (option_and_then (slice_get firsts)) (entry_past nets k past)) ∙ is))
        ]

        go : (first : Option ℕ) → first_of_bit nets firsts bit ≡ first → (answer : Option ℕ) → IsLeastAnswer (first_of_bit nets firsts) first answer → bit < length nets
            → IsClassIn d c bit answer
        go None is answer none within =
            subst (λ v. IsClassIn d c bit v) (sym none) (none-unjoined d valid c nets firsts net_answer first_joined bit is)
        go (Some f) is answer some within =
            let a = bit_there bit within in
            let b = bit_there some.0 (below some.0 f some.2.has) in
            subst (λ v. IsClassIn d c bit v) (sym some.1) (least-class d valid c nets firsts net_answer first_joined bit some.0 f a.0 b.0 a.1 b.1 is some.2)

    pub are_told : AreTold d c (record { starts = starts; nets = nets; least = least; firsts = firsts; joints = joints })
    are_told = record {
      facts = record { nets = net_answer; firsts = first_there; inside = first_answer; joints = are_joints; in_order = joints_order };
      classes = class_answer;
    }

-- of a cell without nets there is nothing to tell
pub nothing_told : (d : Design) (c : CellId) → nets_at d c ≡ [] → AreTold d c no_facts
nothing_told d c none = record {
  facts = record {
    nets = λ bit b at n joins. no_net n (Joins-net d c (at_root n) (own b) joins);
    firsts = λ n is. absurd (no_net n is);
    inside = λ b has n joins. no_net n (Joins-net d c (at_root n) (own b) joins);
    joints = λ j. (λ has. absurd (omega (arith, has.1)), λ joins. absurd (no_net j.net (Joins-net d c (at_root j.net) _ joins)));
    in_order = λ i j default less within. absurd (omega (arith, within));
  };
  classes = λ bit b n at joins. no_net n (Joins-net d c (at_root n) (own b) joins);
}
  where
    no_net : (n : ℕ) → IsNet d c (at_root n) → ⊥
    no_net n is = let below = net_below d c n is in let long = ap length none in absurd (omega (arith, below, long))
