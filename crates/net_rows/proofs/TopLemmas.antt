-- The bits of the top by their first nets.
use Rattle.std.proofs.Common.{◌≡◌, ◌<◌, ◌≤◌, ◌+◌, ℕ, zero, suc, List, [], ◌∷◌, ◌++◌, length, map, take, Bool, true, false, ◌&&◌, cond, refl, sym, ap, subst, ◌∙◌, inl, inr, arith, Some, None, Option, slice_get, append-nil, append_assoc}
use Rattle.std.specs.Prelude.{filter, nat_eq}
use Rattle.std.specs.List.{AllPairs, Contains, enumerate_from, flat_map}
use Rattle.std.specs.Option.{option_eq, option_map_or}
use Rattle.std.proofs.lemmas.Bool.{and_from, and_parts, cases_lt, eq-eqb, eqb-true, false≢true}
use Rattle.std.proofs.lemmas.Option.{none-some, same_Some, slice_get_past}
use Rattle.netlist_schema.specs.Design.{Design, cell_at}
use Rattle.netlist_schema.specs.Types.{CellBody, CellId, Port}
use Rattle.flat_spec.specs.Paths.{Bit, at_root, own}
use Rattle.flat_spec.specs.Pins.{bits_of, own_bits, shown_bits}
use Rattle.flat_spec.proofs.ListLemmas.{Ascends, Ascends-filter, Ascends-pairs, Contains-member, Member, Member-contains, Member-filter, Member-from_filter, Member-from_map, Member-map}
use Rattle.flat_spec.proofs.PathLemmas.{Joins-net}
use Rattle.erc_spec.specs.Told.{BitBefore}
use Rattle.erc_spec.proofs.PinOrder.{pin_bits-ascend}
use Rattle.ask_spec.specs.declared.role.Role.{Role}
use Rattle.net_classes.specs.Facts.{Facts, first_at}
use Rattle.net_classes.specs.Inside.{IsFirstAt}
use Rattle.flat_items.specs.declared.notes.PlacedNotes.{PlacedNotes}
use Rattle.flat_items.specs.Stand.{IsGround, top_of}
use Rattle.net_rows.specs.Lists.{AreParted}
use Rattle.net_rows.specs.Rows.{direction_in, port_stands}
use Rattle.net_rows.specs.Tops.{AreTops, TopTable, bit_is_in, bit_of, bit_stands, bits_in, port_bits}
use Rattle.net_ways.specs.Ways.{firsts_in}
use Rattle.net_rows.specs.declared.tops.OwnBit.{OwnBit}
use Rattle.net_ways.proofs.JoinedLemmas.{no_bits}
use Rattle.net_ways.proofs.ClimbLemmas.{first_at_is, first_net, net_has_first, told_at}

same_option : (o : Option ℕ) (f : ℕ) → option_eq nat_eq o (Some f) ≡ true → o ≡ Some f
same_option None f e = absurd (false≢true e)
same_option (Some g) f e = ap Some (eqb-true g f e)

option_same : (o : Option ℕ) (f : ℕ) → o ≡ Some f → option_eq nat_eq o (Some f) ≡ true
option_same o f is = ap (λ v. option_eq nat_eq v (Some f)) is ∙ eq-eqb f f refl

-- the test of a bit, by the first net of one that stands so
pub bit_test : (role : Role) (facts : Facts) (top : CellId) (body : CellBody) (v : OwnBit) (f : ℕ)
    → bit_is_in role facts top body f v ≡ option_eq nat_eq (cond (port_stands role true (direction_in body v.port)) (first_at facts top (bit_of v)) None) (Some f)
bit_test role facts top body v f = go (port_stands role true (direction_in body v.port))
  where
    go : (b : Bool) → (b && option_eq nat_eq (first_at facts top (bit_of v)) (Some f)) ≡ option_eq nat_eq (cond b (first_at facts top (bit_of v)) None) (Some f)
    go true = refl
    go false = refl

-- an order of what elements are mapped to is one of the elements
Ascends-unmap : {A B : Type 0} (R : B → B → Type 0) (f : A → B) (xs : List A) → Ascends R (map f xs) → Ascends (λ a b. R (f a) (f b)) xs
Ascends-unmap R f [] h = tt
Ascends-unmap R f (x ∷ xs) h = (λ y m. h.0 (f y) (Member-map f xs y m), Ascends-unmap R f xs h.1)

same_bit : (v w : OwnBit) → bit_of v ≡ bit_of w → v ≡ w
same_bit v w e = λ k. record { port = (ap (λ (b : Bit). b.port) e) k; bit = (ap (λ (b : Bit). b.bit) e) k }

-- port by port
pub bits_more : (place : ℕ) (ports : List Port) (k n : ℕ) (port : Port) → n ≡ place + k → slice_get ports k ≡ Some port
    → flat_map (λ (p : ℕ × Port). port_bits p.0 p.1) (enumerate_from place (take (suc k) ports))
    ≡ flat_map (λ (p : ℕ × Port). port_bits p.0 p.1) (enumerate_from place (take k ports)) ++ port_bits n port
bits_more place [] k n port is at = absurd (none-some port at)
bits_more place (p ∷ ports) zero n port is at =
    let same : p ≡ port = same_Some p port at in
    let here : place ≡ n = omega (arith, is) in
    append-nil (port_bits place p) ∙ (λ k. port_bits (here k) (same k))
bits_more place (p ∷ ports) (suc k) n port is at =
    ap (λ v. port_bits place p ++ v) (bits_more (place + 1) ports k n port (omega (arith, is)) at)
    ∙ sym (append_assoc (port_bits place p) (flat_map (λ (p : ℕ × Port). port_bits p.0 p.1) (enumerate_from (place + 1) (take k ports))) (port_bits n port))

-- without such a cell there are none
pub no_tops : (role : Role) (d : Design) (facts : Facts) (top : CellId) → cell_at d top ≡ None → AreTops role d facts top []
no_tops role d facts top is = record {
  each = λ f v. (λ has. absurd (Contains-member [] v has), λ h. absurd (no_bits d top (bit_of v) is h.0));
  in_order = λ f. Ascends-pairs (λ v w. BitBefore (bit_of v) (bit_of w)) [] tt;
}

module _ (role : Role) (d : Design) (facts : Facts) (notes : PlacedNotes) (ground : IsGround d facts notes) (body : CellBody) (is : cell_at d (top_of d).cell ≡ Some body)
    (bits : List OwnBit) (all : map bit_of bits ≡ bits_of body) (lists : TopTable)
    (parted : AreParted (bit_is_in role facts (top_of d).cell body) (length (firsts_in facts (top_of d).cell)) bits lists) where
  abbrev top : CellId
  top = (top_of d).cell

  bits_are : own_bits d top ≡ bits_of body
  bits_are = ap (λ o. option_map_or bits_of o []) is

  stands_is : (b : Bit) → bit_stands role d top b ≡ port_stands role true (direction_in body b.port)
  stands_is b = ap (λ o. option_map_or (λ (v : CellBody). port_stands role true (direction_in v b.port)) o false) is

  within : (f : ℕ) → f < length (firsts_in facts top) → bits_in lists f ≡ filter (bit_is_in role facts top body f) bits
  within f less = ap (λ o. option_map_or (λ (vs : List OwnBit). vs) o []) (parted.each f less)

  past : (f : ℕ) → length (firsts_in facts top) ≤ f → bits_in lists f ≡ []
  past f more = let long = parted.long in ap (λ o. option_map_or (λ (vs : List OwnBit). vs) o []) (slice_get_past lists f (omega (arith, more, long)))

  first_less : (b : Bit) (f : ℕ) → Contains (own_bits d top) b → first_at facts top b ≡ Some f → f < length (firsts_in facts top)
  first_less b f has named =
      let inside = subst (IsFirstAt d top b) (sym (first_at_is d facts notes ground [] top refl b) ∙ named) ((told_at d facts notes ground [] top refl).told.inside b has) in
      let net = Joins-net d top (at_root inside.0) (own b) inside.1 in
      net_has_first d facts notes ground [] top refl f (first_net d facts notes ground [] top refl inside.0 f net inside.2)

  to : (f : ℕ) (v : OwnBit) → Contains (bits_in lists f) v → Contains (own_bits d top) (bit_of v) × (first_at facts top (bit_of v) ≡ Some f) × (bit_stands role d top (bit_of v) ≡ true)
  to f v has = elim (cases_lt f (length (firsts_in facts top))) [
    | inl less ↦
        let m = Member-from_filter (bit_is_in role facts top body f) bits v (Contains-member (filter (bit_is_in role facts top body f) bits) v (subst (λ vs. Contains vs v) (within f less) has)) in
        let parts = and_parts (port_stands role true (direction_in body v.port)) (option_eq nat_eq (first_at facts top (bit_of v)) (Some f)) m.1 in (
          subst (λ bs. Contains bs (bit_of v)) (all ∙ sym bits_are) (Member-contains (map bit_of bits) (bit_of v) (Member-map bit_of bits v m.0)),
          same_option (first_at facts top (bit_of v)) f parts.1,
          stands_is (bit_of v) ∙ parts.0,
        )
    | inr more ↦ absurd (Contains-member [] v (subst (λ vs. Contains vs v) (past f more) has))
  ]

  from : (f : ℕ) (v : OwnBit) → Contains (own_bits d top) (bit_of v) × (first_at facts top (bit_of v) ≡ Some f) × (bit_stands role d top (bit_of v) ≡ true) → Contains (bits_in lists f) v
  from f v h =
      let less = first_less (bit_of v) f h.0 h.1 in
      let found = Member-from_map bit_of bits (bit_of v) (Contains-member (map bit_of bits) (bit_of v) (subst (λ bs. Contains bs (bit_of v)) (bits_are ∙ sym all) h.0)) in
      let m : Member bits v = subst (Member bits) (same_bit found.0 v found.2) found.1 in
      subst (λ vs. Contains vs v) (sym (within f less))
      (Member-contains (filter (bit_is_in role facts top body f) bits) v
      (Member-filter (bit_is_in role facts top body f) bits v m
      (and_from (port_stands role true (direction_in body v.port)) (option_eq nat_eq (first_at facts top (bit_of v)) (Some f)) (sym (stands_is (bit_of v)) ∙ h.2) (option_same (first_at facts top (bit_of v)) f h.1))))

  ordered : Ascends (λ v w. BitBefore (bit_of v) (bit_of w)) bits
  ordered =
      Ascends-unmap BitBefore bit_of bits
      (subst (Ascends BitBefore) (sym all) (subst (λ o. Ascends BitBefore (option_map_or (shown_bits []) o [])) is (pin_bits-ascend d [] top)))

  pub tops_are : AreTops role d facts top lists
  tops_are = record {
    each = λ f v. (to f v, from f v);
    in_order = λ f. elim (cases_lt f (length (firsts_in facts top))) [
      | inl less ↦
          subst (AllPairs (λ v w. BitBefore (bit_of v) (bit_of w))) (sym (within f less))
          (Ascends-pairs (λ v w. BitBefore (bit_of v) (bit_of w)) (filter (bit_is_in role facts top body f) bits) (Ascends-filter (λ v w. BitBefore (bit_of v) (bit_of w)) (bit_is_in role facts top body f) bits ordered))
      | inr more ↦ subst (AllPairs (λ v w. BitBefore (bit_of v) (bit_of w))) (sym (past f more)) (Ascends-pairs (λ v w. BitBefore (bit_of v) (bit_of w)) [] tt)
    ];
  }
