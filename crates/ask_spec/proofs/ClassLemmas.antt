-- First nets, and the pins that they name.
use Rattle.std.proofs.Common.{◌≡◌, ◌↔◌, ℕ, List, [], ◌∷◌, Bool, true, false, cond, Option, Some, None, refl, sym, ap, subst, ◌∙◌, inl, inr}
use Rattle.std.specs.Prelude.{IsSome, find, unwrap_or}
use Rattle.std.specs.List.{Contains}
use Rattle.std.specs.Option.{option_map, option_map_or}
use Rattle.std.proofs.lemmas.Bool.{false≢true}
use Rattle.netlist_schema.specs.Design.{Design}
use Rattle.netlist_schema.specs.Types.{CellId, Net as Wire, TopHead}
use Rattle.netlist_schema.specs.Valid.{IsValid}
use Rattle.flat_spec.specs.Connection.{Connected}
use Rattle.flat_spec.specs.ConnectionTest.{connects, same_net}
use Rattle.flat_spec.specs.Flattening.{flattening}
use Rattle.flat_spec.specs.Occurrences.{nets}
use Rattle.flat_spec.specs.Paths.{Bit, IsNet, net_of as net_there, on, own}
use Rattle.flat_spec.specs.Pins.{JoinsPin, net_at_pin}
use Rattle.flat_spec.specs.Representatives.{representative}
use Rattle.flat_spec.specs.Types.{Item, NetAt}
use Rattle.flat_spec.specs.declared.item.Item.TheVariants.{Enter, Net, Pin}
use Rattle.flat_spec.proofs.ConnectionLemmas.{Connected-sym}
use Rattle.flat_spec.proofs.ListLemmas.{Contains-member, Member, Member-contains, Member-filter, Member-from_filter}
use Rattle.flat_spec.proofs.OccurrenceLemmas.{nets-is_net}
use Rattle.flat_spec.proofs.PathLemmas.{Joins-net}
use Rattle.flat_spec.proofs.PinLemmas.{net_at_pin-joins}
use Rattle.flat_spec.proofs.RepresentativeLemmas.{Connected-net, connects-true, representative-connected, representative-first, representative-same}
use Rattle.flat_spec.proofs.TestLemmas.{same_net-refl, same_net-true}
use Rattle.erc_spec.specs.Drives.{is_at}
use Rattle.erc_spec.proofs.ItemLemmas.{pin_there}
use Rattle.ask_spec.specs.Nets.{first_of, is_same_net, pins_of}

find-member : {A : Type 0} (test : A → Bool) (xs : List A) (x : A) → find test xs ≡ Some x → Member xs x × (test x ≡ true)
find-member test [] x e = absurd (cc e)
find-member {A} test (v ∷ xs) x e = go (find-member test xs x) (test v) refl e
  where
    go : (find test xs ≡ Some x → Member xs x × (test x ≡ true)) → (b : Bool) → test v ≡ b → cond b (Some v) (find test xs) ≡ Some x
        → Member (v ∷ xs) x × (test x ≡ true)
    go later true is e = let same : v ≡ x = cc e in (inl same, subst (λ w. test w ≡ true) same is)
    go later false is e = let found = later e in (inr found.0, found.1)

-- what joins a pin is a net
pub joined_is_net : (d : Design) (root : CellId) (x : NetAt) (path : List ℕ) (b : Bit) → JoinsPin d root x path b → IsNet d root x
joined_is_net d root x [] b j = Joins-net d root x (own b) j.1
joined_is_net d root x (i ∷ path) b j = Joins-net d root x (on j.0 b) j.2

some_of : {A B : Type 0} (f : A → B) (o : Option A) (y : B) → Some y ≡ option_map f o → (x : A) × (o ≡ Some x) × (y ≡ f x)
some_of f None y e = absurd (cc e)
some_of f (Some x) y e = (x, refl, cc e)

-- a pin that the first net of a class names
pub at_pin : (x : NetAt) (item : Item) → is_at x item ≡ true → (path : List ℕ) × (port : ℕ) × (bit : ℕ) × (item ≡ Pin path port bit (Some x))
at_pin x (Enter path cell properties) e = absurd (false≢true e)
at_pin x (Net path net first) e = absurd (false≢true e)
at_pin x (Pin path port bit None) e = absurd (false≢true e)
at_pin x (Pin path port bit (Some y)) e = (path, port, bit, ap (λ (v : NetAt). Pin path port bit (Some v)) (same_net-true y x e))

module _ (d : Design) (top : TopHead) (is : d.top ≡ Some top) where
  pub first_is : (x : NetAt) → first_of d x ≡ representative d top.cell x
  first_is x = ap (λ o. option_map_or (λ (t : TopHead). representative d t.cell x) o x) is

  module _ (valid : IsValid d) where
    -- the first of a net is a net, and its own first
    pub first_of_first : (x : NetAt) → IsNet d top.cell x → IsNet d top.cell (representative d top.cell x) × (first_of d (representative d top.cell x) ≡ representative d top.cell x)
    first_of_first x there =
        let first = representative-first d valid.no_cycle top.cell x there in
        let net = Connected-net d top.cell x (representative d top.cell x) first.connected there in
        (net, first_is (representative d top.cell x) ∙ sym (representative-connected d valid.no_cycle top.cell x (representative d top.cell x) net first.connected))

    -- the net that a pin names is the first of a net
    pub named_is_first : (path : List ℕ) (port bit : ℕ) (y : NetAt) → Member (flattening d) (Pin path port bit (Some y)) → IsNet d top.cell y × (first_of d y ≡ y)
    named_is_first path port bit y m =
        let b : Bit = record { port = port; bit = bit } in
        let told = pin_there d top is valid.no_cycle path port bit (Some y) m in
        let x = some_of (representative d top.cell) (net_at_pin d top.cell path b) y told.1 in
        let there = joined_is_net d top.cell x.0 path b (net_at_pin-joins d top.cell path b x.0 x.1) in
        let first = first_of_first x.0 there in
        (subst (λ v. IsNet d top.cell v) (sym x.2) first.0, subst (λ v. first_of d v ≡ v) (sym x.2) first.1)

    -- what has a first net that is a net is one itself
    net_of_first : (x : NetAt) → IsNet d top.cell (representative d top.cell x) → IsNet d top.cell x
    unfolding representative
    net_of_first x there = go (find (connects d top.cell x) (nets d top.cell)) refl there
      where
        go : (o : Option NetAt) → find (connects d top.cell x) (nets d top.cell) ≡ o → IsNet d top.cell (unwrap_or o x) → IsNet d top.cell x
        go None e there = there
        go (Some z) e there =
            let found = find-member (connects d top.cell x) (nets d top.cell) z e in
            Connected-net d top.cell z x (Connected-sym d top.cell x z (connects-true d top.cell x z found.1)) there

    -- what is no net is its own
    pub own_of_no_net : (x : NetAt) → (IsNet d top.cell x → ⊥) → first_of d x ≡ x
    unfolding representative
    own_of_no_net x none = first_is x ∙ go (find (connects d top.cell x) (nets d top.cell)) refl
      where
        go : (o : Option NetAt) → find (connects d top.cell x) (nets d top.cell) ≡ o → unwrap_or o x ≡ x
        go None e = refl
        go (Some z) e =
            let found = find-member (connects d top.cell x) (nets d top.cell) z e in
            let there = nets-is_net d valid.no_cycle top.cell z found.0 in
            absurd (none (Connected-net d top.cell z x (Connected-sym d top.cell x z (connects-true d top.cell x z found.1)) there))

    -- the first net of a net is its own
    pub first_twice : (x : NetAt) → first_of d (first_of d x) ≡ first_of d x
    first_twice x = go (net_there d top.cell x) refl
      where
        go : (o : Option Wire) → net_there d top.cell x ≡ o → first_of d (first_of d x) ≡ first_of d x
        go None e = let own = own_of_no_net x (λ is. false≢true (subst (λ (o : Option Wire). IsSome o) e is)) in ap (first_of d) own
        go (Some net) e = let there : IsNet d top.cell x = subst (λ (o : Option Wire). IsSome o) (sym e) refl in ap (first_of d) (first_is x) ∙ (first_of_first x there).1 ∙ sym (first_is x)

    pub no_net_has_no_pins : (x : NetAt) → (IsNet d top.cell x → ⊥) → pins_of d x ≡ []
    no_net_has_no_pins x none = empty (pins_of d x) (λ item m.
        let found = Member-from_filter (is_at (first_of d x)) (flattening d) item m in
        let pin = at_pin (first_of d x) item found.1 in
        let named = named_is_first pin.0 pin.1 pin.2 (first_of d x) (subst (λ v. Member (flattening d) v) pin.3 found.0) in
        none (net_of_first x (subst (λ v. IsNet d top.cell v) (first_is x) named.0)))
      where
        empty : (items : List Item) → ((item : Item) → Member items item → ⊥) → items ≡ []
        empty [] never = refl
        empty (v ∷ vs) never = absurd (never v (inl refl))

    pub classes_are_connected : (x y : NetAt) → IsNet d top.cell x → IsNet d top.cell y → (is_same_net d x y ≡ true) ↔ Connected d top.cell x y
    classes_are_connected x y x_is y_is = (
      λ same. representative-same d valid.no_cycle top.cell x y x_is y_is
          (sym (first_is x) ∙ same_net-true (first_of d x) (first_of d y) same ∙ first_is y),
      λ k.
          let same : first_of d x ≡ first_of d y = first_is x ∙ representative-connected d valid.no_cycle top.cell x y y_is k ∙ sym (first_is y) in
          ap (λ v. same_net v (first_of d y)) same ∙ same_net-refl (first_of d y),
    )

-- which nets have the pin
pub pin_is_of : (d : Design) (path : List ℕ) (port bit : ℕ) (y x : NetAt) → Member (flattening d) (Pin path port bit (Some y))
    → Contains (pins_of d x) (Pin path port bit (Some y)) ↔ (first_of d x ≡ y)
pin_is_of d path port bit y x m = (
  λ has. sym (same_net-true y (first_of d x) (Member-from_filter (is_at (first_of d x)) (flattening d) _ (Contains-member (pins_of d x) _ has)).1),
  λ same. Member-contains (pins_of d x) _ (Member-filter (is_at (first_of d x)) (flattening d) _ m (subst (λ v. same_net y v ≡ true) (sym same) (same_net-refl y))),
)
