-- What the front of a flattening tells of the next item: a pin stands behind its occurrence, and behind the first net of those that lead
-- to it.
use Rattle.std.proofs.Common.{◌≡◌, ℕ, List, [], ◌∷◌, ◌++◌, map, Bool, true, false, cond, Option, Some, None, refl, sym, ap, subst, ◌∙◌, inl, inr, append_assoc}
use Rattle.std.specs.Prelude.{option_and_then}
use Rattle.std.specs.List.{flat_map}
use Rattle.std.specs.Option.{option_map_or}
use Rattle.std.proofs.lemmas.Grind.{flat_map-append}
use Rattle.std.proofs.lemmas.Option.{none-some, same_Some}
use Rattle.netlist_schema.specs.Design.{Design}
use Rattle.netlist_schema.specs.Types.{CellId, TopHead}
use Rattle.netlist_schema.specs.Valid.{IsValid}
use Rattle.flat_spec.specs.ConnectionTest.{same_net}
use Rattle.flat_spec.specs.Flattening.{flattening, items_of, net_item, pin_item}
use Rattle.flat_spec.specs.Occurrences.{Occurrence, occurrences, own_nets}
use Rattle.flat_spec.specs.PathOrder.{NetBefore, PathBefore}
use Rattle.flat_spec.specs.Paths.{at_path, Bit, cell_along}
use Rattle.flat_spec.specs.Pins.{JoinsPin, net_at_pin}
use Rattle.flat_spec.specs.Representatives.{representative}
use Rattle.flat_spec.specs.Types.{Item, NetAt}
use Rattle.flat_spec.specs.declared.item.Item.TheVariants.{Enter, Net, Pin}
use Rattle.flat_spec.proofs.ConnectionLemmas.{Connected-same}
use Rattle.flat_spec.proofs.ListLemmas.{Ascends, Ascends-append, Member, Member-append_cases, Member-append_right, Member-from_map}
use Rattle.flat_spec.proofs.OccurrenceLemmas.{OccurrenceBefore, occurrences_are_all, occurrences-reaches}
use Rattle.flat_spec.proofs.PinLemmas.{AllPairs-ascends, map-parts, net_at_pin-joins}
use Rattle.flat_spec.proofs.RepresentativeLemmas.{representative-first}
use Rattle.flat_spec.proofs.TestLemmas.{same_net-true}
use Rattle.erc_spec.specs.Drives.{direction_at}
use Rattle.erc_spec.specs.Findings.{first_net, first_nets}
use Rattle.erc_spec.specs.Told.{pin_bits}
use Rattle.erc_spec.proofs.ItemLemmas.{first_nets-ascend, first_net_from, flat, pin_there}
use Rattle.erc_spec.proofs.MemberLemmas.{Member-from_flat_map}
use Rattle.erc_spec.proofs.OpenLemmas.{related-ascend}
use Rattle.erc_spec.proofs.PinOrder.{ascends_parts}
use Rattle.erc_spec.proofs.ToldLemmas.{is_first, joins_net}
use Rattle.erc_check.specs.Front.{direction_in, IsFront, last_cell}

-- the cell to which a path leads from the top
abbrev pub cell_to : Design → List ℕ → Option CellId
cell_to d path = option_and_then (λ top. cell_along d top.cell path) d.top

pub last_cell-append : (c : Option CellId) (xs ys : List Item) → last_cell c (xs ++ ys) ≡ last_cell (last_cell c xs) ys
last_cell-append c [] ys = refl
last_cell-append c (Enter path e properties ∷ xs) ys = last_cell-append (Some e) xs ys
last_cell-append c (Net path net first ∷ xs) ys = last_cell-append c xs ys
last_cell-append c (Pin path port bit first ∷ xs) ys = last_cell-append c xs ys

-- each pin is one of the cell that was entered last
abbrev pub AreBehind : Design → Option CellId → List Item → Type 0
AreBehind d c [] = Unit {0}
AreBehind d c (Enter path e properties ∷ items) = AreBehind d (Some e) items
AreBehind d c (Net path net first ∷ items) = AreBehind d c items
AreBehind d c (Pin path port bit first ∷ items) = (c ≡ cell_to d path) × AreBehind d c items

AreBehind-append : (d : Design) (c : Option CellId) (xs ys : List Item) → AreBehind d c xs → ((e : Option CellId) → AreBehind d e ys) → AreBehind d c (xs ++ ys)
AreBehind-append d c [] ys h rest = rest c
AreBehind-append d c (Enter path e properties ∷ xs) ys h rest = AreBehind-append d (Some e) xs ys h rest
AreBehind-append d c (Net path net first ∷ xs) ys h rest = AreBehind-append d c xs ys h rest
AreBehind-append d c (Pin path port bit first ∷ xs) ys h rest = (h.0, AreBehind-append d c xs ys h.1 rest)

AreBehind-rest : (d : Design) (c : Option CellId) (xs ys : List Item) → AreBehind d c (xs ++ ys) → AreBehind d (last_cell c xs) ys
AreBehind-rest d c [] ys h = h
AreBehind-rest d c (Enter path e properties ∷ xs) ys h = AreBehind-rest d (Some e) xs ys h
AreBehind-rest d c (Net path net first ∷ xs) ys h = AreBehind-rest d c xs ys h
AreBehind-rest d c (Pin path port bit first ∷ xs) ys h = AreBehind-rest d c xs ys h.1

-- the path of a pin, and that of a net
abbrev pin_path : Item → Option (List ℕ)
pin_path (Enter path cell properties) = None
pin_path (Net path net first) = None
pin_path (Pin path port bit first) = Some path

abbrev net_path : Item → Option (List ℕ)
net_path (Enter path cell properties) = None
net_path (Net path net first) = Some path
net_path (Pin path port bit first) = None

-- a net that stands behind a pin is one of a later occurrence
abbrev NetIsLater : Item → Item → Type 0
NetIsLater a b = (p q : List ℕ) → pin_path a ≡ Some p → net_path b ≡ Some q → PathBefore p q

-- what is before an occurrence is before the one above, or is that one
before_below : (p : List ℕ) (step : ℕ) (q : List ℕ) → PathBefore (p ++ step ∷ []) q → PathBefore p q
before_below [] step [] h = absurd h
before_below [] step (j ∷ q) h = tt
before_below (i ∷ p) step [] h = absurd h
before_below (i ∷ p) step (j ∷ q) h = elim h [ inl less ↦ inl less | inr same ↦ inr (same.0, before_below p step q same.1) ]

-- the net of an item that is a first net
first_path : (y : NetAt) (b : Item) → Member (first_net b) y → net_path b ≡ Some y.path
first_path y (Enter path cell properties) m = absurd m
first_path y (Pin path port bit first) m = absurd m
first_path y (Net path net first) m = by (same_net (at_path path net) first) refl m
  where
    by : (s : Bool) → same_net (at_path path net) first ≡ s → Member (cond s (first ∷ []) []) y → Some path ≡ Some y.path
    by true same m =
        elim m [
          | inl is ↦ ap (λ (v : NetAt). Some v.path) (same_net-true (at_path path net) first same ∙ is)
          | inr none ↦ absurd none
        ]
    by false same m = absurd m

module _ (d : Design) (top : TopHead) where
  AreBehind-nets : (c : Option CellId) (xs : List NetAt) (ys : List Item) → AreBehind d c ys → AreBehind d c (map (net_item d top.cell) xs ++ ys)
  AreBehind-nets c [] ys h = h
  AreBehind-nets c (x ∷ xs) ys h = AreBehind-nets c xs ys h

  AreBehind-pins : (c : Option CellId) (path : List ℕ) (bs : List Bit) → c ≡ cell_to d path → AreBehind d c (map (pin_item d top.cell path) bs)
  AreBehind-pins c path [] is = tt
  AreBehind-pins c path (b ∷ bs) is = (is, AreBehind-pins c path bs is)

  AreBehind-all : (os : List Occurrence) → ((o : Occurrence) → Member os o → cell_to d o.path ≡ Some o.cell) → (c : Option CellId)
      → AreBehind d c (flat_map (items_of d top) os)
  AreBehind-all [] at c = tt
  AreBehind-all (o ∷ os) at c =
      AreBehind-append d c (items_of d top o) (flat_map (items_of d top) os)
      (AreBehind-nets (Some o.cell) (own_nets d o) (map (pin_item d top.cell o.path) (pin_bits d o.path o.cell))
      (AreBehind-pins (Some o.cell) o.path (pin_bits d o.path o.cell) (sym (at o (inl refl)))))
      (AreBehind-all os (λ q m. at q (inr m)))

  net_is_no_pin : (xs : List NetAt) (a : Item) → Member (map (net_item d top.cell) xs) a → pin_path a ≡ None
  net_is_no_pin xs a m = let from = Member-from_map (net_item d top.cell) xs a m in ap pin_path (sym from.2)

  pin_is_no_net : (path : List ℕ) (bs : List Bit) (a : Item) → Member (map (pin_item d top.cell path) bs) a → net_path a ≡ None
  pin_is_no_net path bs a m = let from = Member-from_map (pin_item d top.cell path) bs a m in ap net_path (sym from.2)

  pin_of : (o : Occurrence) (a : Item) (p : List ℕ) → Member (items_of d top o) a → pin_path a ≡ Some p → o.path ≡ p
  pin_of o a p m is =
      elim m [
        | inl same ↦ absurd (none-some p (ap pin_path same ∙ is))
        | inr rest ↦ elim (Member-append_cases (map (net_item d top.cell) (own_nets d o)) (map (pin_item d top.cell o.path) (pin_bits d o.path o.cell)) a rest) [
          | inl net ↦ absurd (none-some p (sym (net_is_no_pin (own_nets d o) a net) ∙ is))
          | inr pin ↦ let from = Member-from_map (pin_item d top.cell o.path) (pin_bits d o.path o.cell) a pin in same_Some o.path p (ap pin_path from.2 ∙ is)
        ]
      ]

  net_of : (o : Occurrence) (a : Item) (q : List ℕ) → Member (items_of d top o) a → net_path a ≡ Some q → o.path ≡ q
  net_of o a q m is =
      elim m [
        | inl same ↦ absurd (none-some q (ap net_path same ∙ is))
        | inr rest ↦ elim (Member-append_cases (map (net_item d top.cell) (own_nets d o)) (map (pin_item d top.cell o.path) (pin_bits d o.path o.cell)) a rest) [
          | inl net ↦
              let from = Member-from_map (net_item d top.cell) (own_nets d o) a net in
              let own = Member-from_map (at_path o.path) _ from.0 from.1 in
              ap (λ (x : NetAt). x.path) own.2 ∙ same_Some from.0.path q (ap net_path from.2 ∙ is)
          | inr pin ↦ absurd (none-some q (sym (pin_is_no_net o.path (pin_bits d o.path o.cell) a pin) ∙ is))
        ]
      ]

  later_of_own : (o : Occurrence) → Ascends NetIsLater (items_of d top o)
  later_of_own o =
      let nets = map (net_item d top.cell) (own_nets d o) in
      let pins = map (pin_item d top.cell o.path) (pin_bits d o.path o.cell) in (
        λ b m p q is_p is_q. absurd (none-some p is_p),
        Ascends-append NetIsLater nets pins
            (related-ascend NetIsLater nets (λ a b m k p q is_p is_q. absurd (none-some p (sym (net_is_no_pin (own_nets d o) a m) ∙ is_p))))
            (related-ascend NetIsLater pins (λ a b m k p q is_p is_q. absurd (none-some q (sym (pin_is_no_net o.path (pin_bits d o.path o.cell) b k) ∙ is_q))))
            (λ a b m k p q is_p is_q. absurd (none-some p (sym (net_is_no_pin (own_nets d o) a m) ∙ is_p))),
      )

  later_of_all : (os : List Occurrence) → Ascends OccurrenceBefore os → Ascends NetIsLater (flat_map (items_of d top) os)
  later_of_all [] h = tt
  later_of_all (o ∷ os) h =
      Ascends-append NetIsLater (items_of d top o) (flat_map (items_of d top) os) (later_of_own o) (later_of_all os h.1)
      (λ a b m k p q is_p is_q.
      let found = Member-from_flat_map (items_of d top) os b k in
      let before : PathBefore o.path found.0.path = h.0 found.0 found.1 in
      subst (λ v. PathBefore v q) (pin_of o a p m is_p) (subst (λ v. PathBefore o.path v) (net_of found.0 b q found.2 is_q) before))

  module _ (valid : IsValid d) (is : d.top ≡ Some top) where
    -- where a pin is, the last cell that was entered is its occurrence's
    pub cell_is : (seen rest : List Item) (path : List ℕ) (port bit : ℕ) (first : Option NetAt) → flattening d ≡ seen ++ Pin path port bit first ∷ rest
        → last_cell None seen ≡ cell_to d path
    cell_is seen rest path port bit first whole =
        let all : AreBehind d None (flat_map (items_of d top) (occurrences d top.cell)) =
        AreBehind-all (occurrences d top.cell)
        (λ o m. ap (option_and_then (λ (t : TopHead). cell_along d t.cell o.path)) is ∙ occurrences-reaches d valid.no_cycle top.cell o m) None
        in
        (AreBehind-rest d None seen (Pin path port bit first ∷ rest) (subst (AreBehind d None) (sym (flat d top is) ∙ whole) all)).0

    later-ascend : Ascends NetIsLater (flattening d)
    later-ascend =
        subst (Ascends NetIsLater) (sym (flat d top is))
        (later_of_all (occurrences d top.cell) (AllPairs-ascends OccurrenceBefore (occurrences d top.cell) (occurrences_are_all d top.cell valid.no_cycle).in_order))

    -- the net that joins a pin is none of a later occurrence
    joined_before : (x : NetAt) (path q : List ℕ) (b : Bit) → JoinsPin d top.cell x path b → PathBefore path q → PathBefore x.path q
    joined_before x [] q b joins before = subst (λ v. PathBefore v q) (sym joins.0) before
    joined_before x (i ∷ path) q b joins before = before_below x.path joins.0 q (subst (λ v. PathBefore v q) joins.1 before)

    -- where a pin is at a net, the first of those that lead to it was seen
    pub first_is_seen : (seen rest : List Item) (path : List ℕ) (port bit : ℕ) (y : NetAt) → flattening d ≡ seen ++ Pin path port bit (Some y) ∷ rest
        → Member (first_nets seen) y
    first_is_seen seen rest path port bit y whole =
        let pin = Pin path port bit (Some y) in
        let b : Bit = record { port = port; bit = bit } in
        let there = pin_there d top is valid.no_cycle path port bit (Some y) (subst (λ v. Member v pin) (sym whole) (Member-append_right seen (pin ∷ rest) pin (inl refl))) in
        let parts = map-parts (representative d top.cell) (net_at_pin d top.cell path b) y (sym there.1) in
        let x = parts.0 in
        let joins = net_at_pin-joins d top.cell path b x parts.1 in
        let x_is = joins_net d top.cell x path b joins in
        let least = (representative-first d valid.no_cycle top.cell x x_is).least in
        let first = first_net_from d top is valid.no_cycle (representative d top.cell x) (is_first d top valid is x x_is) in
        let m : Member (first_nets seen ++ first_nets rest) y =
        subst (λ v. Member (first_nets seen ++ first_nets rest) v) parts.2
        (subst (λ v. Member v (representative d top.cell x)) (ap first_nets whole ∙ flat_map-append first_net seen (pin ∷ rest)) first)
        in
        elim (Member-append_cases (first_nets seen) (first_nets rest) y m) [
          | inl before ↦ before
          | inr behind ↦
              let found = Member-from_flat_map first_net rest y behind in
              let order = ascends_parts NetIsLater seen (pin ∷ rest) (subst (Ascends NetIsLater) whole later-ascend) in
              let after : PathBefore path y.path = order.1.0 found.0 found.1 path y.path refl (first_path y found.0 found.2) in
              absurd (least x (Connected-same d top.cell x) (inl (subst (λ (v : NetAt). PathBefore x.path v.path) (sym parts.2) (joined_before x path y.path b joins after))))
        ]

-- where there is an item there is a top
top_of_front : (d : Design) (seen : List Item) (item : Item) (rest : List Item) → flattening d ≡ seen ++ item ∷ rest → (top : TopHead) × (d.top ≡ Some top)
top_of_front d seen item rest whole = by d.top refl
  where
    not_empty : (xs : List Item) → xs ++ item ∷ rest ≡ [] → ⊥
    not_empty [] e = cc
    not_empty (x ∷ xs) e = cc

    by : (o : Option TopHead) → d.top ≡ o → (top : TopHead) × (d.top ≡ Some top)
    by (Some top) is = (top, is)
    by None is =
        absurd (not_empty seen (sym whole ∙ ap (λ o. option_map_or (λ (t : TopHead). flat_map (items_of d t) (occurrences d t.cell)) o []) is))

-- the same without the last items
pub shorter : (d : Design) (xs ys : List Item) → IsFront d (xs ++ ys) → IsFront d xs
shorter d xs ys front = record { valid = front.valid; rest = ys ++ front.rest; whole = front.whole ∙ append_assoc xs ys front.rest }

at_item : (d : Design) (seen : List Item) (item : Item) (front : IsFront d (seen ++ item ∷ [])) → flattening d ≡ seen ++ item ∷ front.rest
at_item d seen item front = front.whole ∙ append_assoc seen (item ∷ []) front.rest

-- the direction of a pin, by the cell that was entered last
pub direction_is : (d : Design) (seen : List Item) (path : List ℕ) (port bit : ℕ) (first : Option NetAt) → IsFront d (seen ++ Pin path port bit first ∷ [])
    → direction_in d (last_cell None seen) port ≡ direction_at d path port
direction_is d seen path port bit first front =
    let whole = at_item d seen (Pin path port bit first) front in
    let top = top_of_front d seen (Pin path port bit first) front.rest whole in
    ap (λ c. direction_in d c port) (cell_is d top.0 front.valid top.1 seen front.rest path port bit first whole)

pub first_was_seen : (d : Design) (seen : List Item) (path : List ℕ) (port bit : ℕ) (y : NetAt) → IsFront d (seen ++ Pin path port bit (Some y) ∷ [])
    → Member (first_nets seen) y
first_was_seen d seen path port bit y front =
    let whole = at_item d seen (Pin path port bit (Some y)) front in
    let top = top_of_front d seen (Pin path port bit (Some y)) front.rest whole in
    first_is_seen d top.0 front.valid top.1 seen front.rest path port bit y whole

-- the first nets are in order
pub firsts-ascend : (d : Design) (seen : List Item) (item : Item) → IsFront d (seen ++ item ∷ []) → Ascends NetBefore (first_nets (seen ++ item ∷ []))
firsts-ascend d seen item front =
    let top = top_of_front d seen item front.rest (at_item d seen item front) in
    let all : Ascends NetBefore (first_nets (seen ++ item ∷ []) ++ first_nets front.rest) =
    subst (Ascends NetBefore) (ap first_nets front.whole ∙ flat_map-append first_net (seen ++ item ∷ []) front.rest) (first_nets-ascend d top.0 top.1)
    in
    (ascends_parts NetBefore (first_nets (seen ++ item ∷ [])) (first_nets front.rest) all).0
