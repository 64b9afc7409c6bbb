-- The next of an occurrence's own items.
use Rattle.std.proofs.Common.{◌≡◌, ◌<◌, ◌≤◌, ◌+◌, ℕ, List, [], ◌∷◌, ◌++◌, map, length, drop, refl, sym, ap, subst, ◌∙◌, arith, true, false, Option, Some, None, slice_get}
use Rattle.std.specs.Prelude.{IsSome}
use Rattle.std.specs.List.{range_with_len}
use Rattle.std.specs.Option.{option_map, option_map_or}
use Rattle.std.proofs.lemmas.Bool.{false≢true}
use Rattle.std.proofs.lemmas.List.{drop_all, length-map}
use Rattle.std.proofs.lemmas.List.FromFn.{get_or-range_with_len, length-range_with_len}
use Rattle.std.proofs.lemmas.Option.{slice_get-get_or, slice_get-map}
use Rattle.netlist_schema.specs.Design.{Design, cell_at, nets_of, port_width}
use Rattle.netlist_schema.specs.Types.{CellBody, CellId, Port}
use Rattle.netlist_schema.specs.Valid.{IsValid}
use Rattle.netlist_schema.proofs.Lists.{drop_next}
use Rattle.flat_spec.specs.Flattening.{net_item, pin_item}
use Rattle.flat_spec.specs.Occurrences.{Occurrence, own_nets}
use Rattle.flat_spec.specs.Paths.{Bit, at_path, nets_at}
use Rattle.flat_spec.specs.Pins.{shown_bits}
use Rattle.flat_spec.specs.Types.{Item, NetAt}
use Rattle.flat_spec.proofs.BitLemmas.{bits_from}
use Rattle.flat_items.specs.Left.{GoesOn, IsAhead, enter_item, is_over, own_left, pins_of}
use Rattle.flat_items.specs.Lent.{item_of}
use Rattle.flat_items.specs.Ports.{IsPinAt, pin_behind, ports_shown}
use Rattle.flat_items.specs.Stand.{IsStage, top_of}
use Rattle.flat_items.specs.declared.lent.ItemRef.{ItemRef}
use Rattle.flat_items.specs.declared.place.PinAt.{PinAt}
use Rattle.flat_items.specs.declared.place.Stage.{Stage}
use Rattle.flat_items.specs.declared.place.Stage.TheVariants.{Whole, Nets, Pins, Done}
use Rattle.flat_items.proofs.PortLemmas.{behind_is_pin, bits_of_ports, pin_bit, pins_past}

-- the occurrence, and then its nets
pub whole_ahead : (d : Design) (o : Occurrence) (item : ItemRef) → item_of item ≡ enter_item d o → IsAhead d o Whole (Some item)
whole_ahead d o item is = (refl, ap (λ v. v ∷ own_left d o (Nets 0)) (sym is))

net_there : (d : Design) (o : Occurrence) (n : ℕ) → n < length (nets_at d o.cell) → slice_get (own_nets d o) n ≡ Some (at_path o.path n)
net_there d o n less =
    let count = length (nets_at d o.cell) in
    let within : n < length (range_with_len 0 count) = omega (arith, less, length-range_with_len 0 count) in
    let at : slice_get (range_with_len 0 count) n ≡ Some n =
    slice_get-get_or (range_with_len 0 count) n 0 within ∙ ap Some (get_or-range_with_len 0 count n 0 less ∙ omega arith) in
    slice_get-map (at_path o.path) (range_with_len 0 count) n ∙ ap (option_map (at_path o.path)) at

pub net_opens : (d : Design) (o : Occurrence) (n : ℕ) → n < length (nets_at d o.cell)
    → own_left d o (Nets n) ≡ net_item d (top_of d).cell (at_path o.path n) ∷ own_left d o (Nets (n + 1))
net_opens d o n less =
    ap (λ (v : List NetAt). map (net_item d (top_of d).cell) v ++ pins_of d o) (drop_next (own_nets d o) n (at_path o.path n) (net_there d o n less))

pub opened_ahead : (items others : List Item) (item : Item) (v : Item) → items ≡ v ∷ others → item ≡ v → items ≡ item ∷ drop 1 items
opened_ahead items others item v is same = is ∙ ap (λ x. x ∷ others) (sym same) ∙ ap (λ xs. item ∷ drop 1 xs) (sym is)

-- a net, and behind it the others
pub net_ahead : (d : Design) (o : Occurrence) (n : ℕ) (item : ItemRef) → n < length (nets_at d o.cell)
    → item_of item ≡ net_item d (top_of d).cell (at_path o.path n) → IsAhead d o (Nets n) (Some item)
net_ahead d o n item less is =
    (refl, opened_ahead (own_left d o (Nets n)) (own_left d o (Nets (n + 1))) (item_of item) (net_item d (top_of d).cell (at_path o.path n)) (net_opens d o n less) is)

pub net_behind : (d : Design) (o : Occurrence) (n : ℕ) → n < length (nets_at d o.cell) → own_left d o (Nets (n + 1)) ≡ drop 1 (own_left d o (Nets n))
net_behind d o n less = ap (drop 1) (sym (net_opens d o n less))

-- behind the nets come the pins
pub nets_past : (d : Design) (o : Occurrence) (n : ℕ) (p : PinAt) → length (nets_at d o.cell) ≤ n → p.number ≡ 0 → own_left d o (Nets n) ≡ own_left d o (Pins p)
nets_past d o n p past zero_is =
    let long = length-map (range_with_len 0 (length (nets_at d o.cell))) (at_path o.path) in
    let count = length-range_with_len 0 (length (nets_at d o.cell)) in
    let none : length (own_nets d o) ≤ n = omega (arith, long, count, past) in
    ap (λ (v : List NetAt). map (net_item d (top_of d).cell) v ++ pins_of d o) (drop_all n (own_nets d o) none)
    ∙ ap (λ k. drop k (pins_of d o)) (sym zero_is)

pub pin_opens : (d : Design) → IsValid d → (o : Occurrence) (p : PinAt) (port : Port) → slice_get (ports_shown d o) p.port ≡ Some port
    → IsPinAt (ports_shown d o) p
    → own_left d o (Pins p) ≡ pin_item d (top_of d).cell o.path (record { port = p.port; bit = p.bit }) ∷ drop (p.number + 1) (pins_of d o)
pin_opens d valid o p port at is =
    let bits = option_map_or (shown_bits o.path) (cell_at d o.cell) [] in
    let make = pin_item d (top_of d).cell o.path in
    let b : Bit = record { port = p.port; bit = p.bit } in
    let bit_at : slice_get bits p.number ≡ Some b = ap (λ (v : List Bit). slice_get v p.number) (sym (bits_of_ports d o)) ∙ (pin_bit d valid o p port at is).shown in
    let pin_at : slice_get (pins_of d o) p.number ≡ Some (make b) = slice_get-map make bits p.number ∙ ap (option_map make) bit_at in
    drop_next (pins_of d o) p.number (make b) pin_at

-- a pin, and behind it the others
pub pin_ahead : (d : Design) → IsValid d → (o : Occurrence) (p : PinAt) (port : Port) (item : ItemRef) → slice_get (ports_shown d o) p.port ≡ Some port
    → IsPinAt (ports_shown d o) p → item_of item ≡ pin_item d (top_of d).cell o.path (record { port = p.port; bit = p.bit }) → IsAhead d o (Pins p) (Some item)
pin_ahead d valid o p port item at is item_is = (
  refl,
  opened_ahead (own_left d o (Pins p)) (drop (p.number + 1) (pins_of d o)) (item_of item)
      (pin_item d (top_of d).cell o.path (record { port = p.port; bit = p.bit })) (pin_opens d valid o p port at is) item_is,
)

pub pin_behind_left : (d : Design) → IsValid d → (o : Occurrence) (p behind : PinAt) (port : Port) → slice_get (ports_shown d o) p.port ≡ Some port
    → IsPinAt (ports_shown d o) p → behind ≡ pin_behind p (port_width port)
    → IsPinAt (ports_shown d o) behind × (own_left d o (Pins behind) ≡ drop 1 (own_left d o (Pins p)))
pin_behind_left d valid o p behind port at is behind_is =
    let next = behind_is_pin d valid o p port at is in
    let number : behind.number ≡ p.number + 1 = ap (λ (v : PinAt). v.number) behind_is ∙ next.1 in (
      subst (IsPinAt (ports_shown d o)) (sym behind_is) next.0,
      ap (λ k. drop k (pins_of d o)) number ∙ ap (drop 1) (sym (pin_opens d valid o p port at is)),
    )

-- the port of a pin that is there
pub port_of_pin : (ports : List Port) (k : ℕ) → IsSome (slice_get ports k) → (port : Port) × (slice_get ports k ≡ Some port)
port_of_pin ports k there = go (slice_get ports k) there
  where
    go : (o : Option Port) → IsSome o → (port : Port) × (o ≡ Some port)
    go None is = absurd (false≢true is)
    go (Some port) is = (port, refl)

-- behind the pins comes nothing
pub pins_end : (d : Design) (o : Occurrence) (p : PinAt) → slice_get (ports_shown d o) p.port ≡ None → IsPinAt (ports_shown d o) p → own_left d o (Pins p) ≡ []
pins_end d o p none is =
    let bits = option_map_or (shown_bits o.path) (cell_at d o.cell) [] in
    let make = pin_item d (top_of d).cell o.path in
    let same : length (bits_from 0 (ports_shown d o)) ≡ length bits = ap (λ (v : List Bit). length v) (bits_of_ports d o) in
    let past : length (pins_of d o) ≤ p.number = omega (arith, pins_past d o p none is, same, length-map bits make) in
    drop_all p.number (pins_of d o) past

pub nets_few : (d : Design) → IsValid d → (c : CellId) → length (nets_at d c) ≤ 1048576
nets_few d valid c = go (cell_at d c) refl
  where
    go : (b : Option CellBody) → cell_at d c ≡ b → length (option_map_or nets_of b []) ≤ 1048576
    go None is = omega arith
    go (Some body) is = (valid.cells c body is).limits.nets

-- the pin goes on, where there is one, else nothing
pub pin_goes_on : (d : Design) (o : Occurrence) (p : PinAt) (port : Port) → slice_get (ports_shown d o) p.port ≡ Some port → IsPinAt (ports_shown d o) p
    → GoesOn d o (own_left d o (Pins p)) (Pins p)
pin_goes_on d o p port at is = (refl, (is, subst (λ (v : Option Port). IsSome v) (sym at) refl))

pub pin_ends : (d : Design) (o : Occurrence) (p : PinAt) → slice_get (ports_shown d o) p.port ≡ None → IsPinAt (ports_shown d o) p
    → GoesOn d o (own_left d o (Pins p)) Done
pin_ends d o p none is = (sym (pins_end d o p none is), tt)

-- the same items
pub goes_on_with : (d : Design) (o : Occurrence) (items others : List Item) (stage : Stage) → items ≡ others → GoesOn d o items stage → GoesOn d o others stage
goes_on_with d o items others stage same goes = (goes.0 ∙ same, goes.1)

-- a stage that gives something has a first item; one that is over has none
pub own_opens : (d : Design) → IsValid d → (o : Occurrence) (stage : Stage) → IsStage d o stage → is_over stage ≡ false
    → (first : Item) × (own_left d o stage ≡ first ∷ drop 1 (own_left d o stage))
own_opens d valid o Whole is some = (enter_item d o, refl)
own_opens d valid o (Nets n) is some =
    let first = net_item d (top_of d).cell (at_path o.path n) in
    (first, opened_ahead (own_left d o (Nets n)) (own_left d o (Nets (n + 1))) first first (net_opens d o n is) refl)
own_opens d valid o (Pins p) is some =
    let port = port_of_pin (ports_shown d o) p.port is.1 in
    let first = pin_item d (top_of d).cell o.path (record { port = p.port; bit = p.bit }) in
    (first, opened_ahead (own_left d o (Pins p)) (drop (p.number + 1) (pins_of d o)) first first (pin_opens d valid o p port.0 port.1 is.0) refl)
own_opens d valid o Done is some = absurd (false≢true (sym some))

pub over_left : (d : Design) (o : Occurrence) (stage : Stage) → is_over stage ≡ true → own_left d o stage ≡ []
over_left d o Whole is = absurd (false≢true is)
over_left d o (Nets n) is = absurd (false≢true is)
over_left d o (Pins p) is = absurd (false≢true is)
over_left d o Done is = refl
