-- Pins by the ports that an occurrence shows.
use Rattle.std.proofs.Common.{◌≡◌, ◌<◌, ◌≤◌, ◌+◌, ℕ, zero, suc, List, [], ◌∷◌, length, get_or, take, refl, sym, ap, subst, ◌∙◌, inl, inr, arith, Bool, true, false, Option, Some, None, slice_get}
use Rattle.std.specs.Prelude.{sum_by, is_none, nat_lt, unwrap_or, IfSome, if◌then◌else◌}
use Rattle.std.specs.Option.{option_map_or}
use Rattle.std.proofs.lemmas.Bool.{cases_lt, lt-ltb, le-ltb, cond-true, cond-false}
use Rattle.std.proofs.lemmas.List.{take_all}
use Rattle.std.proofs.lemmas.List.Sums.{sum_by_more}
use Rattle.std.proofs.lemmas.Option.{none-some, slice_get_within, get_or_from_slice_get}
use Rattle.netlist_schema.specs.Design.{Design, bit_count, cell_at, port_width}
use Rattle.netlist_schema.specs.Typed.{IsTypedCell, IsTypedPort}
use Rattle.netlist_schema.specs.Types.{CellBody, Port}
use Rattle.netlist_schema.specs.Valid.{IsValid}
use Rattle.netlist_schema.specs.Width.{IsWidth}
use Rattle.netlist_schema.proofs.Cells.{All-cell_at, All-slice_get}
use Rattle.flat_spec.specs.Occurrences.{Occurrence}
use Rattle.flat_spec.specs.Pins.{bits_of, own_bits, shown_bits}
use Rattle.flat_spec.proofs.BitLemmas.{bits_from, bits_from-length, number_at}
use Rattle.flat_items.specs.Ports.{IsPinAt, pin_behind, ports_in, ports_shown}
use Rattle.flat_items.specs.declared.place.PinAt.{PinAt}

-- the bits of the ports that are shown are the bits that are shown
bits_in_ports : (path : List ℕ) (body : CellBody) → bits_from 0 (ports_in path body) ≡ shown_bits path body
bits_in_ports [] body = refl
bits_in_ports (i ∷ path) body = go (is_none body.contents)
  where
    go : (leaf : Bool) → bits_from 0 (if leaf then body.ports else []) ≡ (if leaf then bits_of body else [])
    go true = refl
    go false = refl

pub bits_of_ports : (d : Design) (o : Occurrence) → bits_from 0 (ports_shown d o) ≡ option_map_or (shown_bits o.path) (cell_at d o.cell) []
bits_of_ports d o = go (cell_at d o.cell)
  where
    go : (b : Option CellBody) → bits_from 0 (option_map_or (ports_in o.path) b []) ≡ option_map_or (shown_bits o.path) b []
    go None = refl
    go (Some body) = bits_in_ports o.path body

-- a port that is shown is one of the cell's
record IsPortOf (d : Design) (o : Occurrence) (k : ℕ) (port : Port) : Type 0 where
  pub body : CellBody
  pub is : cell_at d o.cell ≡ Some body
  pub ports : ports_shown d o ≡ body.ports
  pub there : slice_get body.ports k ≡ Some port

shown_there : (d : Design) (o : Occurrence) (k : ℕ) (port : Port) → slice_get (ports_shown d o) k ≡ Some port → IsPortOf d o k port
shown_there d o k port at = go (cell_at d o.cell) refl at
  where
    in_body : (path : List ℕ) (body : CellBody) → slice_get (ports_in path body) k ≡ Some port → ports_in path body ≡ body.ports
    in_body [] body at = refl
    in_body (i ∷ path) body at = leaf (is_none body.contents) at
      where
        leaf : (is : Bool) → slice_get (if is then body.ports else []) k ≡ Some port → (if is then body.ports else []) ≡ body.ports
        leaf true at = refl
        leaf false at = absurd (none-some port at)

    go : (b : Option CellBody) → cell_at d o.cell ≡ b → slice_get (option_map_or (ports_in o.path) b []) k ≡ Some port → IsPortOf d o k port
    go None is at = absurd (none-some port at)
    go (Some body) is at =
        let same = in_body o.path body at in
        record {
          body = body;
          is = is;
          ports = ap (λ v. option_map_or (ports_in o.path) v []) is ∙ same;
          there = ap (λ v. slice_get v k) (sym same) ∙ at;
        }

-- it has a bit
pub shown_wide : (d : Design) → IsValid d → (o : Occurrence) (k : ℕ) (port : Port) → slice_get (ports_shown d o) k ≡ Some port → 1 ≤ port_width port
shown_wide d valid o k port at =
    let from = shown_there d o k port at in
    let typed : IsTypedCell from.body = All-cell_at IsTypedCell d o.cell from.body valid.typed.cells from.is in
    let port_typed : IsTypedPort port = All-slice_get IsTypedPort from.body.ports k port typed.ports from.there in
    wide port.array port_typed.array
  where
    wide : (array : Option ℕ) → IfSome array IsWidth → 1 ≤ unwrap_or array 1
    wide None h = omega arith
    wide (Some n) h = h.0

-- the bit of a pin stands at its number, among the bits that are shown and among the cell's own
pub record IsBitOf (d : Design) (o : Occurrence) (p : PinAt) : Type 0 where
  pub shown : slice_get (bits_from 0 (ports_shown d o)) p.number ≡ Some (record { port = p.port; bit = p.bit })
  pub own : slice_get (own_bits d o.cell) p.number ≡ Some (record { port = p.port; bit = p.bit })
  pub few : p.number < 1048576

pub pin_bit : (d : Design) → IsValid d → (o : Occurrence) (p : PinAt) (port : Port) → slice_get (ports_shown d o) p.port ≡ Some port
    → IsPinAt (ports_shown d o) p → IsBitOf d o p
pin_bit d valid o p port at is =
    let ports = ports_shown d o in
    let from = shown_there d o p.port port at in
    let less : p.bit < port_width port = subst (λ v. IfSome v (λ (q : Port). p.bit < port_width q)) at is.within in
    let place : 0 + p.port ≡ p.port = omega arith in
    let shown : slice_get (bits_from 0 ports) p.number ≡ Some (record { port = p.port; bit = p.bit }) =
    ap (slice_get (bits_from 0 ports)) is.number_is
    ∙ number_at ports 0 p.port p.bit port at less
    ∙ ap (λ v. Some (record { port = v; bit = p.bit })) place in
    let own_are : own_bits d o.cell ≡ bits_from 0 ports = ap (λ v. option_map_or bits_of v []) from.is ∙ ap (bits_from 0) (sym from.ports) in
    let within : p.number < length (bits_from 0 ports) = slice_get_within (bits_from 0 ports) p.number _ shown in
    let long : length (bits_from 0 ports) ≡ sum_by port_width from.body.ports = bits_from-length 0 ports ∙ ap (sum_by port_width) from.ports in
    let most : bit_count from.body ≤ 1048576 = (valid.cells o.cell from.body from.is).limits.bits in
    record { shown = shown; own = ap (λ v. slice_get v p.number) own_are ∙ shown; few = omega (arith, within, long, most) }

-- the first pin
pub first_is_pin : (d : Design) → IsValid d → (o : Occurrence) → IsPinAt (ports_shown d o) (record { number = 0; port = 0; bit = 0 })
first_is_pin d valid o =
    record { number_is = omega arith; bounded = omega arith; within = go (slice_get (ports_shown d o) 0) refl }
  where
    go : (v : Option Port) → slice_get (ports_shown d o) 0 ≡ v → IfSome v (λ port. 0 < port_width port)
    go None is = tt
    go (Some port) is = let wide = shown_wide d valid o 0 port is in omega (arith, wide)

-- the pin behind one
pub behind_is_pin : (d : Design) → IsValid d → (o : Occurrence) (p : PinAt) (port : Port) → slice_get (ports_shown d o) p.port ≡ Some port
    → IsPinAt (ports_shown d o) p → IsPinAt (ports_shown d o) (pin_behind p (port_width port)) × ((pin_behind p (port_width port)).number ≡ p.number + 1)
behind_is_pin d valid o p port at is = elim (cases_lt (p.bit + 1) (port_width port)) [
  | inl more ↦
      let same : pin_behind p (port_width port) ≡ record { number = p.number + 1; port = p.port; bit = p.bit + 1 } =
      cond-true (nat_lt (p.bit + 1) (port_width port)) _ _ (lt-ltb (p.bit + 1) (port_width port) more) in
      let here : IsPinAt (ports_shown d o) (record { number = p.number + 1; port = p.port; bit = p.bit + 1 }) =
      record { number_is = omega (arith, is.number_is); bounded = is.bounded; within = subst (λ v. IfSome v (λ (q : Port). p.bit + 1 < port_width q)) (sym at) more } in
      (subst (IsPinAt (ports_shown d o)) (sym same) here, ap (λ (v : PinAt). v.number) same)
  | inr last ↦
      let same : pin_behind p (port_width port) ≡ record { number = p.number + 1; port = p.port + 1; bit = 0 } =
      cond-false (nat_lt (p.bit + 1) (port_width port)) _ _ (le-ltb (p.bit + 1) (port_width port) last) in
      let here : IsPinAt (ports_shown d o) (record { number = p.number + 1; port = p.port + 1; bit = 0 }) =
      record { number_is = number last; bounded = bounded; within = next (slice_get (ports_shown d o) (p.port + 1)) refl } in
      (subst (IsPinAt (ports_shown d o)) (sym same) here, ap (λ (v : PinAt). v.number) same)
]
  where
    inside : p.port < length (ports_shown d o)
    inside = slice_get_within (ports_shown d o) p.port port at

    bounded : p.port + 1 ≤ length (ports_shown d o)
    bounded = omega (arith, inside)

    number : port_width port ≤ p.bit + 1 → p.number + 1 ≡ sum_by port_width (take (p.port + 1) (ports_shown d o)) + 0
    number last =
        let less : p.bit < port_width port = subst (λ v. IfSome v (λ (q : Port). p.bit < port_width q)) at is.within in
        let more = sum_by_more port_width (ports_shown d o) p.port port inside in
        let width : port_width (get_or (ports_shown d o) p.port port) ≡ port_width port =
        ap port_width (get_or_from_slice_get (ports_shown d o) p.port port port at) in
        omega (arith, less, last, more, width, is.number_is)

    next : (v : Option Port) → slice_get (ports_shown d o) (p.port + 1) ≡ v → IfSome v (λ q. 0 < port_width q)
    next None is_ = tt
    next (Some q) is_ = let wide = shown_wide d valid o (p.port + 1) q is_ in omega (arith, wide)

past_of_none : {A : Type 0} (xs : List A) (k : ℕ) → slice_get xs k ≡ None → length xs ≤ k
past_of_none [] k e = omega arith
past_of_none (x ∷ xs) zero e = absurd (none-some x (sym e))
past_of_none (x ∷ xs) (suc k) e = let more : length xs ≤ k = past_of_none xs k e in omega arith

-- behind the ports no pin is left
pub pins_past : (d : Design) (o : Occurrence) (p : PinAt) → slice_get (ports_shown d o) p.port ≡ None → IsPinAt (ports_shown d o) p
    → length (bits_from 0 (ports_shown d o)) ≤ p.number
pins_past d o p none is =
    let past = past_of_none (ports_shown d o) p.port none in
    let whole : sum_by port_width (take p.port (ports_shown d o)) ≡ sum_by port_width (ports_shown d o) = ap (sum_by port_width) (take_all p.port (ports_shown d o) past) in
    omega (arith, whole, is.number_is, bits_from-length 0 (ports_shown d o))
