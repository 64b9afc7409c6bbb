-- The bits of a cell by their numbers, and what nets join.
use Rattle.std.proofs.Common.{◌≡◌, ◌<◌, ◌≤◌, ◌+◌, ◌⊎◌, inl, inr, ◌-◌, ℕ, zero, suc, List, [], ◌∷◌, ◌++◌, map, length, refl, sym, ap, subst, ◌∙◌, arith, Some, None, Option, slice_get}
use Rattle.std.specs.Prelude.{sum_by, take, IsSomeAnd, option_and_then}
use Rattle.std.specs.List.{Contains, enumerate_from, flat_map, range_with_len}
use Rattle.std.specs.Option.{option_map_or}
use Rattle.std.proofs.lemmas.Bool.{cases_lt}
use Rattle.std.proofs.lemmas.List.{length-append}
use Rattle.std.proofs.lemmas.List.Elements.{All-contains}
use Rattle.std.proofs.lemmas.Option.{slice_get_within, get_or_from_slice_get}
use Rattle.std.proofs.lemmas.List.Sums.{sum_by-cons}
use Rattle.netlist_schema.specs.Design.{Design, cell_at, ends_of, insts_of, nets_of, port_width}
use Rattle.netlist_schema.specs.Types.{CellBody, CellId, End, Inst, Net, Port}
use Rattle.netlist_schema.specs.Valid.{HasBit, IsEndOf, IsValid}
use Rattle.netlist_schema.proofs.Lists.{get_behind, get_still}
use Rattle.flat_spec.specs.Paths.{Bit, own, on, at_root, Joins, Reaches}
use Rattle.flat_spec.specs.Pins.{own_bits}
use Rattle.flat_spec.specs.declared.item.NetAt.{NetAt}
use Rattle.flat_spec.proofs.ListLemmas.{Member, Contains-member, Member-contains}
use Rattle.flat_spec.proofs.PathLemmas.{Joins-inward_here, Joins-reaches, Reaches-append}
use Rattle.flat_spec.proofs.PinLemmas.{ends-member}

-- the bits of ports, the first of which has that place
abbrev pub bits_from : ℕ → List Port → List Bit
bits_from place ports = flat_map (λ (p : ℕ × Port). map (λ bit. record { port = p.0; bit = bit }) (range_with_len 0 (port_width p.1))) (enumerate_from place ports)

abbrev pub bits_in : ℕ → ℕ → ℕ → List Bit
bits_in port from count = map (λ bit. record { port = port; bit = bit }) (range_with_len from count)

bits_in-length : (port from count : ℕ) → length (bits_in port from count) ≡ count
bits_in-length port from zero = refl
bits_in-length port from (suc count) = ap suc (bits_in-length port (from + 1) count)

bits_in-at : (port from count k : ℕ) → k < count → slice_get (bits_in port from count) k ≡ Some (record { port = port; bit = from + k })
bits_in-at port from zero k less = absurd (omega (arith, less))
bits_in-at port from (suc count) zero less = ap (λ bit. Some (record { port = port; bit = bit })) (omega arith)
bits_in-at port from (suc count) (suc k) less =
    bits_in-at port (from + 1) count k (omega (arith, less)) ∙ ap (λ bit. Some (record { port = port; bit = bit })) (omega arith)

-- a bit of a port stands behind the bits of the ports before it
pub number_at : (ports : List Port) (place k bit : ℕ) (port : Port) → slice_get ports k ≡ Some port → bit < port_width port
    → slice_get (bits_from place ports) (sum_by port_width (take k ports) + bit) ≡ Some (record { port = place + k; bit = bit })
number_at [] place k bit port e less = absurd (cc e)
number_at (p ∷ ports) place zero bit port e less =
    let same : p ≡ port = Some-port p port e in
    let within : bit < port_width p = subst (λ v. bit < port_width v) (sym same) less in
    let here : slice_get (bits_in place 0 (port_width p)) bit ≡ Some (record { port = place; bit = 0 + bit }) = bits_in-at place 0 (port_width p) bit within in
    let at : 0 + bit ≡ bit = omega arith in
    let port_is : place ≡ place + 0 = omega arith in
    ap (slice_get (bits_from place (p ∷ ports))) at
    ∙ get_still (bits_in place 0 (port_width p)) (bits_from (place + 1) ports) bit (record { port = place; bit = 0 + bit }) here
    ∙ ap (λ b. Some (record { port = place; bit = b })) at
    ∙ ap (λ v. Some (record { port = v; bit = bit })) port_is
  where
    Some-port : (a b : Port) → Some a ≡ Some b → a ≡ b
    Some-port a b e = cc e
number_at (p ∷ ports) place (suc k) bit port e less =
    let rest = sum_by port_width (take k ports) in
    let more : sum_by port_width (take (suc k) (p ∷ ports)) ≡ port_width p + rest = sum_by-cons port_width p (take k ports) in
    let front = bits_in place 0 (port_width p) in
    let index : sum_by port_width (take (suc k) (p ∷ ports)) + bit ≡ length front + (rest + bit) = omega (arith, more, bits_in-length place 0 (port_width p)) in
    let port_is : (place + 1) + k ≡ place + suc k = omega arith in
    ap (slice_get (bits_from place (p ∷ ports))) index
    ∙ get_behind front (bits_from (place + 1) ports) (rest + bit)
    ∙ number_at ports (place + 1) k bit port e less
    ∙ ap (λ v. Some (record { port = v; bit = bit })) port_is

-- there are as many bits as the ports are wide
pub bits_from-length : (place : ℕ) (ports : List Port) → length (bits_from place ports) ≡ sum_by port_width ports
bits_from-length place [] = refl
bits_from-length place (p ∷ ports) =
    let more : sum_by port_width (p ∷ ports) ≡ port_width p + sum_by port_width ports = sum_by-cons port_width p ports in
    let front = bits_in-length place 0 (port_width p) in
    let both = length-append (bits_in place 0 (port_width p)) (bits_from (place + 1) ports) in
    omega (arith, more, front, both, bits_from-length (place + 1) ports)

-- A bit by its number: the port stands at a place of the ports, and the bits of those before it come first.
pub record IsNumbered (place : ℕ) (ports : List Port) (number : ℕ) (b : Bit) : Type 0 where
  pub at : ℕ
  pub port : Port
  pub port_is : b.port ≡ place + at
  pub there : slice_get ports at ≡ Some port
  pub within : b.bit < port_width port
  pub number_is : number ≡ sum_by port_width (take at ports) + b.bit

bits_in-is : (port from count k : ℕ) (b : Bit) → slice_get (bits_in port from count) k ≡ Some b → (k < count) × (b ≡ record { port = port; bit = from + k })
bits_in-is port from count k b e =
    let within : k < length (bits_in port from count) = slice_get_within (bits_in port from count) k b e in
    let less : k < count = omega (arith, within, bits_in-length port from count) in
    (less, Some-bit b (record { port = port; bit = from + k }) (sym e ∙ bits_in-at port from count k less))
  where
    Some-bit : (a b : Bit) → Some a ≡ Some b → a ≡ b
    Some-bit a b e = cc e

-- what stands at a number is the bit with that number
pub number_back : (place : ℕ) (ports : List Port) (number : ℕ) (b : Bit) → slice_get (bits_from place ports) number ≡ Some b → IsNumbered place ports number b
number_back place [] number b e = absurd (cc e)
number_back place (p ∷ ports) number b e = go (cases_lt number (port_width p)) (number_back (place + 1) ports)
  where
    Some-bit : (a b : Bit) → Some a ≡ Some b → a ≡ b
    Some-bit a b e = cc e

    go : (number < port_width p) ⊎ (port_width p ≤ number)
        → ((k : ℕ) (v : Bit) → slice_get (bits_from (place + 1) ports) k ≡ Some v → IsNumbered (place + 1) ports k v)
        → IsNumbered place (p ∷ ports) number b
    go (inl less) further =
        let here : slice_get (bits_in place 0 (port_width p) ++ bits_from (place + 1) ports) number ≡ Some (record { port = place; bit = 0 + number }) =
        get_still (bits_in place 0 (port_width p)) (bits_from (place + 1) ports) number (record { port = place; bit = 0 + number }) (bits_in-at place 0 (port_width p) number less) in
        let same : b ≡ record { port = place; bit = 0 + number } = Some-bit b (record { port = place; bit = 0 + number }) (sym e ∙ here) in
        let bit : b.bit ≡ 0 + number = ap (λ (v : Bit). v.bit) same in
        let port : b.port ≡ place = ap (λ (v : Bit). v.port) same in
        record { at = 0; port = p; port_is = omega (arith, port); there = refl; within = omega (arith, bit, less); number_is = omega (arith, bit) }
    go (inr more) further =
        let k : ℕ = number - port_width p in
        let long = bits_in-length place 0 (port_width p) in
        let index : number ≡ length (bits_in place 0 (port_width p)) + k = omega (arith, more, long) in
        let later : slice_get (bits_from (place + 1) ports) k ≡ Some b =
        sym (get_behind (bits_in place 0 (port_width p)) (bits_from (place + 1) ports) k) ∙ ap (slice_get (bits_from place (p ∷ ports))) (sym index) ∙ e in
        let rest = further k b later in
        let sum : sum_by port_width (take (suc rest.at) (p ∷ ports)) ≡ port_width p + sum_by port_width (take rest.at ports) = sum_by-cons port_width p (take rest.at ports) in
        record { at = suc rest.at; port = rest.port; port_is = omega (arith, rest.port_is); there = rest.there; within = rest.within; number_is = omega (arith, sum, rest.number_is, more) }

pub some_and : {A : Type 0} (o : Option A) (P : A → Type 0) → IsSomeAnd o P → (x : A) × (o ≡ Some x) × P x
some_and None P h = absurd h
some_and (Some x) P h = (x, refl, h)

contains-at : (bits : List Bit) (k : ℕ) (b : Bit) → slice_get bits k ≡ Some b → Contains bits b
contains-at bits k b e = (k, slice_get_within bits k b e, get_or_from_slice_get bits k b b e)

-- a bit of a port is one of the bits
pub bit_there : (ports : List Port) (b : Bit) → HasBit ports b.port b.bit → Contains (bits_from 0 ports) b
bit_there ports b has =
    let port = some_and (slice_get ports b.port) (λ p. b.bit < port_width p) has in
    let at = number_at ports 0 b.port b.bit port.0 port.1 port.2 in
    let same : 0 + b.port ≡ b.port = omega arith in
    contains-at (bits_from 0 ports) (sum_by port_width (take b.port ports) + b.bit) b (at ∙ ap (λ v. Some (record { port = v; bit = b.bit })) same)

-- what a net joins is an end of its cell
pub end_of_cell : (d : Design) (c : CellId) (n : ℕ) (e : End) → IsValid d → Joins d c (at_root n) e → (body : CellBody) × (cell_at d c ≡ Some body) × IsEndOf d body e
end_of_cell d c n e valid j =
    let found = body_of (cell_at d c) j in
    (found.0, found.1, All-contains (IsEndOf d found.0) (ends_of found.0) e (valid.cells c found.0 found.1).ends (Member-contains (ends_of found.0) e found.2))
  where
    net_of : (body : CellBody) (o : Option Net) → slice_get (nets_of body) n ≡ o → Contains (option_map_or (λ (net : Net). net.ends) o []) e → Member (ends_of body) e
    net_of body None is j = absurd (omega (arith, j.1))
    net_of body (Some net) is j = ends-member (nets_of body) n net e is (Contains-member net.ends e j)

    body_of : (o : Option CellBody) → Contains (option_map_or (λ (net : Net). net.ends) (slice_get (option_map_or nets_of o []) n) []) e → (body : CellBody) × (o ≡ Some body) × Member (ends_of body) e
    body_of None j = absurd (omega (arith, j.1))
    body_of (Some body) j = (body, refl, net_of body (slice_get (nets_of body) n) refl j)

-- an own bit that a net joins is one of the cell's bits
pub own_there : (d : Design) (c : CellId) (n : ℕ) (b : Bit) → IsValid d → Joins d c (at_root n) (own b) → Contains (own_bits d c) b
own_there d c n b valid j =
    let at = end_of_cell d c n (own b) valid j in
    subst (λ o. Contains (option_map_or (λ (body : CellBody). bits_from 0 body.ports) o []) b) (sym at.1) (bit_there at.0.ports b at.2)

-- and one on an instance is a bit of the instance's cell
pub on_there : (d : Design) (c : CellId) (n step : ℕ) (b : Bit) → IsValid d → Joins d c (at_root n) (on step b) → (child : CellId) × Reaches d c (step ∷ []) child × Contains (own_bits d child) b
on_there d c n step b valid j =
    let at = end_of_cell d c n (on step b) valid j in
    let inst = some_and (slice_get (insts_of at.0) step) (λ inst. IsSomeAnd (cell_at d inst.of) (λ of. HasBit of.ports b.port b.bit)) at.2 in
    let of = some_and (cell_at d inst.0.of) (λ of. HasBit of.ports b.port b.bit) inst.2 in
    let reached : Reaches d c (step ∷ []) inst.0.of = reaches inst.0 (cell_at d c) at.0 at.1 inst.1 in
    (inst.0.of, reached, subst (λ o. Contains (option_map_or (λ (body : CellBody). bits_from 0 body.ports) o []) b) (sym of.1) (bit_there of.0.ports b of.2))
  where
    reaches : (inst : Inst) (o : Option CellBody) (body : CellBody) → o ≡ Some body → slice_get (insts_of body) step ≡ Some inst
        → option_and_then (λ (i : Inst). Some i.of) (slice_get (option_map_or insts_of o []) step) ≡ Some inst.of
    reaches inst o body is at = ap (λ v. option_and_then (λ (i : Inst). Some i.of) (slice_get (option_map_or insts_of v []) step)) is ∙ ap (option_and_then (λ (i : Inst). Some i.of)) at

-- the same of any net of a tree
pub joined_own : (d : Design) (root : CellId) (x : NetAt) (b : Bit) → IsValid d → Joins d root x (own b) → (c : CellId) × Reaches d root x.path c × Contains (own_bits d c) b
joined_own d root x b valid j =
    let at = Joins-reaches d root x (own b) j in
    (at.0, at.1, own_there d at.0 x.net b valid (Joins-inward_here d root at.0 x.path x.net (own b) at.1 j))

pub joined_on : (d : Design) (root : CellId) (x : NetAt) (step : ℕ) (b : Bit) → IsValid d → Joins d root x (on step b)
    → (c : CellId) × Reaches d root (x.path ++ step ∷ []) c × Contains (own_bits d c) b
joined_on d root x step b valid j =
    let at = Joins-reaches d root x (on step b) j in
    let below = on_there d at.0 x.net step b valid (Joins-inward_here d root at.0 x.path x.net (on step b) at.1 j) in
    (below.0, Reaches-append d root at.0 below.0 x.path (step ∷ []) at.1 below.1, below.2)
