-- A number more than that of an instance on a path, or of a bit, fits.
use Rattle.std.proofs.Common.{◌≡◌, ◌<◌, ◌≤◌, ◌+◌, ℕ, List, [], ◌∷◌, ◌++◌, length, take, Bool, true, false, cond, refl, arith, Some, None, Option}
use Rattle.std.specs.Prelude.{is_none}
use Rattle.std.specs.List.{Contains, sum_by}
use Rattle.std.specs.Option.{option_map_or}
use Rattle.std.proofs.lemmas.Option.{slice_get_within}
use Rattle.netlist_schema.specs.Design.{Design, bit_count, cell_at, insts_of, port_width}
use Rattle.netlist_schema.specs.Hierarchy.{insts_at}
use Rattle.netlist_schema.specs.Types.{CellBody, CellId}
use Rattle.netlist_schema.specs.Valid.{IsValid}
use Rattle.flat_spec.specs.Paths.{Bit, Reaches}
use Rattle.flat_spec.specs.Pins.{bits_of, own_bits, shown_bits}
use Rattle.flat_spec.proofs.BitLemmas.{bits_from, bits_from-length, number_at}
use Rattle.flat_spec.proofs.ListLemmas.{Contains-member}
use Rattle.flat_spec.proofs.PathLemmas.{Reaches-front, Reaches-parts}
use Rattle.erc_spec.specs.Told.{pin_bits}
use Rattle.net_ways.proofs.JoinedLemmas.{there_bit}

insts_few : (d : Design) → IsValid d → (c : CellId) → length (insts_at d c) ≤ 1048576
insts_few d valid c = go (cell_at d c) refl
  where
    go : (o : Option CellBody) → cell_at d c ≡ o → length (option_map_or insts_of o []) ≤ 1048576
    go None is = omega arith
    go (Some body) is = (valid.cells c body is).limits.insts

-- the last step of a path that leads somewhere
pub step_small : (d : Design) → IsValid d → (root c : CellId) (path : List ℕ) (i : ℕ) → Reaches d root (path ++ i ∷ []) c → i < 1048576
step_small d valid root c path i at =
    let front = Reaches-front d root c path (i ∷ []) at in
    let inst = Reaches-parts d front.0 i [] c front.2 in
    let within = slice_get_within (insts_at d front.0) i inst.0 inst.1 in
    let few = insts_few d valid front.0 in
    omega (arith, within, few)

own_small : (d : Design) → IsValid d → (c : CellId) (port bit : ℕ) → Contains (own_bits d c) (record { port = port; bit = bit }) → bit < 1048576
own_small d valid c port bit has = go (cell_at d c) refl has
  where
    b : Bit
    b = record { port = port; bit = bit }

    go : (o : Option CellBody) → cell_at d c ≡ o → Contains (option_map_or bits_of o []) b → bit < 1048576
    go None is none = absurd (Contains-member [] b none)
    go (Some body) is inside =
        let there = there_bit d c body is port bit has in
        let found = number_at body.ports 0 port bit there.0 there.1 there.2 in
        let within = slice_get_within (bits_from 0 body.ports) (sum_by port_width (take port body.ports) + bit) _ found in
        let long = bits_from-length 0 body.ports in
        let most : bit_count body ≤ 1048576 = (valid.cells c body is).limits.bits in
        omega (arith, within, long, most)

-- a bit whose pin is shown
pub bit_small : (d : Design) → IsValid d → (path : List ℕ) (c : CellId) (port bit : ℕ) → Contains (pin_bits d path c) (record { port = port; bit = bit }) → bit < 1048576
bit_small d valid path c port bit has = own_small d valid c port bit (go path (cell_at d c) has)
  where
    b : Bit
    b = record { port = port; bit = bit }

    pick : (body : CellBody) (v : Bool) → Contains (cond v (bits_of body) []) b → Contains (bits_of body) b
    pick body true has = has
    pick body false has = absurd (Contains-member [] b has)

    under : (p : List ℕ) (body : CellBody) → Contains (shown_bits p body) b → Contains (bits_of body) b
    under [] body has = has
    under (i ∷ p) body has = pick body (is_none body.contents) has

    go : (p : List ℕ) (o : Option CellBody) → Contains (option_map_or (shown_bits p) o []) b → Contains (option_map_or bits_of o []) b
    go p None has = has
    go p (Some body) has = under p body has
