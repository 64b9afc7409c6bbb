-- In a valid design what a cell refers to is there.
use Rattle.std.proofs.Common.{◌≡◌, ℕ, ◌+◌, ◌<◌, List, [], ◌∷◌, ◌++◌, take, get_or, length, ap, sym, ◌∙◌, subst, Option, Some, None, slice_get}
use Rattle.std.specs.Prelude.{IsSome, is_some, IsSomeAnd, IfSome, option_map, unwrap_or}
use Rattle.std.specs.List.{All, AllByRecursion, cons_option, flat_map}
use Rattle.std.proofs.lemmas.List.Elements.{filter_map-append, All-from_recursion, recursion_from_All}
use Rattle.std.proofs.lemmas.Grind.{take_at_read}
use Rattle.netlist_schema.specs.Design.{Design, insts_in, nets_in, insts_of, ends_of, cell_at}
use Rattle.netlist_schema.specs.Hierarchy.{IsCell}
use Rattle.netlist_schema.specs.Types.{CellBody, CellId, Contents, End, Inst, Net, Port}
use Rattle.netlist_schema.specs.Valid.{HasBit, IsEndAt, IsEndOf, IsValidCell}
use Rattle.netlist_schema.proofs.Lists.{all_weaker}
use Rattle.edif_spec.specs.Arranged.{new_cell, new_cells, order_of}
use Rattle.edif_spec.specs.Canonical.{ports_of_end}
use Rattle.edif_spec.specs.Design as design
use Rattle.edif_spec.proofs.Arrange.{there_from}
use Rattle.edif_spec.proofs.CellPlaces.{some_and, all_append_parts, cell_found}
use Rattle.netlist_order_spec.proofs.Ready.{order_ready}
use Rattle.netlist_order_spec.proofs.WholeOrder.{id_at}
use Rattle.edif_writer.specs.Placed.{HasInstAt, IsAt, IsPlaced}

some_bit : (ports : List Port) (port bit : ℕ) → HasBit ports port bit → IsSome (slice_get ports port)
some_bit ports port bit h = let p = some_and (slice_get ports port) _ h in ap is_some p.1

port_there : (d : Design) (body : CellBody) (o : Option ℕ) (port bit : ℕ) → IsEndAt d body o port bit → IsSome (slice_get (ports_of_end d.libs body.ports (insts_of body) o) port)
port_there d body None port bit h = some_bit body.ports port bit h
port_there d body (Some place) port bit h =
    let x = some_and (slice_get (insts_of body) place) (λ (i : Inst). IsSomeAnd (cell_at d i.of) (λ (of : CellBody). HasBit of.ports port bit)) h in
    let of = some_and (cell_at d x.0.of) (λ (of : CellBody). HasBit of.ports port bit) x.2 in
    let ports : ports_of_end d.libs body.ports (insts_of body) (Some place) ≡ of.0.ports =
    ap (λ o. unwrap_or (option_map (λ (i : Inst). design.ports_at d.libs i.of) o) []) x.1 ∙ ap (λ o. unwrap_or (option_map (λ (c : CellBody). c.ports) o) []) of.1 in
    subst (λ ps. IsSome (slice_get ps port)) (sym ports) (some_bit of.0.ports port bit of.2)

inst_there : (d : Design) (body : CellBody) (o : Option ℕ) (port bit : ℕ) → IsEndAt d body o port bit → HasInstAt (insts_of body) o
inst_there d body None port bit h = tt
inst_there d body (Some place) port bit h =
    let x = some_and (slice_get (insts_of body) place) (λ (i : Inst). IsSomeAnd (cell_at d i.of) (λ (of : CellBody). HasBit of.ports port bit)) h in ap is_some x.1

end_there : (d : Design) (body : CellBody) (e : End) → IsEndOf d body e → IsAt d body.ports (insts_of body) e
end_there d body e h = record { port = port_there d body e.inst e.port e.bit h; inst = inst_there d body e.inst e.port e.bit h }

net_by_net : (P : End → Type 0) (ns : List Net) → AllByRecursion P (flat_map (λ (n : Net). n.ends) ns) → AllByRecursion (λ (n : Net). All P n.ends) ns
net_by_net P [] h = tt
net_by_net P (n ∷ ns) h = let t = all_append_parts P n.ends (flat_map (λ (n : Net). n.ends) ns) h in (All-from_recursion P n.ends t.0, net_by_net P ns t.1)

placed_in : (d : Design) (own : List Port) (o : Option Contents) → All (λ (i : Inst). IsCell d i.of) (insts_in o) → AllByRecursion (λ (n : Net). All (IsAt d own (insts_in o)) n.ends) (nets_in o) → IfSome o (IsPlaced d own)
placed_in d own None h k = tt
placed_in d own (Some c) h k = record { insts = h; ends = All-from_recursion (λ (n : Net). All (IsAt d own c.insts) n.ends) c.nets k }

-- the contents of a valid cell
pub valid_placed : (d : Design) (id : CellId) (body : CellBody) → IsValidCell d id body → IfSome body.contents (IsPlaced d body.ports)
valid_placed d id body v =
    let ends = all_weaker (IsEndOf d body) (IsAt d body.ports (insts_of body)) (ends_of body) (end_there d body) (recursion_from_All (IsEndOf d body) (ends_of body) v.ends) in
    placed_in d body.ports body.contents v.placed (net_by_net (IsAt d body.ports (insts_of body)) (nets_in body.contents) ends)

insts_there : (d : Design) (o : Option Contents) → AllByRecursion (λ (i : Inst). IsCell d i.of) (insts_in o) → IfSome o (λ (c : Contents). AllByRecursion (λ (i : Inst). IsSome (design.cell_at d.libs i.of)) c.insts)
insts_there d None h = tt
insts_there d (Some c) h = h

pub valid_there : (d : Design) (id : CellId) (body : CellBody) → IsValidCell d id body → IfSome body.contents (λ (c : Contents). AllByRecursion (λ (i : Inst). IsSome (design.cell_at d.libs i.of)) c.insts)
valid_there d id body v = insts_there d body.contents (recursion_from_All (λ (i : Inst). IsCell d i.of) (insts_of body) v.placed)

-- each cell of the order is there
pub order_there : (d : Design) (own : ℕ) (l : design.Lib) (order : List ℕ) → slice_get d.libs own ≡ Some l → order ≡ order_of own l.cells → All (λ slot. IsCell d (id_at own slot)) order
order_there d own l order e q =
    let h = there_from own l.cells [] (order_of own l.cells) (order_ready own l.cells (length l.cells) []) in
    let P : ℕ → Type 0 = λ slot. IsCell d (id_at own slot) in
    subst (All P) (sym q) (All-from_recursion P (order_of own l.cells)
    (all_weaker (λ k. (c : CellBody) × (slice_get l.cells k ≡ Some c)) P (order_of own l.cells) (λ k c. ap is_some (cell_found d.libs own k l c.0 e c.1)) h))

last_cell : (orders : List (List ℕ)) (cells : List CellBody) (w : List ℕ) (k : ℕ) (c : CellBody) → slice_get cells k ≡ Some c → new_cells orders cells (w ++ k ∷ []) ≡ new_cells orders cells w ++ new_cell orders c ∷ []
last_cell orders cells w k c e =
    filter_map-append (λ slot. option_map (new_cell orders) (slice_get cells slot)) w (k ∷ [])
    ∙ ap (λ o. new_cells orders cells w ++ cons_option (option_map (new_cell orders) o) []) e

-- of the cells in an order, one more
pub cells_more : (orders : List (List ℕ)) (cells : List CellBody) (order : List ℕ) (i : ℕ) (c : CellBody) → i < length order → slice_get cells (get_or order i 0) ≡ Some c
    → new_cells orders cells (take (i + 1) order) ≡ new_cells orders cells (take i order) ++ new_cell orders c ∷ []
cells_more orders cells order i c l e =
    ap (new_cells orders cells) (take_at_read order i 0 l).1 ∙ last_cell orders cells (take i order) (get_or order i 0) c e
