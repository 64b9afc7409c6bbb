use Rattle.std.proofs.Common.{◌<◌, arith}
use Rattle.netlist_schema.specs.declared.limits.TheConstants.{MOST_CELLS}
use Rattle.uniquify_copies.proofs.Naming.{next_is}
use Rattle.uniquify_copies.proofs.SomeReads.{some_then}
use Rattle.uniquify_copies.proofs.namer.Namer.next_copy.Goals as goal

pub returns-clause-next : goal.returns-clause-next
returns-clause-next g c = λ made known.
    let s = g.C.Cells.state c.args.cells.now in
    let named = some_then s (g.C.Cells.state c.next_slot.new.cells) (g.C.Cells.state c.name_of.new.cells) c.in_ok-slot.ensures.some c.in_ok-name.ensures.some in
    let room : c.in_ok-slot.slot < MOST_CELLS = omega (arith, c.if-slot-ge-MOST_CELLS.false) in
    next_is s.design (g.C.Cells.state c.next_slot.new.cells).design (g.C.Cells.state c.name_of.new.cells).design made c.args.self.now c.keep.new.self c.args.of c.in_ok-stem.stem
    c.in_ok-slot.slot c.in_ok-found.found.number c.next_number-from.result c.in_ok-name.name c.in_ok-found.found.id c.in_ok-shown.shown known
    c.in_ok-slot.ensures.value room c.in_ok-slot.ensures.some.design c.in_ok-name.ensures.value c.in_ok-stem.ensures c.next_number-from.ensures named.design
    c.in_ok-found.ensures.value.0 c.in_ok-found.ensures.value.1 c.in_ok-found.ensures.room c.in_ok-shown.ensures c.in_ok-keep.ensures.slots c.in_ok-keep.ensures.numbers
