use Rattle.std.proofs.Common.{None, get_or, arith}
use Rattle.std.proofs.lemmas.Option.{slice_get-get_or}
use Rattle.netlist_schema.specs.declared.ids.Object.TheVariants.{Directory}
use Rattle.netlist_schema.proofs.Objects.{updates_by_order}
use Rattle.edit_cells.proofs.Marking.{forgotten_all, forgotten_more, forgotten_none}
use Rattle.edit_cells.proofs.marks.forget.Goals as goal

pub loop-place-init : goal.loop-place-init
loop-place-init c = forgotten_none c.args.list.now c.args.places.now c.args.first c.requires

pub loop-place-preserved : goal.loop-place-preserved
loop-place-preserved c =
    let first = Directory (record { 0 = 0 }) in
    let object = get_or c.args.list.now c.loop-place.place first in
    forgotten_more c.args.list.now c.loop-place.places c.remove.new.self c.args.first c.loop-place.place object (slice_get-get_or c.args.list.now c.loop-place.place first c.loop-place-test.true)
    (updates_by_order c.loop-place.places c.remove.new.self object None c.remove.ensures.updates) c.loop-place.invariant

pub returns : goal.returns
returns c = forgotten_all c.args.list.now c.loop-place.places c.args.first c.loop-place.place (omega arith) c.loop-place.invariant
