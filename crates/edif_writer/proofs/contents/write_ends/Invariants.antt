use Rattle.std.proofs.Common.{ℕ, map, take}
use Rattle.netlist_schema.specs.Types.{End}
use Rattle.edif_spec.specs.Canonical.{end_tree}
use Rattle.edif_writer.specs.Joined.{stretch_of}
use Rattle.edif_writer.specs.Lines.{spaced}
use Rattle.netdb_outside.specs.Buffered.{Writes}
use Rattle.edif_writer.proofs.contents.write_ends.Given as goal

abbrev pub invariant-loop-end : goal.invariant-loop-end
invariant-loop-end g l = (level : ℕ) → Writes g.K.Sink.written g.K.Sink.faults l.fn.out l.fn.page l.out l.page
    (spaced level (map (λ (e : End). end_tree (g.S.Shown.design l.around.design.now).libs l.around.own.now l.around.insts.now l.array (stretch_of l.array e)) (take l.end-index l.end-items)))
