use Rattle.std.proofs.Common.{map, take}
use Rattle.edif_spec.specs.Canonical.{note_tree}
use Rattle.edif_writer.specs.Lines.{lined}
use Rattle.netdb_outside.specs.Buffered.{Writes}
use Rattle.edif_writer.proofs.top.write_note_lines.Given as goal

abbrev pub invariant-loop-note : goal.invariant-loop-note
invariant-loop-note g l = Writes g.K.Sink.written g.K.Sink.faults l.fn.out l.fn.page l.out l.page (lined 2 (map note_tree (take l.note-index l.note-items)))
