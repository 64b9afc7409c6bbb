use Rattle.std.proofs.Common.{◌≡◌, ℕ, drop, map, take}
use Rattle.edif_spec.specs.Canonical.{inst_tree}
use Rattle.edif_writer.specs.Lines.{lined}
use Rattle.netdb_outside.specs.Buffered.{Writes}
use Rattle.edif_writer.proofs.contents.write_inst_lines.Given as goal

-- so many instances are written, and the others are left
abbrev pub invariant-loop-inst : goal.invariant-loop-inst
invariant-loop-inst g l = record {
  can_next : (goal.iterator-loop-inst g).can_next l.inst-iterator;
  is_finite : (goal.iterator-loop-inst g).is_finite l.inst-iterator;
  written : (n : ℕ) × (drop n l.insts ≡ l.inst-iterator) × Writes g.K.Sink.written g.K.Sink.faults l.fn.out l.fn.page l.out l.page
      (lined 5 (map (inst_tree (g.S.Shown.design l.design).libs) (take n l.insts)));
}
