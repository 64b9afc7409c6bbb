use Rattle.std.proofs.Common.{◌≤◌, length, map}
use Rattle.std.specs.List.{All}
use Rattle.netlist_schema.specs.Types.{Net}
use Rattle.edif_spec.specs.Canonical.{net_tree, ports_of_end}
use Rattle.edif_spec.specs.Nets.{net_forms}
use Rattle.edif_writer.specs.Lines.{lined}
use Rattle.edif_writer.specs.Placed.{IsAt}
use Rattle.netdb_outside.specs.Buffered.{Buffered, Writes}
use Rattle.edif_writer.proofs.contents.write_net_lines.Given as goal

-- with the forms of the nets that are left all are written
abbrev pub invariant-loop-net : goal.invariant-loop-net
invariant-loop-net g l =
    let d = g.S.Shown.design l.design in
    let insts = l.contents.insts in
    let tree = net_tree d.libs l.own insts in
    let ports = ports_of_end d.libs l.own insts in
    record {
      written : (k : g.row.K.Denot) (page : Buffered) → Writes g.K.Sink.written g.K.Sink.faults l.out l.page k page (lined 5 (map tree (net_forms ports l.left)))
          → Writes g.K.Sink.written g.K.Sink.faults l.fn.out l.fn.page k page (lined 5 (map tree (net_forms ports l.contents.nets)));
      ends : All (λ (net : Net). All (IsAt d l.own insts) net.ends) l.left;
      most : length l.left ≤ length l.contents.nets;
    }

abbrev pub decreases-loop-net : goal.decreases-loop-net
decreases-loop-net g l = length l.left
