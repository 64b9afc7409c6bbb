use Rattle.std.proofs.Common.{◌≡◌, drop, length}
use Rattle.std.specs.Cmp.Lexicographic.{pointwise}
use Rattle.bus_members.specs.Widths.{ports_among}
use Rattle.netlist_bus_spec.specs.Runs.{is_bit}
use Rattle.bus_members.proofs.runs.are_bits.Given as goal

-- all ends pass where those pass that are left
abbrev pub invariant-loop-first : goal.invariant-loop-first
invariant-loop-first g l =
    pointwise (is_bit (ports_among (g.S.Shown.design l.inside.design.now) l.inside.own.now l.inside.insts.now) l.width l.k) l.firsts l.ends
    ≡ pointwise (is_bit (ports_among (g.S.Shown.design l.inside.design.now) l.inside.own.now l.inside.insts.now) l.width l.k) (drop (length l.yielded) l.firsts) (drop (length l.yielded) l.ends)
