use Rattle.std.proofs.Common.{length, map, take}
use Rattle.net_rows.specs.Lists.{AreParted}
use Rattle.net_rows.specs.Rows.{is_in_row}
use Rattle.net_ways.specs.Ways.{firsts_in}
use Rattle.net_rows.proofs.rows.rows_of.Given as goal

abbrev pub invariant-loop-joint : goal.invariant-loop-joint
invariant-loop-joint g l = AreParted (is_in_row l.fn.role (g.S.Shown.design l.design) l.classes l.rows l.fn.cell) (length (firsts_in l.classes l.fn.cell)) (take l.joint-index l.joints) (map (λ list. list.items) l.lists.items)
