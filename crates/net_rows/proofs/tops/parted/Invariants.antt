use Rattle.std.proofs.Common.{length, map, take}
use Rattle.net_rows.specs.Lists.{AreParted}
use Rattle.net_rows.specs.Tops.{bit_is_in}
use Rattle.net_ways.specs.Ways.{firsts_in}
use Rattle.net_rows.proofs.tops.parted.Given as goal

abbrev pub invariant-loop-own : goal.invariant-loop-own
invariant-loop-own l = AreParted (bit_is_in l.fn.role l.classes l.fn.top l.body) (length (firsts_in l.classes l.fn.top)) (take l.own-index l.bits) (map (λ list. list.items) l.lists.items)
