use Rattle.std.proofs.Common.{arith, sym}
use Rattle.std.proofs.lemmas.List.{set_past}
use Rattle.net_rows.proofs.rows.set_in.Goals as goal

pub returns-then-slot-len : goal.returns-then-slot-len
returns-then-slot-len c = sym (set_past c.args.row.now.items c.args.slot c.args.made (omega (arith, c.if-slot-len.true, c.len.ensures)))
