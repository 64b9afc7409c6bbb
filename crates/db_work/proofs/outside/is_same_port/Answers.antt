use Rattle.std.proofs.Common.{rules}
use Rattle.db_work.proofs.Outsides.{same_port}
use Rattle.db_work.proofs.outside.is_same_port.Goals as goal

pub returns : goal.returns
returns c = λ told.
    same_port c.args.a.now c.args.b.now (c.is_same_name.ensures (search rules)) (c.is_same_width.ensures (search rules)) (c.is_same_direction.ensures (search rules)) (c.is_same_text.ensures (search rules)) (c.are_same_properties.ensures told)
