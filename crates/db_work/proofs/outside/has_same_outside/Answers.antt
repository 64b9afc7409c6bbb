use Rattle.std.proofs.Common.{rules, sym, ◌∙◌}
use Rattle.db_work.proofs.Outsides.{same_outside}
use Rattle.db_work.proofs.outside.has_same_outside.Goals as goal

pub returns : goal.returns
returns c = λ told. same_outside c.args.a.now c.args.b.now (c.has_same_head.ensures (search rules)) (c.has_same_properties.ensures (search rules)) (sym c.as_slice.ensures ∙ (c.are_same_ports.ensures told ∙ c.as_slice-2.ensures))
