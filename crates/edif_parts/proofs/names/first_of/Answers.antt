use Rattle.std.proofs.Common.{◌∙◌}
use Rattle.edif_parts.proofs.FewLemmas.{first_defined}
use Rattle.edif_parts.proofs.names.first_of.Goals as goal

pub returns : goal.returns
returns c = c.in_ok-new.ensures.ok ∙ first_defined c.new-table.result c.define.new.self c.args.name.now c.args.place c.in_ok-define.field-0 c.new-table.ensures c.in_ok-define.ensures.ok
