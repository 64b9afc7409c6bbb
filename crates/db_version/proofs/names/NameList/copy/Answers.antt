use Rattle.std.proofs.Common.{◌++◌, sym, subst, ◌∙◌}
use Rattle.netlist_schema.specs.Names.{AreDistinct}
use Rattle.db_version.proofs.names.NameList.copy.Goals as goal

pub add_names-requires : goal.add_names-requires
add_names-requires c = subst AreDistinct (λ i. sym c.new-made.ensures i ++ sym c.as_slice-names.ensures.value i) c.as_slice-names.ensures.distinct

pub returns : goal.returns
returns c = c.in_ok-add_names.ensures ∙ λ i. c.new-made.ensures i ++ c.as_slice-names.ensures.value i
