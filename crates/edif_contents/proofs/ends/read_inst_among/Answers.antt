use Rattle.edif_spec.specs.declared.keyword.Keyword.TheVariants.{InstanceRef}
use Rattle.edif_tree.specs.Handles.{here, all}
use Rattle.edif_contents.proofs.EndLemmas.{inst_one}
use Rattle.edif_contents.proofs.Followers.{first_has}
use Rattle.edif_contents.proofs.ends.read_inst_among.Goals as goal

pub read_inst_ref-requires : goal.read_inst_ref-requires
read_inst_ref-requires c = first_has InstanceRef (all c.args.inner) _ (here c.in-Some.node) c.in-Some.ensures.some c.requires.0

pub returns-in_ok-inst-in-Some : goal.returns-in_ok-inst-in-Some
returns-in_ok-inst-in-Some c = λ insts e. inst_one insts (all c.args.inner) _ (here c.in-Some.node) c.in_ok-inst-in-Some.inst c.in-Some.ensures.some c.requires.1 (c.in_ok-inst-in-Some.ensures insts e)
