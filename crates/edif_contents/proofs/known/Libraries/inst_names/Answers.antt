use Rattle.std.proofs.Common.{◌≡◌, List, ap, sym, ◌∙◌, subst}
use Rattle.std.specs.Prelude.{IfOk}
use Rattle.netlist_schema.specs.Names.{AreDistinct}
use Rattle.edif_spec.specs.Design as design
use Rattle.edif_parts.specs.Names.{ids}
use Rattle.edif_contents.proofs.KnownLemmas.{insts_differ, no_insts}
use Rattle.edif_contents.proofs.known.Libraries.inst_names.Goals as goal

pub names_of_insts-requires : goal.names_of_insts-requires
names_of_insts-requires c =
    let P : List design.Inst → Type 0 = λ v. AreDistinct (design.inst_ids v) in
    subst P (sym c.insts.ensures) (insts_differ c.args.self.now.libs c.args.id _ c.in-Some.ensures.some)

pub returns-in-Some : goal.returns-in-Some
returns-in-Some c =
    let P : List design.Inst → Type 0 = λ v. IfOk c.names_of_insts.result (λ names. ids names ≡ design.inst_ids v) in
    subst P c.insts.ensures c.names_of_insts.ensures

pub returns-in-None : goal.returns-in-None
returns-in-None c = ap ids c.new.ensures ∙ sym (no_insts c.args.self.now.libs c.args.id c.in-None.ensures.none)
