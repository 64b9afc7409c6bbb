use Rattle.std.proofs.Common.{ℕ, List, ◌∙◌, rules, tests}
use Rattle.std.specs.Borrow.{Bor}
use Rattle.std.specs.Cmp.Lexicographic.{pointwise}
use Rattle.std.specs.Prelude.{nat_eq}
use Rattle.std.proofs.lemmas.Iterator.{YieldsList-from_slice, YieldsList-from_zip}
use Rattle.std.proofs.lemmas.Iterator.Search.{all_from_yields_List}
use Rattle.netlist_schema.specs.Types.{Inst}
use Rattle.annot_view.proofs.NameLemmas.{list_all-zip}
use Rattle.annot_view.proofs.properties.are_names_of.Goals as goal

pub returns-then-names-insts : goal.returns-then-names-insts
returns-then-names-insts c =
    let names = c.args.names.now in
    let insts = c.args.insts.now in
    all_from_yields_List (λ (p : List ℕ × Bor Inst). pointwise nat_eq p.0 p.1.now.name.id) c.all.new.self _ c.all.result c.all.ensures.ran
    (YieldsList-from_zip (YieldsList-from_slice names cc) (YieldsList-from_slice insts cc)) (λ x b q k. search (rules, tests))
    ∙ list_all-zip (pointwise nat_eq) (λ (inst : Bor Inst). inst.now.name.id) names insts (search rules)
