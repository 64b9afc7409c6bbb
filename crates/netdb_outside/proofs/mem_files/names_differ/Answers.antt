use Rattle.std.proofs.Common.{◌∙◌, sym}
use Rattle.netdb_outside.proofs.Distinct.{distinct_more, distinct_has_none}
use Rattle.netdb_outside.proofs.mem_files.names_differ.Goals as goal

pub returns-then-has_name : goal.returns-then-has_name
returns-then-has_name c =
    let held = c.has_name.ensures.0 c.if-has_name.true in
    (λ truth. absurd cc, λ distinct. absurd (distinct_has_none (λ file. file.name) c.args.files.now c.loop-i.i c.index-files-i.result c.loop-i-test.true c.index-files-i.is (held.0, held.1, held.2, held.3, held.4 ∙ c.as_slice.ensures.value) distinct))

pub loop-i-preserved : goal.loop-i-preserved
loop-i-preserved c =
    distinct_more (λ file. file.name) c.args.files.now c.loop-i.i c.index-files-i.result c.loop-i-test.true c.index-files-i.is c.loop-i.invariant
    (λ held. let truth = c.has_name.ensures.1 (held.0, held.1, held.2, held.3, held.4 ∙ sym c.as_slice.ensures.value) in absurd cc)
