use Rattle.std.proofs.Common.{sym, subst, ◌∙◌}
use Rattle.netlist_schema.specs.Valid.{IsValid}
use Rattle.netdb_questions.proofs.LeadLemmas.{leads}
use Rattle.netdb_questions.proofs.finding.path_named.Goals as goal

pub returns-in-Ok-Some : goal.returns-in-Ok-Some
returns-in-Ok-Some c =
    leads c.args.names.now c.args.text.now c.in-Ok-Some.path (subst IsValid c.design.ensures c.design_is_valid.ensures) c.paths_are_told.ensures.told
    (sym c.in-Ok-Some.ensures ∙ c.in-Ok-Some.field-0-is)
