use Rattle.std.proofs.Common.{◌∙◌, ℕ, List, ap, sym}
use Rattle.edit_rules_spec.specs.Find.{net_place}
use Rattle.ask_spec.specs.Places.{nets_of}
use Rattle.netdb_questions.proofs.AnswerLemmas.{no_such_net}
use Rattle.netdb_questions.proofs.finding.net_named.Goals as goal

pub returns-in-Some : goal.returns-in-Some
returns-in-Some c =
    (c.in-Ok.ensures, sym (c.in-Some.ensures ∙ ap (λ (p : List ℕ). net_place c.args.name.now (nets_of c.args.names.now p)) c.as_slice.ensures.value))

pub returns-in-None : goal.returns-in-None
returns-in-None c =
    (c.in-Ok.path, c.in-Ok.ensures, sym (c.in-None.ensures ∙ ap (λ (p : List ℕ). net_place c.args.name.now (nets_of c.args.names.now p)) c.as_slice.ensures.value))

pub returns-in-Err : goal.returns-in-Err
returns-in-Err c = no_such_net c.args.names.now c.args.text.now c.args.name.now c.in-Err.refusal c.in-Err.ensures
