use Rattle.std.proofs.Common.{◌∙◌, ap}
use Rattle.db_version.specs.Shot.{Shot}
use Rattle.netdb_questions.proofs.AnswerLemmas.{if_ok_more}
use Rattle.netdb_questions.proofs.questions.names_of.Goals as goal

pub returns : goal.returns
returns c = if_ok_more c.of.result (λ names is. is ∙ ap (λ (s : Shot). s.design) c.in_ok-shared.ensures) c.of.ensures
