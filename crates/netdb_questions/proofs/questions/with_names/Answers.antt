use Rattle.std.proofs.Common.{None}
use Rattle.flat_ask.specs.declared.ask.AskError.TheVariants.{NoTop}
use Rattle.netdb_questions.proofs.AnswerLemmas.{ok_no_err}
use Rattle.netdb_questions.proofs.questions.with_names.Goals as goal

pub returns-clause-made : goal.returns-clause-made
returns-clause-made c = λ k. record { version = record { version = c.version-number.ensures k; design = c.in_ok-ask.ensures.design k }; left = None }

pub returns-clause-no_top : goal.returns-clause-no_top
returns-clause-no_top c = ok_no_err c.in_ok-ask.ask _ NoTop c.in_ok-ask.ensures.no_top
