use Rattle.db_spec.proofs.Promised as lemma
use Rattle.db_spec.proofs.Total as total
use Rattle.db_spec.proofs.laws.one_answer.Goals as goal

pub returns : goal.returns
returns c = record { at_most_one = lemma.one_answer; at_least_one = total.each_call_is_answered }
