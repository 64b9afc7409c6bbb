use Rattle.std.proofs.Common.{Err, Ok, Option, subst, sym}
use Rattle.std.specs.Option.{option_map}
use Rattle.flat_items.specs.Lent.{net_of}
use Rattle.flat_items.specs.declared.lent.NetRef.{NetRef}
use Rattle.netdb_questions.specs.Answers.{IsAnsweredBy}
use Rattle.netdb_questions.specs.declared.finding.Refusal.TheVariants as no
use Rattle.netdb_questions.proofs.answers.answer_first.Goals as goal

pub returns-in_default : goal.returns-in_default
returns-in_default c = subst (λ (o : Option NetRef). IsAnsweredBy (option_map net_of o) (Err no.NoNet)) (sym c.in_default.is) tt

pub returns-in-Ok : goal.returns-in-Ok
returns-in-Ok c = subst (λ (o : Option NetRef). IsAnsweredBy (option_map net_of o) (Ok c.in-Ok.item)) (sym c.in-Some.is) c.in-Ok.ensures
