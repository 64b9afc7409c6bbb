use Rattle.std.proofs.Common.{subst, Option}
use Rattle.netdb_calls.specs.Answers.{Asks}
use Rattle.netdb_calls.specs.declared.opened.Opened.{Opened}
use Rattle.netdb_c.specs.Exports.{HasAsked}
use Rattle.netdb_c.proofs.exports.on.Goals as goal

pub returns : goal.returns
returns c =
    subst (λ (h : Option Opened). HasAsked c.args.call h c.put.new.of.held c.ask-told.result) c.in-Some.ensures.was
    (c.ask-told.new.opened, c.put.ensures, subst (λ (x : Opened). Asks c.args.call x c.ask-told.new.opened c.ask-told.result) c.deref_mut.ensures.value c.ask-told.ensures)
