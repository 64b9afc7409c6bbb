use Rattle.std.proofs.Common.{subst}
use Rattle.netdb_calls.specs.Texts.{Writes}
use Rattle.call_status.specs.declared.status.Status.{Status}
use Rattle.netdb_calls.proofs.Others.{no_view_written}
use Rattle.netdb_calls.proofs.Writing.{never_wrong}
use Rattle.netdb_calls.proofs.texts.write_text.Goals as goal

pub returns-in_default-clause-wrote : goal.returns-in_default-clause-wrote
returns-in_default-clause-wrote g c = no_view_written c.args.opened.now.inside c.args.kind (g.K.Sink.written c.args.out.now) c.in_default.not-View

pub returns-clause-wrong_use : goal.returns-clause-wrong_use
returns-clause-wrong_use g c =
    let old = g.K.Sink.written c.args.out.now in
    let new = g.K.Sink.written c.write_of.new.out in
    λ is. never_wrong c.in-View.view c.args.kind old new _ (subst (λ (s : Status). Writes c.in-View.view c.args.kind old new s) is c.write_of.ensures.wrote)
