use Rattle.netdb_outside.proofs.BufferedLemmas.{writes_then}
use Rattle.netdb_outside.proofs.buffered_sink.BufferedSink.put_through.Goals as goal

pub returns : goal.returns
returns g c = writes_then c.flush.ensures.written c.hand_on.ensures
