use Rattle.netdb_c.proofs.Asking.{measured}
use Rattle.netdb_c.proofs.exports.netdb_c_text_length.Goals as goal

pub returns-clause-same : goal.returns-clause-same
returns-clause-same c = (measured c.args.of.now.held c.on.new.of.held c.on.result c.on.ensures).0

pub returns-clause-bytes : goal.returns-clause-bytes
returns-clause-bytes c = (measured c.args.of.now.held c.on.new.of.held c.on.result c.on.ensures).1
