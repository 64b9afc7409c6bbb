use Rattle.std.proofs.Common.{length}
use Rattle.netdb_outside.proofs.LeadsLemmas.{one_read}
use Rattle.netdb_outside.proofs.mem_files.MemFilesFiles.read.Goals as goal

pub returns-clause-visited : goal.returns-clause-visited
returns-clause-visited c = one_read c.args.self.now c.read_next.new.self (length c.args.buf.now) c.read_next.result c.read_next.ensures.answer c.read_next.ensures.after
