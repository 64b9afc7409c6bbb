use Rattle.netdb_outside.proofs.LeadsLemmas.{one_asked}
use Rattle.netdb_outside.proofs.mem_files.MemFilesFiles.open_file.Goals as goal

pub returns-clause-visited : goal.returns-clause-visited
returns-clause-visited c = one_asked c.args.self.now c.open_named.new.self c.args.name.now c.open_named.result c.open_named.ensures.answer c.open_named.ensures.after
