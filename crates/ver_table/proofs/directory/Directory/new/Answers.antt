use Rattle.ver_table.proofs.Maps.{map_of_nothing}
use Rattle.ver_table.proofs.directory.Directory.new.Goals as goal

pub returns : goal.returns
returns g c = rw c.new.ensures.items map_of_nothing
