use Rattle.std.proofs.Common.{refl, rules}
use Rattle.db_version.proofs.Places.{got_item}
use Rattle.db_version.proofs.Setting.{more_known}
use Rattle.db_version.proofs.names.NameList.add_names.Goals as goal

pub loop-name-preserved : goal.loop-name-preserved
loop-name-preserved c =
    more_known c.args.self.now c.args.names.now c.loop-name.name-index c.name-item.result c.name-item.result c.loop-name.self c.add.new.self c.requires (got_item c.args.names.now c.loop-name.name-index c.name-item.result (search rules) c.name-item.is) refl
    c.loop-name.invariant c.in_ok-add.ensures.ok
