use Rattle.std.proofs.Common.{◌≡◌, ◌++◌, take}
use Rattle.db_version.proofs.names.NameList.add_names.Given as goal

abbrev pub invariant-loop-name : goal.invariant-loop-name
invariant-loop-name l = l.self ≡ l.initial.self ++ take l.name-index l.names
