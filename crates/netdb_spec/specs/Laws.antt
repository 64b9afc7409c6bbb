-- What holds of causes.
use Rattle.std.specs.Prelude.{ℕ, List, Option}
use Rattle.netdb_outside.specs.Outside.{Folder, SameFiles}
use Rattle.netdb_spec.specs.Command.{Request}
use Rattle.netdb_spec.specs.Due.{IsDue}
use Rattle.netdb_spec.specs.Outcome.{Gives}
use Rattle.netdb_spec.specs.declared.status.Status.{Status}

-- Where files are told, the causes of the statuses exclude each other: so a status that has its cause is the one that the files ask for,
-- as they were told before.
abbrev pub GivenIsDue : Type 0
GivenIsDue = (before told : Option Folder) (request : Request) (old new : Option (List ℕ)) (result : Status)
    → SameFiles before told → Gives request told old new result → IsDue before request result
