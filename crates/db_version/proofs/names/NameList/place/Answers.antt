use Rattle.std.proofs.Common.{◌<◌, ℕ, List, length, subst}
use Rattle.std.specs.Prelude.{IfSome}
use Rattle.db_version.proofs.Places.{place_found}
use Rattle.db_version.proofs.names.NameList.place.Goals as goal

pub returns-clause-value : goal.returns-clause-value
returns-clause-value c = place_found c.args.name.now c.args.self.now c.self.inside.names.keys c.get_index_of.result c.self.view_is c.get_index_of.ensures.index

pub returns-clause-within : goal.returns-clause-within
returns-clause-within c = subst (λ (ns : List (List ℕ)). IfSome c.get_index_of.result (λ place. place < length ns)) c.self.view_is c.get_index_of.ensures.within
