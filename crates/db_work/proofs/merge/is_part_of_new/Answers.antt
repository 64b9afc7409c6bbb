use Rattle.std.proofs.Common.{ap, subst, sym}
use Rattle.std.specs.Option.{option_map}
use Rattle.netlist_schema.specs.Types.{CellBody, Object}
use Rattle.db_work.specs.Becomes.{Meets, shell_of}
use Rattle.db_work.proofs.merge.is_part_of_new.Goals as goal

pub returns-in-Interface : goal.returns-in-Interface
returns-in-Interface c = λ new target now met.
    subst (λ (o : Object). Meets now target o) (sym c.in-Interface.is) (ap (option_map shell_of) (met c.in-Interface.id (c.is_new.ensures new)))

pub returns-in-Contents : goal.returns-in-Contents
returns-in-Contents c = λ new target now met.
    subst (λ (o : Object). Meets now target o) (sym c.in-Contents.is) (ap (option_map (λ (b : CellBody). b.contents)) (met c.in-Contents.id (c.is_new-in-Contents.ensures new)))
