use Rattle.std.proofs.Common.{[], List, ◌∙◌, Option, ap, sym}
use Rattle.std.specs.Option.{option_map, option_map_or}
use Rattle.netlist_schema.specs.Types.{Property}
use Rattle.flat_items.specs.Lent.{properties_of}
use Rattle.netdb_questions.proofs.items.effective_at.Goals as goal

pub returns-in-Some : goal.returns-in-Some
returns-in-Some c =
    ap (λ (o : Option (List Property)). option_map_or (λ (v : List Property). v) o []) (ap (option_map properties_of) (sym c.in-Some.is) ∙ c.in_ok-found.ensures)

pub returns-in-None : goal.returns-in-None
returns-in-None c =
    ap (λ (o : Option (List Property)). option_map_or (λ (v : List Property). v) o []) (ap (option_map properties_of) (sym c.in-None.is) ∙ c.in_ok-found.ensures)
