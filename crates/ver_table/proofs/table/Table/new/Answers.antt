use Rattle.std.proofs.Common.{◌≡◌, [], refl, ap, ◌∙◌}
use Rattle.ver_table.specs.Pages.{pages_of, map_of}
use Rattle.ver_table.proofs.Maps.{map_of_nothing}
use Rattle.ver_table.proofs.Values.{no_pages}
use Rattle.ver_table.proofs.table.Table.new.Goals as goal

pub invariant_of-result : goal.invariant_of-result
invariant_of-result g c =
    let none : pages_of c.new.result ≡ [] = ap pages_of c.new.ensures ∙ no_pages in
    record { some = c.requires.some; few = c.requires.few; sheets = rw none (record { rising = refl; each = tt }); typed = rw none tt }

pub returns : goal.returns
returns g c = ap map_of (ap pages_of c.new.ensures ∙ no_pages) ∙ map_of_nothing
