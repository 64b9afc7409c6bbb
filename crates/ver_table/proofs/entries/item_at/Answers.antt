use Rattle.std.proofs.Common.{◌<◌, ℕ, length, Some, ap, ◌∙◌, arith}
use Rattle.std.proofs.lemmas.List.{length-map, get_or-map}
use Rattle.ver_table.specs.Entries.{pair_of, pairs_of}
use Rattle.ver_table.proofs.Places.{find_at, find_between}
use Rattle.ver_table.proofs.entries.item_at.Goals as goal

pub returns-in-Ok : goal.returns-in-Ok
returns-in-Ok g c =
    let entries = c.args.entries.now in
    let d = c.index-entries-at.result in
    let within : c.in-Ok.at < length entries = omega (arith, length-map entries pair_of, c.in-Ok.ensures.in_range) in
    let found = find_at c.args.slot (pairs_of entries) c.in-Ok.at (pair_of d) c.in-Ok.ensures ∙ ap (λ (p : ℕ × g.row.T.Denot). Some p.1) (get_or-map pair_of entries c.in-Ok.at d (pair_of d) within) in
    cc (found)

pub returns-in-Err : goal.returns-in-Err
returns-in-Err g c =
    let none = find_between c.args.slot (pairs_of c.args.entries.now) c.in-Err.field-0 c.requires c.in-Err.ensures in
    cc (none)
