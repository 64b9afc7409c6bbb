use Rattle.std.proofs.Common.{◌≡◌, ◌/◌, sym, ap, ◌∙◌, arith}
use Rattle.std.proofs.lemmas.List.{length-map, take-map, drop-map}
use Rattle.ver_table.specs.Entries.{pair_of, pairs_of}
use Rattle.ver_table.proofs.Revisions.{first_run_of}
use Rattle.ver_table.proofs.Steps.{first_left}
use Rattle.ver_table.proofs.runs.first_run.Goals as goal

pub returns-clause-some : goal.returns-clause-some
returns-clause-some g c =
    let changes = c.args.changes.now in
    let count = c.run_length.result in
    let first = first_left changes c.in_ok-first.first.now c.in_ok-first.ensures.value in
    let front : pairs_of c.split_at.result.0.now ≡ _ = ap pairs_of c.split_at.ensures.front ∙ sym (take-map pair_of count changes) in
    let back : pairs_of c.split_at.result.1.now ≡ _ = ap pairs_of c.split_at.ensures.back ∙ sym (drop-map pair_of count changes) in
    let number = ap (λ n. n / c.args.size) first.1 ∙ sym c.page_of-number.ensures in
    rw (front, back) (first_run_of c.args.size c.requires.some (pairs_of changes) c.page_of-number.result count c.requires.rising (omega (arith, length-map changes pair_of, first.0)) number c.page_of-number.type_inv c.run_length.ensures)
