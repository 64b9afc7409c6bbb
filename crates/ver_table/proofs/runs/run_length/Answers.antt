use Rattle.std.proofs.Common.{◌≡◌, ◌/◌, sym, ap, ◌∙◌, below_more, arith}
use Rattle.std.proofs.lemmas.List.{length-map}
use Rattle.ver_table.specs.declared.entries.Entry.{Entry}
use Rattle.ver_table.specs.Entries.{pair_of, pairs_of, slot_at}
use Rattle.ver_table.proofs.Places.{slot_of}
use Rattle.ver_table.proofs.runs.run_length.Goals as goal

pub returns-then-change-size : goal.returns-then-change-size
returns-then-change-size g c =
    let changes = c.args.changes.now in
    let change = c.index-changes-at.result in
    let here : slot_at (pairs_of changes) c.loop-at.at ≡ change.slot = slot_of pair_of changes c.loop-at.at change c.loop-at-test.true ∙ ap (λ (e : Entry g.row.T.Denot). e.slot) (sym c.index-changes-at.is) in
    record {
      in_range = omega (arith, length-map changes pair_of);
      own = c.loop-at.invariant;
      next = λ l same. c.if-change-size.true (ap (λ n. n / c.args.size) (sym here) ∙ same);
    }

pub loop-at-preserved : goal.loop-at-preserved
loop-at-preserved g c =
    let changes = c.args.changes.now in
    let change = c.index-changes-at.result in
    let here : slot_at (pairs_of changes) c.loop-at.at ≡ change.slot = slot_of pair_of changes c.loop-at.at change c.loop-at-test.true ∙ ap (λ (e : Entry g.row.T.Denot). e.slot) (sym c.index-changes-at.is) in
    below_more _ _ c.loop-at.invariant (ap (λ n. n / c.args.size) here ∙ c.if-change-size.false)
