use Rattle.std.proofs.Common.{◌++◌, ◌∷◌, [], ◌∙◌, ap, arith, map, sym}
use Rattle.std.specs.Prelude.{slice_get, unwrap_or}
use Rattle.std.proofs.lemmas.List.{length-map, set_past}
use Rattle.net_rows.proofs.ListLemmas.{added_at}
use Rattle.net_rows.proofs.lists.add_at.Goals as goal

pub returns-then-number-len : goal.returns-then-number-len
returns-then-number-len g c =
    let rows = map (λ list. list.items) c.args.lists.now.items in
    sym (set_past rows c.args.number (unwrap_or (slice_get rows c.args.number) [] ++ c.args.item ∷ []) (omega (arith, c.if-number-len.true, c.len.ensures, length-map c.args.lists.now.items (λ list. list.items))))

pub returns : goal.returns
returns g c =
    added_at (λ list. list.items) c.args.lists.now.items c.args.number c.index_mut.result.now c.push.new.self c.args.item (omega (arith, c.if-number-len.false, c.len.ensures))
    (c.in_ok-push.ensures.items ∙ ap (λ list. list.items ++ c.args.item ∷ []) c.index_mut.ensures.value)
