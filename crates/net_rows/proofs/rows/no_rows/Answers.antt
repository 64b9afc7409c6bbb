use Rattle.std.proofs.Common.{◌≡◌, ◌+◌, ◌∙◌, ap, arith, length, subst, sym, slice_get}
use Rattle.std.specs.Prelude.{IfSome}
use Rattle.std.proofs.lemmas.List.{length_push}
use Rattle.netlist_schema.specs.Design.{cells_in}
use Rattle.net_rows.specs.Rows.{lists_of}
use Rattle.net_rows.proofs.NestedLemmas.{each_push, has_room}
use Rattle.net_rows.proofs.rows.no_rows.Goals as goal

pub loop-lib-preserved : goal.loop-lib-preserved
loop-lib-preserved g c =
    let d = g.S.Shown.design c.args.design.now in
    let old = c.loop-lib.cells.items in
    let row = c.in_ok-row.row in
    let long = c.loop-lib.invariant.0 in (
      ap length c.in_ok-push.ensures.items ∙ length_push old row ∙ ap (λ n. n + 1) long,
      λ k. subst (λ rows. IfSome (slice_get rows k) (λ r. length r.items ≡ length (cells_in d (record { 0 = k })))) (sym c.in_ok-push.ensures.items)
          (each_push (λ n r. length r.items ≡ length (cells_in d (record { 0 = n }))) old row c.loop-lib.invariant.1
          (c.in_ok-row.ensures ∙ c.cell_count-count.ensures.value ∙ ap (λ n. length (cells_in d (record { 0 = n }))) (sym long)) k),
    )

pub returns : goal.returns
returns g c = λ id is.
    let d = g.S.Shown.design c.args.design.now in
    has_room (λ row. row.items) lists_of d c.loop-lib.cells.items (omega (arith, c.lib_count-lib-end.ensures.value, c.loop-lib.invariant.0)) c.loop-lib.invariant.1 id is
