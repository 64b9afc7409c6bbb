use Rattle.std.proofs.Common.{List, ℕ, sym, subst, ap, ◌∙◌}
use Rattle.std.specs.BTreeSet.{contains}
use Rattle.std.specs.List.{All, list_any}
use Rattle.netlist_schema.specs.Order.{cell_cmp}
use Rattle.netlist_schema.specs.Types.{CellId}
use Rattle.edit_rules_spec.specs.Paths.{same_cell}
use Rattle.used_keep.specs.Places.{IsRow}
use Rattle.used_keep.proofs.Placing.{places_are, rows_fit, set_is_kept}
use Rattle.used_keep.proofs.places.Places.of.Goals as goal

pub invariant_of-result : goal.invariant_of-result
invariant_of-result g c =
    let d = g.S.Shown.design c.args.design.now in
    subst (λ (rows : List (List ℕ)). All IsRow rows) (sym c.in_ok-libs.ensures) (rows_fit d (contains cell_cmp c.in_ok-set.set) c.design_is_valid.ensures)

pub returns : goal.returns
returns g c =
    let d = g.S.Shown.design c.args.design.now in
    let cells = c.in_ok-cells.cells.items in
    c.in_ok-libs.ensures
    ∙ places_are d c.args.top (contains cell_cmp c.in_ok-set.set)
    (set_is_kept d c.args.top cells c.in_ok-set.set c.design_is_valid.ensures c.in_ok-cells.ensures
    (λ id. c.in_ok-set.ensures id ∙ ap (λ (v : List CellId). list_any (λ k. same_cell k id) v) c.as_slice.ensures.value))
