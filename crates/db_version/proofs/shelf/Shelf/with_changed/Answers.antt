use Rattle.std.proofs.Common.{sym, ap, subst, ◌∙◌}
use Rattle.std.specs.FinMap.{values}
use Rattle.netlist_schema.specs.Names.{cell_names}
use Rattle.netlist_schema.specs.Types.{Lib}
use Rattle.db_version.specs.Changes.{cells_set, KeepNames}
use Rattle.ver_table.specs.Entries.{pairs_of}
use Rattle.db_version.proofs.Setting.{made_changed, names_kept, IsMade}
use Rattle.db_version.proofs.shelf.Shelf.with_changed.Goals as goal
use Rattle.db_version.proofs.shelf.Shelf.with_changed.Goals.{In_ok-cells}

keep : (c : In_ok-cells) → KeepNames (cell_names (values c.self.inside.cells)) (pairs_of c.args.changes.now)
keep c = subst (λ (l : Lib). KeepNames (cell_names l.cells) (pairs_of c.args.changes.now)) (sym c.self.view_is) c.requires.named

made_is : (c : In_ok-cells) → IsMade c.in_ok-cells.cells (cells_set (values c.self.inside.cells) (pairs_of c.args.changes.now))
made_is c = made_changed c.self.inside.cells c.in_ok-cells.cells (pairs_of c.args.changes.now) c.self.invariant.listed (keep c) c.in_ok-cells.ensures

pub invariant_of-result : goal.invariant_of-result
invariant_of-result c =
    let made = made_is c in record {
      listed = made.listed;
      named = c.in_ok-directory.ensures ∙ (c.self.invariant.named ∙ (sym (names_kept (pairs_of c.args.changes.now) (values c.self.inside.cells) (keep c)) ∙ ap cell_names (sym made.values_are)));
    }

pub returns : goal.returns
returns c =
    let made = made_is c in
    (λ i. record { head = c.in_ok-head.ensures i; cells = made.values_are i })
    ∙ ap (λ (l : Lib). record l { cells = cells_set l.cells (pairs_of c.args.changes.now) }) c.self.view_is
