use Rattle.std.proofs.Common.{◌≡◌, ◌++◌, List, length, map, sym, ap, subst, ◌∙◌, ℕ, refl}
use Rattle.std.specs.Arc.{arc_value}
use Rattle.std.specs.FinMap.{values}
use Rattle.std.proofs.lemmas.List.{map-append}
use Rattle.netlist_schema.specs.Names.{AreDistinct, cell_names}
use Rattle.netlist_schema.specs.Types.{CellBody, Lib}
use Rattle.ver_table.specs.Rows.{numbered}
use Rattle.db_version.proofs.Setting.{made_more, IsMade}
use Rattle.db_version.proofs.shelf.Shelf.with_more.Goals as goal
use Rattle.db_version.proofs.shelf.Shelf.with_more.Goals.{In_ok-cells, After-deref}

-- the names here and those of the new cells
names_are : (c : After-deref) → cell_names (c.args.self.now.cells ++ map arc_value c.args.bodies.now) ≡ c.deref.result.now ++ cell_names (map arc_value c.args.bodies.now)
names_are c =
    map-append (λ (b : CellBody). b.name.id) c.args.self.now.cells (map arc_value c.args.bodies.now)
    ∙ ap (λ (ns : List (List ℕ)). ns ++ cell_names (map arc_value c.args.bodies.now)) (ap (λ (l : Lib). cell_names l.cells) (sym c.self.view_is) ∙ (sym c.self.invariant.named ∙ sym c.deref.ensures))

pub with-requires-clause-distinct : goal.with-requires-clause-distinct
with-requires-clause-distinct c = subst AreDistinct (names_are c) c.requires.distinct

made_is : (c : In_ok-cells) → IsMade c.in_ok-cells.cells (values c.self.inside.cells ++ map arc_value c.args.bodies.now)
made_is c =
    made_more c.self.inside.cells c.in_ok-cells.cells c.cell_count.result (map arc_value c.args.bodies.now) (numbered c.cell_count.result (map arc_value c.args.bodies.now)) c.self.invariant.listed (c.cell_count.ensures.value ∙ ap (λ (l : Lib). length l.cells) (sym c.self.view_is)) refl c.in_ok-cells.ensures

pub invariant_of-result : goal.invariant_of-result
invariant_of-result c =
    let made = made_is c in record {
      listed = made.listed;
      named = c.in_ok-directory.ensures.ok ∙ (c.in_ok-with.ensures ∙ (ap (λ (ns : List (List ℕ)). ns ++ cell_names (map arc_value c.args.bodies.now)) (c.deref.ensures ∙ c.self.invariant.named)
          ∙ (sym (map-append (λ (b : CellBody). b.name.id) (values c.self.inside.cells) (map arc_value c.args.bodies.now)) ∙ ap cell_names (sym made.values_are))));
    }

pub returns : goal.returns
returns c =
    let made = made_is c in
    (λ i. record { head = c.in_ok-head.ensures i; cells = made.values_are i })
    ∙ ap (λ (l : Lib). record l { cells = l.cells ++ map arc_value c.args.bodies.now }) c.self.view_is
