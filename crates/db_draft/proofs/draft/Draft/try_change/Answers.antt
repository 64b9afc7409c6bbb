use Rattle.std.proofs.Common.{◌≡◌, List, None, ap, map, slice_get, sym, subst, ◌∙◌}
use Rattle.db_draft.specs.Laid.{laid}
use Rattle.db_draft.specs.Layers.{over_of}
use Rattle.std.specs.Prelude.{IsSomeAnd}
use Rattle.netlist_schema.specs.Design.{Design, cell_at, lib_at}
use Rattle.db_draft.specs.Drafts.{Drafted, notes_of}
use Rattle.db_draft.specs.Make.{CanFit}
use Rattle.db_draft.specs.Place.{IsTriedCell}
use Rattle.db_draft.proofs.Placing.{can_try, tried_laid, tried_suits}
use Rattle.netlist_schema.specs.Types.{CellBody}
use Rattle.db_draft.proofs.Works.{no_cells_here}
use Rattle.db_draft.proofs.draft.Draft.try_change.Goals as goal

pub unreachable-requires : goal.unreachable-requires
unreachable-requires c =
    let w = c.self.inside in
    let none : None ≡ lib_at w.base.design c.args.id.lib = c.in-None.ensures.value ∙ ap (λ (d : Design). lib_at d c.args.id.lib) c.parts.ensures in
    let empty = no_cells_here w.base.design w.layers.items (notes_of w) c.args.id.lib none in
    subst (λ (cells : List CellBody). IsSomeAnd (slice_get cells c.args.id.slot) (CanFit c.args.change)) (sym empty)
    (subst (λ (f : Drafted). IsSomeAnd (cell_at f.design c.args.id) (CanFit c.args.change)) (sym c.self.view_is) c.requires)

pub try_in-requires : goal.try_in-requires
try_in-requires c =
    let w = c.self.inside in
    can_try w.base.design w.layers.items (notes_of w) c.self.invariant c.args.id c.in-Some.shelf.now c.cell_count-count.result c.args.change (sym (c.in-Some.ensures.value ∙ ap (λ (d : Design). lib_at d c.args.id.lib) c.parts.ensures)) c.cell_count-count.ensures.value
    (subst (λ (f : Drafted). IsSomeAnd (cell_at f.design c.args.id) (CanFit c.args.change)) (sym c.self.view_is) c.requires)

pub invariant_of-self : goal.invariant_of-self
invariant_of-self c =
    let w = c.self.inside in
    tried_suits w.base.design w.layers.items (notes_of w) c.self.invariant c.args.id c.in-Some.shelf.now c.cell_count-count.result c.args.change (sym (c.in-Some.ensures.value ∙ ap (λ (d : Design). lib_at d c.args.id.lib) c.parts.ensures)) c.cell_count-count.ensures.value
    c.try_in.new.layers.items c.try_in.result c.try_in.ensures

pub returns : goal.returns
returns c =
    let w = c.self.inside in
    let new : Drafted = record { base = w.base.design; design = laid w.base.design (map over_of c.try_in.new.layers.items) (notes_of w) } in
    subst (λ (f : Drafted). IsTriedCell f new c.args.id c.args.change c.try_in.result) c.self.view_is
    (tried_laid w.base.design w.layers.items (notes_of w) c.self.invariant c.args.id c.in-Some.shelf.now c.cell_count-count.result c.args.change (sym (c.in-Some.ensures.value ∙ ap (λ (d : Design). lib_at d c.args.id.lib) c.parts.ensures)) c.cell_count-count.ensures.value
    c.try_in.new.layers.items c.try_in.result c.try_in.ensures)
