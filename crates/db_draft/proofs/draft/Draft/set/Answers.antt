use Rattle.std.proofs.Common.{◌≡◌, ap, sym, ◌∙◌, List, Some, None, slice_get}
use Rattle.std.specs.Arc.{arc_value}
use Rattle.netlist_schema.specs.Design.{Design, cells_in, lib_at}
use Rattle.netlist_schema.specs.Names.{cell_names}
use Rattle.netlist_schema.specs.Types.{CellBody}
use Rattle.edit_rules_spec.specs.Edit.{with_changed_cell}
use Rattle.db_draft.specs.Drafts.{Drafted, AllSuit, notes_of}
use Rattle.db_draft.proofs.Drafting.{can_put, either_way, on_ok, on_err, put_laid, put_suits, same_laid, same_suits}
use Rattle.db_draft.proofs.Works.{no_cells_here}
use Rattle.db_draft.proofs.draft.Draft.set.Goals as goal

pub unreachable-requires : goal.unreachable-requires
unreachable-requires c =
    let w = c.self.inside in
    let none : None ≡ lib_at w.base.design c.args.id.lib = c.in-None.ensures.value ∙ ap (λ (d : Design). lib_at d c.args.id.lib) c.parts.ensures in
    let empty = no_cells_here w.base.design w.layers.items (notes_of w) c.args.id.lib none in
    let is : None ≡ Some (arc_value c.args.body).name.id = ap (λ (cs : List CellBody). slice_get (cell_names cs) c.args.id.slot) empty ∙ (ap (λ (f : Drafted). slice_get (cell_names (cells_in f.design c.args.id.lib)) c.args.id.slot) c.self.view_is ∙ c.requires) in
    cc

pub put_in-requires : goal.put_in-requires
put_in-requires c =
    let w = c.self.inside in
    can_put w.base.design w.layers.items w.layers.items (notes_of w) c.self.invariant c.args.id c.in-Some.shelf.now c.cell_count-count.result (arc_value c.args.body) (sym (c.in-Some.ensures.value ∙ ap (λ (d : Design). lib_at d c.args.id.lib) c.parts.ensures)) c.cell_count-count.ensures.value (ap (λ (f : Drafted). slice_get (cell_names (cells_in f.design c.args.id.lib)) c.args.id.slot) c.self.view_is ∙ c.requires)

pub invariant_of-self : goal.invariant_of-self
invariant_of-self c =
    let w = c.self.inside in
    either_way c.put_in.result _ _ (AllSuit w.base.design.libs c.put_in.new.layers.items)
    (put_suits w.base.design w.layers.items c.put_in.new.layers.items (notes_of w) c.self.invariant c.args.id c.in-Some.shelf.now c.cell_count-count.result (arc_value c.args.body) (sym (c.in-Some.ensures.value ∙ ap (λ (d : Design). lib_at d c.args.id.lib) c.parts.ensures)) c.cell_count-count.ensures.value (ap (λ (f : Drafted). slice_get (cell_names (cells_in f.design c.args.id.lib)) c.args.id.slot) c.self.view_is ∙ c.requires))
    (same_suits w.base.design w.layers.items c.put_in.new.layers.items (notes_of w) c.self.invariant c.args.id.lib.0 c.in-Some.shelf.now (sym (c.in-Some.ensures.value ∙ ap (λ (d : Design). lib_at d c.args.id.lib) c.parts.ensures)))
    c.put_in.ensures.ok c.put_in.ensures.err

pub returns-clause-ok : goal.returns-clause-ok
returns-clause-ok c =
    let w = c.self.inside in
    on_ok c.put_in.result _ _
    (λ has. (λ i. record { base = w.base.design; design = put_laid w.base.design w.layers.items c.put_in.new.layers.items (notes_of w) c.self.invariant c.args.id c.in-Some.shelf.now c.cell_count-count.result (arc_value c.args.body) (sym (c.in-Some.ensures.value ∙ ap (λ (d : Design). lib_at d c.args.id.lib) c.parts.ensures)) c.cell_count-count.ensures.value (ap (λ (f : Drafted). slice_get (cell_names (cells_in f.design c.args.id.lib)) c.args.id.slot) c.self.view_is ∙ c.requires) has i })
    ∙ ap (λ (f : Drafted). record f { design = with_changed_cell f.design c.args.id (λ _. arc_value c.args.body) }) c.self.view_is)
    c.put_in.ensures.ok

pub returns-clause-err : goal.returns-clause-err
returns-clause-err c =
    let w = c.self.inside in
    on_err c.put_in.result _ _
    (λ has. (λ i. record { base = w.base.design; design = same_laid w.base.design w.layers.items c.put_in.new.layers.items (notes_of w) c.self.invariant c.args.id.lib.0 has i }) ∙ c.self.view_is)
    c.put_in.ensures.err
