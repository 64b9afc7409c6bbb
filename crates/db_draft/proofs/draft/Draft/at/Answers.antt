use Rattle.std.proofs.Common.{ap, sym, ◌∙◌, slice_get, List}
use Rattle.netlist_schema.specs.Design.{Design, lib_at, cells_in}
use Rattle.db_draft.specs.Drafts.{Drafted, notes_of}
use Rattle.db_draft.specs.declared.layer.Layer.{Layer}
use Rattle.db_draft.proofs.Suiting.{suits_at, no_layer}
use Rattle.db_draft.proofs.Works.{no_cells_here, cells_at}
use Rattle.db_draft.proofs.draft.Draft.at.Goals as goal

pub returns-in-None-clause-none : goal.returns-in-None-clause-none
returns-in-None-clause-none c = λ _.
    let w = c.self.inside in
    ap (λ (f : Drafted). cells_in f.design c.args.lib) (sym c.self.view_is)
    ∙ sym (no_cells_here w.base.design w.layers.items (notes_of w) c.args.lib (c.in-None.ensures.value ∙ ap (λ (d : Design). lib_at d c.args.lib) c.parts.ensures))

pub returns-in-Some-layer_at-clause-some : goal.returns-in-Some-layer_at-clause-some
returns-in-Some-layer_at-clause-some c =
    let w = c.self.inside in
    let there = c.in-Some.ensures.value ∙ ap (λ (d : Design). lib_at d c.args.lib) c.parts.ensures in
    let has = c.in-Some-layer_at.ensures ∙ ap (λ (ls : List Layer). slice_get ls c.args.lib.0) c.as_slice.ensures.value in
    record {
      cells = ap (λ (f : Drafted). cells_in f.design c.args.lib) (sym c.self.view_is) ∙ sym (cells_at w.base.design w.layers.items (notes_of w) c.args.lib c.in-Some.shelf.now c.in-Some-layer_at.layer.now there has);
      suits = suits_at w.base.design.libs w.layers.items c.args.lib.0 c.in-Some.shelf.now c.in-Some-layer_at.layer.now c.self.invariant (sym there) (sym has);
    }

pub returns-in-None-layer_at-clause-none : goal.returns-in-None-layer_at-clause-none
returns-in-None-layer_at-clause-none c = λ _.
    let w = c.self.inside in
    no_layer w.base.design.libs w.layers.items c.args.lib.0 c.in-Some.shelf.now c.self.invariant
    (sym (c.in-Some.ensures.value ∙ ap (λ (d : Design). lib_at d c.args.lib) c.parts.ensures))
    (sym (c.in-None-layer_at.ensures ∙ ap (λ (ls : List Layer). slice_get ls c.args.lib.0) c.as_slice.ensures.value))
