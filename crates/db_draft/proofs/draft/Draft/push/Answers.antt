use Rattle.std.proofs.Common.{◌++◌, ◌∷◌, [], ap, sym, subst, ◌∙◌}
use Rattle.std.specs.Prelude.{IsSome}
use Rattle.std.specs.Arc.{arc_value}
use Rattle.netlist_schema.specs.Design.{cells_in, lib_at}
use Rattle.netlist_schema.specs.Names.{AreDistinct, cell_names}
use Rattle.edit_rules_spec.specs.Edit.{with_more_cell}
use Rattle.db_draft.specs.Drafts.{Drafted, AllSuit, notes_of}
use Rattle.db_draft.proofs.Drafting.{base_lib, can_push, either_way, on_ok, on_err, push_laid, push_suits, same_laid, same_suits}
use Rattle.db_draft.proofs.draft.Draft.push.Goals as goal

pub push_in-requires : goal.push_in-requires
push_in-requires c =
    let w = c.self.inside in
    let found = base_lib w.base.design w.layers.items (notes_of w) c.args.lib (subst (λ (f : Drafted). IsSome (lib_at f.design c.args.lib)) (sym c.self.view_is) c.requires.there) in
    can_push w.base.design w.layers.items w.layers.items (notes_of w) c.self.invariant c.args.lib found.0 (arc_value c.args.body) found.1
    (subst (λ (f : Drafted). AreDistinct (cell_names (cells_in f.design c.args.lib ++ arc_value c.args.body ∷ []))) (sym c.self.view_is) c.requires.distinct)

pub invariant_of-self : goal.invariant_of-self
invariant_of-self c =
    let w = c.self.inside in
    let found = base_lib w.base.design w.layers.items (notes_of w) c.args.lib (subst (λ (f : Drafted). IsSome (lib_at f.design c.args.lib)) (sym c.self.view_is) c.requires.there) in
    either_way c.push_in.result _ _ (AllSuit w.base.design.libs c.push_in.new.layers.items)
    (push_suits w.base.design w.layers.items c.push_in.new.layers.items (notes_of w) c.self.invariant c.args.lib found.0 (arc_value c.args.body) found.1)
    (same_suits w.base.design w.layers.items c.push_in.new.layers.items (notes_of w) c.self.invariant c.args.lib.0 found.0 found.1)
    c.push_in.ensures.ok c.push_in.ensures.err

pub returns-clause-ok : goal.returns-clause-ok
returns-clause-ok c =
    let w = c.self.inside in
    let found = base_lib w.base.design w.layers.items (notes_of w) c.args.lib (subst (λ (f : Drafted). IsSome (lib_at f.design c.args.lib)) (sym c.self.view_is) c.requires.there) in
    on_ok c.push_in.result _ _
    (λ has. (λ i. record { base = w.base.design; design = push_laid w.base.design w.layers.items c.push_in.new.layers.items (notes_of w) c.self.invariant c.args.lib found.0 (arc_value c.args.body) found.1 has i })
    ∙ ap (λ (f : Drafted). record f { design = with_more_cell f.design c.args.lib (arc_value c.args.body) }) c.self.view_is)
    c.push_in.ensures.ok

pub returns-clause-err : goal.returns-clause-err
returns-clause-err c =
    let w = c.self.inside in
    on_err c.push_in.result _ _
    (λ has. (λ i. record { base = w.base.design; design = same_laid w.base.design w.layers.items c.push_in.new.layers.items (notes_of w) c.self.invariant c.args.lib.0 has i }) ∙ c.self.view_is)
    c.push_in.ensures.err
