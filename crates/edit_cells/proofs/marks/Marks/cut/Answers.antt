use Rattle.std.proofs.Common.{List, ap, sym, subst, take, ◌∙◌}
use Rattle.netlist_schema.specs.Types.{Object}
use Rattle.edit_cells.specs.Marks.{IsPlaced}
use Rattle.edit_cells.proofs.marks.Marks.cut.Goals as goal

pub forget-requires : goal.forget-requires
forget-requires c = subst (λ (xs : List Object). IsPlaced xs c.self.inside.places) (sym c.as_slice.ensures) c.self.invariant

pub invariant_of-self : goal.invariant_of-self
invariant_of-self c =
    subst (λ (xs : List Object). IsPlaced xs c.forget.new.places) (sym (c.cut.ensures ∙ ap (λ (xs : List Object). take c.args.count xs) (sym c.as_slice.ensures))) c.forget.ensures
