use Rattle.std.proofs.Common.{List, refl, sym, subst, ◌∙◌}
use Rattle.std.specs.List.{Contains}
use Rattle.std.proofs.lemmas.Bool.{false≢true}
use Rattle.netlist_schema.specs.Types.{Object}
use Rattle.netlist_schema.proofs.Objects.{get_by_order}
use Rattle.edit_cells.proofs.Marking.{placed_in, place_of_held}
use Rattle.edit_cells.proofs.marks.Marks.has.Goals as goal

pub returns-in-Some : goal.returns-in-Some
returns-in-Some c = (
  λ _. subst (λ (xs : List Object). Contains xs c.args.object) c.self.view_is
      (placed_in c.self.inside.list c.self.inside.places c.args.object c.in-Some._place.now c.self.invariant (sym (c.in-Some.ensures.value ∙ get_by_order c.self.inside.places c.args.object))),
  λ _. refl,
)

pub returns-in-None : goal.returns-in-None
returns-in-None c = (
  λ never. absurd (false≢true never),
  λ has. absurd (place_of_held c.self.inside.list c.self.inside.places c.args.object c.self.invariant (sym (c.in-None.ensures.value ∙ get_by_order c.self.inside.places c.args.object))
      (subst (λ (xs : List Object). Contains xs c.args.object) (sym c.self.view_is) has)),
)
