use Rattle.std.proofs.Common.{◌∙◌, ◌++◌, ◌∷◌, [], List, None, Some, ap, subst, sym}
use Rattle.flat_spec.specs.Paths.{cell_along}
use Rattle.netlist_schema.specs.Types.{CellId}
use Rattle.net_pins.specs.Moves.{IsOwnLevel}
use Rattle.net_pins.proofs.spot.own_level.Goals as goal

pub returns-in_default : goal.returns-in_default
returns-in_default g c =
    let d = g.S.Shown.design c.asked.inside.ground.now.design in
    let path : List _ = c.asked.inside.first.path.now in
    subst (λ q. IsOwnLevel q None) c.asked.view_is (ap (λ (t : CellId). cell_along d t path) (sym c.top_cell.ensures) ∙ sym c.cell_along.ensures ∙ c.in_default.is)

pub returns : goal.returns
returns g c =
    let d = g.S.Shown.design c.asked.inside.ground.now.design in
    let path : List _ = c.asked.inside.first.path.now in
    subst (λ q. IsOwnLevel q (Some (record { cell = c.in-Some.cell; firsts = c.push.new.self }))) c.asked.view_is (
      c.in_ok-push.ensures.items ∙ ap (λ v. v ++ c.asked.inside.first.net ∷ []) c.new-firsts.ensures.items,
      ap (λ (t : CellId). cell_along d t path) (sym c.top_cell.ensures) ∙ sym c.cell_along.ensures ∙ c.in-Some.is,
    )
