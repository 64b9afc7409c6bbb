-- The text of steps.
use Rattle.std.specs.Prelude.{ℕ, List, ◌++◌, codes}
use Rattle.std.specs.List.{flat_map}
use Rattle.netlist_schema.specs.Design.{Design}
use Rattle.netlist_schema.specs.Types.{CellId}
use Rattle.flat_spec.specs.Effective.{insts_along}

-- `/` and the identifier of each instance to which the steps lead from a cell
abbrev pub steps_text : Design → CellId → List ℕ → List ℕ
steps_text d c steps = flat_map (λ inst. codes "/" ++ inst.name.id) (insts_along d c steps)

-- each identifier behind `/`
abbrev pub behind_slashes : List (List ℕ) → List ℕ
behind_slashes names = flat_map (λ name. codes "/" ++ name) names
