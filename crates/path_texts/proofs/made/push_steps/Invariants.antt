use Rattle.std.proofs.Common.{◌≡◌, ◌++◌, ℕ, List, drop}
use Rattle.flat_spec.specs.Effective.{names_along}
use Rattle.flat_spec.specs.Paths.{cell_along}
use Rattle.path_texts.specs.Texts.{behind_slashes}
use Rattle.path_texts.proofs.made.push_steps.Given as goal

-- what is left of the path leads from the cell reached so far to where all of it leads from the root, and so for the names
abbrev pub invariant-loop-step : goal.invariant-loop-step
invariant-loop-step g l = record {
  cell : cell_along (g.S.Shown.design l.design) l.at (drop l.step-index l.steps) ≡ cell_along (g.S.Shown.design l.design) l.fn.root l.steps;
  text : l.out.items ++ behind_slashes (names_along (g.S.Shown.design l.design) l.at (drop l.step-index l.steps))
      ≡ l.fn.out.items ++ behind_slashes (names_along (g.S.Shown.design l.design) l.fn.root l.steps);
  grows : (more : List ℕ) × (l.out.items ≡ l.fn.out.items ++ more);
}
