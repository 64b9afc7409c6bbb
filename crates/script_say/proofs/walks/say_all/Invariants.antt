use Rattle.std.proofs.Common.{◌≡◌, ◌++◌, length}
use Rattle.edif_names.specs.Parts.{Grows}
use Rattle.flat_lines_spec.specs.Lines.{item_lines}
use Rattle.script_say.proofs.walks.say_all.Given as goal

-- the design is the same, and what was said and what is left to say are the whole
abbrev pub invariant-items : goal.invariant-items
invariant-items g l = record {
  same : l.walk.design ≡ g.S.Shown.design l.design;
  whole : l.out.items ++ item_lines (g.S.Shown.design l.design) l.walk.left ≡ l.fn.out.items ++ item_lines (g.S.Shown.design l.design) l.fn.walk.left;
  grows : Grows l.fn.out.items l.out.items;
}

abbrev pub decreases-items : goal.decreases-items
decreases-items g l = length l.walk.left
