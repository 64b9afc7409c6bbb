use Rattle.std.proofs.Common.{◌≡◌, ◌+◌, ◌-◌, ◌++◌, length, take}
use Rattle.edif_names.specs.Parts.{Grows}
use Rattle.flat_lines_spec.specs.Lines.{item_lines}
use Rattle.script_say.proofs.walks.say_most.Given as goal

-- the design is the same, what was said and what is left to say within the limit are the whole, and so many items were said
abbrev pub invariant-loop-told : goal.invariant-loop-told
invariant-loop-told g l = record {
  same : l.walk.design ≡ g.S.Shown.design l.design;
  whole : l.out.items ++ item_lines (g.S.Shown.design l.design) (take (l.limit - l._told) l.walk.left)
      ≡ l.fn.out.items ++ item_lines (g.S.Shown.design l.design) (take l.limit l.fn.walk.left);
  counted : length l.fn.walk.left ≡ l._told + length l.walk.left;
  grows : Grows l.fn.out.items l.out.items;
}
