use Rattle.std.proofs.Common.{◌≡◌, ◌++◌, drop}
use Rattle.edif_names.specs.Parts.{Grows}
use Rattle.script_spec.specs.Texts.{op_lines}
use Rattle.script_lang.proofs.events.push_ops.Given as goal

-- what was written and what is left to write, with the replies that are left, make the whole
abbrev pub invariant-loop-op : goal.invariant-loop-op
invariant-loop-op l = record {
  whole : l.out.items ++ op_lines (drop l.op-index l.ops) l.left ≡ l.fn.out.items ++ op_lines l.ops l.fn.replies;
  grows : Grows l.fn.out.items l.out.items;
}
