use Rattle.std.proofs.Common.{◌≡◌, ◌++◌}
use Rattle.edif_tree.proofs.word_list.listed.Given as goal

-- the words so far, and then those that are left, are all of them
abbrev pub invariant-loop-name : goal.invariant-loop-name
invariant-loop-name l = l.list.items ++ l.name-iterator ≡ l.fn.names.keys
