use Rattle.std.proofs.Common.{take}
use Rattle.edif_tree.specs.Making.{HasRead}
use Rattle.edif_tree.proofs.read.read_tree.Given as goal

-- the maker has read the tokens so far
abbrev pub invariant-loop-token : goal.invariant-loop-token
invariant-loop-token l = HasRead l.making (take l.token-index l.tokens)
