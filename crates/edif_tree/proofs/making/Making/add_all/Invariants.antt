use Rattle.std.proofs.Common.{◌≡◌, List, ◌++◌}
use Rattle.edif_spelling_spec.specs.declared.token.Token.{Token}
use Rattle.edif_tree.specs.Making.{HasRead}
use Rattle.edif_tree.proofs.making.Making.add_all.Given as goal

-- the tokens so far and those that are left, and that the first were read
abbrev pub invariant-loop-token : goal.invariant-loop-token
invariant-loop-token l = record {
  rest : l.fn.tokens.items ≡ l.yielded ++ l.token-iterator.rest.items;
  read : (ts : List Token) → HasRead l.initial.self ts → HasRead l.self (ts ++ l.yielded);
}
