use Rattle.std.proofs.Common.{◌≡◌, ◌+◌, ◌++◌, take, vec_capacity, vec_len}
use Rattle.edif_tree.proofs.node_lists.put_few.Given as goal

-- the nodes so far, for as many of which there was room
abbrev pub invariant-loop-node : goal.invariant-loop-node
invariant-loop-node l = record {
  items : l.nodes.items ≡ l.fn.nodes.items ++ take l.node-index l.more;
  len : vec_len l.nodes ≡ vec_len l.fn.nodes + l.node-index;
  room : vec_capacity l.nodes ≡ vec_capacity l.fn.nodes;
}
