use Rattle.std.proofs.Common.{ℕ, ◌<◌, get_or}
use Rattle.edit_spec.specs.Typed.{IsTypedPortDecl}
use Rattle.edit_spec.specs.declared.ops.PortDecl.{PortDecl}
use Rattle.edit_spec.proofs.typed.ports_are_typed.Given as goal

-- the ports so far are typed
abbrev pub invariant-loop-port : goal.invariant-loop-port
invariant-loop-port l = (k : ℕ) (d : PortDecl) → k < l.port-index → IsTypedPortDecl (get_or l.port-items k d)
