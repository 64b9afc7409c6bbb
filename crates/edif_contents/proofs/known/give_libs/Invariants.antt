use Rattle.std.proofs.Common.{◌≡◌, ◌++◌, map}
use Rattle.edif_contents.specs.Known.{NamedLib}
use Rattle.edif_contents.proofs.known.give_libs.Given as goal

abbrev pub invariant-loop-lib : goal.invariant-loop-lib
invariant-loop-lib l = l.given.items ++ map (λ (l : NamedLib). l.lib) l.lib-iterator.rest.items ≡ map (λ (l : NamedLib). l.lib) l.fn.libs.items
