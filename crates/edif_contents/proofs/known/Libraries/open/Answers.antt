use Rattle.std.proofs.Common.{[]}
use Rattle.edif_contents.specs.Known.{NamedLib}
use Rattle.edif_contents.proofs.KnownLemmas.{ids_grown, named, opened, pushed}
use Rattle.edif_contents.proofs.known.Libraries.open.Goals as goal

pub invariant_of-self-2 : goal.invariant_of-self-2
invariant_of-self-2 c =
    let o = c.in_ok-earlier.earlier in
    let libs = c.self.inside.libs.items in
    let new = c.push_new.new.items.items in
    let head = c.args.head in
    ids_grown (λ (l : NamedLib). l.lib.head.name.id) libs new (named head [] []) c.self.inside.names c.define_within.new.names c.args.place o c.in_ok-earlier.ensures.ok
    (pushed o (named head [] []) (named head c.new.result.items c.new-3.result) libs c.define_within.new.items.items new c.push_new.ensures.none c.push_new.ensures.some c.define_within.ensures.items (λ i. named head (c.new.ensures.items i) (c.new-3.ensures i))) c.self.invariant

pub returns-clause-ok : goal.returns-clause-ok
returns-clause-ok c =
    let o = c.in_ok-earlier.earlier in
    let libs = c.self.inside.libs.items in
    let new = c.push_new.new.items.items in
    let head = c.args.head in
    opened c.args.self.now libs new c.self.inside.names c.define_within.new.names head c.args.place o c.self.view_is c.in_ok-earlier.ensures.ok
    (pushed o (named head [] []) (named head c.new.result.items c.new-3.result) libs c.define_within.new.items.items new c.push_new.ensures.none c.push_new.ensures.some c.define_within.ensures.items (λ i. named head (c.new.ensures.items i) (c.new-3.ensures i)))
