use Rattle.std.proofs.Common.{sym, subst}
use Rattle.script_spec.specs.Session.{last_release}
use Rattle.script_run_spec.specs.Calls.{Makes}
use Rattle.script_held.specs.Holding.{IsHeldBy, held_of}
use Rattle.script_held.specs.declared.held.Held.{Held}
use Rattle.script_held.proofs.held.settle.Goals as goal

pub let_go-requires-clause-mine : goal.let_go-requires-clause-mine
let_go-requires-clause-mine g c = subst (λ (h : Held). IsHeldBy c.args.db.now c.args.pass.now h) (sym c.parts-held.ensures.held) c.requires.mine

pub returns-clause-makes : goal.returns-clause-makes
returns-clause-makes g c =
    subst (λ (h : Held). Makes c.args.db.now.base c.args.pass.now.number c.args.pass.now.seen c.let_go.new.pass.seen (last_release (held_of h))) c.parts-held.ensures.held c.let_go.ensures.makes
