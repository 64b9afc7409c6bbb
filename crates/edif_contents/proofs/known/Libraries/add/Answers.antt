use Rattle.std.proofs.Common.{ℕ, Option, ◌<◌, arith, ◌-◌}
use Rattle.std.specs.Prelude.{slice_set}
use Rattle.edif_contents.specs.Known.{AddsTo, AddsCell}
use Rattle.edif_contents.proofs.KnownLemmas.{seen, adds, heads_stay, head_stays, if_ok}
use Rattle.edif_contents.proofs.known.Libraries.add.Goals as goal

pub invariant_of-self : goal.invariant_of-self
invariant_of-self c =
    let at = c.in-Some.ensures.item.3 in
    heads_stay c.self.inside.libs.items c.self.inside.libs.len c.self.inside.names c.in-Some.lib.now c.add.new.self c.self.inside.libs.ok.0 (omega arith) (at.1 c.in-Some.lib.now)
    (head_stays c.in-Some.lib.now c.add.new.self c.args.cell c.args.place c.add.result c.add.ensures.ok c.add.ensures.err) c.self.invariant

pub returns-clause-ok : goal.returns-clause-ok
returns-clause-ok c =
    let at = c.in-Some.ensures.item.3 in
    let P : Option ℕ → Type 0 = λ o. AddsTo c.in-Some.lib.now c.args.cell c.args.place c.add.new.self o in
    let Q : Option ℕ → Type 0 = λ o. AddsCell c.args.self.now c.args.cell c.args.place (seen (slice_set c.self.inside.libs.items (c.self.inside.libs.len - 1) c.add.new.self) c.self.inside.names) o in
    let b : 0 < c.self.inside.libs.len = omega arith in
    if_ok P Q c.add.result (λ o h. adds c.args.self.now c.self.inside.libs.items c.self.inside.libs.len c.self.inside.names c.in-Some.lib.now c.add.new.self c.args.cell c.args.place o c.self.view_is c.self.inside.libs.ok.0 b (at.1 c.in-Some.lib.now) h) c.add.ensures.ok
