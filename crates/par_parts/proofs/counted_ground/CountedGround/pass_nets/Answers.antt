use Rattle.std.proofs.Common.{rules, ◌≡◌, ◌<◌, ◌≤◌, ◌+◌, ◌-◌, ℕ, drop, length, refl, subst, arith}
use Rattle.netlist_schema.specs.Design.{Design}
use Rattle.netlist_schema.specs.Valid.{IsValid}
use Rattle.flat_spec.specs.Paths.{nets_at}
use Rattle.occ_walk.specs.Left.{left}
use Rattle.flat_items.specs.Stand.{Stand, stand_of}
use Rattle.flat_items.specs.declared.place.Stage.TheVariants.{Nets}
use Rattle.flat_items.proofs.StageLemmas.{nets_few}
use Rattle.par_parts.proofs.PassLemmas.{nets_gone}
use Rattle.par_parts.proofs.counted_ground.CountedGround.pass_nets.Goals as goal

pub before_last-passed-requires-clause-few : goal.before_last-passed-requires-clause-few
before_last-passed-requires-clause-few g c =
    let d = g.S.Shown.design c.self.inside.ground.design in
    let few = subst (λ (v : Design). length (nets_at v c.args.place.now.here.cell) ≤ 1048576) c.self.view_is (nets_few d c.self.invariant.ground.valid c.args.place.now.here.cell) in
    omega (arith, few, c.len.ensures, c.requires.here.names.long, c.args.place.now.here.names.ok.0)

pub overflow_add-place : goal.overflow_add-place
overflow_add-place g c =
    let d = g.S.Shown.design c.self.inside.ground.design in
    let few = subst (λ (v : Design). length (nets_at v c.args.place.now.here.cell) ≤ 1048576) c.self.view_is (nets_few d c.self.invariant.ground.valid c.args.place.now.here.cell) in
    omega (arith, few, c.before_last-passed.ensures.within, c.len.ensures, c.requires.here.names.long, c.args.place.now.here.names.ok.0)

pub returns-clause-left : goal.returns-clause-left
returns-clause-left g c =
    let d = c.args.self.now in
    let valid = subst IsValid c.self.view_is c.self.invariant.ground.valid in
    let old : Stand = stand_of c.args.place.now in
    let net : ℕ = c.in-Nets.net in
    let gone : ℕ = c.before_last-passed.result in
    let new : Stand = record { above = old.above; here = old.here; stage = Nets (net + gone); path = old.path; text = old.text } in
    let fits : net + gone < length (nets_at d old.here.cell) =
    omega (arith, c.before_last-passed.ensures.within, c.len.ensures, c.requires.here.names.long, c.args.place.now.here.names.ok.0) in
    let same : gone ≡ c.from.result = search rules in
    subst (λ (n : ℕ). drop (c.args.count - n) (left d new) ≡ drop c.args.count (left d old)) same
    (nets_gone d valid old new net gone c.args.count c.requires c.in-Nets.is fits c.before_last-passed.ensures.most refl).1
