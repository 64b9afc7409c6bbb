use Rattle.std.proofs.Common.{refl, ap, arith}
use Rattle.std.proofs.lemmas.Grind.{common_steps}
use Rattle.pin_registry.specs.Registry.{Registry}
use Rattle.pin_registry.proofs.Live.{adds}
use Rattle.pin_registry.proofs.pins.Pins.add.Goals as goal

pub invariant_of-self-2 : goal.invariant_of-self-2
invariant_of-self-2 c =
    let old = c.self.invariant in
    let made = adds c.self.inside.versions.entries c.insert.new.self.entries c.self.inside.made c.args.version old.numbered c.in_ok-insert.ensures.entries in
    record {
      ordered = c.in_ok-insert.ensures.ordered;
      numbered = made.numbered;
      few = omega (arith, made.length, old.few);
      made = omega (arith, ap (λ (r : Registry). r.made) c.self.view_is, c.requires);
      counted = λ q. grind (arith, common_steps, old.counted q, made.count q);
    }

pub returns-clause-ok : goal.returns-clause-ok
returns-clause-ok c =
    let made = adds c.self.inside.versions.entries c.insert.new.self.entries c.self.inside.made c.args.version c.self.invariant.numbered c.in_ok-insert.ensures.entries in
    (ap (λ (r : Registry). r.made) c.self.view_is, rw (← c.self.view_is, made.pins) refl)
