use Rattle.std.proofs.Common.{refl, sym, arith}
use Rattle.pin_registry.proofs.Live.{removes, pins_of_removed}
use Rattle.pin_registry.proofs.pins.Pins.remove.Goals as goal

pub invariant_of-self : goal.invariant_of-self
invariant_of-self c =
    let old = c.self.invariant in
    let left = removes c.self.inside.versions.entries c.remove.new.self.entries c.args.number c.in-Some.version old.ordered c.in-Some.ensures.entries (sym c.in-Some.ensures.value) in
    record {
      ordered = c.in-Some.ensures.ordered;
      numbered = left.numbered c.self.inside.made old.numbered;
      few = omega (arith, c.in-Some.ensures.len, old.few);
      made = old.made;
      counted = λ q. grind (arith, c.count_down.ensures q, old.counted q, left.count q);
    }

pub returns-in-Some : goal.returns-in-Some
returns-in-Some c =
    let left = removes c.self.inside.versions.entries c.remove.new.self.entries c.args.number c.in-Some.version c.self.invariant.ordered c.in-Some.ensures.entries (sym c.in-Some.ensures.value) in
    rw (← c.self.view_is, left.pins) refl

pub returns-in_default : goal.returns-in_default
returns-in_default c = rw (← c.self.view_is, c.in_default.ensures.entries, pins_of_removed c.args.number c.self.inside.versions.entries c.self.invariant.ordered) refl
