use Rattle.std.proofs.Common.{◌≡◌, ◌<◌, ◌∙◌, ◌+◌, ◌*◌, ℕ, get_or, drop, length, sym, ap, subst, arith}
use Rattle.std.specs.Option.{ForSome}
use Rattle.flat_spec.specs.Flattening.{flattening}
use Rattle.par_flat.specs.Desks.{IsDesk, IsMade, IsSeat}
use Rattle.par_flat.specs.declared.desks.Desk.{Desk}
use Rattle.par_flat.proofs.TextLemmas.{are_made}
use Rattle.par_flat.proofs.write.work_each.Goals as goal

pub returns-clause-desks : goal.returns-clause-desks
returns-clause-desks g c = λ worker other within.
    let d = c.args.ground.now in
    let kept = c.for_each_mut.auto.s in
    let below : worker < length c.args.desks.now = omega (arith, within, kept) in
    let at = (c.for_each_mut.ensures worker other below).1 in
    let before : IsDesk d worker (get_or c.args.desks.now worker other) = c.requires.desks worker other below in
    record {
      worker_is = sym (ap (λ (v : Desk). v.worker) at.left) ∙ (at.call.0 ∙ (ap (λ (v : Desk). v.worker) at.argument_is ∙ before.worker_is));
      seat = subst (λ (v : Desk). ForSome v.seat (IsSeat d)) at.left at.call.1.0;
    }

pub returns-clause-made : goal.returns-clause-made
returns-clause-made g c =
    let d = c.args.ground.now in
    let round = c.args.round in
    let new = c.for_each_mut.new.s in
    let kept = c.for_each_mut.auto.s in
    let long : length new ≡ round.workers = (let len = c.requires.len in omega (arith, kept, len)) in
    are_made d (flattening d) round.first round.workers round.most new long (λ worker other one.
    let below : worker < length c.args.desks.now = (let len = c.requires.len in omega (arith, one, len)) in
    let at = (c.for_each_mut.ensures worker other below).1 in
    let before : IsDesk d worker (get_or c.args.desks.now worker other) = c.requires.desks worker other below in
    let number = ap (λ (v : Desk). v.worker) at.argument_is ∙ before.worker_is in
    subst (λ (v : Desk). IsMade d (drop (round.first + worker * round.most.items) (flattening d)) round.most v.lines) at.left
    (subst (λ (n : ℕ). IsMade d (drop (round.first + n * round.most.items) (flattening d)) round.most at.after_call.now.lines) number at.call.1.1))
