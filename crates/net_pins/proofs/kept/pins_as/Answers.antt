use Rattle.std.proofs.Common.{◌≡◌, ◌∙◌, ap, subst, sym}
use Rattle.flat_spec.specs.Paths.{at_path}
use Rattle.flat_items.specs.Lent.{net_of}
use Rattle.flat_items.specs.Stand.{top_of}
use Rattle.ask_spec.specs.Nets.{first_of}
use Rattle.ask_spec.proofs.ClassLemmas.{first_twice}
use Rattle.net_pins.proofs.FoundLemmas.{if_ok_more}
use Rattle.net_pins.proofs.KeptLemmas.{asked_same}
use Rattle.net_pins.proofs.kept.pins_as.Goals as goal

pub begin-requires : goal.begin-requires
begin-requires g c =
    let d = g.S.Shown.design c.args.ground.now.design in
    record {
      notes = c.args.ground.now.notes;
      ground = c.requires.ground;
      kept = c.requires.kept;
      first = subst (λ v. first_of d v ≡ v) (sym c.in_ok-first.ensures) (first_twice d (top_of d) c.requires.ground.top c.requires.ground.valid (at_path c.args.path.now c.args.net));
    }

pub returns : goal.returns
returns g c =
    let d = g.S.Shown.design c.args.ground.now.design in
    let x = at_path c.args.path.now c.args.net in
    let twice = ap (first_of d) c.in_ok-first.ensures ∙ first_twice d (top_of d) c.requires.ground.top c.requires.ground.valid x in
    if_ok_more c.begin.result (λ pins is. is ∙ asked_same c.args.role d (net_of c.in_ok-first.first) x twice) c.begin.ensures
