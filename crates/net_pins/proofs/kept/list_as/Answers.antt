use Rattle.std.proofs.Common.{◌≡◌, ◌∙◌, ap, subst, sym}
use Rattle.flat_spec.specs.Paths.{at_path}
use Rattle.flat_items.specs.Stand.{top_of}
use Rattle.ask_spec.specs.Nets.{first_of}
use Rattle.ask_spec.specs.Roles.{pins_as}
use Rattle.ask_spec.proofs.ClassLemmas.{first_twice}
use Rattle.net_pins.proofs.FoundLemmas.{if_ok_more}
use Rattle.net_pins.proofs.KeptLemmas.{asked_same}
use Rattle.net_pins.proofs.kept.list_as.Goals as goal

pub first_made-requires-clause-ground : goal.first_made-requires-clause-ground
first_made-requires-clause-ground g c = rw c.get.ensures c.requires.ground

pub first_made-requires-clause-ways : goal.first_made-requires-clause-ways
first_made-requires-clause-ways g c = rw c.get.ensures c.requires.ways

pub begin_listing-requires : goal.begin_listing-requires
begin_listing-requires g c =
    let d = g.S.Shown.design c.args.ground.now.design in
    let x = at_path c.args.path.now c.args.net in
    let named : c.in_ok-first.first ≡ first_of d x = rw c.get.ensures at c.in_ok-first.ensures in
    rw (c.in_ok-ground.ensures, c.in_ok-kept.ensures) (record {
      notes = c.args.ground.now.notes;
      ground = c.requires.ground;
      kept = c.requires.kept;
      first = subst (λ v. first_of d v ≡ v) (sym named) (first_twice d (top_of d) c.requires.ground.top c.requires.ground.valid x);
    })

pub returns : goal.returns
returns g c =
    let d = g.S.Shown.design c.args.ground.now.design in
    let x = at_path c.args.path.now c.args.net in
    let named : c.in_ok-first.first ≡ first_of d x = rw c.get.ensures at c.in_ok-first.ensures in
    let twice : first_of d c.in_ok-first.first ≡ first_of d x = ap (first_of d) named ∙ first_twice d (top_of d) c.requires.ground.top c.requires.ground.valid x in
    let same : pins_as c.args.role (g.S.Shown.design c.in_ok-ground.ground.design) c.in_ok-first.first ≡ pins_as c.args.role d x =
    rw c.in_ok-ground.ensures (asked_same c.args.role d c.in_ok-first.first x twice) in
    if_ok_more c.begin_listing.result (λ pins is. is ∙ same) c.begin_listing.ensures
