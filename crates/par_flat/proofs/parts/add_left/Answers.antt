use Rattle.std.proofs.Common.{◌≡◌, ◌++◌, ◌∙◌, ℕ, List, Bool, Option, sym, subst}
use Rattle.std.proofs.lemmas.Bool.{false≢true}
use Rattle.flat_spec.specs.Types.{Item}
use Rattle.occ_walk.specs.Left.{left}
use Rattle.flat_lines_spec.specs.Lines.{shown_items}
use Rattle.flat_items.specs.Stand.{stand_of}
use Rattle.par_flat.specs.Parts.{GivesMore}
use Rattle.par_flat.proofs.PartLemmas.{all_given, fewer_left, full_given, more_given}
use Rattle.par_flat.proofs.parts.add_left.Goals as goal

pub returns-then-is_full : goal.returns-then-is_full
returns-then-is_full g c =
    let d = c.args.ground.now in
    let wanted : List Item = c.args.items.now.items ++ shown_items c.args.most (left d (stand_of c.args.place.now)) in
    full_given c.items.room wanted c.items.items.items (left d (stand_of c.items.place)) (c.is_full.ensures.0 c.if-is_full.true) c.items.invariant.given

pub returns-then-not-branch : goal.returns-then-not-branch
returns-then-not-branch g c =
    let d = c.args.ground.now in
    let wanted : List Item = c.args.items.now.items ++ shown_items c.args.most (left d (stand_of c.args.place.now)) in
    let old : List Item = left d (stand_of c.items.place) in
    let new : List Item = left d (stand_of c.add_next.new.place) in
    let given = subst (λ (b : Bool). GivesMore old c.items.items.items new c.add_next.new.items.items b) c.if-not-branch.true c.in_ok-add_next.ensures.given in
    all_given c.items.room wanted c.items.items.items c.add_next.new.items.items old new given c.items.invariant.given

pub items-preserved : goal.items-preserved
items-preserved g c =
    let d = c.args.ground.now in
    let wanted : List Item = c.args.items.now.items ++ shown_items c.args.most (left d (stand_of c.args.place.now)) in
    let old : List Item = left d (stand_of c.items.place) in
    let new : List Item = left d (stand_of c.add_next.new.place) in
    let given = subst (λ (b : Bool). GivesMore old c.items.items.items new c.add_next.new.items.items b) c.if-not-branch.false c.in_ok-add_next.ensures.given in
    record {
      stands = c.in_ok-add_next.ensures.stands;
      given =
          subst (λ (r : Option ℕ). c.add_next.new.items.items ++ shown_items r new ≡ wanted) (sym c.one_less-room.ensures)
          (more_given c.items.room wanted c.items.items.items c.add_next.new.items.items old new (λ is. false≢true (sym c.if-is_full.false ∙ c.is_full.ensures.1 is)) given
          c.items.invariant.given);
    }

pub items-smaller : goal.items-smaller
items-smaller g c =
    let d = c.args.ground.now in
    let old : List Item = left d (stand_of c.items.place) in
    let new : List Item = left d (stand_of c.add_next.new.place) in
    let given = subst (λ (b : Bool). GivesMore old c.items.items.items new c.add_next.new.items.items b) c.if-not-branch.false c.in_ok-add_next.ensures.given in
    fewer_left c.items.items.items c.add_next.new.items.items old new given
