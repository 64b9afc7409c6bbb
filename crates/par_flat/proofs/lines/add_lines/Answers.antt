use Rattle.std.proofs.Common.{List, Bool, subst, arith}
use Rattle.flat_spec.specs.Types.{Item}
use Rattle.occ_walk.specs.Left.{left}
use Rattle.flat_items.specs.Stand.{stand_of}
use Rattle.par_flat.specs.Lines.{GivesLine}
use Rattle.par_flat.proofs.LineLemmas.{all_made, full_made, none_left, none_made, one_made}
use Rattle.par_flat.proofs.lines.add_lines.Goals as goal

pub returns-then-not-branch-clause-part : goal.returns-then-not-branch-clause-part
returns-then-not-branch-clause-part g c =
    let d = c.args.ground.now in
    let all : List Item = left d (stand_of c.args.place.now) in
    let old : List Item = left d (stand_of c.lines.place) in
    let new : List Item = left d (stand_of c.add_line.new.place) in
    let given = subst (λ (b : Bool). GivesLine d old c.lines.text.items new c.add_line.new.text.items b) c.if-not-branch.true c.in_ok-add_line.ensures.given in
    all_made d all c.args.most c.lines.count c.lines.text.items c.add_line.new.text.items old new c.lines.invariant.made given

pub returns-then-not-branch-clause-left : goal.returns-then-not-branch-clause-left
returns-then-not-branch-clause-left g c =
    let d = c.args.ground.now in
    let all : List Item = left d (stand_of c.args.place.now) in
    let old : List Item = left d (stand_of c.lines.place) in
    let new : List Item = left d (stand_of c.add_line.new.place) in
    let given = subst (λ (b : Bool). GivesLine d old c.lines.text.items new c.add_line.new.text.items b) c.if-not-branch.true c.in_ok-add_line.ensures.given in
    none_left d all c.args.most c.lines.count c.lines.text.items c.add_line.new.text.items old new c.lines.invariant.made given

pub lines-init : goal.lines-init
lines-init g c =
    let d = c.args.ground.now in
    record {
      stands = c.requires.stands;
      made = none_made d (left d (stand_of c.args.place.now)) c.args.most c.args.text.now.items c.requires.empty;
    }

pub lines-preserved : goal.lines-preserved
lines-preserved g c =
    let d = c.args.ground.now in
    let all : List Item = left d (stand_of c.args.place.now) in
    let old : List Item = left d (stand_of c.lines.place) in
    let new : List Item = left d (stand_of c.add_line.new.place) in
    let given = subst (λ (b : Bool). GivesLine d old c.lines.text.items new c.add_line.new.text.items b) c.if-not-branch.false c.in_ok-add_line.ensures.given in
    record {
      stands = c.in_ok-add_line.ensures.stands;
      made = one_made d all c.args.most c.lines.count c.lines.text.items c.add_line.new.text.items old new c.lines.invariant.made c.lines-test.true
          (let short = c.if-len-most.true in let long = c.len.ensures in let ok = c.lines.text.ok in omega (arith, short, long)) given;
    }

pub returns-after-lines-clause-part : goal.returns-after-lines-clause-part
returns-after-lines-clause-part g c =
    let d = c.args.ground.now in
    full_made d (left d (stand_of c.args.place.now)) c.args.most c.lines.count c.lines.text.items (left d (stand_of c.lines.place)) c.lines.invariant.made
    (λ few short. let none = c.lines-test.false in omega (arith, none, few))

pub returns-else-len-most-clause-part : goal.returns-else-len-most-clause-part
returns-else-len-most-clause-part g c =
    let d = c.args.ground.now in
    full_made d (left d (stand_of c.args.place.now)) c.args.most c.lines.count c.lines.text.items (left d (stand_of c.lines.place)) c.lines.invariant.made
    (λ few short. let none = c.if-len-most.false in let long = c.len.ensures in omega (arith, none, long, short))
