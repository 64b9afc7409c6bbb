use Rattle.std.proofs.Common.{◌≡◌, ℕ, ◌++◌, sym, subst, append-nil, arith}
use Rattle.std.proofs.Math.Numerals.{add-one}
use Rattle.edif_tree.specs.Handles.{all}
use Rattle.edif_nets.specs.Joins.{places_of}
use Rattle.edif_nets.proofs.JoinLemmas.{net_row, places_more, rows_below}
use Rattle.edif_nets.proofs.joins.row_places.Goals as goal

pub loop-init : goal.loop-init
loop-init c = sym (append-nil c.args.places.now.items)

pub loop-preserved : goal.loop-preserved
loop-preserved c = rw (add-one c.loop.counter) (places_more c.loop.counter c.args.size (all c.args.nodes) c.args.places.now.items c.loop.places.items c.net_places.new.places.items c.loop.invariant c.in_ok-net_places.ensures)

pub returns : goal.returns
returns c =
    let q : c.loop.counter ≡ c.args.size = omega arith in
    let P : ℕ → Type 0 = λ v. c.loop.places.items ≡ c.args.places.now.items ++ places_of (rows_below (λ k. net_row k c.args.size (all c.args.nodes)) v) in
    subst P q c.loop.invariant
