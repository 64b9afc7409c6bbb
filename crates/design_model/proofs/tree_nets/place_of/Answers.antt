use Rattle.std.proofs.Common.{sym, ◌∙◌}
use Rattle.flat_spec.specs.Paths.{at_path}
use Rattle.flat_spec.proofs.ListLemmas.{Contains-member}
use Rattle.design_model.proofs.TableLemmas.{net_found, still_listed, not_past}
use Rattle.design_model.proofs.tree_nets.place_of.Goals as goal

pub loop-k-init : goal.loop-k-init
loop-k-init c = Contains-member c.args.nets.now (at_path c.args.path.now c.args.net) c.requires

pub returns-then-is_net_at : goal.returns-then-is_net_at
returns-then-is_net_at c =
    net_found c.args.nets.now c.loop-k.k c.index-nets-k.result (at_path c.args.path.now c.args.net) c.loop-k-test.true c.index-nets-k.is
    (sym c.is_net_at.ensures ∙ c.if-is_net_at.true)

pub loop-k-preserved : goal.loop-k-preserved
loop-k-preserved c =
    still_listed c.args.nets.now c.loop-k.k c.index-nets-k.result (at_path c.args.path.now c.args.net) c.loop-k-test.true c.index-nets-k.is
    (sym c.is_net_at.ensures ∙ c.if-is_net_at.false) c.loop-k.invariant

pub unreachable-requires : goal.unreachable-requires
unreachable-requires c =
    not_past c.args.nets.now c.loop-k.k (at_path c.args.path.now c.args.net) c.loop-k-test.false c.loop-k.invariant
