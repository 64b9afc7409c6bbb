use Rattle.std.specs.List.{flat_map}
use Rattle.flat_spec.specs.PathOrder.{NetBefore}
use Rattle.flat_spec.proofs.ListLemmas.{Ascends-pairs, Contains-member}
use Rattle.erc_spec.specs.Findings.{findings}
use Rattle.erc_spec.specs.Told.{told_net}
use Rattle.erc_spec.proofs.ToldLemmas.{told_in_order, told_is_first}
use Rattle.erc_spec.proofs.laws.told_nets_are_there.Goals as goal

pub returns : goal.returns
returns c = record {
  there = λ d top x valid is m. told_is_first d top valid is x (Contains-member (flat_map told_net (findings d)) x m);
  in_order = λ d top valid is. Ascends-pairs NetBefore (flat_map told_net (findings d)) (told_in_order d top valid is);
}
