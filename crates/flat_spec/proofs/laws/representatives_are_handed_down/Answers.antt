use Rattle.flat_spec.proofs.HandedDownLemmas.{first_inside, representative-handed, representative-untouched}
use Rattle.flat_spec.proofs.laws.representatives_are_handed_down.Goals as goal

pub returns : goal.returns
returns c = record {
  handed = λ d root o m n acyclic is handed. representative-handed d root o is m n acyclic handed;
  inside = λ d root o n first acyclic is net none local. representative-untouched d root o is n first acyclic net none local;
  there = first_inside;
}
