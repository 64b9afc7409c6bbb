use Rattle.ungroup_spec.proofs.SoundLemmas.{images_are_connected, representatives_are_carried}
use Rattle.ungroup_spec.proofs.laws.nets_are_carried.Goals as goal

pub returns : goal.returns
returns c = record { connected = images_are_connected; first = representatives_are_carried }
