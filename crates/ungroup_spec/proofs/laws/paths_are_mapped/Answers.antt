use Rattle.ungroup_spec.proofs.MapLemmas.{each_is_an_image, images_differ, the_rest_is_gone}
use Rattle.ungroup_spec.proofs.laws.paths_are_mapped.Goals as goal

pub returns : goal.returns
returns c = record { differ = images_differ; onto = each_is_an_image; gone = the_rest_is_gone }
