-- What is read of contents.
use Rattle.std.specs.Prelude.{◌≤◌, ℕ, List, Option, map, length}
use Rattle.std.specs.List.{All, flat_map}
use Rattle.edif_spelling_spec.specs.Tree.{Placed, bare}
use Rattle.netlist_schema.specs.Names.{AreDistinct, HasDistinctKeys}
use Rattle.netlist_schema.specs.Typed.{IsTypedContents}
use Rattle.netlist_schema.specs.declared.limits.TheConstants.{MOST_ENDS, MOST_INSTS, MOST_NETS}
use Rattle.edif_spec.specs.Design as design
use Rattle.edif_spec.specs.Means.{MeansContents}

-- The instances and nets that contents mean, within the limits, with names that differ and each bit joined once.
pub record ReadContents (libs : List design.Lib) (own : Option ℕ) (ports : List design.Port) (t : Placed) (i : design.Contents) : Type 0 where
  pub mean : MeansContents libs own ports (bare t) i
  pub typed : IsTypedContents i
  pub insts : length i.insts ≤ MOST_INSTS
  pub nets : length i.nets ≤ MOST_NETS
  pub ends : length (flat_map (λ (n : design.Net). n.ends) i.nets) ≤ MOST_ENDS
  pub inst_names : AreDistinct (design.inst_ids i.insts)
  pub net_names : AreDistinct (map (λ (n : design.Net). n.name.id) i.nets)
  pub inst_keys : All (λ (x : design.Inst). HasDistinctKeys x.properties) i.insts
  pub net_keys : All (λ (n : design.Net). HasDistinctKeys n.properties) i.nets
  pub joined_once : AreDistinct (flat_map (λ (n : design.Net). n.ends) i.nets)
