-- What a property means.
use Rattle.std.proofs.Common.{◌≤◌, List, [], ◌∷◌, map, length, refl, inl}
use Rattle.edif_spelling_spec.specs.Tree.{Placed, bare}
use Rattle.netlist_schema.specs.Types.{Property}
use Rattle.edif_spec.specs.Keyword.{Follower, Many, One, name_definition}
use Rattle.edif_spec.specs.Means.{MeansName, MeansValue, MeansText, MeansProperty}
use Rattle.edif_spec.specs.Rows.{IsFormOf, Perhaps, those}
use Rattle.edif_spec.specs.Faults.{followers, those_of}
use Rattle.edif_spec.specs.declared.keyword.Keyword.TheVariants as keywords
use Rattle.edif_grammar.specs.Forms.{ArePartsOf}
use Rattle.edif_parts.specs.Values.{value_forms}
use Rattle.edif_grammar.specs.declared.lent.Form.{Form}
use Rattle.edif_grammar.proofs.FormLemmas.{once_fits}
use Rattle.edif_parts.proofs.PartLemmas.{TwoNodes, two_nodes}

-- what may follow in a property
abbrev pub property_followers : List Follower
property_followers = One keywords.Owner ∷ Many keywords.Comment ∷ []

pub property_nodes : (t : Placed) (p : Form) → ArePartsOf keywords.Property t p → TwoNodes keywords.Property name_definition value_forms t p
property_nodes t p a = two_nodes keywords.Property name_definition value_forms property_followers t p refl refl refl a

pub one_owner : (t : Placed) (p : Form) → ArePartsOf keywords.Property t p → length (those_of keywords.Owner (followers keywords.Property t)) ≤ 1
one_owner t p a = once_fits keywords.Property keywords.Owner (name_definition ∷ value_forms ∷ []) property_followers t refl (inl refl) refl a.fits

pub property_means : (t u v : Placed) (x : Property) → IsFormOf keywords.Property (bare t) (bare u ∷ bare v ∷ []) (map bare (followers keywords.Property t)) → MeansName (bare u) x.key → MeansValue (bare v) x.value
    → Perhaps (MeansText keywords.Owner) (those keywords.Owner (map bare (followers keywords.Property t))) x.owner → MeansProperty (bare t) x
property_means t u v x f k y o = record { key_part = bare u; value_part = bare v; inner = map bare (followers keywords.Property t); form = f; key = k; value = y; owner = o }
