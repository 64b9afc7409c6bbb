-- An instance, from its parts.
use Rattle.std.proofs.Common.{◌≡◌, ◌≤◌, ℕ, List, [], ◌∷◌, length, map, refl, inl, inr, Option, Some}
use Rattle.std.specs.Prelude.{slice_get}
use Rattle.edif_spelling_spec.specs.Tree.{Placed, bare}
use Rattle.netlist_schema.specs.Typed.{IsTypedName}
use Rattle.edif_spec.specs.Design as design
use Rattle.edif_spec.specs.Keyword.{Follower, Many, One, name_definition, the}
use Rattle.edif_spec.specs.Rows.{IsFormOf}
use Rattle.edif_spec.specs.Faults.{arguments, followers, name_of, those_of}
use Rattle.edif_spec.specs.Means.{MeansName, MeansViewRef}
use Rattle.edif_spec.specs.Stands.{InstFault}
use Rattle.edif_spec.specs.Stands as stands
use Rattle.edif_spec.specs.declared.fault.MeaningFault.{MeaningFault}
use Rattle.edif_spec.specs.declared.keyword.Keyword.TheVariants as keywords
use Rattle.edif_spec.proofs.FaultsApart.{defined_first}
use Rattle.edif_grammar.specs.Forms.{ArePartsOf}
use Rattle.edif_grammar.specs.declared.lent.Form.{Form}
use Rattle.edif_grammar.proofs.FormLemmas.{once_fits}
use Rattle.edif_parts.proofs.PartLemmas.{TwoNodes, two_nodes}
use Rattle.edif_contents.specs.Inners.{DetailsFault, ReadInst, ReadDetails}
use Rattle.edif_contents.specs.declared.insts.InstDetails.{InstDetails}

abbrev follows : List Follower
follows = One keywords.Designator ∷ Many keywords.Property ∷ Many keywords.Comment ∷ Many keywords.UserData ∷ []

pub inst_nodes : (t : Placed) (p : Form) → ArePartsOf keywords.Instance t p → TwoNodes keywords.Instance name_definition (the keywords.ViewRef) t p
inst_nodes t p a = two_nodes keywords.Instance name_definition (the keywords.ViewRef) follows t p refl refl refl a

pub one_designator : (t : Placed) (p : Form) → ArePartsOf keywords.Instance t p → length (those_of keywords.Designator (followers keywords.Instance t)) ≤ 1
one_designator t p a = once_fits keywords.Instance keywords.Designator (name_definition ∷ the keywords.ViewRef ∷ []) follows t refl (inl refl) refl a.fits

-- what is wrong with what an instance says
pub details_fail : (libs : List design.Lib) (own : Option ℕ) (t : Placed) (f : MeaningFault) → DetailsFault (followers keywords.Instance t) f → InstFault libs own t f
details_fail libs own t f (inl b) = stands.inst_designator b
details_fail libs own t f (inr b) = stands.inst_properties b

pub inst_read : (libs : List design.Lib) (own : Option ℕ) (t u v : Placed) (name : design.Name) (place : ℕ) (id : design.CellId) (s : InstDetails) → IsFormOf keywords.Instance (bare t) (bare u ∷ bare v ∷ []) (map bare (followers keywords.Instance t)) → slice_get (arguments t) 0 ≡ Some u
    → MeansName (bare u) name × IsTypedName name × (name_of u ≡ Some (name.id, place)) → MeansViewRef libs own (bare v) id → ReadDetails (followers keywords.Instance t) s
    → ReadInst libs own t (record { inst = record { name = name; of = id; designator = s.designator; properties = s.properties }; place = place })
inst_read libs own t u v name place id s f a n w r = record {
  mean = record { name_part = bare u; view_part = bare v; inner = map bare (followers keywords.Instance t); form = f; name = n.0; of = w; designator = r.designator.0; properties = r.properties.0 };
  typed = record { name = n.1; designator = r.designator.1; properties = r.properties.1 };
  keys = r.properties.2;
  named = defined_first t u (name.id, place) a n.2;
}
