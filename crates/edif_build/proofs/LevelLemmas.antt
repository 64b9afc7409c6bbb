-- Levels, the version and the keyword map, from their parts.
use Rattle.std.proofs.Common.{◌≡◌, ℤ, pos, List, [], ◌∷◌, map, length, refl, ap, sym, ◌∙◌, subst, ◌⊎◌, inl, inr, true, Some}
use Rattle.std.specs.Prelude.{slice_get}
use Rattle.edif_spelling_spec.specs.Tree.{Bare, Placed, integer, bare}
use Rattle.edif_spec.specs.Keyword.{row, Takes}
use Rattle.edif_spec.specs.Keyword as keyword
use Rattle.edif_spec.specs.Rows.{is_one_of, IsFormOf}
use Rattle.edif_spec.specs.Means.{IsLevel}
use Rattle.edif_spec.specs.Faults.{place_of, followers, token_kind, RowFault}
use Rattle.edif_spec.specs.Stands.{ValueFault, LevelFault, VersionFault}
use Rattle.edif_spec.specs.Stands as stands
use Rattle.edif_spec.specs.declared.keyword.Keyword.{Keyword}
use Rattle.edif_spec.specs.declared.keyword.Keyword.TheVariants as keywords
use Rattle.edif_spec.specs.declared.fault.Kind.{Kind}
use Rattle.edif_spec.specs.declared.fault.Kind.TheVariants.{BadLevel, BadVersion}
use Rattle.edif_spec.specs.declared.fault.MeaningFault.{MeaningFault}
use Rattle.edif_spec.specs.declared.fault.MeaningFault.TheVariants.{At}
use Rattle.edif_spec.proofs.KnownForms.{integer_choice}
use Rattle.edif_spec.proofs.KnownRows.{follow_none}
use Rattle.edif_tree.specs.Handles.{all}
use Rattle.edif_grammar.specs.Forms.{ArePartsOf}
use Rattle.edif_build.specs.Levels.{IsOther, IsLevelForm}
use Rattle.edif_grammar.specs.declared.lent.Form.{Form}
use Rattle.edif_grammar.proofs.FormLemmas.{IntegerOr, LevelFits, VersionFits, level_fits, version_fits}
use Rattle.edif_parts.proofs.PartLemmas.{same_at}

-- another number is a fault of its kind, and so is anything else
pub number_fault : (k : Keyword) (t a : Placed) (wanted : ℤ) (kind : Kind) (f : MeaningFault) → token_kind k ≡ kind → IntegerOr k t a → IsOther wanted kind a f → RowFault k t f ⊎ ValueFault wanted kind a f
number_fault k t a wanted kind f e (inr b) o = let P : MeaningFault → Type 0 = λ v. RowFault k t v in inl (subst P (ap (λ v. At v (place_of a)) e ∙ sym o.1) b)
number_fault k t a wanted kind f e (inl i) o =
    let c = integer_choice a i in
    inr (c.1, c.0, c.2, (λ z. o.0 (ap bare c.2 ∙ ap integer z)), o.1 ∙ ap (λ v. At kind (place_of v)) c.2)

is_integer : (a : Placed) (z : ℤ) → bare a ≡ integer z → is_one_of keyword.integer (bare a) ≡ true
is_integer a z e = ap (is_one_of keyword.integer) e

-- a level
pub level_row : (k : Keyword) → IsLevelForm k → row k ≡ Takes (keyword.integer ∷ []) []
level_row k (inl e) = ap row e
level_row k (inr e) = ap row e

pub level_kind : (k : Keyword) → IsLevelForm k → token_kind k ≡ BadLevel
level_kind k (inl e) = ap token_kind e
level_kind k (inr e) = ap token_kind e

level_means : (k : Keyword) (t : Placed) (x : LevelFits k t) → IsLevelForm k → bare x.a ≡ integer (pos 0) → IsLevel k (bare t)
level_means k t x l e =
    let f : IsFormOf k (bare t) (bare x.a ∷ []) [] = follow_none k (keyword.integer ∷ []) (bare t) (bare x.a ∷ []) (map bare (followers k t)) (level_row k l) (x.form (is_integer x.a (pos 0) e)) in
    let P : Bare → Type 0 = λ v. IsFormOf k (bare t) (v ∷ []) [] in
    subst P e f

level_fails : (k : Keyword) (t : Placed) (x : LevelFits k t) (f : MeaningFault) → IsLevelForm k → IsOther (pos 0) BadLevel x.a f → LevelFault k t f
level_fails k t x f l o = elim (number_fault k t x.a (pos 0) BadLevel f (level_kind k l) x.or_a o) [ inl b ↦ stands.level_row b | inr b ↦ stands.other_level (x.a, x.at_a, b) ]

-- the one node of a level: it is to hold the number 0
pub record LevelNode (k : Keyword) (t : Placed) (p : Form) : Type 0 where
  pub count : length (all p.fixed) ≡ 1
  pub means : (u : Placed) → slice_get (all p.fixed) 0 ≡ Some u → bare u ≡ integer (pos 0) → IsLevel k (bare t)
  pub fails : (u : Placed) (f : MeaningFault) → slice_get (all p.fixed) 0 ≡ Some u → IsOther (pos 0) BadLevel u f → LevelFault k t f

pub level_node : (k : Keyword) (t : Placed) (p : Form) → IsLevelForm k → ArePartsOf k t p → LevelNode k t p
level_node k t p l h =
    let x = level_fits k t (level_row k l) h.fits in
    let e : all p.fixed ≡ x.a ∷ [] = h.fixed ∙ x.fixed in
    let same : (u : Placed) → slice_get (all p.fixed) 0 ≡ Some u → x.a ≡ u = λ u g. same_at (all p.fixed) (x.a ∷ []) 0 x.a u e refl g in
    record {
      count = ap length e;
      means = λ u g z. level_means k t x l (ap bare (same u g) ∙ z);
      fails = λ u f g o. (let P : Placed → Type 0 = λ v. IsOther (pos 0) BadLevel v f in level_fails k t x f l (subst P (sym (same u g)) o));
    }

-- the version
version_means : (t : Placed) (x : VersionFits t) → bare x.a ≡ integer (pos 2) → bare x.b ≡ integer (pos 0) → bare x.x ≡ integer (pos 0) → IsFormOf keywords.EdifVersion (bare t) (integer (pos 2) ∷ integer (pos 0) ∷ integer (pos 0) ∷ []) []
version_means t x e g h =
    let f = x.form (is_integer x.a (pos 2) e) (is_integer x.b (pos 0) g) (is_integer x.x (pos 0) h) in
    let w : IsFormOf keywords.EdifVersion (bare t) (bare x.a ∷ bare x.b ∷ bare x.x ∷ []) [] =
    follow_none keywords.EdifVersion (keyword.integer ∷ keyword.integer ∷ keyword.integer ∷ []) (bare t) (bare x.a ∷ bare x.b ∷ bare x.x ∷ []) (map bare (followers keywords.EdifVersion t)) refl f in
    let P : List Bare → Type 0 = λ v. IsFormOf keywords.EdifVersion (bare t) v [] in
    subst P (λ i. e i ∷ g i ∷ h i ∷ []) w

version_a : (t : Placed) (x : VersionFits t) (f : MeaningFault) → IsOther (pos 2) BadVersion x.a f → VersionFault t f
version_a t x f o = elim (number_fault keywords.EdifVersion t x.a (pos 2) BadVersion f refl x.or_a o) [ inl b ↦ stands.version_row b | inr b ↦ stands.first_number (x.a, x.at_a, b) ]

version_b : (t : Placed) (x : VersionFits t) (f : MeaningFault) → IsOther (pos 0) BadVersion x.b f → VersionFault t f
version_b t x f o = elim (number_fault keywords.EdifVersion t x.b (pos 0) BadVersion f refl x.or_b o) [ inl b ↦ stands.version_row b | inr b ↦ stands.second_number (x.b, x.at_b, b) ]

version_x : (t : Placed) (x : VersionFits t) (f : MeaningFault) → IsOther (pos 0) BadVersion x.x f → VersionFault t f
version_x t x f o = elim (number_fault keywords.EdifVersion t x.x (pos 0) BadVersion f refl x.or_x o) [ inl b ↦ stands.version_row b | inr b ↦ stands.third_number (x.x, x.at_x, b) ]

-- the three nodes of the version: they are to hold 2, 0 and 0
pub record VersionNodes (t : Placed) (p : Form) : Type 0 where
  pub count : length (all p.fixed) ≡ 3
  pub means : (u v w : Placed) → slice_get (all p.fixed) 0 ≡ Some u → slice_get (all p.fixed) 1 ≡ Some v → slice_get (all p.fixed) 2 ≡ Some w → bare u ≡ integer (pos 2) → bare v ≡ integer (pos 0) → bare w ≡ integer (pos 0)
      → IsFormOf keywords.EdifVersion (bare t) (integer (pos 2) ∷ integer (pos 0) ∷ integer (pos 0) ∷ []) []
  pub first : (u : Placed) (f : MeaningFault) → slice_get (all p.fixed) 0 ≡ Some u → IsOther (pos 2) BadVersion u f → VersionFault t f
  pub second : (u : Placed) (f : MeaningFault) → slice_get (all p.fixed) 1 ≡ Some u → IsOther (pos 0) BadVersion u f → VersionFault t f
  pub third : (u : Placed) (f : MeaningFault) → slice_get (all p.fixed) 2 ≡ Some u → IsOther (pos 0) BadVersion u f → VersionFault t f

pub version_nodes : (t : Placed) (p : Form) → ArePartsOf keywords.EdifVersion t p → VersionNodes t p
version_nodes t p h =
    let x = version_fits t h.fits in
    let us : List Placed = x.a ∷ x.b ∷ x.x ∷ [] in
    let e : all p.fixed ≡ us = h.fixed ∙ x.fixed in
    let is_a : (u : Placed) → slice_get (all p.fixed) 0 ≡ Some u → x.a ≡ u = λ u g. same_at (all p.fixed) us 0 x.a u e refl g in
    let is_b : (u : Placed) → slice_get (all p.fixed) 1 ≡ Some u → x.b ≡ u = λ u g. same_at (all p.fixed) us 1 x.b u e refl g in
    let is_x : (u : Placed) → slice_get (all p.fixed) 2 ≡ Some u → x.x ≡ u = λ u g. same_at (all p.fixed) us 2 x.x u e refl g in
    record {
      count = ap length e;
      means = λ u v w g h i y z q. version_means t x (ap bare (is_a u g) ∙ y) (ap bare (is_b v h) ∙ z) (ap bare (is_x w i) ∙ q);
      first = λ u f g o. (let P : Placed → Type 0 = λ v. IsOther (pos 2) BadVersion v f in version_a t x f (subst P (sym (is_a u g)) o));
      second = λ u f g o. (let P : Placed → Type 0 = λ v. IsOther (pos 0) BadVersion v f in version_b t x f (subst P (sym (is_b u g)) o));
      third = λ u f g o. (let P : Placed → Type 0 = λ v. IsOther (pos 0) BadVersion v f in version_x t x f (subst P (sym (is_x u g)) o));
    }
