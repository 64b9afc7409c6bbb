-- Numbers that a file is to have, and its keyword map.
use Rattle.std.specs.Prelude.{◌≡◌, ◌⊎◌, ℤ, List, [], ◌∷◌}
use Rattle.edif_spelling_spec.specs.Tree.{Bare, Placed, integer, bare}
use Rattle.edif_spec.specs.Faults.{place_of}
use Rattle.edif_spec.specs.Means.{IsLevel}
use Rattle.edif_spec.specs.Rows.{IsFormOf}
use Rattle.edif_spec.specs.declared.keyword.Keyword.{Keyword}
use Rattle.edif_spec.specs.declared.keyword.Keyword.TheVariants as keywords
use Rattle.edif_spec.specs.declared.fault.Kind.{Kind}
use Rattle.edif_spec.specs.declared.fault.MeaningFault.{MeaningFault}
use Rattle.edif_spec.specs.declared.fault.MeaningFault.TheVariants.{At}

-- anything but the wanted number
abbrev pub IsOther : ℤ → Kind → Placed → MeaningFault → Type 0
IsOther wanted kind u f = (bare u ≡ integer wanted → ⊥) × (f ≡ At kind (place_of u))

-- a form of a level
abbrev pub IsLevelForm : Keyword → Type 0
IsLevelForm k = (k ≡ keywords.EdifLevel) ⊎ (k ≡ keywords.KeywordLevel)

-- the keyword map, with its level
pub record IsKeywordMap (t : Bare) : Type 0 where
  pub level_part : Bare
  pub inner : List Bare
  pub form : IsFormOf keywords.KeywordMap t (level_part ∷ []) inner
  pub level : IsLevel keywords.KeywordLevel level_part
