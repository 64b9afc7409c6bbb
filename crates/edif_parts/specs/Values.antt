-- The forms of values.
use Rattle.std.specs.Prelude.{List, [], ◌∷◌}
use Rattle.edif_spec.specs.Keyword.{Choice, AForm}
use Rattle.edif_spec.specs.declared.keyword.Keyword.TheVariants.{Boolean, Integer, Number, String}

-- a value of one of the four kinds
abbrev pub value_forms : List Choice
value_forms = AForm Boolean ∷ AForm Integer ∷ AForm Number ∷ AForm String ∷ []
