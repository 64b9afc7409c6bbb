-- Places by names.
use Rattle.std.specs.Prelude.{ℕ, cond, List, Option, Some, None}
use Rattle.std.specs.Option.{option_or}
use Rattle.edit_rules_spec.specs.Find.{is_name}

-- with one more name, which is found where no equal name was there
abbrev pub place_added : ℕ → List ℕ → (List ℕ → Option ℕ) → List ℕ → Option ℕ
place_added place name before q = option_or (before q) (cond (is_name name q) (Some place) None)
