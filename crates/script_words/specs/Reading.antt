-- What it is to read words.
use Rattle.std.specs.Prelude.{◌≡◌, ℕ, ◌<◌, ◌^◌, true, List, [], ◌∷◌, ◌++◌, Option, Result, map, MatchResult, MatchOption}
use Rattle.std.specs.Borrow.{Bor}
use Rattle.std.specs.Str.Parse.{IsNumeral, digits_value}
use Rattle.edif_spelling_spec.specs.Bytes.{is_unquoted}
use Rattle.script_words.specs.declared.unread.Unread.{Unread}
use Rattle.script_words.specs.declared.unread.Unread.TheVariants.{Bad}

-- what references point to
abbrev pub lent : List (Bor (List ℕ)) → List (List ℕ)
lent references = map (λ reference. reference.now) references

-- a value that is spelled was read, or none is spelled
abbrev pub Reads : {V : Type 0} → (V → Type 0) → Result V Unread → Type 0
Reads {V} Spells result = MatchResult result Spells (λ e. e ≡ Bad → (v : V) → ¬ Spells v)

-- digits of a number within 64 bits, or not
abbrev pub IsNumberOf : List ℕ → Option ℕ → Type 0
IsNumberOf word found = MatchOption found (¬ (IsNumeral 10 word × (digits_value 10 word < 2 ^ 64))) (λ n. IsNumeral 10 word × (n ≡ digits_value 10 word))

-- what stands between two quotes, and has none
abbrev pub IsBetween : List ℕ → List ℕ → Type 0
IsBetween word body = (word ≡ 34 ∷ (body ++ 34 ∷ [])) × (is_unquoted body ≡ true)

-- found where there is such a body, or there is none
abbrev pub IsBodyOf : List ℕ → Option (Bor (List ℕ)) → Type 0
IsBodyOf word found = MatchOption found ((body : List ℕ) → ¬ IsBetween word body) (λ body. IsBetween word body.now)
