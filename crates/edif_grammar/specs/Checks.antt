-- What the checks of a row find.
use Rattle.std.specs.Prelude.{◌≡◌, ◌≤◌, ◌⊎◌, ℕ, List, length, true, false, Some, slice_get}
use Rattle.edif_spelling_spec.specs.Tree.{Placed, bare}
use Rattle.edif_spec.specs.Keyword.{FormRow, Choice, Follower, Many, One}
use Rattle.edif_spec.specs.Rows.{is_one_of}
use Rattle.edif_spec.specs.Faults.{those_of, misplaced}
use Rattle.edif_spec.specs.declared.fault.Kind.{Kind}
use Rattle.edif_grammar.specs.Forms.{HasOwnKind}
use Rattle.edif_grammar.specs.Rules.{is_plain}

-- a fixed argument is one of its choices, or what is wrong with it has a kind of its own
abbrev pub ArgumentFits : Kind → FormRow → List Choice → Placed → Type 0
ArgumentFits kind r cs t = (is_one_of cs (bare t) ≡ true) ⊎ HasOwnKind (misplaced kind r t)

-- each argument in the place of a fixed one fits
abbrev pub FixedFits : Kind → FormRow → List (List Choice) → List Placed → Type 0
FixedFits kind r cs ts = (j : ℕ) (c : List Choice) (t : Placed) → slice_get cs j ≡ Some c → slice_get ts j ≡ Some t → ArgumentFits kind r c t

-- one of which one is allowed stands once at most, if a second is a bad form
abbrev pub OnceFits : Follower → List Placed → Type 0
OnceFits (Many k) ts = Unit {0}
OnceFits (One k) ts = (is_plain k ≡ false) ⊎ (length (those_of k ts) ≤ 1)
