-- Which form stands at a node, and how it fits its row and its place.
use Rattle.std.specs.Prelude.{◌≡◌, ◌⊎◌, ◌&&◌, Bool, true, false, Option, Some, None, take}
use Rattle.edif_spelling_spec.specs.Tree.{Bare, Placed, Form', bare}
use Rattle.edif_spec.specs.Keyword.{row, FormRow}
use Rattle.edif_spec.specs.Rows.{has_keyword}
use Rattle.edif_spec.specs.Faults.{arguments, followers, fixed_count, row_has, misplaced, place_of, RowFault}
use Rattle.edif_spec.specs.Stands.{file_row}
use Rattle.edif_spec.specs.declared.keyword.Keyword.{Keyword}
use Rattle.edif_spec.specs.declared.fault.Kind.TheVariants.{BadForm, BadVersion, BadLevel}
use Rattle.edif_spec.specs.declared.fault.MeaningFault.{MeaningFault}
use Rattle.edif_spec.specs.declared.fault.MeaningFault.TheVariants.{NotInProfile, At, Clash}
use Rattle.edif_tree.specs.Handles.{all}
use Rattle.edif_grammar.specs.declared.lent.Form.{Form}
use Rattle.edif_grammar.specs.declared.lent.Breach.{Breach}
use Rattle.edif_grammar.specs.declared.lent.Breach.TheVariants as breaches

-- the row that holds a form: that of its parent, or that of a whole file
abbrev pub row_above : Option Keyword → FormRow
row_above None = file_row
row_above (Some k) = row k

-- a breach that has a kind of its own: another version or level, a second view or design
abbrev pub HasOwnKind : MeaningFault → Type 0
HasOwnKind (At BadVersion p) = Unit {0}
HasOwnKind (At BadLevel p) = Unit {0}
HasOwnKind (Clash kind p q) = Unit {0}
HasOwnKind _ = ⊥

-- The form has this keyword, the row above has such a form, and each breach of its own row has a kind of its own.
pub record Fits (parent : Option Keyword) (k : Keyword) (t : Placed) : Type 0 where
  pub keyword : has_keyword k (bare t) ≡ true
  pub allowed : row_has (row_above parent) (bare t) ≡ true
  pub breaches : (f : MeaningFault) → RowFault k t f → HasOwnKind f

-- the same, whatever row is above
pub record FitsOwn (k : Keyword) (t : Placed) : Type 0 where
  pub keyword : has_keyword k (bare t) ≡ true
  pub breaches : (f : MeaningFault) → RowFault k t f → HasOwnKind f

-- The form of this keyword fits its own row, and these are its parts: its place, its fixed arguments, and what follows them.
pub record ArePartsOf (k : Keyword) (t : Placed) (p : Form) : Type 0 where
  pub keyword : p.keyword ≡ k
  pub fits : FitsOwn k t
  pub place : p.place ≡ place_of t
  pub fixed : all p.fixed ≡ take (fixed_count (row k)) (arguments t)
  pub inner : all p.inner ≡ followers k t

-- The form fits, and these are its parts.
pub record HasParts (parent : Option Keyword) (t : Placed) (p : Form) : Type 0 where
  pub fits : Fits parent p.keyword t
  pub place : p.place ≡ place_of t
  pub fixed : all p.fixed ≡ take (fixed_count (row p.keyword)) (arguments t)
  pub inner : all p.inner ≡ followers p.keyword t

-- a form, and no token
abbrev pub is_form : Bare → Bool
is_form (Form' p ts) = true
is_form _ = false

-- the row has such a form somewhere
abbrev pub has_form : FormRow → Bare → Bool
has_form r t = is_form t && row_has r t

-- What is wrong with a form: it is a token, or the row above has no such form; or the row above has it, and it breaches its own row.
abbrev pub Fails : Option Keyword → Placed → MeaningFault → Type 0
Fails parent t f = ((has_form (row_above parent) (bare t) ≡ false) × (f ≡ misplaced BadForm (row_above parent) t))
    ⊎ ((k : Keyword) × (has_keyword k (bare t) ≡ true) × RowFault k t f × (row_has (row_above parent) (bare t) ≡ true))

-- a breach as a fault of meaning
abbrev pub fault_of : Breach → MeaningFault
fault_of (breaches.NotInProfile keyword place) = NotInProfile keyword.now place
fault_of (breaches.BadForm place) = At BadForm place
