-- What a rule must be to be an operation: it sees of a design what it needs and no more, and keeps a valid design valid.
use Rattle.std.specs.Prelude.{◌≡◌, ◌⊎◌, [], None}
use Rattle.netlist_schema.specs.Design.{Design}
use Rattle.netlist_schema.specs.Types.{Object}
use Rattle.netlist_schema.specs.Valid.{IsValid}
use Rattle.edit_rules_spec.specs.Edit.{edited, IsChanged, IsMade, AllGoLast, AllFindOld, AllPlaceOld}
use Rattle.edit_rules_spec.specs.Objects.{AgreesOn, AreSameObjects, Grown, IsClosed}
use Rattle.edit_rules_spec.specs.Rule.{Rule, first, IsRefusal}

-- `typed` is what holds of the operation by the types of its fields
pub record IsLocal (rule : Design → Rule) (needs : Design → Object → Type 0) (typed : Type 0) : Type 0 where
  -- two designs that agree on what is needed have one rule and the same needs
  pub same : (d e : Design) → IsClosed d → Grown d e → AgreesOn d e (needs d) → rule d ≡ rule e
  pub needs_same : (d e : Design) → Grown d e → AgreesOn d e (needs d) → AreSameObjects (needs d) (needs e)
  -- what is written is needed, or a new cell has it
  pub writes_seen : (d : Design) (o : Object) → IsChanged (rule d).edits o → needs d o ⊎ IsMade (rule d).edits o
  -- new cells go last
  pub last : (d : Design) → AllGoLast d (rule d).edits
  -- what is changed is there
  pub finds : (d : Design) → AllFindOld d (rule d).edits
  -- what is placed is there
  pub places : (d : Design) → IsClosed d → AllPlaceOld d (rule d).edits
  -- what is done keeps a valid design valid
  pub valid : (d : Design) → typed → IsValid d → first (rule d).refusals ≡ None → IsValid (edited d (rule d).edits)
  -- what is changed is not refused by the reply
  pub refuses : (d : Design) → ((rule d).edits ≡ []) ⊎ (¬ IsRefusal (rule d).reply)
