-- Whether there is a top where some script walks.
use Rattle.std.proofs.Common.{Bor, ◌≡◌, List}
use Rattle.std.specs.Prelude.{◌↔◌, Option, Some, None, Bool, false, IsTrue}
use Rattle.std.specs.Option.{option_copied}
use Rattle.netlist_schema.specs.Design.{Design}
use Rattle.script_spec.specs.Headline.{CanWalk, SomeWalks}
use Rattle.script_spec.specs.declared.script.Step.{Step}
use Rattle.history_check_spec.specs.Printed.{CannotWalk}

pub has_a_top : (d : Design) (scripts : List (List Step)) → (d.top ≡ None → ⊥) → IsTrue false ↔ CannotWalk d scripts
has_a_top d scripts some = (λ h. absurd (cc h), λ lacks. absurd (some lacks.1))

pub has_no_top : (d : Design) (scripts : List (List Step)) (r : Bool) → d.top ≡ None → IsTrue r ↔ SomeWalks scripts → IsTrue r ↔ CannotWalk d scripts
has_no_top d scripts r none walks = (λ h. (walks.0 h, none), λ lacks. walks.1 lacks.0)

-- a top that is lent is there
pub some_copied : {X : Type 0} (o : Option (Bor X)) (t : Option X) (x : Bor X) → o ≡ Some x → option_copied o ≡ t → t ≡ None → ⊥
some_copied None t x is e none = absurd (cc is)
some_copied (Some y) t x is e none = absurd (cc (e, none))

-- the scripts can walk, where it is not so
pub lacks_none : (d : Design) (scripts : List (List Step)) (r : Bool) → IsTrue r ↔ CannotWalk d scripts → r ≡ false → ¬ CannotWalk d scripts
lacks_none d scripts r iff is lacks = absurd (let holds = iff.1 lacks in cc (holds, is))

pub can_walk : (d : Design) (scripts : List (List Step)) (r : Bool) → IsTrue r ↔ CannotWalk d scripts → r ≡ false → CanWalk d scripts
can_walk d scripts r iff is walks none = lacks_none d scripts r iff is (walks, none)
