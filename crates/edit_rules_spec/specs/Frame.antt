-- What a rule does to two designs that agree on what it needs.
use Rattle.std.specs.Prelude.{◌≡◌}
use Rattle.netlist_schema.specs.Design.{Design}
use Rattle.netlist_schema.specs.Types.{Object}
use Rattle.edit_rules_spec.specs.Edit.{edited, IsChanged}
use Rattle.edit_rules_spec.specs.Objects.{AgreesOn, AreSameObjects, Grown}
use Rattle.edit_rules_spec.specs.Rule.{Rule, ruled}
use Rattle.edit_rules_spec.specs.declared.reply.Reply.{Reply}

-- the reply, and the design afterwards
pub record Stepped : Type 0 where
  pub reply : Reply
  pub design : Design

abbrev pub stepped : (Design → Rule) → Design → Stepped
stepped rule d = record { reply = (ruled (rule d)).reply; design = edited d (ruled (rule d)).edits }

-- the objects that it writes
abbrev pub WritesOf : (Design → Rule) → Design → Object → Type 0
WritesOf rule d o = IsChanged (ruled (rule d)).edits o

-- it does the same to both
pub record IsFramedBy (rule : Design → Rule) (Needed : Design → Object → Type 0) (d e : Design) : Type 0 where
  pub needs : AreSameObjects (Needed d) (Needed e)
  pub reply : (stepped rule d).reply ≡ (stepped rule e).reply
  pub writes : AreSameObjects (WritesOf rule d) (WritesOf rule e)
  pub written : AgreesOn (stepped rule d).design (stepped rule e).design (WritesOf rule d)
  -- all other objects stay
  pub stays : AgreesOn d (stepped rule d).design (λ o. ¬ WritesOf rule d o)
  pub stays_too : AgreesOn e (stepped rule e).design (λ o. ¬ WritesOf rule e o)
  pub grown : Grown (stepped rule d).design (stepped rule e).design
