-- The rule of an operation: when it is refused, what it replies, and what it changes.
use Rattle.std.specs.Prelude.{ℕ, Bool, cond, nat_le, List, [], ◌∷◌, Option, Some, None, is_none}
use Rattle.std.specs.Option.{option_or}
use Rattle.netlist_schema.specs.Design.{insts_in}
use Rattle.netlist_schema.specs.Types.{Contents}
use Rattle.edit_rules_spec.specs.Edit.{Edit}
use Rattle.edit_rules_spec.specs.Find.{inst_place}
use Rattle.edit_rules_spec.specs.Seen.{Named}
use Rattle.edit_rules_spec.specs.declared.reply.Reply.{Reply}
use Rattle.edit_rules_spec.specs.declared.reply.Reply.TheVariants.{Done, Cell, Net, Inst, Copies, NoLib, NoCell, NoInst, IsLeaf, TooMany}

-- the refusals in order, and what is replied and changed where none applies
pub record Rule : Type 0 where
  pub refusals : List (Option Reply)
  pub reply : Reply
  pub edits : List Edit

-- the first refusal that applies
abbrev pub first : List (Option Reply) → Option Reply
first [] = None
first (refusal ∷ refusals) = option_or refusal (first refusals)

-- what an operation comes to; a refused one changes nothing
pub record Outcome : Type 0 where
  pub reply : Reply
  pub edits : List Edit

abbrev pub unless : Option Reply → Reply → List Edit → Outcome
unless (Some refusal) reply edits = record { reply = refusal; edits = [] }
unless None reply edits = record { reply = reply; edits = edits }

abbrev pub ruled : Rule → Outcome
ruled rule = unless (first rule.refusals) rule.reply rule.edits

-- the reply refuses the operation
abbrev pub IsRefusal : Reply → Type 0
IsRefusal Done = ⊥
IsRefusal (Cell ports insts nets leaf) = ⊥
IsRefusal (Net ends) = ⊥
IsRefusal (Inst of properties) = ⊥
IsRefusal (Copies count) = ⊥
IsRefusal reply = Unit {0}

-- ---- refusals that many operations have

-- a refusal, where the test says so
abbrev pub refuse : Bool → Reply → Option Reply
refuse test reply = cond test (Some reply) None

abbrev pub no_lib : Named → Option Reply
no_lib at = refuse (is_none at.lib) NoLib

abbrev pub no_cell : Named → Option Reply
no_cell at = refuse (is_none at.cell) NoCell

abbrev pub is_leaf : Option Contents → Option Reply
is_leaf contents = refuse (is_none contents) IsLeaf

abbrev pub no_inst : Option Contents → List ℕ → Option Reply
no_inst contents name = refuse (is_none (inst_place name (insts_in contents))) NoInst

abbrev pub too_many : ℕ → ℕ → Option Reply
too_many count limit = refuse (nat_le limit count) (TooMany limit)
