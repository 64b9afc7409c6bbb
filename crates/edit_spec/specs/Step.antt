-- What operations do to a design.
use Rattle.std.specs.Prelude.{List, [], ◌∷◌}
use Rattle.netlist_schema.specs.Design.{Design}
use Rattle.edit_rules_spec.specs.Frame.{Stepped, stepped}
use Rattle.edit_spec.specs.Rows.{row_of}
use Rattle.edit_rules_spec.specs.declared.reply.Reply.{Reply}
use Rattle.edit_spec.specs.declared.ops.Op.{Op}

abbrev pub step : Design → Op → Stepped
step d op = stepped (λ x. row_of x op) d

-- the replies to operations, one after the other, and the last design
pub record Ran : Type 0 where
  pub replies : List Reply
  pub design : Design

abbrev pub run : Design → List Op → Ran
run d [] = record { replies = []; design = d }
run d (op ∷ ops) =
    let rest = run (step d op).design ops in
    record { replies = (step d op).reply ∷ rest.replies; design = rest.design }
