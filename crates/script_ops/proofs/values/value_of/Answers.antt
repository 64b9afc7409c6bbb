use Rattle.std.proofs.Common.{◌≡◌}
use Rattle.netlist_schema.specs.Types.{Value}
use Rattle.script_spec.specs.Pieces.{SpellPieces}
use Rattle.script_words.specs.Reading.{lent}
use Rattle.script_ops.specs.Values.{kind_of, value_rest}
use Rattle.script_words.proofs.Answering.{hand_on}
use Rattle.script_ops.proofs.ValueLemmas.{no_text}
use Rattle.script_ops.proofs.values.value_of.Goals as goal

pub returns-in_err-quoted-in-Str-clause-spelled : goal.returns-in_err-quoted-in-Str-clause-spelled
returns-in_err-quoted-in-Str-clause-spelled c =
    hand_on (λ (v : Value). (kind_of v ≡ c.args.kind) × SpellPieces (lent c.args.words.now) (value_rest v))
    ((v : Value) → kind_of v ≡ c.args.kind → ¬ SpellPieces (lent c.args.words.now) (value_rest v))
    c.from_residual-in_err-quoted-in-Str.result c.in_err-quoted-in-Str.field-0.0 c.from_residual-in_err-quoted-in-Str.ensures.1
    (λ b. no_text c.args.kind (lent c.args.words.now) c.in_ok-only-in-Str.field-0.now c.in-Str.is c.in_ok-only-in-Str.ensures (c.in_err-quoted-in-Str.ensures.spelled b))
