use Rattle.netlist_schema.specs.Types.{Value}
use Rattle.script_spec.specs.Lines.{value_pieces}
use Rattle.script_spec.specs.Pieces.{SpellPieces}
use Rattle.script_words.specs.Reading.{lent}
use Rattle.script_words.proofs.Answering.{hand_on}
use Rattle.script_ops.proofs.ValueLemmas.{no_kind, value_read}
use Rattle.script_ops.proofs.values.value.Goals as goal

pub returns-in_err-find_kind-clause-spelled : goal.returns-in_err-find_kind-clause-spelled
returns-in_err-find_kind-clause-spelled c =
    hand_on (λ (v : Value). SpellPieces (lent c.args.words.now) (value_pieces v)) ((v : Value) → ¬ SpellPieces (lent c.args.words.now) (value_pieces v))
    c.from_residual-in_err-find_kind.result c.in_err-find_kind.field-0.0 c.from_residual-in_err-find_kind.ensures.1
    (λ b. no_kind (lent c.args.words.now) c.in_ok-word.word.now (lent c.in_ok-word.others.now) c.in_ok-word.ensures c.in_err-find_kind.ensures)

pub returns-clause-spelled : goal.returns-clause-spelled
returns-clause-spelled c =
    value_read (lent c.args.words.now) c.in_ok-word.word.now (lent c.in_ok-word.others.now) c.in_ok-find_kind.field-0 c.value_of.result c.in_ok-word.ensures c.in_ok-find_kind.ensures c.value_of.ensures.spelled
