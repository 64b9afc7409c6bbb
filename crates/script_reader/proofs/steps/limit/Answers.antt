use Rattle.std.proofs.Common.{◌∙◌, ℕ, sym}
use Rattle.std.specs.Prelude.{Option}
use Rattle.script_spec.specs.Pieces.{SpellPieces}
use Rattle.script_words.specs.Reading.{lent}
use Rattle.script_reader.specs.Steps.{limit_pieces}
use Rattle.script_words.proofs.Answering.{hand_on}
use Rattle.script_reader.proofs.StepLemmas.{no_limit}
use Rattle.script_reader.proofs.steps.limit.Goals as goal

pub returns-in_err-counted_limit : goal.returns-in_err-counted_limit
returns-in_err-counted_limit c =
    hand_on (λ (n : Option ℕ). SpellPieces (lent c.args.words.now) (limit_pieces n)) ((n : Option ℕ) → ¬ SpellPieces (lent c.args.words.now) (limit_pieces n))
    c.from_residual.result c.in_err-counted_limit.field-0.0 c.from_residual.ensures.1
    (λ b. no_limit c.args.words.now (sym c.is_empty.ensures ∙ c.if-is_empty.false) (c.in_err-counted_limit.ensures b))
