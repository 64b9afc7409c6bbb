use Rattle.std.proofs.Common.{◌∙◌, sym}
use Rattle.netlist_schema.specs.declared.property.Num.{Num}
use Rattle.script_spec.specs.Pieces.{SpellPieces}
use Rattle.script_words.specs.Reading.{lent}
use Rattle.script_ops.specs.Values.{num_rest}
use Rattle.script_words.proofs.Answering.{hand_on}
use Rattle.script_ops.proofs.FrontLemmas.{no_num}
use Rattle.script_ops.proofs.values.num.Goals as goal

pub returns-in_err-exponent : goal.returns-in_err-exponent
returns-in_err-exponent c =
    hand_on (λ (v : Num). SpellPieces (lent c.args.words.now) (num_rest v)) ((v : Num) → ¬ SpellPieces (lent c.args.words.now) (num_rest v))
    c.from_residual-in_err-exponent.result c.in_err-exponent.field-0.0 c.from_residual-in_err-exponent.ensures.1
    (λ b. no_num (lent c.args.words.now) c.in_ok-word.word.now c.in_ok-word.others.now c.in_ok-word.ensures (sym c.is_empty.ensures ∙ c.if-is_empty.false) (c.in_err-exponent.ensures b))
