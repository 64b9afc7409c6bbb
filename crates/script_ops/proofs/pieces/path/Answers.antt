use Rattle.std.proofs.Common.{◌≡◌, ◌∙◌, List, ℕ, ap, eqb}
use Rattle.std.specs.List.{slice_split}
use Rattle.script_spec.specs.Lines.{path_piece}
use Rattle.script_spec.specs.Pieces.{SpellsPiece}
use Rattle.script_words.specs.Reading.{lent}
use Rattle.script_words.proofs.Answering.{hand_on}
use Rattle.script_ops.proofs.PieceLemmas.{no_path, path_read}
use Rattle.script_ops.proofs.pieces.path.Goals as goal

pub returns-in_err-names : goal.returns-in_err-names
returns-in_err-names c =
    let parts : lent c.as_slice.result.now ≡ slice_split (λ b. eqb b 47) c.args.word.now = ap lent c.as_slice.ensures.value ∙ c.in_ok-parts.ensures in
    hand_on (λ (ids : List (List ℕ)). SpellsPiece c.args.word.now (path_piece ids)) ((ids : List (List ℕ)) → ¬ SpellsPiece c.args.word.now (path_piece ids))
    c.from_residual-in_err-names.result c.in_err-names.field-0.0 c.from_residual-in_err-names.ensures.1
    (λ b. no_path c.args.word.now (lent c.as_slice.result.now) parts (c.in_err-names.ensures b))

pub returns : goal.returns
returns c =
    let parts : lent c.as_slice.result.now ≡ slice_split (λ b. eqb b 47) c.args.word.now = ap lent c.as_slice.ensures.value ∙ c.in_ok-parts.ensures in
    path_read c.args.word.now (lent c.as_slice.result.now) c.of.result parts (c.of.ensures ∙ c.in_ok-names.ensures.0) c.in_ok-names.ensures.1
