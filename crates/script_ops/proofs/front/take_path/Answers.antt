use Rattle.std.proofs.Common.{List, ℕ, [], ◌∷◌}
use Rattle.script_spec.specs.Lines.{path_piece}
use Rattle.script_ops.specs.Front.{Lacks, Takes}
use Rattle.script_words.specs.Reading.{lent}
use Rattle.script_words.proofs.Answering.{hand_on}
use Rattle.script_ops.proofs.FrontLemmas.{none_one}
use Rattle.script_ops.proofs.front.take_path.Goals as goal

pub returns-in_err-path : goal.returns-in_err-path
returns-in_err-path c =
    hand_on (λ p. Takes (λ (ids : List (List ℕ)). path_piece ids ∷ []) (lent c.args.words.now) p.0 (lent p.1.now)) (Lacks (λ (ids : List (List ℕ)). path_piece ids ∷ []) (lent c.args.words.now))
    c.from_residual-in_err-path.result c.in_err-path.field-0.0 c.from_residual-in_err-path.ensures.1
    (λ b. none_one path_piece (lent c.args.words.now) c.in_ok-word.word.now (lent c.in_ok-word.others.now) c.in_ok-word.ensures (c.in_err-path.ensures b))
