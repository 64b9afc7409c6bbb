use Rattle.std.proofs.Common.{◌∙◌, ◌++◌, List, Bor, ap, map}
use Prim.Native.Nat.{ℕ}
use Rattle.flat_report.proofs.LineLemmas.{in_one_piece}
use Rattle.flat_report.proofs.whole.push_spaced.Goals as goal

pub returns-clause-ok : goal.returns-clause-ok
returns-clause-ok c =
    c.in_ok-push_words.ensures.ok ∙ ap (λ text. c.args.out.now.items ++ text) (in_one_piece (map (λ (word : Bor (List ℕ)). word.now) c.args.words.now) c.args.last.now)
