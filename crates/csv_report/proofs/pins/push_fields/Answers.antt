use Rattle.std.proofs.Common.{◌∙◌, ◌++◌, List, Bor, ap, map}
use Prim.Native.Nat.{ℕ}
use Rattle.csv_report.proofs.PlainLemmas.{ended_fields}
use Rattle.csv_report.proofs.pins.push_fields.Goals as goal

pub returns-clause-ok : goal.returns-clause-ok
returns-clause-ok c =
    c.in_ok-push_words.ensures.ok ∙ ap (λ text. c.args.out.now.items ++ text) (ended_fields (map (λ (field : Bor (List ℕ)). field.now) c.args.fields.now) c.args.last.now)
