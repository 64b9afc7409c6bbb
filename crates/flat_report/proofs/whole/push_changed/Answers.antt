use Rattle.std.proofs.Common.{List, Bor, map}
use Prim.Native.Nat.{ℕ}
use Rattle.edif_spec.specs.PropertyText.{property_text}
use Rattle.flat_report.proofs.LineLemmas.{in_pieces}
use Rattle.flat_report.proofs.whole.push_changed.Goals as goal

pub returns-clause-ok : goal.returns-clause-ok
returns-clause-ok c =
    in_pieces c.args.out.now.items c.push_words.new.out.items c.property_text.new.out.items c.push_properties.new.out.items c.push.new.self.items c.args.last.now
    (property_text c.args.first.now) (map (λ (word : Bor (List ℕ)). word.now) c.args.words.now) (map property_text c.args.others.now) c.in_ok-push_words.ensures.ok
    c.in_ok-property_text.ensures.ok c.in_ok-push_properties.ensures.ok c.in_ok-push.ensures.items
