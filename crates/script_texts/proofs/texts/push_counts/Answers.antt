use Rattle.std.proofs.Common.{◌≡◌, [], ◌∷◌, ◌++◌}
use Rattle.std.specs.Prelude.{codes}
use Rattle.std.specs.Fmt.{decimal}
use Rattle.std.proofs.lemmas.Result.{on_ok_weaker}
use Rattle.script_spec.specs.Texts.{leaf_words}
use Rattle.script_texts.specs.Parts.{behind_blanks}
use Rattle.script_texts.proofs.LineLemmas.{after_word, then}
use Rattle.script_texts.proofs.texts.push_counts.Goals as goal

pub returns-clause-ok : goal.returns-clause-ok
returns-clause-ok c =
    let old = c.args.out.now.items in
    let begun = c.push_bytes.new.out.items in
    let a = c.push_size.new.out.items in
    let b = c.push_size-2.new.out.items in
    let d = c.push_size-3.new.out.items in
    let whole = c.push_leaf.new.out.items in
    let ports = codes "ports" ∷ decimal c.args.ports ∷ [] in
    let insts = codes "insts" ∷ decimal c.args.insts ∷ [] in
    let nets = codes "nets" ∷ decimal c.args.nets ∷ [] in
    let leaf = leaf_words c.args.leaf in
    let two = then begun a b ports insts c.in_ok-push_size.ensures.ok c.in_ok-push_size-2.ensures.ok in
    let three = then begun b d (ports ++ insts) nets two c.in_ok-push_size-3.ensures.ok in
    on_ok_weaker c.push_leaf.result
    (λ (last : whole ≡ d ++ behind_blanks leaf).
    after_word old begun whole (codes "cell") (ports ++ insts ++ nets ++ leaf) c.in_ok-push_bytes.ensures.ok
    (then begun d whole (ports ++ insts ++ nets) leaf three last))
    c.push_leaf.ensures.ok
