use Rattle.std.proofs.Common.{rules, OnOk, ◌≡◌, [], ◌∷◌, ◌++◌}
use Rattle.std.specs.Prelude.{codes}
use Rattle.std.specs.Fmt.{signed_decimal}
use Rattle.std.proofs.lemmas.Result.{on_ok_weaker}
use Rattle.script_texts.specs.Parts.{behind_blanks}
use Rattle.script_texts.proofs.LineLemmas.{then}
use Rattle.script_texts.proofs.ops.push_scaled.Goals as goal

pub returns-clause-ok : goal.returns-clause-ok
returns-clause-ok c =
    let old = c.args.out.now.items in
    let first = c.push_integer.new.out.items in
    let marked = c.push_word.new.out.items in
    let whole = c.push_integer-2.new.out.items in
    let mantissa = signed_decimal c.args.mantissa in
    let exponent = signed_decimal c.args.exponent in
    let begun : first ≡ old ++ behind_blanks (mantissa ∷ []) = search rules in
    let ended : OnOk c.push_integer-2.result (whole ≡ marked ++ behind_blanks (exponent ∷ [])) = search rules in
    on_ok_weaker c.push_integer-2.result
    (λ (last : whole ≡ marked ++ behind_blanks (exponent ∷ [])).
    then old marked whole (mantissa ∷ codes "e" ∷ []) (exponent ∷ [])
    (then old first marked (mantissa ∷ []) (codes "e" ∷ []) begun c.in_ok-push_word.ensures.ok) last)
    ended
