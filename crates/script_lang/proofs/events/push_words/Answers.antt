use Rattle.std.proofs.Common.{◌≡◌, [], ◌∷◌, ◌++◌}
use Rattle.std.specs.Prelude.{codes}
use Rattle.std.specs.Fmt.{decimal}
use Rattle.std.proofs.lemmas.Result.{on_ok_weaker}
use Rattle.script_spec.specs.Texts.{answer_words, call_words}
use Rattle.script_texts.specs.Parts.{behind_blanks}
use Rattle.script_texts.proofs.LineLemmas.{then}
use Rattle.script_lang.proofs.events.push_words.Goals as goal

pub returns-clause-ok : goal.returns-clause-ok
returns-clause-ok g c =
    let old = c.args.out.now.items in
    let begun = c.push_size.new.out.items in
    let called = c.push_call.new.out.items in
    let arrow = c.push_word.new.out.items in
    let whole = c.push_answer.new.out.items in
    let caller = codes "caller" ∷ decimal c.args.event.now.caller ∷ [] in
    let call = call_words c.args.event.now.call in
    let answer = answer_words (g.S.Shown.design c.args.design.now) c.args.event.now.answer in
    on_ok_weaker c.push_answer.result
    (λ (last : whole ≡ arrow ++ behind_blanks answer).
    then old called whole (caller ++ call) (codes "->" ∷ answer)
    (then old begun called caller call c.in_ok-push_size.ensures.ok c.in_ok-push_call.ensures.ok)
    (then called arrow whole (codes "->" ∷ []) answer c.in_ok-push_word.ensures.ok last))
    c.push_answer.ensures.ok
