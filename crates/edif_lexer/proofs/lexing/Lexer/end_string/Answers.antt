use Rattle.std.proofs.Common.{◌≡◌, ◌+◌, ◌-◌, ◌∷◌, [], true, length, take, drop, sym, ap, ◌∙◌}
use Rattle.std.proofs.lemmas.List.{take_rest}
use Rattle.edif_spelling_spec.specs.Strings.{segments, value, escape_fault}
use Rattle.edif_lexer.specs.Steps.{Anything}
use Rattle.edif_lexer.proofs.StepLemmas.{no_gain, moved, open_string_parts, continues_string, stops_string}
use Rattle.edif_lexer.proofs.lexing.Lexer.end_string.Goals as goal

pub returns-in-Ok : goal.returns-in-Ok
returns-in-Ok g c =
    let same : c.deref.result.now ≡ c.args.self.now.pending = c.deref.ensures.value ∙ ap (λ r. r.pending) c.self.view_is in
    let body : take (length c.deref.result.now - 1) (drop 1 c.deref.result.now) ≡ drop 1 c.args.self.now.pending = take_rest c.deref.result.now 1 ∙ ap (drop 1) same in
    let found = rw c.in-Ok.is at c.in_ok-text.ensures in
    let parts = open_string_parts c.args.self.now.pending c.requires in
    moved g.S.Tokens.took Anything c.args.self.now (34 ∷ []) c.hand_out.new.self _ _ c.args.out.now c.hand_out.new.out c.hand_out.result c.hand_out.ensures.ok c.hand_out.ensures.err c.hand_out.ensures.memory
    (continues_string c.args.self.now (drop 1 c.args.self.now.pending) c.as_slice.result.now _ parts.0 parts.1
    (ap (λ n. n + 1) (c.len-count.ensures ∙ sym c.deref.ensures.len ∙ ap length same))
    (ap (λ b. escape_fault true 0 (segments b)) (sym body) ∙ found.0) (c.as_slice.ensures.value ∙ (found.1 ∙ ap (λ b. value (segments b)) body)))

pub returns-in-Err : goal.returns-in-Err
returns-in-Err g c =
    let same : c.deref.result.now ≡ c.args.self.now.pending = c.deref.ensures.value ∙ ap (λ r. r.pending) c.self.view_is in
    let body : take (length c.deref.result.now - 1) (drop 1 c.deref.result.now) ≡ drop 1 c.args.self.now.pending = take_rest c.deref.result.now 1 ∙ ap (drop 1) same in
    let found = rw c.in-Err.is at c.in_ok-text.ensures in
    let parts = open_string_parts c.args.self.now.pending c.requires in
    ([], no_gain g.S.Tokens.took c.args.out.now, stops_string c.args.self.now (drop 1 c.args.self.now.pending) c.in-Err.at c.bad_escape.result parts.0 parts.1 (ap (λ b. escape_fault true 0 (segments b)) (sym body) ∙ found) c.bad_escape.ensures)
