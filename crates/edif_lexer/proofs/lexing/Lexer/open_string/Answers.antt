use Rattle.std.proofs.Common.{◌≡◌, ◌-◌, false, length, take, drop, sym, ap, ◌∙◌}
use Rattle.std.proofs.lemmas.List.{take_rest}
use Rattle.edif_spelling_spec.specs.Strings.{segments, escape_fault}
use Rattle.edif_lexer.proofs.StepLemmas.{open_string_parts, ends_open, ends_open_bad}
use Rattle.edif_lexer.proofs.lexing.Lexer.open_string.Goals as goal

pub returns-in-Ok-Ok : goal.returns-in-Ok-Ok
returns-in-Ok-Ok c =
    let body : take (length c.deref.result.now - 1) (drop 1 c.deref.result.now) ≡ drop 1 c.args.self.now.pending = take_rest c.deref.result.now 1 ∙ ap (drop 1) (c.deref.ensures.value ∙ ap (λ r. r.pending) c.self.view_is) in
    let found = rw c.in-Ok-Ok.field-0-is at c.in-Ok-Ok.ensures in
    let parts = open_string_parts c.args.self.now.pending c.requires in
    rw (ap (λ r. r.start) c.self.view_is) (ends_open c.args.self.now (drop 1 c.args.self.now.pending) parts.0 parts.1 (ap (λ b. escape_fault false 0 (segments b)) (sym body) ∙ found.0))

pub returns-in-Ok-Err : goal.returns-in-Ok-Err
returns-in-Ok-Err c =
    let body : take (length c.deref.result.now - 1) (drop 1 c.deref.result.now) ≡ drop 1 c.args.self.now.pending = take_rest c.deref.result.now 1 ∙ ap (drop 1) (c.deref.ensures.value ∙ ap (λ r. r.pending) c.self.view_is) in
    let found = rw c.in-Ok-Err.field-0-is at c.in-Ok-Err.ensures in
    let parts = open_string_parts c.args.self.now.pending c.requires in
    ends_open_bad c.args.self.now (drop 1 c.args.self.now.pending) c.in-Ok-Err.at c.bad_escape.result parts.0 parts.1 (ap (λ b. escape_fault false 0 (segments b)) (sym body) ∙ found) c.bad_escape.ensures
