use Rattle.std.proofs.Common.{◌≡◌, ◌∙◌, ℕ, List, ap, arith, length, subst, sym}
use Rattle.script_spec.specs.ScriptText.{IsFirstBad, IsScript, Parts}
use Rattle.script_spec.specs.declared.script.ScriptLine.{ScriptLine}
use Rattle.script_words.specs.Reading.{lent}
use Rattle.script_reader.specs.declared.script.ScriptError.{ScriptError}
use Rattle.script_reader.specs.declared.script.ScriptError.TheVariants.{BadLine}
use Rattle.script_words.proofs.Answering.{error_on}
use Rattle.script_reader.proofs.ProgressLemmas.{few_lines, first_bad, is_script, length_lent, script_text}
use Rattle.script_reader.proofs.script.parse.Goals as goal

pub read_lines-requires : goal.read_lines-requires
read_lines-requires c = few_lines c.in_ok-lines.lines.items c.as_slice.result.now c.args.bytes.now c.as_slice.ensures.value c.in_ok-lines.ensures c.requires

pub returns-in_err-found-clause-bad : goal.returns-in_err-found-clause-bad
returns-in_err-found-clause-bad c =
    error_on (λ (e : ScriptError). (at : ℕ) → e ≡ BadLine at → IsFirstBad c.args.bytes.now at) c.from_residual-in_err-found.result c.in_err-found.field-0.0 c.from_residual-in_err-found.ensures.1
    (λ at q. first_bad c.args.bytes.now (lent c.as_slice.result.now) at (ap lent c.as_slice.ensures.value ∙ c.in_ok-lines.ensures) (c.in_err-found.ensures.bad at q))

pub overflow_cast-len : goal.overflow_cast-len
overflow_cast-len c =
    let few = few_lines c.in_ok-lines.lines.items c.as_slice.result.now c.args.bytes.now c.as_slice.ensures.value c.in_ok-lines.ensures c.requires in
    let long : length c.as_slice.result.now ≡ length c.in_ok-lines.lines.items = ap length c.as_slice.ensures.value in
    let counted = c.len.ensures in
    omega (arith, few, long, counted)

pub of-requires-2 : goal.of-requires-2
of-requires-2 c =
    let few = few_lines c.in_ok-lines.lines.items c.as_slice.result.now c.args.bytes.now c.as_slice.ensures.value c.in_ok-lines.ensures c.requires in
    let long : length c.as_slice.result.now ≡ length c.in_ok-lines.lines.items = ap length c.as_slice.ensures.value in
    let counted = c.len.ensures in
    let all = length_lent c.as_slice.result.now in
    let read = c.in_ok-found.ensures.ok in
    subst (λ (ls : List ScriptLine). IsScript (record { lines = ls; last = c.len.result })) (sym c.of.ensures)
    (is_script (lent c.as_slice.result.now) c.in_ok-found.found.items read.0 c.len.result read.1 (omega (arith, long, counted, all)) (omega (arith, all, few)))

pub returns-clause-ok : goal.returns-clause-ok
returns-clause-ok c =
    let long : length c.as_slice.result.now ≡ length c.in_ok-lines.lines.items = ap length c.as_slice.ensures.value in
    let counted = c.len.ensures in
    let all = length_lent c.as_slice.result.now in
    let read = c.in_ok-found.ensures.ok in
    let last : c.len.result ≡ length (lent c.as_slice.result.now) = omega (arith, long, counted, all) in
    script_text c.args.bytes.now (lent c.as_slice.result.now) c.in_ok-found.found.items read.0 c.of-2.result (ap lent c.as_slice.ensures.value ∙ c.in_ok-lines.ensures) read.1
    (ap (λ (s : Parts). s.lines) c.of-2.ensures ∙ c.of.ensures) (ap (λ (s : Parts). s.last) c.of-2.ensures ∙ last)
