use Rattle.std.proofs.Common.{◌≡◌, ◌+◌, List, ℕ, [], Bor, arith, take, drop, get_or, subst, sym}
use Rattle.script_reader.specs.Line.{AreRead, place_of}
use Rattle.script_words.specs.Reading.{lent}
use Rattle.script_reader.proofs.ProgressLemmas.{cut_at, is_first, length_taken, more_read, taken_more}
use Rattle.script_reader.proofs.script.read_lines.Goals as goal

abbrev nowhere : Bor (List ℕ)
nowhere = record { ref_ptr = (0, 0); now = [] }

pub returns-in-Err-Bad-clause-bad : goal.returns-in-Err-Bad-clause-bad
returns-in-Err-Bad-clause-bad c = λ at q.
    let lines = c.args.lines.now in
    let i = c.loop-line.line-index in
    let same : c.from.result ≡ at = cc (q) in
    let number = c.from.ensures in
    let count = c.loop-line.invariant.count in
    let long = length_taken lines i c.loop-line-test.true in
    is_first (lent lines) (lent (take i lines)) (get_or lines i nowhere).now (lent (drop (i + 1) lines)) at c.loop-line.progress.found.items (place_of c.loop-line.progress.place)
    (cut_at lines i nowhere c.loop-line-test.true) (omega (arith, same, number, count, long)) c.loop-line.invariant.read (c.in-Err-Bad.ensures {u = tt} c.in-Err-Bad.field-0-is)

pub loop-line-preserved : goal.loop-line-preserved
loop-line-preserved c =
    let lines = c.args.lines.now in
    let i = c.loop-line.line-index in
    let count = c.loop-line.invariant.count in
    let long = length_taken lines i c.loop-line-test.true in
    record {
      count = omega (arith, count);
      read = subst (λ (ls : List (List ℕ)). AreRead ls c.take.new.self.found.items (place_of c.take.new.self.place)) (sym (taken_more lines i nowhere c.loop-line-test.true))
          (more_read (lent (take i lines)) (get_or lines i nowhere).now (c.loop-line.number + 1) c.loop-line.progress.found.items c.take.new.self.found.items (place_of c.loop-line.progress.place)
          (place_of c.take.new.self.place) (omega (arith, count, long)) c.loop-line.invariant.read (c.in-Ok.ensures {u = tt}));
    }
