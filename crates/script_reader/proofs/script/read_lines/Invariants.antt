use Rattle.std.proofs.Common.{◌≡◌, take}
use Rattle.script_reader.specs.Line.{AreRead, place_of}
use Rattle.script_words.specs.Reading.{lent}
use Rattle.script_reader.proofs.script.read_lines.Given as goal

-- the lines so far were read
abbrev pub invariant-loop-line : goal.invariant-loop-line
invariant-loop-line l = record {
  count : l.number ≡ l.line-index;
  read : AreRead (lent (take l.line-index l.lines)) l.progress.found.items (place_of l.progress.place);
}
