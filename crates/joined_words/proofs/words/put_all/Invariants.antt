use Rattle.std.proofs.Common.{◌≡◌, ◌+◌, ◌++◌, drop, length, map, take}
use Rattle.joined_words.specs.Words.{ended}
use Rattle.joined_words.proofs.words.put_all.Given as goal

-- what was written and what is left make the whole
abbrev pub invariant-loop-word : goal.invariant-loop-word
invariant-loop-word l = record {
  place : l.at + length (ended l.byte (map (λ word. word.now) (drop l.word-index l.words))) ≡ l.from + length (ended l.byte (map (λ word. word.now) l.words));
  long : length l.line ≡ length l.fn.line;
  text : take l.at l.line ++ ended l.byte (map (λ word. word.now) (drop l.word-index l.words)) ≡ take l.from l.fn.line ++ ended l.byte (map (λ word. word.now) l.words);
}
