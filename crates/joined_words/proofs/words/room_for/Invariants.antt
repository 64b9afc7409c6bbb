use Rattle.std.proofs.Common.{◌≡◌, ◌+◌, ℕ, drop, length, map}
use Rattle.joined_words.specs.Words.{ended}
use Rattle.joined_words.proofs.words.room_for.Given as goal

-- what was counted and what is left make the whole
abbrev pub invariant-loop-word : goal.invariant-loop-word
invariant-loop-word l = (byte : ℕ) → length (ended byte (map (λ word. word.now) l.words)) ≡ l.room + length (ended byte (map (λ word. word.now) (drop l.word-index l.words)))
