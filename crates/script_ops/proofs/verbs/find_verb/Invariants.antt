use Rattle.std.proofs.Common.{drop}
use Rattle.script_ops.specs.Verbs.{NoneIs}
use Rattle.script_ops.proofs.verbs.find_verb.Given as goal

-- where the word is none of the verbs that are left, it is none of all
abbrev pub invariant-loop-verb : goal.invariant-loop-verb
invariant-loop-verb l = NoneIs l.word (drop l.verb-index l.verbs) → NoneIs l.word l.verbs
