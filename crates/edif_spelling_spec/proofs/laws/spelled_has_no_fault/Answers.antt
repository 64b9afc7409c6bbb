use Rattle.edif_spelling_spec.specs.Tree.{listing}
use Rattle.edif_spelling_spec.proofs.SpelledTokens.{spelled_is_read, read_as}
use Rattle.edif_spelling_spec.proofs.laws.spelled_has_no_fault.Goals as goal

pub returns-clause-lexed : goal.returns-clause-lexed
returns-clause-lexed c bytes t h = spelled_is_read bytes (listing t) h.tokens

pub returns-clause-spelled : goal.returns-clause-spelled
returns-clause-spelled c bytes t none same file levels = record { tokens = read_as bytes (listing t) none same; file = file; levels = levels }
