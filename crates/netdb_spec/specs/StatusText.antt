-- What is said of each status.
use Rattle.std.specs.Prelude.{ℕ, List, [], ◌++◌, codes, Option, None, Some}
use Rattle.std.specs.Fmt.{decimal}
use Rattle.edif_spec.specs.FaultText.{fault_text}
use Rattle.netdb_spec.specs.declared.status.Status.{Status}
use Rattle.netdb_spec.specs.declared.status.Status.TheVariants as status

-- the words of a status that has no number in its text; nothing is said where all is well
abbrev pub status_words : Status → List ℕ
status_words status.Usage = codes "usage: write F [used], flat F [limit N | workers W], csv F, run F S.., gen N, erc F, uses F S.., check F R S.."
status_words (status.Missing word) = codes "missing"
status_words (status.ReadFault word) = codes "read fault"
status_words status.WriteFault = codes "write fault"
status_words (status.TooLarge word) = codes "too large"
status_words status.NoTop = codes "no top"
status_words status.LogFull = codes "log full"
status_words status.NoMemory = codes "no memory"
status_words _ = []

-- what is said: the text of a fault of a design file, a script's bad line, or these words
abbrev pub status_text : Status → List ℕ
status_text (status.BadEdif fault) = fault_text fault
status_text (status.BadScript word line) = codes "bad script at line " ++ decimal line
status_text result = status_words result

-- the file of which it is said, by the position of its name among the words
abbrev pub word_of : Status → Option ℕ
word_of (status.Missing word) = Some word
word_of (status.ReadFault word) = Some word
word_of (status.BadEdif fault) = Some 1
word_of (status.BadScript word line) = Some word
word_of (status.TooLarge word) = Some word
word_of _ = None
