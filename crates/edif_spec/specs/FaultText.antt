-- The text of a fault of a design file.
use Rattle.std.specs.Prelude.{ℕ, List, ◌++◌, codes}
use Rattle.std.specs.Fmt.{decimal}
use Rattle.edif_spelling_spec.specs.declared.token.LexKind.{LexKind}
use Rattle.edif_spelling_spec.specs.declared.token.LexKind.TheVariants as lexical
use Rattle.edif_spelling_spec.specs.declared.tree_fault.TreeKind.{TreeKind}
use Rattle.edif_spelling_spec.specs.declared.tree_fault.TreeKind.TheVariants as trees
use Rattle.edif_spec.specs.declared.fault.Kind.{Kind}
use Rattle.edif_spec.specs.declared.fault.Kind.TheVariants as kinds
use Rattle.edif_spec.specs.declared.fault.ClashKind.{ClashKind}
use Rattle.edif_spec.specs.declared.fault.ClashKind.TheVariants as clashes
use Rattle.edif_spec.specs.declared.fault.MeaningFault.{MeaningFault}
use Rattle.edif_spec.specs.declared.fault.MeaningFault.TheVariants as meaning
use Rattle.edif_spec.specs.declared.file_fault.EdifFault.{EdifFault}
use Rattle.edif_spec.specs.declared.file_fault.EdifFault.TheVariants as faults

-- the word of each kind of fault
abbrev pub lex_word : LexKind → List ℕ
lex_word lexical.BadNumber = codes "BadNumber"
lex_word lexical.BadByte = codes "BadByte"
lex_word lexical.BadEscape = codes "BadEscape"
lex_word lexical.BadString = codes "BadString"

abbrev pub tree_word : TreeKind → List ℕ
tree_word trees.NotForm = codes "NotForm"
tree_word trees.ExtraClose = codes "ExtraClose"
tree_word trees.TooDeep = codes "TooDeep"
tree_word trees.Trailing = codes "Trailing"
tree_word trees.Unended = codes "Unended"

abbrev pub kind_word : Kind → List ℕ
kind_word kinds.BadForm = codes "BadForm"
kind_word kinds.BadVersion = codes "BadVersion"
kind_word kinds.BadLevel = codes "BadLevel"
kind_word kinds.NotNetlist = codes "NotNetlist"
kind_word kinds.Unresolved = codes "Unresolved"
kind_word kinds.Ambiguous = codes "Ambiguous"
kind_word kinds.BadIndex = codes "BadIndex"
kind_word kinds.WholeArray = codes "WholeArray"
kind_word kinds.BadWidth = codes "BadWidth"
kind_word kinds.BadPath = codes "BadPath"

abbrev pub clash_word : ClashKind → List ℕ
clash_word clashes.SecondView = codes "SecondView"
clash_word clashes.SecondDesign = codes "SecondDesign"
clash_word clashes.Duplicate = codes "Duplicate"
clash_word clashes.EndTwice = codes "EndTwice"

-- what stands at a place
abbrev pub at_place : List ℕ → ℕ → List ℕ
at_place what place = what ++ codes " at " ++ decimal place

-- the text of a fault of meaning: a clash names the earlier place too, a form outside the profile its keyword, a limit its number
abbrev pub meaning_text : MeaningFault → List ℕ
meaning_text (meaning.NotInProfile keyword place) = codes "NotInProfile " ++ at_place keyword place
meaning_text (meaning.At kind place) = at_place (kind_word kind) place
meaning_text (meaning.Clash kind place earlier) = at_place (clash_word kind) place ++ codes ", first at " ++ decimal earlier
meaning_text (meaning.OverLimit limit place) = codes "OverLimit " ++ at_place (decimal limit) place

-- the text of a fault: its kind and its place
abbrev pub fault_text : EdifFault → List ℕ
fault_text (faults.Lex kind place) = at_place (lex_word kind) place
fault_text (faults.Tree kind place) = at_place (tree_word kind) place
fault_text (faults.Meaning fault) = meaning_text fault
