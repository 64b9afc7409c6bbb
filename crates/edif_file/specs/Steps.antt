-- The error of each step of reading, as what is wrong with a file.
use Rattle.edif_parts.specs.declared.error.EdifError.{EdifError}
use Rattle.edif_parts.specs.declared.error.EdifError.TheVariants as reader
use Rattle.edif_lexer.specs.declared.errors.LexError.{LexError}
use Rattle.edif_lexer.specs.declared.errors.LexError.TheVariants as lexer
use Rattle.edif_tree.specs.declared.errors.TreeError.{TreeError}
use Rattle.edif_tree.specs.declared.errors.TreeError.TheVariants as tree
use Rattle.edif_spec.specs.declared.file_fault.EdifFault.{EdifFault}
use Rattle.edif_spec.specs.declared.file_fault.EdifFault.TheVariants as faults
use Rattle.edif_file.specs.declared.no_design.NoDesign.{NoDesign}
use Rattle.edif_file.specs.declared.no_design.NoDesign.TheVariants as answers

-- a fault that is named is one of these; want of memory says nothing
abbrev pub Says : (EdifFault → Type 0) → NoDesign → Type 0
Says P (answers.Fault fault) = P fault
Says P answers.NoMemory = Unit {0}

-- the error of each step as the fault of a file
abbrev pub said_by_lexer : LexError → NoDesign
said_by_lexer (lexer.At kind place) = answers.Fault (faults.Lex kind place)
said_by_lexer lexer.NoMemory = answers.NoMemory

abbrev pub said_by_tree : TreeError → NoDesign
said_by_tree (tree.At kind place) = answers.Fault (faults.Tree kind place)
said_by_tree tree.NoMemory = answers.NoMemory

abbrev pub said_by_reader : EdifError → NoDesign
said_by_reader (reader.Fault fault) = answers.Fault (faults.Meaning fault)
said_by_reader reader.NoMemory = answers.NoMemory
