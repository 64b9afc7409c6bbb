-- What the failing of a form says.
use Rattle.std.specs.Prelude.{Option}
use Rattle.edif_spelling_spec.specs.Tree.{Placed}
use Rattle.edif_spec.specs.declared.keyword.Keyword.{Keyword}
use Rattle.edif_spec.specs.declared.fault.Kind.TheVariants as kinds
use Rattle.edif_spec.specs.declared.fault.MeaningFault.TheVariants as faults
use Rattle.edif_grammar.specs.Forms.{Fails}
use Rattle.edif_grammar.specs.declared.kept.EdifFormError.{EdifFormError}
use Rattle.edif_grammar.specs.declared.kept.EdifFormError.TheVariants as errors

-- a breach that is named stands; want of memory says nothing
abbrev pub Breaks : Option Keyword → Placed → EdifFormError → Type 0
Breaks parent t (errors.NotInProfile keyword place) = Fails parent t (faults.NotInProfile keyword place)
Breaks parent t (errors.BadForm place) = Fails parent t (faults.At kinds.BadForm place)
Breaks parent t errors.NoMemory = Unit {0}
