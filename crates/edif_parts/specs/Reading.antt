-- What the reader of a form answers.
use Rattle.std.specs.Prelude.{Result, Ok, Err}
use Rattle.edif_spec.specs.declared.fault.MeaningFault.{MeaningFault}
use Rattle.edif_parts.specs.declared.error.EdifError.{EdifError}
use Rattle.edif_parts.specs.declared.error.EdifError.TheVariants as errors

-- a fault that is named is one of these; want of memory says nothing
abbrev pub Names : (MeaningFault → Type 0) → EdifError → Type 0
Names F (errors.Fault f) = F f
Names F errors.NoMemory = Unit {0}

-- a value that is meant, or a fault that stands
abbrev pub Answers : {A : Type 0} → (A → Type 0) → (MeaningFault → Type 0) → Result A EdifError → Type 0
Answers M F (Ok x) = M x
Answers M F (Err e) = Names F e
