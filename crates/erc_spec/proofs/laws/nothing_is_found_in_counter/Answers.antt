use Rattle.std.proofs.Common.{◌∙◌, refl, ap}
use Rattle.std.specs.Fmt.{digits}
use Rattle.flat_spec.specs.Occurrences.{occurrences}
use Rattle.flat_spec.specs.Representatives.{representative}
use Rattle.flat_spec.specs.Trees.{tree}
use Rattle.flat_spec.specs.ExampleCounter.{counter}
use Rattle.erc_spec.specs.Lines.{found_text}
use Rattle.erc_spec.specs.Examples.{NothingIsFoundInCounter, CounterIsTold}
use Rattle.erc_spec.proofs.laws.nothing_is_found_in_counter.Goals as goal

found : NothingIsFoundInCounter
unfolding representative occurrences tree
found = refl

told : CounterIsTold
unfolding digits
told = ap (found_text counter) found ∙ refl

pub returns : goal.returns
returns c = record { found = found; told = told }
