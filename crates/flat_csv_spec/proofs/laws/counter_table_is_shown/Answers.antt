use Rattle.std.proofs.Common.{◌∙◌, refl, ap}
use Rattle.std.specs.Fmt.{digits}
use Rattle.flat_spec.specs.ExampleCounter.{counter, CounterIsFlattened}
use Rattle.flat_spec.specs.Occurrences.{occurrences}
use Rattle.flat_spec.specs.Representatives.{representative}
use Rattle.flat_spec.specs.Trees.{tree}
use Rattle.flat_csv_spec.specs.Example.{CounterTableIsShown}
use Rattle.flat_csv_spec.proofs.Texts.{table_of}
use Rattle.flat_csv_spec.proofs.laws.counter_table_is_shown.Goals as goal

flat : CounterIsFlattened
unfolding representative occurrences tree
flat = refl

whole : CounterTableIsShown
unfolding digits
whole = ap (table_of counter) flat ∙ refl

pub returns : goal.returns
returns c = whole
