use Rattle.std.proofs.Common.{◌∙◌, None, Some, refl, ap, sym}
use Rattle.std.specs.Fmt.{digits}
use Rattle.flat_spec.specs.ExampleCounter.{counter, CounterIsFlattened}
use Rattle.flat_spec.specs.Occurrences.{occurrences}
use Rattle.flat_spec.specs.Representatives.{representative}
use Rattle.flat_spec.specs.Trees.{tree}
use Rattle.flat_lines_spec.specs.Example.{CounterIsShown, CounterIsCut, CounterIsNotCut}
use Rattle.flat_lines_spec.proofs.Texts.{text_of}
use Rattle.flat_lines_spec.proofs.laws.counter_is_shown.Goals as goal

flat : CounterIsFlattened
unfolding representative occurrences tree
flat = refl

whole : CounterIsShown
unfolding digits
whole = ap (text_of counter None) flat ∙ refl

cut : CounterIsCut
unfolding digits
cut = ap (text_of counter (Some 2)) flat ∙ refl

not_cut : CounterIsNotCut
not_cut = ap (text_of counter (Some 14)) flat ∙ sym (ap (text_of counter None) flat)

pub returns : goal.returns
returns c = record { whole = whole; cut = cut; not_cut = not_cut }
