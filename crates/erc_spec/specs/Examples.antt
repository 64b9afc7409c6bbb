-- What is found in worked designs of the flattening.
use Rattle.std.specs.Prelude.{◌≡◌, [], ◌∷◌, codes}
use Rattle.flat_spec.specs.ExampleCounter.{counter}
use Rattle.flat_spec.specs.ExampleFeedthrough.{board}
use Rattle.flat_spec.specs.Paths.{at_path}
use Rattle.flat_lines_spec.specs.Example.{lines}
use Rattle.erc_spec.specs.Findings.{findings}
use Rattle.erc_spec.specs.Lines.{findings_text}
use Rattle.erc_spec.specs.declared.finding.Finding.TheVariants.{Undriven}

-- nothing is wrong with the counter, though no net joins one of its outputs
abbrev pub NothingIsFoundInCounter : Type 0
NothingIsFoundInCounter = findings counter ≡ []

abbrev pub CounterIsTold : Type 0
CounterIsTold = findings_text counter ≡ lines (codes "end" ∷ [])

-- a net that leads through a cell and to a lamp has no driver, and is told once, by its first net
abbrev pub BoardIsFound : Type 0
BoardIsFound = findings board ≡ Undriven (at_path [] 0) ∷ []

abbrev pub BoardIsTold : Type 0
BoardIsTold = findings_text board ≡ lines (codes "undriven / left" ∷ codes "end" ∷ [])
