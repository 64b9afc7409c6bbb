-- What is written of an electrical check.
use Rattle.std.specs.Prelude.{ℕ, List, [], ◌∷◌, ◌++◌, codes}
use Rattle.std.specs.List.{flat_map}
use Rattle.std.specs.Fmt.{decimal}
use Rattle.netlist_schema.specs.Design.{Design}
use Rattle.flat_lines_spec.specs.Lines.{net_words, path_text, port_text, spaced}
use Rattle.erc_spec.specs.Findings.{findings}
use Rattle.erc_spec.specs.Types.{Finding}
use Rattle.erc_spec.specs.declared.finding.Finding.TheVariants.{Undriven, Many, Open}

-- a net that no pin drives; one that several drive strongly, and how many; a bit of a port that no net joins
abbrev pub finding_words : Design → Finding → List (List ℕ)
finding_words d (Undriven x) = codes "undriven" ∷ net_words d x
finding_words d (Many x strong) = codes "many" ∷ net_words d x ++ decimal strong ∷ []
finding_words d (Open path port bit) = codes "open" ∷ path_text d path ∷ port_text d path port ∷ decimal bit ∷ []

-- a finding as a line, with the line feed at its end
abbrev pub finding_line : Design → Finding → List ℕ
finding_line d finding = spaced (finding_words d finding) ++ 10 ∷ []

-- findings, line by line
abbrev pub finding_lines : Design → List Finding → List ℕ
finding_lines d found = flat_map (finding_line d) found

-- the lines of findings, and then `end`
abbrev pub found_text : Design → List Finding → List ℕ
found_text d found = finding_lines d found ++ (codes "end" ++ 10 ∷ [])

-- the same of all that is found in the design
abbrev pub findings_text : Design → List ℕ
findings_text d = found_text d (findings d)
