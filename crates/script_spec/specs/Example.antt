-- Short forms for worked scripts and histories.
use Rattle.std.specs.Prelude.{ℕ, List, [], ◌∷◌, ◌++◌, codes}
use Rattle.std.specs.List.{flat_map}
use Rattle.netlist_schema.specs.Design.{Design}
use Rattle.flat_spec.specs.ExampleParts.{named, id_of, inst, body, lib, top}
use Rattle.script_spec.specs.declared.script.ScriptLine.{ScriptLine}
use Rattle.script_spec.specs.declared.script.Step.{Step}
use Rattle.script_spec.specs.Report.{SessionResult}
use Rattle.script_spec.specs.Session.{Ending, Word}

-- lines, each with a line feed at its end
abbrev pub text_of : List (List ℕ) → List ℕ
text_of = flat_map (λ line. line ++ 10 ∷ [])

-- a step in the line of this number
abbrev pub at_line : ℕ → Step → ScriptLine
at_line number step = record { number = number; step = step }

-- what a session says and how it ends
abbrev pub came : List Word → Ending → SessionResult
came said ending = record { said = said; ending = ending }

-- two cells with nothing in them, and the top, which has one instance of each
abbrev pub board : Design
board = record {
  title = named (codes "e");
  libs = lib (codes "w") (
      body (codes "A") [] [] []
      ∷ body (codes "B") [] [] []
      ∷ body (codes "T") [] (inst (codes "a") (id_of 0 0) [] ∷ inst (codes "b") (id_of 0 1) [] ∷ []) []
      ∷ []
      ) ∷ [];
  top = top (codes "T") (id_of 0 2) [];
  notes = [];
}
