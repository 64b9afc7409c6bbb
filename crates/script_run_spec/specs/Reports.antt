-- The report of a run of scripts, which ends in the last version of its history.
use Rattle.std.specs.Prelude.{◌≡◌, ℕ, List, ◌++◌, Option}
use Rattle.netlist_schema.specs.Design.{Design}
use Rattle.netdb_outside.specs.Outside.{Appends}
use Rattle.edif_spelling_spec.specs.Spelling.{Spells}
use Rattle.edif_spelling_spec.specs.Tree.{Bare}
use Rattle.edif_spec.specs.Arranged.{arranged, canonical_text}
use Rattle.edif_spec.specs.Means.{MeansFile}
use Rattle.script_spec.specs.declared.script.Step.{Step}
use Rattle.script_spec.specs.Headline.{WritesFullReport, WritesReport}
use Rattle.script_spec.specs.Report.{head_design}

-- the last part of the text is the canonical text of the design, which spells a tree that means the design with the cells of each
-- library in the order in which they are written
pub record EndsIn (text : List ℕ) (d : Design) : Type 0 where
  pub front : List ℕ
  pub parts : text ≡ front ++ canonical_text d
  pub tree : Bare
  pub spelled : Spells (canonical_text d) tree
  pub means : MeansFile tree (arranged d)

-- the report of a run in which each script ended by its last line, and it ends in the last version
pub record IsReport (d : Design) (scripts : List (List Step)) (text : List ℕ) : Type 0 where
  pub report : WritesReport d scripts text
  pub last : EndsIn text (head_design d report.history)

-- the report of a run in which some script met a full log, and it ends in the last version
pub record IsFullReport (d : Design) (scripts : List (List Step)) (text : List ℕ) : Type 0 where
  pub report : WritesFullReport d scripts text
  pub last : EndsIn text (head_design d report.history)

-- a text of which this holds was written
abbrev pub WritesSome : (List ℕ → Type 0) → Option (List ℕ) → Option (List ℕ) → Type 0
WritesSome P old new = (text : List ℕ) × P text × Appends old new text
