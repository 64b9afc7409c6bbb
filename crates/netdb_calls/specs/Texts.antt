-- The texts of a version, by their numbers, and what writing one comes to.
use Rattle.std.specs.Prelude.{◌≡◌, ◌≢◌, ℕ, List, [], Option, Some, None, Result, Ok, Err, if◌then◌else◌, ◌==◌}
use Rattle.netlist_schema.specs.Design.{Design}
use Rattle.edif_spec.specs.Arranged.{canonical_text}
use Rattle.erc_spec.specs.Lines.{findings_text}
use Rattle.flat_csv_spec.specs.PinTable.{pin_table}
use Rattle.flat_lines_spec.specs.Lines.{flattening_text}
use Rattle.flat_writer.specs.declared.error.FlatError.{FlatError}
use Rattle.flat_writer.specs.declared.error.FlatError.TheVariants as flat
use Rattle.netdb_outside.specs.Outside.{Appends, AppendsFront}
use Rattle.netdb_outside.specs.declared.write_error.WriteError.{WriteError}
use Rattle.netdb_outside.specs.declared.write_error.WriteError.TheVariants as write
use Rattle.db_spec.specs.State.{design, head}
use Rattle.db_core.specs.Story.{state}
use Rattle.script_run_spec.specs.Written.{written_report}
use Rattle.used_spec.specs.Lines.{uses_text}
use Rattle.netdb_desk.specs.Seats.{DeskFacts}
use Rattle.netdb_view.specs.Facts.{ViewFacts}
use Rattle.netdb_calls.specs.declared.opened.Inside.{Inside}
use Rattle.netdb_calls.specs.declared.opened.Inside.TheVariants.{Desk, Questions, Refused, View}
use Rattle.call_status.specs.declared.status.Status.{Status}
use Rattle.call_status.specs.declared.status.Status.TheVariants as says
use Rattle.netdb_calls.specs.declared.texts.Kind.{Kind}
use Rattle.netdb_calls.specs.declared.texts.Kind.TheVariants as kind

abbrev pub kind_at : ℕ → Option Kind
kind_at number =
    if number == 0 then Some kind.Edif
    else if number == 1 then Some kind.Flat
    else if number == 2 then Some kind.Csv
    else if number == 3 then Some kind.Erc
    else if number == 4 then Some kind.Uses
    else None

abbrev pub status_of_write : Result (Unit {0}) WriteError → Status
status_of_write (Ok done) = says.Done
status_of_write (Err write.WriteFault) = says.WriteFault
status_of_write (Err write.NoMemory) = says.NoMemory

abbrev pub status_of_flat : Result (Unit {0}) FlatError → Status
status_of_flat (Ok done) = says.Done
status_of_flat (Err flat.NoTop) = says.NoTop
status_of_flat (Err flat.WriteFault) = says.WriteFault
status_of_flat (Err flat.NoMemory) = says.NoMemory

-- the whole text was written, or a front of it, where it could not be
abbrev pub WritesText : List ℕ → Option (List ℕ) → Option (List ℕ) → Status → Type 0
WritesText text old new says.Done = Appends old new text
WritesText text old new says.WriteFault = AppendsFront old new text
WritesText text old new says.NoMemory = AppendsFront old new text
WritesText text old new other = ⊥

-- a text that wants a top was written so; or there is none, and nothing was written
abbrev pub WritesBelow : Design → List ℕ → Option (List ℕ) → Option (List ℕ) → Status → Type 0
WritesBelow d text old new says.Done = (d.top ≢ None) × Appends old new text
WritesBelow d text old new says.WriteFault = (d.top ≢ None) × AppendsFront old new text
WritesBelow d text old new says.NoMemory = (d.top ≢ None) × AppendsFront old new text
WritesBelow d text old new says.NoTop = (d.top ≡ None) × (new ≡ old)
WritesBelow d text old new other = ⊥

-- a text of a view's version was written so
abbrev pub Writes : ViewFacts → Kind → Option (List ℕ) → Option (List ℕ) → Status → Type 0
Writes view kind.Edif old new status = WritesText (canonical_text view.version.design) old new status
Writes view kind.Flat old new status = WritesBelow view.version.design (flattening_text view.version.design None) old new status
Writes view kind.Csv old new status = WritesBelow view.version.design (pin_table view.version.design) old new status
Writes view kind.Erc old new status = WritesBelow view.version.design (findings_text view.version.design) old new status
Writes view kind.Uses old new status = WritesText (uses_text view.version.design) old new status

-- a text of a kind of what was opened; where that is no view, nothing was written
abbrev pub WritesOf : Inside → Kind → Option (List ℕ) → Option (List ℕ) → Status → Type 0
WritesOf (View view) kind old new status = Writes view kind old new status
WritesOf (Desk desk) kind old new status = (status ≡ says.WrongUse) × (new ≡ old)
WritesOf (Questions questions) kind old new status = (status ≡ says.WrongUse) × (new ≡ old)
WritesOf Refused kind old new status = (status ≡ says.WrongUse) × (new ≡ old)

-- the text of a number of what was opened; where the number is that of no text, nothing was written
abbrev pub WritesKind : Option Kind → Inside → Option (List ℕ) → Option (List ℕ) → Status → Type 0
WritesKind (Some kind) inside old new status = WritesOf inside kind old new status
WritesKind None inside old new status = (status ≡ says.WrongUse) × (new ≡ old)

abbrev pub WritesTo : Inside → ℕ → Option (List ℕ) → Option (List ℕ) → Status → Type 0
WritesTo inside number old new status = WritesKind (kind_at number) inside old new status

-- the design of the last version
abbrev pub head_design : DeskFacts → Design
head_design d = design (state d.story) (head (state d.story))

-- the history of a database was written, with no transcripts
abbrev pub WritesHistory : DeskFacts → Option (List ℕ) → Option (List ℕ) → Status → Type 0
WritesHistory d old new status = WritesText (written_report (head_design d) d.story.events []) old new status

-- the history of what was opened; where that is no database, nothing was written
abbrev pub WritesReport : Inside → Option (List ℕ) → Option (List ℕ) → Status → Type 0
WritesReport (Desk desk) old new status = WritesHistory desk old new status
WritesReport (View view) old new status = (status ≡ says.WrongUse) × (new ≡ old)
WritesReport (Questions questions) old new status = (status ≡ says.WrongUse) × (new ≡ old)
WritesReport Refused old new status = (status ≡ says.WrongUse) × (new ≡ old)
