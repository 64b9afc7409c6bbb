-- What holds of sessions, scripts and reports.
use Rattle.std.specs.Prelude.{◌≡◌, ℕ, List, [], ◌∷◌, ◌++◌}
use Rattle.std.specs.List.{All}
use Rattle.netlist_schema.specs.Design.{Design}
use Rattle.netlist_schema.specs.Types.{Object}
use Rattle.edit_rules_spec.specs.Objects.{IsThere}
use Rattle.edit_spec.specs.declared.ops.Op.{Op}
use Rattle.db_spec.specs.History.{Legal}
use Rattle.db_spec.specs.declared.event.Answer.TheVariants.{Conflict}
use Rattle.db_spec.specs.declared.event.Call.TheVariants.{Commit}
use Rattle.db_spec.specs.declared.event.Event.{Event}
use Rattle.script_spec.specs.declared.script.Step.{Step}
use Rattle.script_spec.specs.declared.script.Step.TheVariants.{Run}
use Rattle.script_spec.specs.Lines.{IsSayable, IsSayableOp, op_text}
use Rattle.script_spec.specs.Report.{Prints, head_design, transcript}
use Rattle.script_spec.specs.ScriptText.{Parts, IsScriptText, IsFirstBad, Says}
use Rattle.script_spec.specs.Session.{Word, Ending, Session, exchanges}
use Rattle.script_spec.specs.Texts.{object_text}

-- a script says one thing at most of the events of its caller, and ends in one way
abbrev pub OneTranscript : Type 0
OneTranscript = (d : Design) (history : List Event) (caller : ℕ) (steps : List Step) (said others : List Word) (ending last : Ending)
    → Session d history caller steps said ending → Session d history caller steps others last → (said ≡ others) × (ending ≡ last)

-- a history has one report at most that its scripts fit
abbrev pub OneReport : Type 0
OneReport = (d : Design) (scripts : List (List Step)) (history : List Event) (a b : List ℕ)
    → Prints d scripts a history → Prints d scripts b history → a ≡ b

-- a line says one step at most
abbrev pub OneStep : Type 0
OneStep = (line : List ℕ) (a b : Step) → Says line a → Says line b → a ≡ b

-- the canonical line of an operation that can be said says it
abbrev pub LinesAreRead : Type 0
LinesAreRead = (op : Op) → IsSayableOp op → Says (op_text op) (Run op)

-- two operations that can be said have not one line
abbrev pub LinesDiffer : Type 0
LinesDiffer = (a b : Op) → IsSayableOp a → IsSayableOp b → op_text a ≡ op_text b → a ≡ b

-- a text is one script at most, which is a script as values are, and then it has no first bad line; it has one where it is none
abbrev pub OneScript : Type 0
OneScript = (text : List ℕ) (a b : Parts) → IsScriptText text a → IsScriptText text b → a ≡ b

abbrev pub ScriptOrBad : Type 0
ScriptOrBad = (text : List ℕ) (script : Parts) (at : ℕ) → IsScriptText text script → IsFirstBad text at → ⊥

abbrev pub OneBadLine : Type 0
OneBadLine = (text : List ℕ) (a b : ℕ) → IsFirstBad text a → IsFirstBad text b → a ≡ b

-- a text is the report of one history at most
abbrev pub OneHistory : Type 0
OneHistory = (d : Design) (scripts : List (List Step)) (text : List ℕ) (history other : List Event)
    → All (All IsSayable) scripts → Prints d scripts text history → Prints d scripts text other → history ≡ other

-- the refused commit of these operations by a caller
abbrev pub refused : ℕ → ℕ → List Op → Object → ℕ → Event
refused caller pin ops object w = record { caller = caller; call = Commit pin ops; answer = Conflict object w }

-- a session of a caller who makes no more calls stays as the history goes on
abbrev pub SessionStays : Type 0
SessionStays = (d : Design) (seen more : List Event) (caller : ℕ) (steps : List Step) (said : List Word) (ending : Ending)
    → Legal d (seen ++ more) → exchanges caller more ≡ [] → Session d seen caller steps said ending → Session d (seen ++ more) caller steps said ending

-- an object that is there keeps its text as the history goes on
abbrev pub ObjectsStay : Type 0
ObjectsStay = (d : Design) (seen more : List Event) (object : Object) → Legal d (seen ++ more) → IsThere (head_design d seen) object
    → object_text (head_design d (seen ++ more)) object ≡ object_text (head_design d seen) object

-- the object of a refused commit is there in the last version at its turn
abbrev pub ConflictsAreThere : Type 0
ConflictsAreThere = (d : Design) (seen more : List Event) (caller pin : ℕ) (ops : List Op) (object : Object) (w : ℕ) → Legal d (seen ++ refused caller pin ops object w ∷ more)
    → IsThere (head_design d seen) object

-- what a session said keeps its text as the history goes on
abbrev pub TranscriptStays : Type 0
TranscriptStays = (d : Design) (seen more : List Event) (caller : ℕ) (steps : List Step) (said : List Word) (ending : Ending)
    → Legal d (seen ++ more) → Session d seen caller steps said ending → transcript d (seen ++ more) said ≡ transcript d seen said
