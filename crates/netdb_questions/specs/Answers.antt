-- The answers of questions, each an item of the flattening, or a refusal.
use Rattle.std.specs.Prelude.{◌≡◌, ◌⊎◌, ℕ, List, Bool, Option, Some, None, Result, Ok, Err}
use Rattle.netlist_schema.specs.Design.{Design}
use Rattle.netlist_schema.specs.Types.{CellId}
use Rattle.flat_spec.specs.Types.{Item, NetAt}
use Rattle.ask_spec.specs.Nets.{first_of, is_same_net}
use Rattle.ask_spec.specs.Places.{at}
use Rattle.ask_spec.specs.Roles.{pins_as}
use Rattle.ask_spec.specs.declared.role.Role.{Role}
use Rattle.netdb_questions.specs.Facts.{QuestionFacts}
use Rattle.netdb_questions.specs.Items.{first_item, nets_in, occurrence_item, occurrences_below}
use Rattle.netdb_questions.specs.Named.{IsBitNamed, IsNetNamed, IsPathNamed, LeadsTo}
use Rattle.netdb_questions.specs.declared.finding.PortAt.{PortAt}
use Rattle.netdb_questions.specs.declared.finding.Refusal.{Refusal}
use Rattle.netdb_questions.specs.declared.finding.Refusal.TheVariants as no

-- ---- one answer

-- the occurrence at the path; there is none; or an allocation was refused
abbrev pub IsThere : Design → List ℕ → Result Item Refusal → Type 0
IsThere d path (Ok item) = (c : CellId) × (at d path ≡ Some c) × (item ≡ occurrence_item d path c)
IsThere d path (Err no.NoPath) = at d path ≡ None
IsThere d path (Err no.NoMemory) = Unit {0}
IsThere d path (Err other) = ⊥

-- the first net that was found; none was; or an allocation was refused
abbrev pub IsAnsweredBy : Option NetAt → Result Item Refusal → Type 0
IsAnsweredBy found (Err no.NoMemory) = Unit {0}
IsAnsweredBy (Some x) (Ok item) = item ≡ first_item x
IsAnsweredBy None (Err no.NoNet) = Unit {0}
IsAnsweredBy found other = ⊥

-- whether two nets are connected; or an allocation was refused
abbrev pub IsToldOf : Bool → Result Bool Refusal → Type 0
IsToldOf same (Ok told) = told ≡ same
IsToldOf same (Err no.NoMemory) = Unit {0}
IsToldOf same (Err other) = ⊥

-- the occurrence to which the text leads
abbrev pub FindsOccurrence : Design → List ℕ → Result Item Refusal → Type 0
FindsOccurrence d text (Ok item) = (path : List ℕ) × (c : CellId) × LeadsTo d text path × (at d path ≡ Some c) × (item ≡ occurrence_item d path c)
FindsOccurrence d text (Err refusal) = IsPathNamed d text (Err refusal)

-- the first of the nets that are connected with the one that is named
abbrev pub FindsFirst : Design → List ℕ → List ℕ → Result Item Refusal → Type 0
FindsFirst d text name (Ok item) = (x : NetAt) × IsNetNamed d text name (Ok x) × (item ≡ first_item (first_of d x))
FindsFirst d text name (Err refusal) = IsNetNamed d text name (Err refusal)

-- the net at the bit that is named, seen from a side; no net joins it there
abbrev pub FindsNet : (Design → List ℕ → ℕ → ℕ → Option NetAt) → Design → List ℕ → List ℕ → ℕ → Result Item Refusal → Type 0
FindsNet side d text name bit (Ok item) =
    (found : PortAt) × IsBitNamed d text name bit (Ok found) × ((x : NetAt) × (side d found.path found.port bit ≡ Some x) × (item ≡ first_item x))
FindsNet side d text name bit (Err no.NoNet) = (found : PortAt) × IsBitNamed d text name bit (Ok found) × (side d found.path found.port bit ≡ None)
FindsNet side d text name bit (Err other) = IsBitNamed d text name bit (Err other)

-- whether a net is connected with the one that is named
abbrev pub IsSameAs : Design → NetAt → List ℕ → List ℕ → Result Bool Refusal → Type 0
IsSameAs d x text name (Ok same) = (y : NetAt) × IsNetNamed d text name (Ok y) × (same ≡ is_same_net d x y)
IsSameAs d x text name (Err refusal) = IsNetNamed d text name (Err refusal)

-- whether the two nets that are named are connected; the first is refused, or it is not, and the other is
abbrev pub FindsSame : Design → List ℕ → List ℕ → List ℕ → List ℕ → Result Bool Refusal → Type 0
FindsSame d text name other_text other_name (Ok same) =
    (x : NetAt) × (y : NetAt) × IsNetNamed d text name (Ok x) × IsNetNamed d other_text other_name (Ok y) × (same ≡ is_same_net d x y)
FindsSame d text name other_text other_name (Err refusal) =
    IsNetNamed d text name (Err refusal) ⊎ ((x : NetAt) × IsNetNamed d text name (Ok x) × IsNetNamed d other_text other_name (Err refusal))

-- ---- lists

-- a list of these items was begun, in place of one that was begun before
abbrev pub listing : QuestionFacts → List Item → QuestionFacts
listing questions items = record { version = questions.version; left = Some items }

-- of the pins of the net that is named, which stand so at it
abbrev pub BeginsPins : QuestionFacts → QuestionFacts → Role → List ℕ → List ℕ → Result (Unit {0}) Refusal → Type 0
BeginsPins old new role text name (Ok done) =
    (x : NetAt) × IsNetNamed old.version.design text name (Ok x) × (new ≡ listing old (pins_as role old.version.design x))
BeginsPins old new role text name (Err refusal) = IsNetNamed old.version.design text name (Err refusal) × (new ≡ old)

-- of what these are below the occurrence to which the text leads
abbrev pub BeginsAt : (Design → List ℕ → List Item) → QuestionFacts → QuestionFacts → List ℕ → Result (Unit {0}) Refusal → Type 0
BeginsAt items old new text (Ok done) = (path : List ℕ) × LeadsTo old.version.design text path × (new ≡ listing old (items old.version.design path))
BeginsAt items old new text (Err refusal) = IsPathNamed old.version.design text (Err refusal) × (new ≡ old)

abbrev pub BeginsInsts : QuestionFacts → QuestionFacts → List ℕ → Result (Unit {0}) Refusal → Type 0
BeginsInsts old new text result = BeginsAt occurrences_below old new text result

abbrev pub BeginsNets : QuestionFacts → QuestionFacts → List ℕ → Result (Unit {0}) Refusal → Type 0
BeginsNets old new text result = BeginsAt nets_in old new text result
