-- What is left of a list, and its next item.
use Rattle.std.specs.Prelude.{◌≡◌, ◌≢◌, ℕ, List, [], ◌∷◌, Option, Some, None, Result, Ok, Err, drop}
use Rattle.netlist_schema.specs.Design.{Design}
use Rattle.netlist_pages.specs.declared.memory.NoMemory.{NoMemory}
use Rattle.flat_spec.specs.Types.{Item, NetAt}
use Rattle.ask_spec.specs.Places.{insts_of, nets_of}
use Rattle.ask_spec.specs.Roles.{pins_as}
use Rattle.ask_spec.specs.declared.role.Role.{Role}
use Rattle.netdb_questions.specs.Items.{inst_items, net_items}
use Rattle.netdb_questions.specs.Named.{IsNetNamed, IsPathNamed, LeadsTo}
use Rattle.netdb_questions.specs.declared.finding.Refusal.{Refusal}
use Rattle.netdb_questions.specs.declared.finding.Refusal.TheVariants as refused
use Rattle.netdb_questions.specs.declared.lists.Begun.{Begun}
use Rattle.netdb_questions.specs.declared.lists.Begun.TheVariants.{Nothing, Pins, Insts, Nets}
use Rattle.netdb_questions.specs.declared.lists.NextError.{NextError}
use Rattle.netdb_questions.specs.declared.lists.NextError.TheVariants as no

-- the instances and the nets of an occurrence from a place on
abbrev pub insts_left : Design → List ℕ → ℕ → List Item
insts_left d path place = inst_items d path place (drop place (insts_of d path))

abbrev pub nets_left : Design → List ℕ → ℕ → List Item
nets_left d path place = net_items d path place (drop place (nets_of d path))

-- what is left of the list that was begun last, where one was
abbrev pub left_of : Design → Begun → Option (List Item)
left_of d Nothing = None
left_of d (Pins pins) = Some pins
left_of d (Insts path place) = Some (insts_left d path place)
left_of d (Nets path place) = Some (nets_left d path place)

-- a list of these items; or an allocation was refused
abbrev pub IsListOf : Design → List Item → Result Begun Refusal → Type 0
IsListOf d items (Ok list) = left_of d list ≡ Some items
IsListOf d items (Err refused.NoMemory) = Unit {0}
IsListOf d items (Err other) = ⊥

-- a list of the pins of the net that is named, which stand so at it; or the refusal
abbrev pub IsListOfPins : Design → Role → List ℕ → List ℕ → Result Begun Refusal → Type 0
IsListOfPins d role text name (Ok list) = (x : NetAt) × IsNetNamed d text name (Ok x) × (left_of d list ≡ Some (pins_as role d x))
IsListOfPins d role text name (Err refusal) = IsNetNamed d text name (Err refusal)

-- a list of these items of the occurrence to which the text leads; or the refusal
abbrev pub IsListAt : (Design → List ℕ → List Item) → Design → List ℕ → Result Begun Refusal → Type 0
IsListAt items d text (Ok list) = (path : List ℕ) × LeadsTo d text path × (left_of d list ≡ Some (items d path))
IsListAt items d text (Err refusal) = IsPathNamed d text (Err refusal)

-- the first item is given, and the others are left; none is left; or nothing was changed
abbrev pub Takes : List Item → List Item → Result (Option Item) NoMemory → Type 0
Takes old new (Ok (Some item)) = old ≡ item ∷ new
Takes old new (Ok None) = (old ≡ []) × (new ≡ [])
Takes old new (Err error) = new ≡ old

abbrev pub given_by : Result (Option Item) NoMemory → Result (Option Item) NextError
given_by (Ok item) = Ok item
given_by (Err error) = Err no.NoMemory

-- the same of the list that was begun last; or none was
abbrev pub Gives : Option (List Item) → Option (List Item) → Result (Option Item) NextError → Type 0
Gives old new (Ok (Some item)) = (others : List Item) × (old ≡ Some (item ∷ others)) × (new ≡ Some others)
Gives old new (Ok None) = (old ≡ Some []) × (new ≡ Some [])
Gives old new (Err no.NoList) = (old ≡ None) × (new ≡ None)
Gives old new (Err no.NoMemory) = (old ≢ None) × (new ≡ old)
