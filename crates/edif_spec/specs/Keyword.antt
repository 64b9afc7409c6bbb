-- The forms of the profile: how each keyword is spelled, and what its form is made of.
use Rattle.std.specs.Prelude.{ℕ, List, [], ◌∷◌, Bool, true, false, ◌&&◌, nat_eq, if◌then◌else◌, Option, Some, None, codes}
use Rattle.std.specs.Char.{to_ascii_lowercase}
use Rattle.edif_spec.specs.declared.keyword.Keyword.{Keyword}
use Rattle.edif_spec.specs.declared.keyword.Keyword.TheVariants.{Edif, EdifVersion, EdifLevel, KeywordMap, KeywordLevel, Library, External, Technology, Cell, CellType, View, ViewType, Interface, Port, Array, Direction, Designator, Owner, Contents, Instance, Net, Joined, PortRef, Member, InstanceRef, LibraryRef, ViewRef, CellRef, Property, Boolean, Number, Design, Rename, Status, Comment, UserData, True, False, E, Path}
use Rattle.edif_spec.specs.declared.keyword.Keyword.TheVariants as keywords

-- equal ignoring ASCII case
abbrev pub same : List ℕ → List ℕ → Bool
same [] [] = true
same [] (c ∷ cs) = false
same (b ∷ bs) [] = false
same (b ∷ bs) (c ∷ cs) = nat_eq (to_ascii_lowercase b) (to_ascii_lowercase c) && same bs cs

-- the spelling of each keyword
abbrev pub spelling_of : Keyword → List ℕ
spelling_of Edif = codes "edif"
spelling_of EdifVersion = codes "edifVersion"
spelling_of EdifLevel = codes "edifLevel"
spelling_of KeywordMap = codes "keywordMap"
spelling_of KeywordLevel = codes "keywordLevel"
spelling_of Library = codes "library"
spelling_of External = codes "external"
spelling_of Technology = codes "technology"
spelling_of Cell = codes "cell"
spelling_of CellType = codes "cellType"
spelling_of View = codes "view"
spelling_of ViewType = codes "viewType"
spelling_of Interface = codes "interface"
spelling_of Port = codes "port"
spelling_of Array = codes "array"
spelling_of Direction = codes "direction"
spelling_of Designator = codes "designator"
spelling_of Owner = codes "owner"
spelling_of Contents = codes "contents"
spelling_of Instance = codes "instance"
spelling_of Net = codes "net"
spelling_of Joined = codes "joined"
spelling_of PortRef = codes "portRef"
spelling_of Member = codes "member"
spelling_of InstanceRef = codes "instanceRef"
spelling_of LibraryRef = codes "libraryRef"
spelling_of ViewRef = codes "viewRef"
spelling_of CellRef = codes "cellRef"
spelling_of Property = codes "property"
spelling_of Boolean = codes "boolean"
spelling_of keywords.Integer = codes "integer"
spelling_of Number = codes "number"
spelling_of keywords.String = codes "string"
spelling_of Design = codes "design"
spelling_of Rename = codes "rename"
spelling_of Status = codes "status"
spelling_of Comment = codes "comment"
spelling_of UserData = codes "userData"
spelling_of True = codes "true"
spelling_of False = codes "false"
spelling_of E = codes "e"
spelling_of Path = codes "path"

-- all of them, in the order of the table
abbrev pub all_keywords : List Keyword
all_keywords = Edif ∷ EdifVersion ∷ EdifLevel ∷ KeywordMap ∷ KeywordLevel ∷ Library ∷ External ∷ Technology ∷ Cell ∷ CellType
    ∷ View ∷ ViewType ∷ Interface ∷ Port ∷ Array ∷ Direction ∷ Designator ∷ Owner ∷ Contents ∷ Instance ∷ Net ∷ Joined ∷ PortRef
    ∷ Member ∷ InstanceRef ∷ LibraryRef ∷ ViewRef ∷ CellRef ∷ Property ∷ Boolean ∷ keywords.Integer ∷ Number ∷ keywords.String
    ∷ Design ∷ Rename ∷ Status ∷ Comment ∷ UserData ∷ True ∷ False ∷ E ∷ Path ∷ []

-- the first of these keywords that a name spells
abbrev pub first_spelled : List ℕ → List Keyword → Option Keyword
first_spelled name [] = None
first_spelled name (k ∷ ks) = if same name (spelling_of k) then Some k else first_spelled name ks

-- the keyword that a name spells, ignoring ASCII case
abbrev pub keyword : List ℕ → Option Keyword
keyword name = first_spelled name all_keywords

-- What may stand as one argument: a token of a kind, or a form with a keyword.
pub data Choice : Type 0 where
  AnIdentifier : Choice
  AnInteger : Choice
  AString : Choice
  AForm : (k : Keyword) → Choice

-- What may follow the fixed arguments: a form, any number of times or once at most.
pub data Follower : Type 0 where
  Many : (k : Keyword) → Follower
  One : (k : Keyword) → Follower

-- A row of the table: the choices for each fixed argument, and what may follow. A skipped form is not looked into.
pub data FormRow : Type 0 where
  Takes : (fixed : List (List Choice)) (followers : List Follower) → FormRow
  Skips : FormRow

-- a name as it is defined: an identifier, or a rename
abbrev pub name_definition : List Choice
name_definition = AnIdentifier ∷ AForm Rename ∷ []

-- the name of a port or of a net: a name, or that of an array
abbrev pub bus_name : List Choice
bus_name = AnIdentifier ∷ AForm Rename ∷ AForm Array ∷ []

-- a form with this keyword and nothing else
abbrev pub the : Keyword → List Choice
the k = AForm k ∷ []

-- an identifier and nothing else
abbrev pub identifier : List Choice
identifier = AnIdentifier ∷ []

-- an integer and nothing else
abbrev pub integer : List Choice
integer = AnInteger ∷ []

-- a string and nothing else
abbrev pub string : List Choice
string = AString ∷ []

-- the table: the row of each keyword
abbrev pub row : Keyword → FormRow
row Edif = Takes (name_definition ∷ the EdifVersion ∷ the EdifLevel ∷ the KeywordMap ∷ []) (Many Status ∷ Many External ∷ Many Library ∷ One Design ∷ Many Comment ∷ Many UserData ∷ [])
row EdifVersion = Takes (integer ∷ integer ∷ integer ∷ []) []
row EdifLevel = Takes (integer ∷ []) []
row KeywordLevel = Takes (integer ∷ []) []
row KeywordMap = Takes (the KeywordLevel ∷ []) (Many Comment ∷ [])
row Library = Takes (name_definition ∷ the EdifLevel ∷ the Technology ∷ []) (Many Status ∷ Many Cell ∷ Many Comment ∷ Many UserData ∷ [])
row External = Takes (name_definition ∷ the EdifLevel ∷ the Technology ∷ []) (Many Status ∷ Many Cell ∷ Many Comment ∷ Many UserData ∷ [])
row Technology = Skips
row Cell = Takes (name_definition ∷ the CellType ∷ []) (Many Status ∷ One View ∷ Many Property ∷ Many Comment ∷ Many UserData ∷ [])
row CellType = Takes (identifier ∷ []) []
row View = Takes (name_definition ∷ the ViewType ∷ the Interface ∷ []) (Many Status ∷ One Contents ∷ Many Property ∷ Many Comment ∷ Many UserData ∷ [])
row ViewType = Takes (identifier ∷ []) []
row Interface = Takes [] (Many Port ∷ Many Property ∷ Many Comment ∷ Many UserData ∷ [])
row Port = Takes (bus_name ∷ []) (One Direction ∷ One Designator ∷ Many Property ∷ Many Comment ∷ Many UserData ∷ [])
row Array = Takes (name_definition ∷ integer ∷ []) []
row Direction = Takes (identifier ∷ []) []
row Designator = Takes (string ∷ []) []
row Owner = Takes (string ∷ []) []
row Contents = Takes [] (Many Instance ∷ Many Net ∷ Many Comment ∷ Many UserData ∷ [])
row Instance = Takes (name_definition ∷ the ViewRef ∷ []) (One Designator ∷ Many Property ∷ Many Comment ∷ Many UserData ∷ [])
row Net = Takes (bus_name ∷ the Joined ∷ []) (Many Property ∷ Many Comment ∷ Many UserData ∷ [])
row Joined = Takes [] (Many PortRef ∷ [])
row PortRef = Takes ((AnIdentifier ∷ AForm Member ∷ []) ∷ []) (One InstanceRef ∷ [])
row Member = Takes (identifier ∷ integer ∷ []) []
row InstanceRef = Takes (identifier ∷ []) []
row LibraryRef = Takes (identifier ∷ []) []
row ViewRef = Takes (identifier ∷ the CellRef ∷ []) []
row CellRef = Takes (identifier ∷ []) (One LibraryRef ∷ [])
row Property = Takes (name_definition ∷ (AForm Boolean ∷ AForm keywords.Integer ∷ AForm Number ∷ AForm keywords.String ∷ []) ∷ []) (One Owner ∷ Many Comment ∷ [])
row Boolean = Takes ((AForm True ∷ AForm False ∷ []) ∷ []) []
row keywords.Integer = Takes (integer ∷ []) []
row Number = Takes ((AnInteger ∷ AForm E ∷ []) ∷ []) []
row keywords.String = Takes (string ∷ []) []
row Design = Takes (name_definition ∷ the CellRef ∷ []) (Many Status ∷ Many Property ∷ Many Comment ∷ Many UserData ∷ [])
row Rename = Takes (identifier ∷ string ∷ []) []
row Status = Skips
row Comment = Skips
row UserData = Skips
row True = Takes [] []
row False = Takes [] []
row E = Takes (integer ∷ integer ∷ []) []
row Path = Skips
