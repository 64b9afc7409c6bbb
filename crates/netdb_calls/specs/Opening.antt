-- What bytes open.
use Rattle.std.specs.Prelude.{◌≡◌, ◌<◌, ◌≤◌, ℕ, List, [], length, Result, Ok, Err}
use Rattle.netlist_schema.specs.Design.{Design}
use Rattle.netlist_schema.specs.declared.limits.TheConstants.{MOST_FILE_BYTES}
use Rattle.edif_spec.specs.Files.{IsDesignFile, IsWrong}
use Rattle.edif_spec.specs.FaultText.{fault_text}
use Rattle.edif_spec.specs.declared.file_fault.EdifFault.{EdifFault}
use Rattle.netdb_desk.specs.Calls.{IsOpened}
use Rattle.netdb_desk.specs.Seats.{DeskFacts}
use Rattle.netdb_calls.specs.declared.opened.Inside.TheVariants.{Desk, Refused}
use Rattle.netdb_calls.specs.declared.opened.Opened.{Opened}
use Rattle.call_status.specs.declared.status.Status.{Status}
use Rattle.call_status.specs.declared.status.Status.TheVariants as says

-- the database of a design, at whose seats nothing is held, with no text; or there was no memory
abbrev pub OpensDesign : Design → Result (Opened × Status) Status → Type 0
OpensDesign design (Ok (opened, status)) = (status ≡ says.Done) × (opened.text.items ≡ []) × ((d : DeskFacts) × (opened.inside ≡ Desk d) × IsOpened design d)
OpensDesign design (Err status) = status ≡ says.NoMemory

-- the text of a fault; or there was no memory
abbrev pub OpensWrong : EdifFault → Result (Opened × Status) Status → Type 0
OpensWrong fault (Ok (opened, status)) = (status ≡ says.BadDesign) × (opened.inside ≡ Refused) × (opened.text.items ≡ fault_text fault)
OpensWrong fault (Err status) = status ≡ says.NoMemory

-- the bytes are a design file, and this is its database
pub record IsDatabase (bytes : List ℕ) (opened : Opened) : Type 0 where
  pub design : Design
  pub means : IsDesignFile bytes design
  pub desk : DeskFacts
  pub inside : opened.inside ≡ Desk desk
  pub begun : IsOpened design desk
  pub text : opened.text.items ≡ []

-- the bytes are none, and this is the text of what is wrong with them
pub record IsRefusal (bytes : List ℕ) (opened : Opened) : Type 0 where
  pub fault : EdifFault
  pub wrong : IsWrong bytes fault
  pub inside : opened.inside ≡ Refused
  pub text : opened.text.items ≡ fault_text fault

-- by the status
abbrev pub OpensTo : List ℕ → Opened → Status → Type 0
OpensTo bytes opened says.Done = IsDatabase bytes opened
OpensTo bytes opened says.BadDesign = IsRefusal bytes opened
OpensTo bytes opened other = ⊥

abbrev pub FailsBy : List ℕ → Status → Type 0
FailsBy bytes says.TooLarge = MOST_FILE_BYTES < length bytes
FailsBy bytes says.NoMemory = length bytes ≤ MOST_FILE_BYTES
FailsBy bytes other = ⊥

abbrev pub Opens : List ℕ → Result (Opened × Status) Status → Type 0
Opens bytes (Ok (opened, status)) = OpensTo bytes opened status
Opens bytes (Err status) = FailsBy bytes status
