-- What reading a file within a limit gives.
use Rattle.std.specs.Prelude.{◌≡◌, ℕ, ◌+◌, ◌<◌, ◌≤◌, List, [], length, drop, Option, Some, None, IfSome, IsSomeAnd}
use Rattle.netdb_outside.specs.Outside.{Folder, file_named}
use Rattle.netdb_outside.specs.declared.contents.FileRead.{FileRead}
use Rattle.netdb_outside.specs.declared.contents.FileRead.TheVariants.{Bytes, TooLarge, Missing, Failed, NoMemory}
use Rattle.netdb_outside.specs.declared.pieces.Ended.{Ended}
use Rattle.netdb_outside.specs.declared.pieces.Ended.TheVariants as ends

-- the file of this name has just these bytes, and all of them were read
abbrev pub IsReadWhole : Folder → List ℕ → List ℕ → Type 0
IsReadWhole folder name bytes = (file_named folder.files name ≡ Some bytes) × (folder.rest ≡ [])

-- the file of this name has more bytes than the limit, and just those up to one past the limit were read
abbrev pub IsReadPast : Folder → List ℕ → ℕ → Type 0
IsReadPast folder name limit = IsSomeAnd (file_named folder.files name) (λ bytes. (limit < length bytes) × (folder.rest ≡ drop (limit + 1) bytes))

-- there is no file of this name, and none is being read
abbrev pub IsMissing : Folder → List ℕ → Type 0
IsMissing folder name = (file_named folder.files name ≡ None) × (folder.rest ≡ [])

-- what reading the file of this name gives: bytes within the limit, and, where files are told, only what is so of the file
abbrev pub FileGives : Option Folder → List ℕ → ℕ → FileRead → Type 0
FileGives told name limit (Bytes bytes) = (length bytes ≤ limit) × IfSome told (λ folder. IsReadWhole folder name bytes)
FileGives told name limit TooLarge = IfSome told (λ folder. IsReadPast folder name limit)
FileGives told name limit Missing = IfSome told (λ folder. IsMissing folder name)
FileGives told name limit Failed = Unit {0}
FileGives told name limit NoMemory = Unit {0}

-- the file was read through, or is not there
abbrev pub IsFoundOut : FileRead → Type 0
IsFoundOut (Bytes bytes) = Unit {0}
IsFoundOut TooLarge = Unit {0}
IsFoundOut Missing = Unit {0}
IsFoundOut Failed = ⊥
IsFoundOut NoMemory = ⊥

-- how the reading ended that gave this
abbrev pub ended_by : FileRead → Ended
ended_by (Bytes bytes) = ends.Whole
ended_by TooLarge = ends.TooLarge
ended_by Missing = ends.Missing
ended_by Failed = ends.Failed
ended_by NoMemory = ends.NoMemory
