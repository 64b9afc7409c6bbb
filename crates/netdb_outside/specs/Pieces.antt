-- What reading a file in pieces gives to one who takes them. A taker is seen as what it may have taken.
use Rattle.std.specs.Prelude.{◌≡◌, ℕ, ◌+◌, ◌≤◌, List, [], ◌∷◌, ◌++◌, length, Option, IfSome}
use Rattle.netdb_outside.specs.Contents.{IsMissing, IsReadPast, IsReadWhole}
use Rattle.netdb_outside.specs.Outside.{Folder, Takes, NothingLeft}
use Rattle.netdb_outside.specs.Visits.{AtEnd, Absent, Broken, Going, IsVisit, Visit, read_on}
use Rattle.netdb_outside.specs.declared.files.Got.{Got}
use Rattle.netdb_outside.specs.declared.files.Got.TheVariants as got
use Rattle.netdb_outside.specs.declared.pieces.Ended.{Ended}
use Rattle.netdb_outside.specs.declared.pieces.Ended.TheVariants as ends

-- just these bytes were taken in between
abbrev pub TakesIn : (List ℕ → Type 0) → (List ℕ → Type 0) → List ℕ → Type 0
TakesIn old new bytes = (before : List ℕ) → old before → new (before ++ bytes)

-- what one more piece gives: at least one byte, and one more than is allowed at most; at the end nothing
abbrev pub PieceGives : Option Folder → Option Folder → (List ℕ → Type 0) → (List ℕ → Type 0) → ℕ → Got → Type 0
PieceGives old new took took' allowed (got.Bytes n) = (piece : List ℕ) × (length piece ≡ n) × (1 ≤ n) × (n ≤ allowed + 1) × Takes old new piece × TakesIn took took' piece
PieceGives old new took took' allowed got.End = NothingLeft old × NothingLeft new × TakesIn took took' []
PieceGives old new took took' allowed got.Failed = Unit {0}
PieceGives old new took took' allowed got.NoMemory = Unit {0}

-- what reading on ends by: all of the rest was taken, within the limit; or there is more, of which the bytes up to one past the limit were read
abbrev pub RestEnds : Option Folder → Option Folder → (List ℕ → Type 0) → (List ℕ → Type 0) → ℕ → Ended → Type 0
RestEnds old new took took' limit ends.Whole = (bytes : List ℕ) × (length bytes ≤ limit) × Takes old new bytes × NothingLeft new × TakesIn took took' bytes
RestEnds old new took took' limit ends.TooLarge = (bytes : List ℕ) × (length bytes ≡ limit + 1) × Takes old new bytes
RestEnds old new took took' limit ends.Missing = ⊥
RestEnds old new took took' limit ends.Failed = Unit {0}
RestEnds old new took took' limit ends.NoMemory = Unit {0}

-- what reading the file of this name ends by: its bytes were taken, within the limit, and, where files are told, what is so of the file
abbrev pub FileEnds : Option Folder → List ℕ → (List ℕ → Type 0) → (List ℕ → Type 0) → ℕ → Ended → Type 0
FileEnds told name took took' limit ends.Whole = (bytes : List ℕ) × (length bytes ≤ limit) × IfSome told (λ folder. IsReadWhole folder name bytes) × TakesIn took took' bytes
FileEnds told name took took' limit ends.TooLarge = IfSome told (λ folder. IsReadPast folder name limit)
FileEnds told name took took' limit ends.Missing = IfSome told (λ folder. IsMissing folder name)
FileEnds told name took took' limit ends.Failed = Unit {0}
FileEnds told name took took' limit ends.NoMemory = Unit {0}

-- the file was read through, or is not there
abbrev pub IsRead : Ended → Type 0
IsRead ends.Whole = Unit {0}
IsRead ends.TooLarge = Unit {0}
IsRead ends.Missing = Unit {0}
IsRead ends.Failed = ⊥
IsRead ends.NoMemory = ⊥

-- how far the file of this name was read, by how that ended: to its end, within the limit; to one byte past the limit; not at all, since
-- it is not there; to a fault; or to where there was no memory, never further than one byte past the limit
abbrev pub VisitEnds : List ℕ → ℕ → Ended → Visit → Type 0
VisitEnds name limit ends.Whole visit = IsVisit name limit AtEnd visit
VisitEnds name limit ends.TooLarge visit = visit ≡ record { name = name; bytes = limit + 1; reach = Going }
VisitEnds name limit ends.Missing visit = visit ≡ record { name = name; bytes = 0; reach = Absent }
VisitEnds name limit ends.Failed visit = IsVisit name limit Broken visit
VisitEnds name limit ends.NoMemory visit = (visit.name ≡ name) × (visit.bytes ≤ limit + 1)

-- the file that was being read after one more piece: as after a read with this answer; without memory at most one byte more than is
-- allowed came
abbrev pub GoesTo : ℕ → Got → Visit → Visit → Type 0
GoesTo allowed got.NoMemory visit next = (next.name ≡ visit.name) × (next.bytes ≤ visit.bytes + (allowed + 1))
GoesTo allowed answer visit next = next ≡ read_on visit answer

-- the file that was asked for last goes on to one of which this holds
abbrev pub Continues : (List Visit → Type 0) → (List Visit → Type 0) → (Visit → Visit → Type 0) → Type 0
Continues old new P = (before : List Visit) (visit : Visit) → old (before ++ visit ∷ []) → (next : Visit) × P visit next × new (before ++ next ∷ [])
