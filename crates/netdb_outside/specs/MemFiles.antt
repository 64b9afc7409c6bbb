-- Files in memory: the state, and what each call answers and leaves.
use Rattle.std.specs.Prelude.{◌==◌, ◌≤◌, ℕ, min, Bool, true, false, if◌then◌else◌, List, [], ◌∷◌, ◌++◌, length, take, drop, map, Option, Some, None, slice_get, unwrap_or}
use Rattle.std.specs.Option.{option_map_or}
use Rattle.std.specs.List.{list_any}
use Rattle.netdb_outside.specs.Outside.{Folder, file_named, raised}
use Rattle.netdb_outside.specs.Visits.{Visit, begun, read_on}
use Rattle.netdb_outside.specs.declared.files.Got.{Got}
use Rattle.netdb_outside.specs.declared.files.Got.TheVariants as got
use Rattle.netdb_outside.specs.declared.files.Opened.{Opened}
use Rattle.netdb_outside.specs.declared.files.Opened.TheVariants as opened
use Rattle.netdb_outside.specs.declared.mem_files.NamedFile.{NamedFile}
use Rattle.netdb_outside.specs.declared.mem_files.Place.{Place}

-- the files and the rest, the numbers of the calls that fail, how many calls were made, and how many faults there were
pub record FilesFacts : Type 0 where
  pub folder : Folder
  pub failing : List ℕ
  pub calls : ℕ
  pub faults : ℕ

-- files by name with their bytes
abbrev pub named : List NamedFile → List (List ℕ × List ℕ)
named files = map (λ file. (file.name, file.bytes)) files

-- the names of files
abbrev pub names : List NamedFile → List (List ℕ)
names files = map (λ file. file.name) files

-- the bytes of the file at this index, none where there is no such file
abbrev pub bytes_at : List NamedFile → ℕ → List ℕ
bytes_at files i = option_map_or (λ file. file.bytes) (slice_get files i) []

-- what stands from a place on
abbrev pub rest_from : List NamedFile → Option Place → List ℕ
rest_from files None = []
rest_from files (Some place) = drop place.at (bytes_at files place.file)

-- a place is within its file
abbrev pub IsPlaced : List NamedFile → Option Place → Type 0
IsPlaced files None = Unit {0}
IsPlaced files (Some place) = place.at ≤ length (bytes_at files place.file)

-- whether the next call is one that fails
abbrev pub next_fails : FilesFacts → Bool
next_fails facts = list_any (λ number. number == raised facts.calls) facts.failing

-- after one more call, which raises the count of faults where it fails, with this rest
abbrev pub after_call : FilesFacts → List ℕ → FilesFacts
after_call facts rest = record {
  folder = record { files = facts.folder.files; rest = rest };
  failing = facts.failing;
  calls = raised facts.calls;
  faults = if next_fails facts then raised facts.faults else facts.faults;
}

-- the answer of opening, by whether the call fails and by the bytes of the file of the name
abbrev pub opening : Bool → Option (List ℕ) → Opened
opening true found = opened.Failed
opening false None = opened.Missing
opening false (Some bytes) = opened.Ready

-- the rest after opening: all bytes of a file that is ready, else none
abbrev pub opened_rest : Bool → Option (List ℕ) → List ℕ
opened_rest true found = []
opened_rest false found = unwrap_or found []

-- the answer of reading, by whether the call fails, the rest and the size of the buffer: as many bytes as are left and fit
abbrev pub reading : Bool → List ℕ → ℕ → Got
reading true rest size = got.Failed
reading false [] size = got.End
reading false (byte ∷ rest) size = got.Bytes (min (length (byte ∷ rest)) size)

-- the rest after reading: without the bytes that came, where the call does not fail
abbrev pub read_rest : Bool → List ℕ → ℕ → List ℕ
read_rest true rest size = rest
read_rest false rest size = drop size rest

-- the buffer after reading: the bytes that came, and behind them what stood there
abbrev pub read_buffer : Bool → List ℕ → List ℕ → List ℕ
read_buffer true rest buf = buf
read_buffer false rest buf = take (length buf) rest ++ drop (length rest) buf

-- Files in memory may have come so far when these files were asked for, in this order: from where no call was made on, by openings and by
-- reads of what was asked for last.
pub data Leads : List Visit → FilesFacts → Type 0 where
  untouched : (files : List (List ℕ × List ℕ)) (failing : List ℕ)
      → Leads [] (record { folder = record { files = files; rest = [] }; failing = failing; calls = 0; faults = 0 })
  asked : (before : List Visit) (facts : FilesFacts) (name : List ℕ) → Leads before facts
      → Leads (before ++ begun name (opening (next_fails facts) (file_named facts.folder.files name)) ∷ [])
      (after_call facts (opened_rest (next_fails facts) (file_named facts.folder.files name)))
  went_on : (before : List Visit) (visit : Visit) (facts : FilesFacts) (size : ℕ) → Leads (before ++ visit ∷ []) facts
      → Leads (before ++ read_on visit (reading (next_fails facts) facts.folder.rest size) ∷ [])
      (after_call facts (read_rest (next_fails facts) facts.folder.rest size))
