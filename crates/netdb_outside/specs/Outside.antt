-- What an outside tells: how many faults it had, its files with the rest of the one that is being read, and the bytes that were written.
use Rattle.std.specs.Prelude.{◌≡◌, ◌⊎◌, ℕ, ◌+◌, ◌-◌, ◌^◌, ◌<◌, min, List, [], ◌++◌, Option, option_map, IfSome, find}
use Rattle.std.specs.Str.{bytes_eq}

-- the count rose, or stands at the greatest number of 64 bits
abbrev pub Rose : ℕ → ℕ → Type 0
Rose old new = (old < new) ⊎ (new ≡ 2 ^ 64 - 1)

-- one more, or the same at the greatest number of 64 bits
abbrev pub raised : ℕ → ℕ
raised n = min (n + 1) (2 ^ 64 - 1)

-- files, by name with their bytes, and the rest of the one that is being read
pub record Folder : Type 0 where
  pub files : List (List ℕ × List ℕ)
  pub rest : List ℕ

-- the bytes of the first file of this name
abbrev pub file_named : List (List ℕ × List ℕ) → List ℕ → Option (List ℕ)
file_named files name = option_map (λ file. file.1) (find (λ file. bytes_eq file.0 name) files)

-- the same files are told before and after, or none are
abbrev pub SameFiles : Option Folder → Option Folder → Type 0
SameFiles old new = option_map (λ folder. folder.files) new ≡ option_map (λ folder. folder.files) old

-- the rest of the file that is being read, where it is told
abbrev pub rest_told : Option Folder → Option (List ℕ)
rest_told told = option_map (λ folder. folder.rest) told

-- these bytes were taken: a rest that is told was these bytes, and behind them the rest that is told now
abbrev pub Takes : Option Folder → Option Folder → List ℕ → Type 0
Takes old new bytes = rest_told old ≡ option_map (λ rest. bytes ++ rest) (rest_told new)

-- a rest that is told is empty
abbrev pub NothingLeft : Option Folder → Type 0
NothingLeft told = IfSome told (λ folder. folder.rest ≡ [])

-- the bytes stand at the end of what was written, where that is told
abbrev pub Appends : Option (List ℕ) → Option (List ℕ) → List ℕ → Type 0
Appends old new bytes = new ≡ option_map (λ held. held ++ bytes) old

-- a front of the bytes stands at the end of what was written, where that is told
abbrev pub AppendsFront : Option (List ℕ) → Option (List ℕ) → List ℕ → Type 0
AppendsFront old new bytes = (front : List ℕ) × (left : List ℕ) × (bytes ≡ front ++ left) × Appends old new front
