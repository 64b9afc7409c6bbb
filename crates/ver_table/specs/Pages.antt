-- What pages of entries stand for. A sheet is the number of a page with the pairs of its entries.
use Rattle.std.specs.Prelude.{◌≡◌, ◌≢◌, ℕ, ◌/◌, ◌^◌, ◌<◌, ◌≤◌, List, [], ◌∷◌, ◌++◌, map, length, unwrap_or}
use Rattle.std.specs.Arc.{arc_value}
use Rattle.std.specs.Global.{Vec}
use Rattle.std.specs.Ordering.{nat_cmp}
use Rattle.std.specs.FinMap.{FinMap, entries, from_sorted, find, put}
use Rattle.ver_table.specs.declared.entries.Entry.{Entry}
use Rattle.ver_table.specs.Entries.{pairs_of, slot_at, with_all, IsInOrder}

-- P holds of each element
abbrev pub Each : {X : Type 0} → (X → Type 0) → List X → Type 0
Each P [] = Unit {0}
Each P (x ∷ xs) = P x × Each P xs

-- the sheet of a page
abbrev pub sheet_of : {T : Type 0} → Entry (Vec (Entry T)) → ℕ × List (ℕ × T)
sheet_of page = (page.slot, pairs_of (arc_value page.item).items)

-- the sheets of pages
abbrev pub sheets_of : {T : Type 0} → List (Entry (Vec (Entry T))) → List (ℕ × List (ℕ × T))
sheets_of {T} pages = map (λ (page : Entry (Vec (Entry T))). (page.slot, pairs_of (arc_value page.item).items)) pages

-- the sheets of a map from numbers to the entries of pages
abbrev pub pages_of : {T : Type 0} → FinMap nat_cmp (Vec (Entry T)) → List (ℕ × List (ℕ × T))
pages_of {T} pages = map (λ (page : ℕ × Vec (Entry T)). (page.0, pairs_of page.1.items)) (entries pages)

-- the pairs of all sheets, one after the other
abbrev pub spread : {T : Type 0} → List (ℕ × List (ℕ × T)) → List (ℕ × T)
spread [] = []
spread (sheet ∷ sheets) = sheet.1 ++ spread sheets

-- the pairs of the sheet with the number, none where there is no such sheet
abbrev pub sheet_at : {T : Type 0} → List (ℕ × List (ℕ × T)) → ℕ → List (ℕ × T)
sheet_at sheets number = unwrap_or (find nat_cmp number sheets) []

-- the sheets with a pair put into the sheet of its slot
abbrev pub revise : {T : Type 0} → ℕ → List (ℕ × List (ℕ × T)) → ℕ × T → List (ℕ × List (ℕ × T))
revise size sheets pair = put nat_cmp (pair.0 / size) (put nat_cmp pair.0 pair.1 (sheet_at sheets (pair.0 / size))) sheets

-- the same for pairs, one after the other
abbrev pub revise_all : {T : Type 0} → ℕ → List (ℕ × List (ℕ × T)) → List (ℕ × T) → List (ℕ × List (ℕ × T))
revise_all size sheets [] = sheets
revise_all size sheets (pair ∷ pairs) = revise_all size (revise size sheets pair) pairs

-- a sheet is not empty, its pairs are in order, and their slots have its number as their quotient
pub record IsSheet {T : Type 0} (size : ℕ) (sheet : ℕ × List (ℕ × T)) : Type 0 where
  pub some : 0 < length sheet.1
  pub ordered : IsInOrder sheet.1
  pub own : Each (λ pair. pair.0 / size ≡ sheet.0) sheet.1

-- sheets in the order of their numbers
pub record AreSheets {T : Type 0} (size : ℕ) (sheets : List (ℕ × List (ℕ × T))) : Type 0 where
  pub rising : IsInOrder sheets
  pub each : Each (IsSheet size) sheets

-- the first pairs, this many, lie on the sheet with the number, and the one behind them, if there is one, does not
pub record IsRun {T : Type 0} (size number : ℕ) (pairs : List (ℕ × T)) (count : ℕ) : Type 0 where
  pub in_range : count ≤ length pairs
  pub own : (k : ℕ) → k < count → slot_at pairs k / size ≡ number
  pub next : count < length pairs → slot_at pairs count / size ≢ number

-- the changes at the front that lie on one page, which has this number; the others lie on later ones
pub record IsFirstRun {T : Type 0} (size : ℕ) (changes : List (ℕ × T)) (number : ℕ) (run rest : List (ℕ × T)) : Type 0 where
  pub whole : run ++ rest ≡ changes
  pub some : 0 < length run
  pub own : Each (λ change. change.0 / size ≡ number) run
  pub later : Each (λ change. number < change.0 / size) rest
  pub rising_run : IsInOrder run
  pub rising_rest : IsInOrder rest
  pub typed : number < 2 ^ 32

-- these sheets in the place of those with their numbers give the sheets with the changes made
pub record AreRevised {T : Type 0} (size : ℕ) (sheets : List (ℕ × List (ℕ × T))) (changes : List (ℕ × T)) (revised : List (ℕ × List (ℕ × T))) : Type 0 where
  pub same : with_all sheets revised ≡ revise_all size sheets changes
  pub rising : IsInOrder revised
  pub typed : Each (λ sheet. sheet.0 < 2 ^ 32) revised

-- the map that has each pair's item at its slot
abbrev pub map_of : {T : Type 0} → List (ℕ × List (ℕ × T)) → FinMap nat_cmp T
map_of sheets = from_sorted (spread sheets)

-- pages have 1 to 1024 slots, and stand in order; their numbers fit 32 bits
pub record IsTable {T : Type 0} (size : ℕ) (pages : List (ℕ × List (ℕ × T))) : Type 0 where
  pub some : 1 ≤ size
  pub few : size ≤ 1024
  pub sheets : AreSheets size pages
  pub typed : Each (λ page. page.0 < 2 ^ 32) pages
