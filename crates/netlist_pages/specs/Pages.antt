-- What rows in pages stand for.
use Rattle.std.specs.Prelude.{◌≡◌, ◌+◌, ◌^◌, ◌<◌, ◌≤◌, ℕ, List, [], ◌∷◌, ◌++◌, length, take, Some, slice_get}

-- the items of all pages, one page behind the other
abbrev pub listed : {T : Type 0} → List (List T) → List T
listed [] = []
listed (page ∷ pages) = page ++ listed pages

-- for each page how many items there are up to its end, where so many stand before the first
abbrev pub ends_from : {T : Type 0} → ℕ → List (List T) → List ℕ
ends_from before [] = []
ends_from before (page ∷ pages) = (before + length page) ∷ ends_from (before + length page) pages

-- a page is not empty, and has at most as many items as there is room for
pub record IsFilled {T : Type 0} (page : List T) : Type 0 where
  pub some : 0 < length page
  pub few : length page ≤ 512

abbrev pub AreFilled : {T : Type 0} → List (List T) → Type 0
AreFilled [] = Unit {0}
AreFilled (page ∷ pages) = IsFilled page × AreFilled pages

-- the pages of a row, and the ends that stand beside them
pub record ArePages {T : Type 0} (pages : List (List T)) (ends : List ℕ) : Type 0 where
  pub filled : AreFilled pages
  pub sums : ends ≡ ends_from 0 pages

-- the ends before this page are right, and there is one for each page
pub record AreReady {T : Type 0} (pages : List (List T)) (ends : List ℕ) (page : ℕ) : Type 0 where
  pub each : length pages ≤ length ends
  pub there : page ≤ length pages
  pub front : take page ends ≡ take page (ends_from 0 pages)
  pub count : length (listed pages) < 2 ^ 64

-- how many items stand before a page
abbrev pub before : {T : Type 0} → List (List T) → ℕ → ℕ
before pages page = length (listed (take page pages))

-- what stands at a place stands on this page, behind so many others there
pub record IsSpot {T : Type 0} (pages : List (List T)) (place page at : ℕ) : Type 0 where
  pub there : page < length pages
  pub sum : place ≡ before pages page + at
  pub within : (p : List T) → slice_get pages page ≡ Some p → at < length p

-- the pages before this one have at most so many items, and with this one they have more
pub record IsPageOf {T : Type 0} (pages : List (List T)) (place page : ℕ) : Type 0 where
  pub there : page ≤ length pages
  pub behind : before pages page ≤ place
  pub inside : page < length pages → place < before pages (page + 1)

-- a place is behind so many items of this page
pub record IsGap {T : Type 0} (pages : List (List T)) (place page at : ℕ) : Type 0 where
  pub there : page < length pages
  pub sum : place ≡ before pages page + at
  pub within : (p : List T) → slice_get pages page ≡ Some p → at ≤ length p

-- a full page has become two halves
pub record IsHalved {T : Type 0} (old new : List (List T)) (page : ℕ) : Type 0 where
  pub same : listed new ≡ listed old
  pub start : before new page ≡ before old page
  pub there : page + 1 < length new
  pub front : (p : List T) → slice_get new page ≡ Some p → length p ≡ 256
  pub back : (p : List T) → slice_get new (page + 1) ≡ Some p → length p ≡ 256

-- a row: its pages, the ends beside them, and how many items there are
pub record IsRow {T : Type 0} (pages : List (List T)) (ends : List ℕ) (count : ℕ) : Type 0 where
  pub paged : ArePages pages ends
  pub counted : count ≡ length (listed pages)

-- the items of a row behind so many that are passed over, and how many there are
pub record IsRest {T : Type 0} (pages : List (List T)) (ends : List ℕ) (passed count : ℕ) : Type 0 where
  pub paged : ArePages pages ends
  pub counted : passed + count ≡ length (listed pages)
