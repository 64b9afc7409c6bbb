-- How far a file was read, piece by piece.
use Rattle.std.proofs.Common.{◌≡◌, ◌≤◌, ◌<◌, ◌+◌, ◌-◌, ◌∙◌, ℕ, List, [], ◌∷◌, ◌++◌, take, length-take, refl, ap, subst, sym, arith}
use Rattle.std.specs.Prelude.{Option}
use Rattle.netdb_outside.specs.Outside.{Folder}
use Rattle.netdb_outside.specs.Pieces.{Continues, GoesTo, VisitEnds}
use Rattle.netdb_outside.specs.Reading.{ReadGives}
use Rattle.netdb_outside.specs.Visits.{AddsVisit, Going, Visit, begun, read_on}
use Rattle.netdb_outside.specs.declared.files.Got.{Got}
use Rattle.netdb_outside.specs.declared.files.Got.TheVariants as got
use Rattle.netdb_outside.specs.declared.files.Opened.TheVariants as opened
use Rattle.netdb_outside.specs.declared.pieces.Ended.{Ended}
use Rattle.netdb_outside.specs.declared.pieces.Ended.TheVariants as ends

-- ---- one piece

goes_to : (allowed : ℕ) (visit : Visit) (answer : Got) → GoesTo allowed answer visit (read_on visit answer)
goes_to allowed visit (got.Bytes n) = refl
goes_to allowed visit got.End = refl
goes_to allowed visit got.Failed = refl
goes_to allowed visit got.NoMemory = (refl, omega arith)

pub piece_read : (old new : List Visit → Type 0) (allowed : ℕ) (answer : Got) → ((before : List Visit) (visit : Visit) → old (before ++ visit ∷ []) → new (before ++ read_on visit answer ∷ []))
    → Continues old new (GoesTo allowed answer)
piece_read old new allowed answer reads before visit start = (read_on visit answer, goes_to allowed visit answer, reads before visit start)

-- the same where it is known that bytes came
pub piece_came : (old new : List Visit → Type 0) (allowed n : ℕ) (answer : Got) → answer ≡ got.Bytes n → ((before : List Visit) (visit : Visit) → old (before ++ visit ∷ []) → new (before ++ read_on visit answer ∷ []))
    → Continues old new (GoesTo allowed (got.Bytes n))
piece_came old new allowed n answer is reads = subst (λ (a : Got). Continues old new (GoesTo allowed a)) is (piece_read old new allowed answer reads)

-- as many bytes came as were asked for at most
few_bytes : (old new : Option Folder) (buf : List ℕ) (most allowed n : ℕ) → ReadGives old new (take most buf) (got.Bytes n) → most ≤ allowed + 1 → n ≤ allowed + 1
few_bytes old new buf most allowed n gives less = omega (arith, gives.1, length-take most buf, less)

-- bytes came, and there was no memory for them
pub piece_lost : (told told' : Option Folder) (old new : List Visit → Type 0) (buf : List ℕ) (most allowed n : ℕ) (answer : Got) → answer ≡ got.Bytes n → ReadGives told told' (take most buf) answer → most ≤ allowed + 1
    → ((before : List Visit) (visit : Visit) → old (before ++ visit ∷ []) → new (before ++ read_on visit answer ∷ [])) → Continues old new (GoesTo allowed got.NoMemory)
piece_lost told told' old new buf most allowed n answer is gives less reads before visit start =
    let small : n ≤ allowed + 1 = few_bytes told told' buf most allowed n (subst (λ (a : Got). ReadGives told told' (take most buf) a) is gives) less in
    let went : GoesTo allowed got.NoMemory visit (read_on visit (got.Bytes n)) = (refl, omega (arith, small)) in
    (read_on visit answer, subst (λ (a : Got). GoesTo allowed got.NoMemory visit (read_on visit a)) (sym is) went, reads before visit start)

-- ---- piece by piece

-- so far the bytes that are read and those that may still come are as many as the limit
abbrev pub IsReadSoFar : (List Visit → Type 0) → (List Visit → Type 0) → ℕ → ℕ → Type 0
IsReadSoFar old now left limit = (before : List Visit) (visit : Visit) → old (before ++ visit ∷ [])
    → (last : Visit) × (last.name ≡ visit.name) × (visit.bytes ≡ 0 → last.bytes + left ≡ limit) × now (before ++ last ∷ [])

-- what reading the rest of a file ends by
abbrev pub EndsBy : ℕ → Ended → Visit → Visit → Type 0
EndsBy limit result visit last = visit.bytes ≡ 0 → VisitEnds visit.name limit result last

-- nothing is read
pub read_none : (old : List Visit → Type 0) (limit : ℕ) → IsReadSoFar old old limit limit
read_none old limit before visit start = (visit, refl, λ zero. omega (arith, zero), start)

-- there was no memory before the first piece
pub starved_first : (old : List Visit → Type 0) (limit : ℕ) → Continues old old (EndsBy limit ends.NoMemory)
starved_first old limit before visit start = (visit, λ zero. (refl, omega (arith, zero)), start)

module _ (old now new : List Visit → Type 0) (left limit : ℕ) (so_far : IsReadSoFar old now left limit) where
  -- a piece more
  pub read_piece_more : (n : ℕ) → n ≤ left → Continues now new (GoesTo left (got.Bytes n)) → IsReadSoFar old new (left - n) limit
  read_piece_more n fits goes before visit start =
      let last = so_far before visit start in
      let next = goes before last.0 last.3 in
      let bytes : next.0.bytes ≡ last.0.bytes + n = ap (λ (v : Visit). v.bytes) next.1 in
      (next.0, ap (λ (v : Visit). v.name) next.1 ∙ last.1, λ zero. omega (arith, last.2 zero, bytes, fits), next.2)

  -- one byte past the limit
  pub read_past : (n : ℕ) → left < n → n ≤ left + 1 → Continues now new (GoesTo left (got.Bytes n)) → Continues old new (EndsBy limit ends.TooLarge)
  read_past n past one goes before visit start =
      let last = so_far before visit start in
      let next = goes before last.0 last.3 in
      (next.0, λ zero. (let sum : last.0.bytes + n ≡ limit + 1 = omega (arith, last.2 zero, past, one) in next.1 ∙ (λ t. record { name = last.1 t; bytes = sum t; reach = Going })), next.2)

  -- the end
  pub read_whole : Continues now new (GoesTo left got.End) → Continues old new (EndsBy limit ends.Whole)
  read_whole goes before visit start =
      let last = so_far before visit start in
      let next = goes before last.0 last.3 in
      let bytes : next.0.bytes ≡ last.0.bytes = ap (λ (v : Visit). v.bytes) next.1 in
      (next.0, λ zero. record { named = ap (λ (v : Visit). v.name) next.1 ∙ last.1; within = omega (arith, last.2 zero, bytes); reached = ap (λ (v : Visit). v.reach) next.1 }, next.2)

  -- a fault
  pub read_broken : Continues now new (GoesTo left got.Failed) → Continues old new (EndsBy limit ends.Failed)
  read_broken goes before visit start =
      let last = so_far before visit start in
      let next = goes before last.0 last.3 in
      let bytes : next.0.bytes ≡ last.0.bytes = ap (λ (v : Visit). v.bytes) next.1 in
      (next.0, λ zero. record { named = ap (λ (v : Visit). v.name) next.1 ∙ last.1; within = omega (arith, last.2 zero, bytes); reached = ap (λ (v : Visit). v.reach) next.1 }, next.2)

  -- no memory
  pub read_starved : Continues now new (GoesTo left got.NoMemory) → Continues old new (EndsBy limit ends.NoMemory)
  read_starved goes before visit start =
      let last = so_far before visit start in
      let next = goes before last.0 last.3 in
      (next.0, λ zero. (next.1.0 ∙ last.1, omega (arith, last.2 zero, next.1.1)), next.2)

-- ---- a whole file

-- a file that is opened, and read on
pub opened_and_read : (old mid new : List Visit → Type 0) (name : List ℕ) (limit : ℕ) (result : Ended) → ((before : List Visit) → old before → mid (before ++ begun name opened.Ready ∷ []))
    → Continues mid new (EndsBy limit result) → AddsVisit old new (VisitEnds name limit result)
opened_and_read old mid new name limit result opens reads before start =
    let last = reads before (begun name opened.Ready) (opens before start) in (last.0, last.1 refl, last.2)

pub not_there : (old new : List Visit → Type 0) (name : List ℕ) (limit : ℕ) → ((before : List Visit) → old before → new (before ++ begun name opened.Missing ∷ [])) → AddsVisit old new (VisitEnds name limit ends.Missing)
not_there old new name limit opens before start = (begun name opened.Missing, refl, opens before start)

pub broken_opening : (old new : List Visit → Type 0) (name : List ℕ) (limit : ℕ) → ((before : List Visit) → old before → new (before ++ begun name opened.Failed ∷ [])) → AddsVisit old new (VisitEnds name limit ends.Failed)
broken_opening old new name limit opens before start = (begun name opened.Failed, record { named = refl; within = omega arith; reached = refl }, opens before start)

pub starved_opening : (old new : List Visit → Type 0) (name : List ℕ) (limit : ℕ) → ((before : List Visit) → old before → new (before ++ begun name opened.NoMemory ∷ [])) → AddsVisit old new (VisitEnds name limit ends.NoMemory)
starved_opening old new name limit opens before start = (begun name opened.NoMemory, (refl, omega arith), opens before start)
