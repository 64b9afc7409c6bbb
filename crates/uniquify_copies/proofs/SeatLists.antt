-- The seats of a list of spots.
use Rattle.std.proofs.Common.{◌≡◌, ◌≢◌, ◌≤◌, ◌<◌, ◌-◌, ℕ, zero, suc, List, [], ◌∷◌, ◌++◌, map, length, take, get_or, Option, Some, None, refl, sym, ap, subst, ◌∙◌, arith, append_assoc, append-nil}
use Rattle.std.specs.Prelude.{slice_get, unwrap_or}
use Rattle.std.specs.List.{flat_map, AllByRecursion}
use Rattle.std.specs.Option.{option_map}
use Rattle.std.proofs.lemmas.List.Concat.{flat_map-append}
use Rattle.netlist_schema.specs.Design.{Design}
use Rattle.netlist_schema.specs.Types.{CellId}
use Rattle.edit_rules_spec.proofs.Lists.{Apart}
use Rattle.uniquify_copies.specs.declared.namer.Twin.{Twin}
use Rattle.uniquify_copies.specs.Changes.{fresh_for, fresh_of}
use Rattle.uniquify_copies.specs.Seats.{Seat, copies_at, copies_of, path_of, seat_of, seats, seats_after, twin_of}
use Rattle.uniquify_copies.specs.declared.spot.Spot.{Spot}

abbrev pub seat_path : Seat → List ℕ
seat_path seat = seat.path

pub seats_length : (before : List (List ℕ)) (spots : List Spot) → length (seats_after before spots) ≡ length spots
seats_length before [] = refl
seats_length before (spot ∷ spots) = ap suc (seats_length (before ++ path_of before spot ∷ []) spots)

pub seats_cell : (before : List (List ℕ)) (spots : List Spot) (k : ℕ) → option_map (λ (seat : Seat). seat.cell) (slice_get (seats_after before spots) k) ≡ option_map (λ (spot : Spot). spot.cell) (slice_get spots k)
seats_cell before [] k = refl
seats_cell before (spot ∷ spots) zero = refl
seats_cell before (spot ∷ spots) (suc k) = seats_cell (before ++ path_of before spot ∷ []) spots k

abbrev pub spot_twin : Spot → Option CellId
spot_twin spot = option_map (λ (twin : Twin). twin.id) spot.twin

pub seats_twin : (before : List (List ℕ)) (spots : List Spot) (k : ℕ) → option_map twin_of (slice_get (seats_after before spots) k) ≡ option_map spot_twin (slice_get spots k)
seats_twin before [] k = refl
seats_twin before (spot ∷ spots) zero = refl
seats_twin before (spot ∷ spots) (suc k) = seats_twin (before ++ path_of before spot ∷ []) spots k

got_spot : (spots : List Spot) (k : ℕ) (spot : Spot) → k < length spots → spot ≡ get_or spots k spot → slice_get spots k ≡ Some spot
got_spot [] k spot less is = absurd (omega arith)
got_spot (s ∷ spots) zero spot less is = ap Some (sym is)
got_spot (s ∷ spots) (suc k) spot less is = got_spot spots k spot (omega (arith, less)) is

-- the cell and the copy of the occurrence with a number
pub cell_first : (top : CellId) (spots : List Spot) (number : ℕ) → number ≡ 0 → option_map (λ seat. seat.cell) (slice_get (seats top spots) number) ≡ Some top
cell_first top spots number none = ap (λ n. option_map (λ (seat : Seat). seat.cell) (slice_get (seats top spots) n)) none

pub cell_later : (top : CellId) (spots : List Spot) (number : ℕ) (spot : Spot) → (number ≡ 0 → ⊥) → number ≤ length spots → spot ≡ get_or spots (number - 1) spot
    → option_map (λ seat. seat.cell) (slice_get (seats top spots) number) ≡ Some spot.cell
cell_later top spots zero spot some within is = absurd (some refl)
cell_later top spots (suc k) spot some within is =
    let less : k < length spots = omega (arith, within) in
    let before : suc k - 1 ≡ k = omega arith in
    seats_cell ([] ∷ []) spots k ∙ ap (option_map (λ (x : Spot). x.cell)) (got_spot spots k spot less (is ∙ ap (λ n. get_or spots n spot) before))

pub twin_first : (top : CellId) (spots : List Spot) (number : ℕ) → number ≡ 0 → option_map twin_of (slice_get (seats top spots) number) ≡ Some None
twin_first top spots number none = ap (λ n. option_map twin_of (slice_get (seats top spots) n)) none

pub twin_later : (top : CellId) (spots : List Spot) (number : ℕ) (spot : Spot) (found : Option CellId) → (number ≡ 0 → ⊥) → number ≤ length spots → spot ≡ get_or spots (number - 1) spot → found ≡ spot_twin spot
    → option_map twin_of (slice_get (seats top spots) number) ≡ Some found
twin_later top spots zero spot found some within is found_is = absurd (some refl)
twin_later top spots (suc k) spot found some within is found_is =
    let less : k < length spots = omega (arith, within) in
    let before : suc k - 1 ≡ k = omega arith in
    seats_twin ([] ∷ []) spots k ∙ ap (option_map spot_twin) (got_spot spots k spot less (is ∙ ap (λ n. get_or spots n spot) before)) ∙ ap Some (sym found_is)

-- a spot is seated behind the paths of the spots before it
pub seats_at : (before : List (List ℕ)) (spots : List Spot) (k : ℕ) (spot : Spot) → slice_get spots k ≡ Some spot
    → slice_get (seats_after before spots) k ≡ Some (seat_of (before ++ map seat_path (take k (seats_after before spots))) spot)
seats_at before [] k spot at = cc
seats_at before (s ∷ spots) zero spot at = let same : s ≡ spot = cc in ap (λ x. Some (seat_of before x)) same ∙ ap (λ b. Some (seat_of b spot)) (sym (append-nil before))
seats_at before (s ∷ spots) (suc k) spot at =
    let after = before ++ path_of before s ∷ [] in
    seats_at after spots k spot at ∙ ap (λ b. Some (seat_of b spot)) (append_assoc before (path_of before s ∷ []) (map seat_path (take k (seats_after after spots))))

-- and its path goes on that of the one that it names
pub taken_path : (ss : List Seat) (k i : ℕ) (seat : Seat) → i < k → slice_get ss i ≡ Some seat → slice_get (map seat_path (take k ss)) i ≡ Some seat.path
taken_path [] k i seat less at = cc
taken_path (s ∷ ss) zero i seat less at = absurd (omega (arith, less))
taken_path (s ∷ ss) (suc k) zero seat less at = let same : s ≡ seat = cc in ap (λ (x : Seat). Some x.path) same
taken_path (s ∷ ss) (suc k) (suc i) seat less at = taken_path ss k i seat (omega (arith, less)) at

pub spot_seat : (top : CellId) (spots : List Spot) (k : ℕ) (spot : Spot) (up : Seat) → slice_get spots k ≡ Some spot → spot.above ≤ k → slice_get (seats top spots) spot.above ≡ Some up
    → slice_get (seats top spots) (suc k) ≡ Some (record { path = up.path ++ spot.place ∷ []; cell = spot.cell; twin = spot.twin })
spot_seat top spots k spot up at above is =
    seats_at ([] ∷ []) spots k spot at
    ∙ ap (λ (o : Option (List ℕ)). Some (let s : Seat = record { path = unwrap_or o [] ++ spot.place ∷ []; cell = spot.cell; twin = spot.twin } in s))
    (taken_path (seats top spots) (suc k) spot.above up (omega (arith, above)) is)

-- the copies that spots get do not depend on where they are
one_fresh : (d : Design) (path : List ℕ) (cell : CellId) (twin : Option Twin) → flat_map (fresh_of d) (copies_at (record { path = path; cell = cell; twin = twin })) ≡ flat_map (fresh_of d) (copies_at (record { path = []; cell = cell; twin = twin }))
one_fresh d path cell None = refl
one_fresh d path cell (Some twin) = refl

pub all_fresh : (d : Design) (before : List (List ℕ)) (spots : List Spot) → flat_map (fresh_for d) spots ≡ flat_map (fresh_of d) (copies_of (seats_after before spots))
all_fresh d before [] = refl
all_fresh d before (spot ∷ spots) =
    let seat = seat_of before spot in
    let after = before ++ path_of before spot ∷ [] in
    (λ i. sym (one_fresh d seat.path spot.cell spot.twin) i ++ all_fresh d after spots i)
    ∙ sym (flat_map-append (fresh_of d) (copies_at seat) (copies_of (seats_after after spots)))

-- ---- lists with one item changed

pub paths_differ : (ss : List Seat) → Apart (map seat_path ss) → (i k : ℕ) (x y : Seat) → slice_get ss i ≡ Some x → slice_get ss k ≡ Some y → k ≢ i → y.path ≢ x.path
paths_differ [] apart i k x y at there other = cc
paths_differ (s ∷ ss) apart zero zero x y at there other = absurd (other refl)
paths_differ (s ∷ ss) apart zero (suc k) x y at there other = λ same. let here : s ≡ x = cc in from s ss apart.0 k y there (ap (λ (v : Seat). v.path) here ∙ sym same)
  where
    from : (s : Seat) (ss : List Seat) → AllByRecursion (λ q. s.path ≢ q) (map seat_path ss) → (k : ℕ) (y : Seat) → slice_get ss k ≡ Some y → s.path ≢ y.path
    from s [] all k y there = cc
    from s (v ∷ ss) all zero y there = let here : v ≡ y = cc in subst (λ (z : Seat). s.path ≢ z.path) here all.0
    from s (v ∷ ss) all (suc k) y there = from s ss all.1 k y there
paths_differ (s ∷ ss) apart (suc i) zero x y at there other = λ same. let here : s ≡ y = cc in from s ss apart.0 i x at (ap (λ (v : Seat). v.path) here ∙ same)
  where
    from : (s : Seat) (ss : List Seat) → AllByRecursion (λ q. s.path ≢ q) (map seat_path ss) → (k : ℕ) (y : Seat) → slice_get ss k ≡ Some y → s.path ≢ y.path
    from s [] all k y there = cc
    from s (v ∷ ss) all zero y there = let here : v ≡ y = cc in subst (λ (z : Seat). s.path ≢ z.path) here all.0
    from s (v ∷ ss) all (suc k) y there = from s ss all.1 k y there
paths_differ (s ∷ ss) apart (suc i) (suc k) x y at there other = paths_differ ss apart.1 i k x y at there (λ same. other (ap suc same))
