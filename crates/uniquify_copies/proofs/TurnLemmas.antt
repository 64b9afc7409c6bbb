-- The table of contents while instances are turned, spot by spot.
use Rattle.std.proofs.Common.{◌≡◌, ◌≢◌, ◌≤◌, ◌<◌, ◌+◌, ℕ, zero, suc, List, [], ◌∷◌, ◌++◌, map, length, take, get_or, Option, Some, None, refl, sym, ap, ◌∙◌, inl, inr, add-one, arith, append-nil}
use Rattle.std.specs.Prelude.{find, slice_get, slice_set}
use Rattle.std.specs.List.{All, AllByRecursion}
use Rattle.std.specs.Option.{option_map, option_or}
use Rattle.std.proofs.lemmas.List.Concat.{flat_map-append}
use Rattle.std.proofs.lemmas.List.Elements.{recursion_from_All}
use Rattle.netlist_schema.specs.Design.{Design}
use Rattle.netlist_schema.specs.Types.{CellId, Contents}
use Rattle.netlist_schema.proofs.Lists.{take_next}
use Rattle.edit_rules_spec.specs.Seen.{contents_at}
use Rattle.edit_rules_spec.proofs.Lists.{Apart, apart_of}
use Rattle.flat_spec.proofs.ListLemmas.{Member, Member-append_cases}
use Rattle.uniquify_spec.specs.Copies.{Copy, is_copy_at}
use Rattle.uniquify_spec.proofs.CopyLists.{copy-cases}
use Rattle.uniquify_copies.specs.Known.{copy_at}
use Rattle.uniquify_copies.specs.declared.namer.Twin.{Twin}
use Rattle.uniquify_copies.proofs.SeatLists.{paths_differ, seat_path, seats_length, spot_seat}
use Rattle.uniquify_copies.proofs.Turning.{turned_here, turned_other}
use Rattle.uniquify_copies.specs.Changes.{AreSeats, IsTurnedBy, IsTurnedFor, turned_at, turned_in, turned_to}
use Rattle.uniquify_copies.specs.Seats.{Seat, copies_at, copies_of, seats}
use Rattle.uniquify_copies.specs.declared.spot.Spot.{Spot}

set_one : {X Y : Type 0} (f g : X → Y) (xs : List X) (a : ℕ) (x : X) (v : Y) → slice_get xs a ≡ Some x → g x ≡ v → ((k : ℕ) (y : X) → k ≢ a → slice_get xs k ≡ Some y → g y ≡ f y)
    → map g xs ≡ slice_set (map f xs) a v
set_one f g [] a x v at here others = cc
set_one f g (y ∷ ys) zero x v at here others =
    let same : y ≡ x = cc in
    let head : g y ≡ v = ap g same ∙ here in
    let rest = all_same f g ys (λ k z there. others (suc k) z (λ e. omega (arith, e)) there) in
    λ i. head i ∷ rest i
  where
    all_same : {X Y : Type 0} (f g : X → Y) (xs : List X) → ((k : ℕ) (y : X) → slice_get xs k ≡ Some y → g y ≡ f y) → map g xs ≡ map f xs
    all_same f g [] same = refl
    all_same f g (x ∷ xs) same = let head = same zero x refl in let rest = all_same f g xs (λ k y there. same (suc k) y there) in λ i. head i ∷ rest i
set_one f g (y ∷ ys) (suc a) x v at here others =
    let head = others zero y (λ e. omega (arith, e)) refl in
    let rest = set_one f g ys a x v at here (λ k z apart there. others (suc k) z (λ e. apart (omega (arith, e))) there) in
    λ i. head i ∷ rest i

taken_at : {X : Type 0} (xs : List X) (k : ℕ) (x : X) → Member (take k xs) x → (i : ℕ) × (i < k) × (slice_get xs i ≡ Some x)
taken_at [] zero x member = absurd member
taken_at [] (suc k) x member = absurd member
taken_at (y ∷ ys) zero x member = absurd member
taken_at (y ∷ ys) (suc k) x member = elim member [
  | inl e ↦ (zero, omega arith, ap Some e)
  | inr rest ↦ let there = taken_at ys k x rest in (suc there.0, (let less = there.1 in omega (arith, less)), there.2)
]

copy_from : (ss : List Seat) (m : Copy) → Member (copies_of ss) m → (seat : Seat) × Member ss seat × (m.path ≡ seat.path)
copy_from [] m member = absurd member
copy_from (seat ∷ ss) m member = elim (Member-append_cases (copies_at seat) (copies_of ss) m member) [
  | inl here ↦ (seat, inl refl, from seat.path seat.cell seat.twin here)
  | inr later ↦ let rest = copy_from ss m later in (rest.0, inr rest.1, rest.2)
]
  where
    from : (path : List ℕ) (cell : CellId) (twin : Option Twin) → Member (copies_at (record { path = path; cell = cell; twin = twin })) m → m.path ≡ path
    from path cell None member = absurd member
    from path cell (Some twin) member = elim member [ inl e ↦ ap (λ (c : Copy). c.path) (sym e) | inr never ↦ absurd never ]

module _ (d : Design) (top : CellId) (spots : List Spot) (are : AreSeats d top spots) where
  abbrev ss : List Seat
  ss = seats top spots

  -- the copies of the first seats
  abbrev pub copies_to : ℕ → List Copy
  copies_to k = copies_of (take k ss)

  abbrev pub table : ℕ → List (Option Contents)
  table k = map (turned_at d (copies_to k)) ss

  apart : Apart (map seat_path ss)
  apart = apart_of (map seat_path ss) are.apart

  pub seat_at : (k : ℕ) → k < length ss → (seat : Seat) × (slice_get ss k ≡ Some seat)
  seat_at k less = found ss k less
    where
      found : (xs : List Seat) (k : ℕ) → k < length xs → (seat : Seat) × (slice_get xs k ≡ Some seat)
      found [] k less = absurd (omega arith)
      found (x ∷ xs) zero less = (x, refl)
      found (x ∷ xs) (suc k) less = found xs k (omega (arith, less))

  got_at : (k : ℕ) (seat : Seat) (f : Seat → Option Contents) → slice_get ss k ≡ Some seat → slice_get (map f ss) k ≡ Some (f seat)
  got_at k seat f at = mapped ss k at
    where
      mapped : (xs : List Seat) (k : ℕ) → slice_get xs k ≡ Some seat → slice_get (map f xs) k ≡ Some (f seat)
      mapped [] k at = cc
      mapped (x ∷ xs) zero at = let same : x ≡ seat = cc in ap (λ v. Some (f v)) same
      mapped (x ∷ xs) (suc k) at = mapped xs k at

  above_is : (j : ℕ) (spot : Spot) → j < length spots → spot ≡ get_or spots j spot → spot.above ≤ j
  above_is j spot less is = let parts = split spots j spot less is in let at = are.above (take j spots) parts.0 spot parts.1 in let long = parts.2 in omega (arith, at, long)
    where
      split : (xs : List Spot) (j : ℕ) (x : Spot) → j < length xs → x ≡ get_or xs j x → (rest : List Spot) × (xs ≡ take j xs ++ x ∷ rest) × (length (take j xs) ≡ j)
      split [] j x less is = absurd (omega arith)
      split (y ∷ ys) zero x less is = (ys, ap (λ z. z ∷ ys) (sym is), refl)
      split (y ∷ ys) (suc j) x less is = let rest = split ys j x (omega (arith, less)) is in (rest.0, ap (λ l. y ∷ l) rest.1, ap suc rest.2)

  spot_at : (j : ℕ) (spot : Spot) → j < length spots → spot ≡ get_or spots j spot → slice_get spots j ≡ Some spot
  spot_at j spot less is = found spots j less is
    where
      found : (xs : List Spot) (j : ℕ) → j < length xs → spot ≡ get_or xs j spot → slice_get xs j ≡ Some spot
      found [] j less is = absurd (omega arith)
      found (y ∷ ys) zero less is = ap Some (sym is)
      found (y ∷ ys) (suc j) less is = found ys j (omega (arith, less)) is

  pub table_length : (k : ℕ) → length (table k) ≡ length spots + 1
  table_length k = mapped ss ∙ ap suc (seats_length ([] ∷ []) spots) ∙ omega arith
    where
      mapped : (xs : List Seat) → length (map (turned_at d (copies_to k)) xs) ≡ length xs
      mapped [] = refl
      mapped (x ∷ xs) = ap suc (mapped xs)

  pub above_within : (j : ℕ) (spot : Spot) → j < length spots → spot ≡ get_or spots j spot → spot.above ≤ length spots
  above_within j spot less is = let up = above_is j spot less is in omega (arith, up, less)

  -- at the start nothing is turned
  pub starts : (made : List (Option Contents)) → length made ≡ length spots + 1 → All (λ (c : Option Contents). c ≡ None) made → made ≡ table 1
  starts made long none =
      all_none made ss (let seated = ap suc (seats_length ([] ∷ []) spots) in omega (arith, long, seated)) (recursion_from_All (λ (c : Option Contents). c ≡ None) made none)
    where
      all_none : (xs : List (Option Contents)) (ys : List Seat) → length xs ≡ length ys → AllByRecursion (λ (c : Option Contents). c ≡ None) xs → xs ≡ map (turned_at d []) ys
      all_none [] [] same none = refl
      all_none [] (y ∷ ys) same none = absurd (omega (arith, same))
      all_none (x ∷ xs) [] same none = absurd (omega (arith, same))
      all_none (x ∷ xs) (y ∷ ys) same none = let rest = all_none xs ys (omega (arith, same)) none.1 in λ i. none.0 i ∷ rest i

  pub ends : (j : ℕ) → length spots ≤ j → table (suc j) ≡ map (turned_at d (copies_of ss)) ss
  ends j past = ap (λ xs. map (turned_at d (copies_of xs)) ss) (whole ss (suc j) (let long = ap suc (seats_length ([] ∷ []) spots) in omega (arith, long, past)))
    where
      whole : (xs : List Seat) (k : ℕ) → length xs ≤ k → take k xs ≡ xs
      whole [] zero past = refl
      whole [] (suc k) past = refl
      whole (x ∷ xs) zero past = absurd (omega arith)
      whole (x ∷ xs) (suc k) past = ap (λ l. x ∷ l) (whole xs k (omega (arith, past)))

  module _ (j : ℕ) (spot : Spot) (less : j < length spots) (is : spot ≡ get_or spots j spot) where
    pub up : (seat : Seat) × (slice_get ss spot.above ≡ Some seat)
    up = seat_at spot.above (let at = above_is j spot less is in let long = ap suc (seats_length ([] ∷ []) spots) in omega (arith, at, less, long))

    abbrev here : Seat
    here = record { path = up.0.path ++ spot.place ∷ []; cell = spot.cell; twin = spot.twin }

    seat_here : slice_get ss (suc j) ≡ Some here
    seat_here = spot_seat top spots j spot up.0 (spot_at j spot less is) (above_is j spot less is) up.1

    copies_more : copies_to (suc (suc j)) ≡ copies_to (suc j) ++ copies_at here
    copies_more =
        ap copies_of (take_next ss (suc j) here seat_here) ∙ flat_map-append copies_at (take (suc j) ss) (here ∷ []) ∙ ap (λ l. copies_to (suc j) ++ l) (append-nil (copies_at here))

    pub no_copy : spot.twin ≡ None → table (suc (suc j)) ≡ table (suc j)
    no_copy none =
        ap (λ all. map (turned_at d all) ss)
        (copies_more ∙ ap (λ (o : Option Twin). copies_to (suc j) ++ copies_at (let s : Seat = record { path = here.path; cell = spot.cell; twin = o } in s)) none ∙ append-nil (copies_to (suc j)))

    module _ (twin : Twin) (has : spot.twin ≡ Some twin) where
      abbrev copy : Copy
      copy = copy_at here.path spot.cell twin

      more : copies_to (suc (suc j)) ≡ copies_to (suc j) ++ copy ∷ []
      more = copies_more ∙ ap (λ (o : Option Twin). copies_to (suc j) ++ copies_at (let s : Seat = record { path = here.path; cell = spot.cell; twin = o } in s)) has

      new : find (is_copy_at copy.path) (copies_to (suc j)) ≡ None
      new = elim (copy-cases (copies_to (suc j)) copy.path) [
        | inl absent ↦ absent.0
        | inr found ↦
            let from = copy_from (take (suc j) ss) found.0 found.2 in
            let at = taken_at ss (suc j) from.0 from.1 in
            absurd (paths_differ ss apart (suc j) at.0 here from.0 seat_here at.2 (λ same. let early = at.1 in omega (arith, same, early)) (sym from.2 ∙ found.3))
      ]

      pub was_at : slice_get (table (suc j)) spot.above ≡ Some (turned_at d (copies_to (suc j)) up.0)
      was_at = got_at spot.above up.0 (turned_at d (copies_to (suc j))) up.1

      pub one_copy : (cell : CellId) → option_map (λ (seat : Seat). seat.cell) (slice_get ss spot.above) ≡ Some cell
          → table (suc (suc j)) ≡ slice_set (table (suc j)) spot.above (option_map (turned_to spot.place twin.id) (option_or (turned_at d (copies_to (suc j)) up.0) (contents_at d cell)))
      one_copy cell cell_is =
          ap (λ all. map (turned_at d all) ss) more
          ∙ set_one (turned_at d (copies_to (suc j))) (turned_at d (copies_to (suc j) ++ copy ∷ [])) ss spot.above up.0 _ up.1
          (turned_here d (copies_to (suc j)) copy up.0 spot.place refl new ∙ ap (λ c. option_map (turned_to spot.place twin.id) (option_or (turned_at d (copies_to (suc j)) up.0) (contents_at d c))) same_cell)
          (λ k seat other at. turned_other d (copies_to (suc j)) copy seat up.0.path spot.place refl (paths_differ ss apart spot.above k up.0 seat up.1 at other))
        where
          same_cell : up.0.cell ≡ cell
          same_cell = let both : Some up.0.cell ≡ Some cell = ap (option_map (λ (seat : Seat). seat.cell)) (sym up.1) ∙ cell_is in cc

    -- the loop takes one spot
    pub one_turned : (made after : List (Option Contents)) → made ≡ table (suc j) → IsTurnedFor d top spots spot made after → after ≡ table (suc (suc j))
    one_turned made after made_is turned = by spot.twin refl turned
      where
        by : (o : Option Twin) → spot.twin ≡ o → IsTurnedBy d top spots spot o made after → after ≡ table (suc (suc j))
        by None is same = same ∙ made_is ∙ sym (no_copy is)
        by (Some twin) is (cell, cell_is, more) =
            more (turned_at d (copies_to (suc j)) up.0) (ap (λ (t : List (Option Contents)). slice_get t spot.above) made_is ∙ was_at twin is)
            ∙ ap (λ t. turned_in d t spot.above cell spot.place twin.id (turned_at d (copies_to (suc j)) up.0)) made_is
            ∙ sym (one_copy twin is cell cell_is)

    -- with the numbers that the loop has
    pub turns_on : (made after : List (Option Contents)) → made ≡ table (j + 1) → IsTurnedFor d top spots spot made after → after ≡ table (j + 1 + 1)
    turns_on made after made_is turned =
        one_turned made after (made_is ∙ ap table (add-one j)) turned ∙ ap table (ap suc (sym (add-one j)) ∙ sym (add-one (j + 1)))

  pub turned_all : (j : ℕ) (made : List (Option Contents)) → length spots ≤ j → made ≡ table (j + 1) → made ≡ map (turned_at d (copies_of ss)) ss
  turned_all j made past made_is = made_is ∙ ap table (add-one j) ∙ ends j past
