-- Lists of changes that are made one after another.
use Rattle.std.proofs.Common.{◌≡◌, ◌<◌, ◌≤◌, ◌+◌, ℕ, zero, suc, List, [], ◌∷◌, ◌++◌, map, length, take, drop, get_or, Option, Some, None, refl, sym, ap, ◌∙◌, add-one, arith, append_assoc, append-nil}
use Rattle.std.specs.Prelude.{slice_get, slice_set}
use Rattle.std.specs.List.{flat_map}
use Rattle.std.specs.Option.{option_map}
use Rattle.std.proofs.lemmas.List.Concat.{flat_map-append}
use Rattle.netlist_schema.specs.Types.{CellId, Contents}
use Rattle.netlist_schema.proofs.Lists.{get_there, get_mapped, take_next}
use Rattle.edit_cells.specs.declared.change.CellChange.{CellChange}
use Rattle.uniquify_copies.specs.Changes.{copied_inner, copied_to, inners, kept_inner, kept_to}
use Rattle.uniquify_copies.specs.Seats.{Seat, twin_of}
use Rattle.uniquify_copies.specs.declared.spot.Spot.{Spot}

first_left : {X : Type 0} (xs : List X) (i : ℕ) (x : X) → i < length xs → x ≡ get_or xs i x → drop i xs ≡ x ∷ drop (suc i) xs
first_left [] i x less is = absurd (omega arith)
first_left (y ∷ ys) zero x less is = ap (λ z. z ∷ ys) (sym is)
first_left (y ∷ ys) (suc i) x less is = first_left ys i x (omega (arith, less)) is

none_left : {X : Type 0} (xs : List X) (i : ℕ) → length xs ≤ i → drop i xs ≡ []
none_left [] zero past = refl
none_left [] (suc i) past = refl
none_left (y ∷ ys) zero past = absurd (omega arith)
none_left (y ∷ ys) (suc i) past = none_left ys i (omega (arith, past))

pub one_more : (f : Spot → List CellChange) (xs : List Spot) (i : ℕ) (x : Spot) (old new whole : List CellChange) → i < length xs → x ≡ get_or xs i x → new ≡ old ++ f x
    → old ++ flat_map f (drop i xs) ≡ whole → new ++ flat_map f (drop (i + 1) xs) ≡ whole
one_more f xs i x old new whole less is added so_far =
    ap (λ n. new ++ flat_map f (drop n xs)) (add-one i) ∙ ap (λ l. l ++ flat_map f (drop (suc i) xs)) added ∙ append_assoc old (f x) (flat_map f (drop (suc i) xs))
    ∙ ap (λ l. old ++ flat_map f l) (sym (first_left xs i x less is)) ∙ so_far

pub no_more : (f : Spot → List CellChange) (xs : List Spot) (i : ℕ) (old whole : List CellChange) → length xs ≤ i → old ++ flat_map f (drop i xs) ≡ whole → old ≡ whole
no_more f xs i old whole past so_far = sym (append-nil old) ∙ ap (λ l. old ++ flat_map f l) (sym (none_left xs i past)) ∙ so_far

-- ---- seat by seat

got_drop : {X : Type 0} (xs ys : List X) (i : ℕ) → drop i xs ≡ drop i ys → slice_get xs i ≡ slice_get ys i
got_drop xs ys i same = first xs i ∙ ap (λ l. slice_get l 0) same ∙ sym (first ys i)
  where
    first : {X : Type 0} (zs : List X) (i : ℕ) → slice_get zs i ≡ slice_get (drop i zs) 0
    first [] zero = refl
    first [] (suc i) = refl
    first (z ∷ zs) zero = refl
    first (z ∷ zs) (suc i) = first zs i

pub some_same : {X : Type 0} (x y : X) → Some x ≡ Some y → x ≡ y
some_same x y e = cc

module _ (f : Seat → Option Contents) (ss : List Seat) (number : ℕ) (twin : Option CellId) (cell : CellId) (all left : List (Option Contents)) (made : Option Contents)
    (within : number < length ss) (twin_is : option_map twin_of (slice_get ss number) ≡ Some twin) (cell_is : option_map (λ seat. seat.cell) (slice_get ss number) ≡ Some cell)
    (all_is : all ≡ map f ss) (same : drop number left ≡ drop number all) (was : slice_get left number ≡ Some made) where
  here : (seat : Seat) × (slice_get ss number ≡ Some seat)
  here = get_there ss number within

  made_is : made ≡ f here.0
  made_is = some_same made (f here.0) (sym was ∙ got_drop left all number same ∙ ap (λ l. slice_get l number) all_is ∙ get_mapped f ss number here.0 here.1)

  twin_here : twin ≡ twin_of here.0
  twin_here = some_same twin (twin_of here.0) (sym twin_is ∙ ap (option_map twin_of) here.1)

  cell_here : cell ≡ here.0.cell
  cell_here = some_same cell here.0.cell (sym cell_is ∙ ap (option_map (λ (seat : Seat). seat.cell)) here.1)

  pub inner_copied : (before old new : List CellChange) → new ≡ old ++ copied_to twin made → old ≡ before ++ flat_map (copied_inner f) (take number ss) → new ≡ before ++ flat_map (copied_inner f) (take (number + 1) ss)
  inner_copied before old new added so_far =
      added ∙ (λ i. so_far i ++ copied_to (twin_here i) (made_is i)) ∙ append_assoc before (flat_map (copied_inner f) (take number ss)) (copied_inner f here.0)
      ∙ ap (λ l. before ++ l)
      (ap (λ l. flat_map (copied_inner f) (take number ss) ++ l) (sym (append-nil (copied_inner f here.0)))
      ∙ sym (flat_map-append (copied_inner f) (take number ss) (here.0 ∷ [])) ∙ ap (flat_map (copied_inner f)) (sym (ap (λ n. take n ss) (add-one number) ∙ take_next ss number here.0 here.1)))

  pub inner_kept : (old new : List CellChange) → new ≡ old ++ kept_to twin cell made → old ≡ flat_map (kept_inner f) (take number ss) → new ≡ flat_map (kept_inner f) (take (number + 1) ss)
  inner_kept old new added so_far =
      added ∙ (λ i. so_far i ++ kept_to (twin_here i) (cell_here i) (made_is i))
      ∙ ap (λ l. flat_map (kept_inner f) (take number ss) ++ l) (sym (append-nil (kept_inner f here.0)))
      ∙ sym (flat_map-append (kept_inner f) (take number ss) (here.0 ∷ [])) ∙ ap (flat_map (kept_inner f)) (sym (ap (λ n. take n ss) (add-one number) ∙ take_next ss number here.0 here.1))

pub left_more : (all left new : List (Option Contents)) (number : ℕ) → drop number left ≡ drop number all → new ≡ slice_set left number None → drop (number + 1) new ≡ drop (number + 1) all
left_more all left new number same put =
    ap (λ n. drop n new) (add-one number) ∙ ap (drop (suc number)) put ∙ set_dropped left number ∙ one_dropped left number ∙ ap (drop 1) same ∙ sym (one_dropped all number)
    ∙ ap (λ n. drop n all) (sym (add-one number))
  where
    set_dropped : (xs : List (Option Contents)) (i : ℕ) → drop (suc i) (slice_set xs i None) ≡ drop (suc i) xs
    set_dropped [] zero = refl
    set_dropped [] (suc i) = refl
    set_dropped (x ∷ xs) zero = refl
    set_dropped (x ∷ xs) (suc i) = set_dropped xs i

    one_dropped : (xs : List (Option Contents)) (i : ℕ) → drop (suc i) xs ≡ drop 1 (drop i xs)
    one_dropped [] zero = refl
    one_dropped [] (suc i) = refl
    one_dropped (x ∷ xs) zero = refl
    one_dropped (x ∷ xs) (suc i) = one_dropped xs i

pub set_long : (xs : List (Option Contents)) (i : ℕ) (x : Option Contents) → length (slice_set xs i x) ≡ length xs
set_long [] zero x = refl
set_long [] (suc i) x = refl
set_long (y ∷ ys) zero x = refl
set_long (y ∷ ys) (suc i) x = ap suc (set_long ys i x)

-- set twice
pub set_again : (xs : List (Option Contents)) (i : ℕ) (x y : Option Contents) → slice_set (slice_set xs i x) i y ≡ slice_set xs i y
set_again [] zero x y = refl
set_again [] (suc i) x y = refl
set_again (z ∷ zs) zero x y = refl
set_again (z ∷ zs) (suc i) x y = ap (λ l. z ∷ l) (set_again zs i x y)

pub whole_taken : (ss : List Seat) (i : ℕ) → length ss ≤ i → take i ss ≡ ss
whole_taken [] zero past = refl
whole_taken [] (suc i) past = refl
whole_taken (x ∷ ss) zero past = absurd (omega arith)
whole_taken (x ∷ ss) (suc i) past = ap (λ l. x ∷ l) (whole_taken ss i (omega (arith, past)))

pub all_inners : (f : Seat → Option Contents) (ss : List Seat) (i : ℕ) (before changes kept new : List CellChange) → length ss ≤ i → changes ≡ before ++ flat_map (copied_inner f) (take i ss)
    → kept ≡ flat_map (kept_inner f) (take i ss) → new ≡ changes ++ kept → new ≡ before ++ inners f ss
all_inners f ss i before changes kept new past copied_is kept_is joined =
    joined ∙ (λ t. copied_is t ++ kept_is t) ∙ append_assoc before (flat_map (copied_inner f) (take i ss)) (flat_map (kept_inner f) (take i ss))
    ∙ ap (λ l. before ++ (flat_map (copied_inner f) l ++ flat_map (kept_inner f) l)) (whole_taken ss i past)
