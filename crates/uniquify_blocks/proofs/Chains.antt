-- Occurrences each in the one before.
use Rattle.std.proofs.Common.{◌≡◌, ◌≢◌, ◌<◌, ◌≤◌, ◌+◌, ℕ, zero, suc, Bool, true, false, cond, List, [], ◌∷◌, ◌++◌, map, length, take, get_or, Option, Some, None, refl, sym, ap, subst, ◌∙◌, arith, append_assoc, append-nil, length-append}
use Rattle.std.specs.Prelude.{is_some, nat_le, slice_get}
use Rattle.std.specs.List.{AllByRecursion, count_by}
use Rattle.std.proofs.lemmas.Bool.{le-leb, or_left, or_right}
use Rattle.std.proofs.lemmas.List.{map-append, take_more}
use Rattle.std.proofs.lemmas.List.Folds.{list_any-append}
use Rattle.std.proofs.lemmas.List.Sums.{sum_by-cons}
use Rattle.netlist_schema.specs.Design.{Design}
use Rattle.netlist_schema.specs.Types.{CellId}
use Rattle.edit_rules_spec.proofs.Lists.{Apart}
use Rattle.flat_spec.specs.Occurrences.{Occurrence}
use Rattle.uniquify_spec.specs.Blocks.{root_of}
use Rattle.uniquify_spec.specs.Copies.{Copy, copies_after, copy_after}
use Rattle.uniquify_spec.proofs.ForCode.{copies_go_on}
use Rattle.uniquify_copies.specs.Drafts.{IsCopied, IsDraft, IsNumbered, Marked, copied_of, has_no_room, kept_of, occurrences_of, placed_in}
use Rattle.uniquify_copies.specs.declared.namer.Twin.{Twin}
use Rattle.uniquify_copies.specs.Seats.{copies_at, copies_of, occurrence_of, path_of, seats, seats_after}
use Rattle.uniquify_copies.specs.declared.spot.Spot.{Spot}
use Rattle.uniquify_copies.specs.declared.draft.CopyDraft.{CopyDraft}
use Rattle.uniquify_copies.proofs.SeatLists.{seats_length}
use Rattle.uniquify_blocks.specs.Along.{chain}
use Rattle.uniquify_blocks.specs.Plans.{all_copied}
use Rattle.uniquify_copies.specs.declared.spot.Step.{Step}
use Rattle.uniquify_blocks.proofs.Walking.{chain_push, places}

-- ---- marks

pub all_copied-occurrences : (os : List Occurrence) → occurrences_of (all_copied os) ≡ os
all_copied-occurrences [] = refl
all_copied-occurrences (o ∷ os) = ap (λ l. o ∷ l) (all_copied-occurrences os)

pub all_copied-copied : (os : List Occurrence) → copied_of (all_copied os) ≡ os
all_copied-copied [] = refl
all_copied-copied (o ∷ os) = ap (λ l. o ∷ l) (all_copied-copied os)

pub all_copied-kept : (os : List Occurrence) → kept_of (all_copied os) ≡ []
all_copied-kept [] = refl
all_copied-kept (o ∷ os) = all_copied-kept os

-- ---- paths along a chain differ

longer : (path : List ℕ) (p : ℕ) (steps : List Step) (n : ℕ) → n ≤ length path → AllByRecursion (λ q. n < length q) (map (λ (o : Occurrence). o.path) (chain path steps))
longer path p [] n less = tt
longer path p (step ∷ steps) n less =
    let sum = length-append path (step.place ∷ []) in
    let here : n < length (path ++ step.place ∷ []) = omega (arith, sum, less) in
    (here, longer (path ++ step.place ∷ []) p steps n (omega (arith, here)))

differ_each : (path : List ℕ) (qs : List (List ℕ)) → AllByRecursion (λ q. length path < length q) qs → AllByRecursion (λ q. path ≢ q) qs
differ_each path [] all = tt
differ_each path (q ∷ qs) all = ((λ same. let less = all.0 in let equal = ap (λ (l : List ℕ). length l) same in omega (arith, less, equal)), differ_each path qs all.1)

pub chain_apart : (path : List ℕ) (steps : List Step) → Apart (path ∷ map (λ (o : Occurrence). o.path) (chain path steps))
chain_apart path [] = (tt, tt)
chain_apart path (step ∷ steps) =
    (differ_each path (map (λ (o : Occurrence). o.path) (chain path (step ∷ steps))) (longer path 0 (step ∷ steps) (length path) (omega arith)), chain_apart (path ++ step.place ∷ []) steps)

-- ---- the last one

chain_end : (path : List ℕ) (at : CellId) (steps : List Step) → (up : Occurrence) × (slice_get (record { path = path; cell = at } ∷ chain path steps) (length steps) ≡ Some up) × (up.path ≡ path ++ places steps)
chain_end path at [] = (record { path = path; cell = at }, refl, sym (append-nil path))
chain_end path at (step ∷ steps) =
    let rest = chain_end (path ++ step.place ∷ []) step.of steps in
    (rest.0, rest.1, rest.2 ∙ append_assoc path (step.place ∷ []) (places steps))

chain_length : (path : List ℕ) (steps : List Step) → length (chain path steps) ≡ length steps
chain_length path [] = refl
chain_length path (step ∷ steps) = ap suc (chain_length (path ++ step.place ∷ []) steps)

draft_length : (d : Design) (top : CellId) (steps : List Step) (draft : CopyDraft) → IsDraft d top (all_copied (chain [] steps)) draft → length draft.spots.items ≡ length steps
draft_length d top steps draft is =
    let all = ap (λ (os : List Occurrence). length os) (is.occurrences ∙ ap (λ os. root_of top ∷ os) (all_copied-occurrences (chain [] steps))) in
    let left = map-length occurrence_of (seats top draft.spots.items) in
    let seated = seats_length ([] ∷ []) draft.spots.items in
    let right = chain_length [] steps in
    omega (arith, all, left, seated, right)
  where
    map-length : {X Y : Type 0} (f : X → Y) (xs : List X) → length (map f xs) ≡ length xs
    map-length f [] = refl
    map-length f (x ∷ xs) = ap suc (map-length f xs)

-- the next block of a chain
next_is : (d : Design) (top : CellId) (steps : List Step) (step : Step) (old new : CopyDraft) (above : ℕ) (fits : Bool) → above ≡ length old.spots.items → IsDraft d top (all_copied (chain [] steps)) old
    → ((up : Occurrence) → IsNumbered top (all_copied (chain [] steps)) above up → IsCopied d top (all_copied (chain [] steps)) (placed_in up step.place step.of) new fits)
    → (o : Occurrence) × (chain [] (steps ++ step ∷ []) ≡ chain [] steps ++ o ∷ []) × IsCopied d top (all_copied (chain [] steps)) o new fits
next_is d top steps step old new above fits above_is is more =
    let end = chain_end [] top steps in
    let number : above ≡ length steps = above_is ∙ draft_length d top steps old is in
    let at : IsNumbered top (all_copied (chain [] steps)) above end.0 =
    (λ i. slice_get (root_of top ∷ all_copied-occurrences (chain [] steps) i) (number i)) ∙ end.1 in
    let o = placed_in end.0 step.place step.of in
    (o, chain_push [] steps step ∙ (λ i. chain [] steps ++ record { path = sym end.2 i ++ step.place ∷ []; cell = step.of } ∷ []), more end.0 at)

pub one_drafted : (d : Design) (top : CellId) (steps : List Step) (i : ℕ) (step : Step) (old new : CopyDraft) (above : ℕ) → i < length steps → step ≡ get_or steps i step → above ≡ length old.spots.items
    → IsDraft d top (all_copied (chain [] (take i steps))) old
    → ((up : Occurrence) → IsNumbered top (all_copied (chain [] (take i steps))) above up → IsCopied d top (all_copied (chain [] (take i steps))) (placed_in up step.place step.of) new true)
    → IsDraft d top (all_copied (chain [] (take (i + 1) steps))) new
one_drafted d top steps i step old new above less at above_is is more =
    let next = next_is d top (take i steps) step old new above true above_is is more in
    let front : chain [] (take (i + 1) steps) ≡ chain [] (take i steps) ++ next.0 ∷ [] = ap (chain []) (take_more steps i step less ∙ ap (λ x. take i steps ++ x ∷ []) (sym at)) ∙ next.1 in
    subst (λ done. IsDraft d top done new) (sym (ap all_copied front ∙ map-append (λ (o : Occurrence). let m : Marked = record { at = o; copied = true } in m) (chain [] (take i steps)) (next.0 ∷ []))) next.2

-- no room for one is no room for all
chain_append : (path : List ℕ) (xs ys : List Step) → (rest : List Occurrence) × (chain path (xs ++ ys) ≡ chain path xs ++ rest)
chain_append path [] ys = (chain path ys, refl)
chain_append path (x ∷ xs) ys =
    let rest = chain_append (path ++ x.place ∷ []) xs ys in
    (rest.0, ap (λ os. record { path = path ++ x.place ∷ []; cell = x.of } ∷ os) rest.1)

pub not_drafted : (d : Design) (top : CellId) (steps : List Step) (i : ℕ) (step : Step) (old new : CopyDraft) (above : ℕ) → i < length steps → step ≡ get_or steps i step → above ≡ length old.spots.items
    → IsDraft d top (all_copied (chain [] (take i steps))) old
    → ((up : Occurrence) → IsNumbered top (all_copied (chain [] (take i steps))) above up → IsCopied d top (all_copied (chain [] (take i steps))) (placed_in up step.place step.of) new false)
    → has_no_room (copies_after d [] (chain [] steps)) ≡ true
not_drafted d top steps i step old new above less at above_is is more =
    let next = next_is d top (take i steps) step old new above false above_is is more in
    let whole = split steps i step less at in
    let rest = chain_append [] (take i steps ++ step ∷ []) whole.0 in
    let before = chain [] (take i steps) in
    let all : chain [] steps ≡ before ++ next.0 ∷ rest.0 = ap (chain []) whole.1 ∙ rest.1 ∙ ap (λ os. os ++ rest.0) next.1 ∙ append_assoc before (next.0 ∷ []) rest.0 in
    let made = copies_after d [] before in
    let copies : copies_after d [] (chain [] steps) ≡ made ++ copy_after d made next.0 ∷ copies_after d (made ++ copy_after d made next.0 ∷ []) rest.0 =
    ap (copies_after d []) all ∙ copies_go_on d [] before (next.0 ∷ rest.0) in
    let same : copied_of (all_copied before) ≡ before = all_copied-copied before in
    let full : 65536 ≤ (copy_after d made next.0).id.slot = subst (λ os. 65536 ≤ (copy_after d (copies_after d [] os) next.0).id.slot) same next.2 in
    ap has_no_room copies ∙ list_any-append (λ (c : Copy). nat_le 65536 c.id.slot) made (copy_after d made next.0 ∷ copies_after d (made ++ copy_after d made next.0 ∷ []) rest.0)
    ∙ or_right (has_no_room made) _ (or_left (nat_le 65536 (copy_after d made next.0).id.slot) _ (le-leb 65536 (copy_after d made next.0).id.slot full))
  where
    split : (xs : List Step) (j : ℕ) (x : Step) → j < length xs → x ≡ get_or xs j x → (ys : List Step) × (xs ≡ (take j xs ++ x ∷ []) ++ ys)
    split [] j x less is = absurd (omega arith)
    split (y ∷ ys) zero x less is = (ys, ap (λ z. z ∷ ys) (sym is))
    split (y ∷ ys) (suc j) x less is = let rest = split ys j x (omega (arith, less)) is in (rest.0, ap (λ l. y ∷ l) rest.1)

-- the number of copies is that of the spots that get one
count_after : (before : List (List ℕ)) (spots : List Spot) → count_by (λ (spot : Spot). is_some spot.twin) spots ≡ length (copies_of (seats_after before spots))
count_after before [] = refl
count_after before (spot ∷ spots) = sum_by-cons (λ (s : Spot). cond (is_some s.twin) 1 0) spot spots ∙ by spot.twin (count_after (before ++ path_of before spot ∷ []) spots)
  where
    by : (twin : Option Twin) → count_by (λ (s : Spot). is_some s.twin) spots ≡ length (copies_of (seats_after (before ++ path_of before spot ∷ []) spots))
        → cond (is_some twin) 1 0 + count_by (λ (s : Spot). is_some s.twin) spots ≡ length (copies_at (record { path = path_of before spot; cell = spot.cell; twin = twin }) ++ copies_of (seats_after (before ++ path_of before spot ∷ []) spots))
    by None rest = let e = rest in omega (arith, e)
    by (Some twin) rest = let e = rest in omega (arith, e)

pub counted : (top : CellId) (spots : List Spot) → count_by (λ (spot : Spot). is_some spot.twin) spots ≡ length (copies_of (seats top spots))
counted top spots = count_after ([] ∷ []) spots

pub whole_chain : (steps : List Step) (i : ℕ) → length steps ≤ i → take i steps ≡ steps
whole_chain [] zero past = refl
whole_chain [] (suc i) past = refl
whole_chain (x ∷ xs) zero past = absurd (omega arith)
whole_chain (x ∷ xs) (suc i) past = ap (λ l. x ∷ l) (whole_chain xs i (omega (arith, past)))

-- what the call says, in the design with which the walk began
pub drafted_more : (d e : Design) → e ≡ d → (top : CellId) (steps : List Step) (i : ℕ) (step : Step) (old new : CopyDraft) (above : ℕ) (fits : Bool) → i < length steps → step ≡ get_or steps i step
    → above ≡ length old.spots.items → IsDraft d top (all_copied (chain [] (take i steps))) old → fits ≡ true
    → ((t : CellId) (done : List Marked) (up : Occurrence) → IsDraft e t done old → IsNumbered t done above up → IsCopied e t done (placed_in up step.place step.of) new fits)
    → IsDraft d top (all_copied (chain [] (take (i + 1) steps))) new
drafted_more d e same top steps i step old new above fits less at above_is is fits_is copied =
    let done = all_copied (chain [] (take i steps)) in
    one_drafted d top steps i step old new above less at above_is is
    (λ up there. subst (λ b. IsCopied d top done (placed_in up step.place step.of) new b) fits_is
    (subst (λ x. IsCopied x top done (placed_in up step.place step.of) new fits) same (copied top done up (subst (λ x. IsDraft x top done old) (sym same) is) there)))

pub drafted_none : (d e : Design) → e ≡ d → (top : CellId) (steps : List Step) (i : ℕ) (step : Step) (old new : CopyDraft) (above : ℕ) (fits : Bool) → i < length steps → step ≡ get_or steps i step
    → above ≡ length old.spots.items → IsDraft d top (all_copied (chain [] (take i steps))) old → fits ≡ false
    → ((t : CellId) (done : List Marked) (up : Occurrence) → IsDraft e t done old → IsNumbered t done above up → IsCopied e t done (placed_in up step.place step.of) new fits)
    → has_no_room (copies_after d [] (chain [] steps)) ≡ true
drafted_none d e same top steps i step old new above fits less at above_is is fits_is copied =
    let done = all_copied (chain [] (take i steps)) in
    not_drafted d top steps i step old new above less at above_is is
    (λ up there. subst (λ b. IsCopied d top done (placed_in up step.place step.of) new b) fits_is
    (subst (λ x. IsCopied x top done (placed_in up step.place step.of) new fits) same (copied top done up (subst (λ x. IsDraft x top done old) (sym same) is) there)))
