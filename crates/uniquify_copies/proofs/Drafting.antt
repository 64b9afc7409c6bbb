-- One spot more on a list.
use Rattle.std.proofs.Common.{◌≡◌, ◌≤◌, ◌<◌, ℕ, zero, suc, Bool, true, false, cond, List, [], ◌∷◌, ◌++◌, map, length, Option, Some, None, refl, sym, ap, subst, ◌∙◌, inl, inr, arith, append_assoc, append-nil}
use Rattle.std.specs.Prelude.{◌||◌, nat_le, slice_get, unwrap_or}
use Rattle.std.specs.List.{flat_map}
use Rattle.std.proofs.lemmas.Bool.{or_from, lt-leb}
use Rattle.std.proofs.lemmas.List.{length-map, map-append, same_from_push}
use Rattle.std.proofs.lemmas.List.Concat.{flat_map-append}
use Rattle.std.proofs.lemmas.List.Folds.{list_any-append}
use Rattle.std.proofs.lemmas.Option.{slice_get_within}
use Rattle.netlist_schema.specs.Design.{Design}
use Rattle.netlist_schema.specs.Types.{CellId}
use Rattle.flat_spec.specs.Occurrences.{Occurrence}
use Rattle.flat_spec.proofs.ListLemmas.{last_cases}
use Rattle.uniquify_spec.specs.Blocks.{root_of}
use Rattle.uniquify_spec.specs.Copies.{Copy, copies_after, copy_after}
use Rattle.uniquify_spec.proofs.ForCode.{copies_go_on}
use Rattle.uniquify_copies.specs.Known.{AreKnown, IsNextTwin, copy_at}
use Rattle.uniquify_copies.specs.declared.namer.Twin.{Twin}
use Rattle.uniquify_copies.proofs.SeatLists.{seat_path, seats_length}
use Rattle.uniquify_copies.specs.Drafts.{IsDraft, IsMoreDraft, IsNumbered, Marked, NamesEarlier, copied_of, has_no_room, kept_of, made_for, occurrences_of, placed_in}
use Rattle.uniquify_copies.specs.Seats.{Seat, copies_at, copies_of, kept_at, occurrence_of, path_of, root_seat, seat_of, seats, seats_after}
use Rattle.uniquify_copies.specs.declared.draft.CopyDraft.{CopyDraft}
use Rattle.uniquify_copies.specs.declared.spot.Spot.{Spot}

seats_push : (before : List (List ℕ)) (spots : List Spot) (spot : Spot)
    → seats_after before (spots ++ spot ∷ []) ≡ seats_after before spots ++ seat_of (before ++ map seat_path (seats_after before spots)) spot ∷ []
seats_push before [] spot = ap (λ b. seat_of b spot ∷ []) (sym (append-nil before))
seats_push before (s ∷ spots) spot =
    let after = before ++ path_of before s ∷ [] in
    ap (λ ss. seat_of before s ∷ ss)
    (seats_push after spots spot ∙ ap (λ b. seats_after after spots ++ seat_of b spot ∷ []) (append_assoc before (path_of before s ∷ []) (map seat_path (seats_after after spots))))

path_at : (ss : List Seat) (k : ℕ) (up : Occurrence) → slice_get (map occurrence_of ss) k ≡ Some up → slice_get (map seat_path ss) k ≡ Some up.path
path_at [] k up at = cc
path_at (s ∷ ss) zero up at = let same : occurrence_of s ≡ up = cc in ap (λ (o : Occurrence). Some o.path) same
path_at (s ∷ ss) (suc k) up at = path_at ss k up at

names_more : (spots : List Spot) (spot : Spot) → NamesEarlier spots → spot.above ≤ length spots → NamesEarlier (spots ++ spot ∷ [])
names_more spots spot earlier here before after other is = elim (last_cases after) [
  | inl none ↦
      let same = same_from_push spots before spot other (is ∙ ap (λ l. before ++ other ∷ l) none) in
      subst (λ (s : Spot). s.above ≤ length before) same.1 (subst (λ l. spot.above ≤ length l) same.0 here)
  | inr some ↦
      let init = some.0 in
      let same = same_from_push spots (before ++ other ∷ init) spot some.1 (is ∙ ap (λ l. before ++ other ∷ l) some.2 ∙ sym (append_assoc before (other ∷ init) (some.1 ∷ []))) in
      earlier before init other same.0
]

room_more : (copies : List Copy) (copy : Copy) → has_no_room copies ≡ false → copy.id.slot < 65536 → has_no_room (copies ++ copy ∷ []) ≡ false
room_more copies copy none room =
    list_any-append (λ (c : Copy). nat_le 65536 c.id.slot) copies (copy ∷ [])
    ∙ or_from (has_no_room copies) (nat_le 65536 copy.id.slot || false) none (or_from (nat_le 65536 copy.id.slot) false (lt-leb 65536 copy.id.slot room) refl)

module _ (d : Design) (top : CellId) (done : List Marked) (up : Occurrence) (old : List Spot) (spot : Spot)
    (occurrences : map occurrence_of (seats top old) ≡ root_of top ∷ occurrences_of done) (at : IsNumbered top done spot.above up) where
  abbrev seat : Seat
  seat = record { path = up.path ++ spot.place ∷ []; cell = spot.cell; twin = spot.twin }

  pushed : seats top (old ++ spot ∷ []) ≡ seats top old ++ seat ∷ []
  pushed =
      let up_is = path_at (seats top old) spot.above up (ap (λ os. slice_get os spot.above) occurrences ∙ at) in
      ap (λ ss. root_seat top ∷ ss) (seats_push ([] ∷ []) old spot)
      ∙ ap (λ (o : Option (List ℕ)). seats top old ++ (let s : Seat = record { path = unwrap_or o [] ++ spot.place ∷ []; cell = spot.cell; twin = spot.twin } in s) ∷ []) up_is

  pub occurrences_more : (copied : Bool) → map occurrence_of (seats top (old ++ spot ∷ [])) ≡ root_of top ∷ occurrences_of (done ++ record { at = placed_in up spot.place spot.cell; copied = copied } ∷ [])
  occurrences_more copied =
      ap (map occurrence_of) pushed
      ∙ map-append occurrence_of (seats top old) (seat ∷ [])
      ∙ ap (λ os. os ++ placed_in up spot.place spot.cell ∷ []) occurrences
      ∙ ap (λ os. root_of top ∷ os) (sym (map-append (λ (m : Marked). m.at) done (record { at = placed_in up spot.place spot.cell; copied = copied } ∷ [])))

  pub copies_more : copies_of (seats top (old ++ spot ∷ [])) ≡ copies_of (seats top old) ++ copies_at seat
  copies_more =
      ap copies_of pushed ∙ flat_map-append copies_at (seats top old) (seat ∷ []) ∙ ap (λ cs. copies_of (seats top old) ++ cs) (append-nil (copies_at seat))

  pub kept_more : flat_map kept_at (seats top (old ++ spot ∷ [])) ≡ flat_map kept_at (seats top old) ++ kept_at seat
  kept_more =
      ap (flat_map kept_at) pushed ∙ flat_map-append kept_at (seats top old) (seat ∷ []) ∙ ap (λ cs. flat_map kept_at (seats top old) ++ cs) (append-nil (kept_at seat))

  pub spot_within : spot.above ≤ length old
  spot_within =
      let less = slice_get_within (root_of top ∷ occurrences_of done) spot.above up at in
      let all = ap length occurrences in
      let seated = length-map (seats top old) occurrence_of in
      let long = seats_length ([] ∷ []) old in
      omega (arith, less, all, seated, long)

copied_more : (done : List Marked) (at : Occurrence) → copied_of (done ++ record { at = at; copied = true } ∷ []) ≡ copied_of done ++ at ∷ []
copied_more done at = flat_map-append (λ (m : Marked). cond m.copied (m.at ∷ []) []) done (record { at = at; copied = true } ∷ [])

copied_same : (done : List Marked) (at : Occurrence) → copied_of (done ++ record { at = at; copied = false } ∷ []) ≡ copied_of done
copied_same done at = flat_map-append (λ (m : Marked). cond m.copied (m.at ∷ []) []) done (record { at = at; copied = false } ∷ []) ∙ append-nil (copied_of done)

kept_of-more : (done : List Marked) (at : Occurrence) → kept_of (done ++ record { at = at; copied = false } ∷ []) ≡ kept_of done ++ at ∷ []
kept_of-more done at = flat_map-append (λ (m : Marked). cond m.copied [] (m.at ∷ [])) done (record { at = at; copied = false } ∷ [])

kept_of-same : (done : List Marked) (at : Occurrence) → kept_of (done ++ record { at = at; copied = true } ∷ []) ≡ kept_of done
kept_of-same done at = flat_map-append (λ (m : Marked). cond m.copied [] (m.at ∷ [])) done (record { at = at; copied = true } ∷ []) ∙ append-nil (kept_of done)

pub draft_at_start : (d : Design) (top : CellId) (draft : CopyDraft) → draft.spots.items ≡ [] → AreKnown d [] draft.namer → IsDraft d top [] draft
draft_at_start d top draft none known = record {
  known = known;
  occurrences = ap (λ spots. map occurrence_of (seats top spots)) none;
  copies = ap (λ spots. copies_of (seats top spots)) none;
  kept = ap (λ spots. flat_map kept_at (seats top spots)) none;
  above = λ before after spot is. let never : [] ≡ before ++ spot ∷ after = sym none ∙ is in absurd (not_none before spot after never);
  room = refl;
}
  where
    not_none : (before : List Spot) (spot : Spot) (after : List Spot) → [] ≡ before ++ spot ∷ after → ⊥
    not_none [] spot after e = cc
    not_none (x ∷ before) spot after e = cc

pub draft_kept : (d : Design) (top : CellId) (done : List Marked) (up : Occurrence) (old new : CopyDraft) (above place : ℕ) (cell : CellId) → IsDraft d top done old → IsNumbered top done above up
    → new.namer ≡ old.namer → new.spots.items ≡ old.spots.items ++ record { above = above; place = place; cell = cell; twin = None } ∷ []
    → IsMoreDraft d top done (placed_in up place cell) false new
draft_kept d top done up old new above place cell is at same pushed =
    let spot : Spot = record { above = above; place = place; cell = cell; twin = None } in
    let o = placed_in up place cell in
    let none = copied_same done o in
    record {
      known = subst (λ n. AreKnown d (made_for d (done ++ record { at = o; copied = false } ∷ [])) n) (sym same) (subst (λ os. AreKnown d (copies_after d [] os) old.namer) (sym none) is.known);
      occurrences = ap (λ spots. map occurrence_of (seats top spots)) pushed ∙ occurrences_more d top done up old.spots.items spot is.occurrences at false;
      copies = ap (λ spots. copies_of (seats top spots)) pushed ∙ copies_more d top done up old.spots.items spot is.occurrences at ∙ append-nil (copies_of (seats top old.spots.items)) ∙ is.copies ∙ ap (copies_after d []) (sym none);
      kept = ap (λ spots. flat_map kept_at (seats top spots)) pushed ∙ kept_more d top done up old.spots.items spot is.occurrences at ∙ ap (λ ks. ks ++ o ∷ []) is.kept ∙ ap (λ ks. root_of top ∷ ks) (sym (kept_of-more done o));
      above = subst NamesEarlier (sym pushed) (names_more old.spots.items spot is.above (spot_within d top done up old.spots.items spot is.occurrences at));
      room = ap (λ os. has_no_room (copies_after d [] os)) none ∙ is.room;
    }

pub draft_copied : (d : Design) (top : CellId) (done : List Marked) (up : Occurrence) (old new : CopyDraft) (above place : ℕ) (cell : CellId) (twin : Twin) → IsDraft d top done old → IsNumbered top done above up
    → IsNextTwin d (made_for d done) cell new.namer twin → new.spots.items ≡ old.spots.items ++ record { above = above; place = place; cell = cell; twin = Some twin } ∷ []
    → IsMoreDraft d top done (placed_in up place cell) true new
draft_copied d top done up old new above place cell twin is at next pushed =
    let spot : Spot = record { above = above; place = place; cell = cell; twin = Some twin } in
    let o = placed_in up place cell in
    let copy = copy_at o.path cell twin in
    let same : copy ≡ copy_after d (made_for d done) o = λ i. record { path = o.path; of = cell; id = next.id i; name = next.name i } in
    let made : made_for d (done ++ record { at = o; copied = true } ∷ []) ≡ made_for d done ++ copy ∷ [] =
    ap (copies_after d []) (copied_more done o) ∙ copies_go_on d [] (copied_of done) (o ∷ []) ∙ ap (λ c. made_for d done ++ c ∷ []) (sym same) in
    record {
      known = subst (λ ms. AreKnown d ms new.namer) (sym made) (next.known o.path);
      occurrences = ap (λ spots. map occurrence_of (seats top spots)) pushed ∙ occurrences_more d top done up old.spots.items spot is.occurrences at true;
      copies = ap (λ spots. copies_of (seats top spots)) pushed ∙ copies_more d top done up old.spots.items spot is.occurrences at ∙ ap (λ ms. ms ++ copy ∷ []) is.copies ∙ sym made;
      kept = ap (λ spots. flat_map kept_at (seats top spots)) pushed ∙ kept_more d top done up old.spots.items spot is.occurrences at ∙ append-nil (flat_map kept_at (seats top old.spots.items)) ∙ is.kept ∙ ap (λ ks. root_of top ∷ ks) (sym (kept_of-same done o));
      above = subst NamesEarlier (sym pushed) (names_more old.spots.items spot is.above (spot_within d top done up old.spots.items spot is.occurrences at));
      room = ap has_no_room made ∙ room_more (made_for d done) copy is.room next.room;
    }
