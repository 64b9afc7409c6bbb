-- A draft of the occurrences that split a design has them as its seats.
use Rattle.std.proofs.Common.{◌≡◌, List, [], ◌∷◌, ◌++◌, map, refl, sym, ap, subst, ◌∙◌}
use Rattle.std.proofs.lemmas.List.Elements.{All-from_recursion}
use Rattle.netlist_schema.specs.Design.{Design}
use Rattle.netlist_schema.specs.Hierarchy.{IsCell}
use Rattle.netlist_schema.specs.Types.{CellId}
use Rattle.netlist_schema.specs.Names.{AreDistinct}
use Rattle.flat_spec.specs.Occurrences.{Occurrence}
use Rattle.flat_spec.specs.Paths.{Reaches}
use Rattle.flat_spec.proofs.ListLemmas.{Member, Member-map}
use Rattle.uniquify_spec.specs.Blocks.{root_of}
use Rattle.uniquify_spec.specs.Copies.{Copy}
use Rattle.uniquify_spec.specs.Split.{Split}
use Rattle.uniquify_spec.proofs.BlockSplit.{copies_are_new}
use Rattle.uniquify_spec.proofs.CopyLists.{AreNew}
use Rattle.uniquify_spec.proofs.SplitEdits.{each_of}
use Rattle.uniquify_copies.proofs.SeatLists.{seat_path}
use Rattle.uniquify_copies.specs.Changes.{AreLast, AreSeats}
use Rattle.uniquify_copies.specs.Drafts.{IsDraft, Marked, copied_of, kept_of, made_for, occurrences_of}
use Rattle.uniquify_copies.specs.Seats.{Seat, occurrence_of, seats, split_of}
use Rattle.uniquify_copies.specs.declared.draft.CopyDraft.{CopyDraft}

abbrev pub split_for : Design → CellId → List Marked → Split
split_for d top done = record { kept = root_of top ∷ kept_of done; copies = made_for d done }

pub draft_split : (d : Design) (top : CellId) (done : List Marked) (draft : CopyDraft) → IsDraft d top done draft → split_of (seats top draft.spots.items) ≡ split_for d top done
draft_split d top done draft is = λ i. record { kept = is.kept i; copies = is.copies i }

seat_paths : (ss : List Seat) → map seat_path ss ≡ map (λ (o : Occurrence). o.path) (map occurrence_of ss)
seat_paths [] = refl
seat_paths (s ∷ ss) = ap (λ ps. s.path ∷ ps) (seat_paths ss)

last_of : (d : Design) (copies before : List Copy) → AreNew d before copies → AreLast d before copies
last_of d [] before new = tt
last_of d (copy ∷ copies) before new = (new.0.slot, new.0.lib, new.0.cell, last_of d copies (before ++ copy ∷ []) new.1)

pub new_of : (d : Design) (copies before : List Copy) → AreLast d before copies → AreNew d before copies
new_of d [] before last = tt
new_of d (copy ∷ copies) before (slot, lib, cell, rest) = (record { slot = slot; lib = lib; cell = cell }, new_of d copies (before ++ copy ∷ []) rest)

pub draft_seats : (d : Design) (top : CellId) (done : List Marked) (draft : CopyDraft) → IsDraft d top done draft
    → AreDistinct (map (λ (o : Occurrence). o.path) (root_of top ∷ occurrences_of done)) → ((o : Occurrence) → Member (root_of top ∷ occurrences_of done) o → Reaches d top o.path o.cell)
    → ((o : Occurrence) → Member (copied_of done) o → IsCell d o.cell) → AreSeats d top draft.spots.items
draft_seats d top done draft is apart reached cells =
    let ss = seats top draft.spots.items in
    record {
      above = is.above;
      apart = subst AreDistinct (sym (seat_paths ss ∙ ap (map (λ (o : Occurrence). o.path)) is.occurrences)) apart;
      reached = All-from_recursion (λ (seat : Seat). Reaches d top seat.path seat.cell) ss
          (each_of (λ (seat : Seat). Reaches d top seat.path seat.cell) ss
          (λ seat member. reached (occurrence_of seat) (subst (λ os. Member os (occurrence_of seat)) is.occurrences (Member-map occurrence_of ss seat member))));
      last = subst (AreLast d []) (sym is.copies) (last_of d (made_for d done) [] (copies_are_new d (copied_of done) [] cells));
    }
