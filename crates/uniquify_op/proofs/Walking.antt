-- Turns of a walk.
use Rattle.std.proofs.Common.{◌≡◌, ◌<◌, ◌≤◌, ◌+◌, ℕ, true, false, cond, List, [], ◌∷◌, ◌++◌, map, length, Option, Some, None, refl, sym, ap, subst, ◌∙◌, arith, append_assoc, append-nil, length-append}
use Rattle.std.specs.Prelude.{IfOk, Result, Ok, Err, is_some, nat_le, slice_get}
use Rattle.std.specs.BTreeMap.{get, is_at}
use Rattle.std.specs.List.{AllByRecursion}
use Rattle.std.proofs.lemmas.Bool.{le-leb, or_left, or_right}
use Rattle.std.proofs.lemmas.List.Concat.{flat_map-append}
use Rattle.std.proofs.lemmas.List.Folds.{list_any-append}
use Rattle.std.proofs.lemmas.List.{length-map}
use Rattle.netlist_schema.specs.Design.{Design}
use Rattle.netlist_schema.specs.Order.{cell_cmp}
use Rattle.netlist_schema.specs.Types.{CellId}
use Rattle.netlist_schema.specs.Hierarchy.{IsCell}
use Rattle.netlist_schema.specs.Valid.{IsValid}
use Rattle.netlist_schema.proofs.Lists.{get_there, all_append, all_behind}
use Rattle.edit_rules_spec.proofs.Lists.{each_left}
use Rattle.flat_spec.specs.Occurrences.{Occurrence}
use Rattle.edit_rules_spec.proofs.Edits.{last_of}
use Rattle.uniquify_spec.specs.Blocks.{blocks_below, root_of}
use Rattle.uniquify_spec.specs.Copies.{Copy, copies_after, copy_after}
use Rattle.uniquify_spec.proofs.ForCode.{copies_go_on}
use Rattle.uniquify_spec.proofs.SplitEdits.{block_is_cell}
use Rattle.uniquify_copies.specs.Drafts.{IsCopied, IsDraft, IsMoreDraft, Marked, copied_of, has_no_room, made_for, occurrences_of, placed_in}
use Rattle.uniquify_copies.specs.Seats.{occurrence_of, seats}
use Rattle.uniquify_copies.specs.declared.draft.CopyDraft.{CopyDraft}
use Rattle.uniquify_copies.specs.declared.spot.Step.{Step}
use Rattle.uniquify_copies.proofs.SeatLists.{seats_length}
use Rattle.uniquify_blocks.proofs.Walking.{prefixed-nil}
use Rattle.uniquify_blocks.specs.Kids.{kids_of}
use Rattle.uniquify_op.specs.Frames.{IsTaken, row_at}
use Rattle.uniquify_op.specs.Marks.{came_before, marks_after}
use Rattle.uniquify_op.specs.Visited.{AreMet, IsPut, IsPutAt, IsVisited}
use Rattle.uniquify_op.specs.Walks.{IsFrame, IsSomeWalk, IsTurned, IsWaiting, IsWalk, below_path, left_in, left_of, path_at}
use Rattle.uniquify_op.specs.declared.walk.BlockTurn.{BlockTurn}
use Rattle.uniquify_op.specs.declared.frame.BlockFrame.{BlockFrame}
use Rattle.uniquify_op.specs.declared.frame.Next.TheVariants.{End, Back, Block}
use Rattle.uniquify_op.specs.declared.met.Met.{Met}
use Rattle.uniquify_op.specs.declared.visits.Visits.{Visits}
use Rattle.uniquify_op.specs.declared.walk.BlockWalk.{BlockWalk}
use Rattle.uniquify_op.proofs.Places.{path_at_is}
use Rattle.uniquify_op.proofs.Marking.{marks_append, marks_occurrences, marks_push}
use Rattle.uniquify_op.proofs.Meeting.{first_kids, first_within, met_again, met_first, met_none}
use Rattle.uniquify_op.proofs.Left.{left_back, left_more, left_push, left_taken, left_whole}

-- ---- one occurrence is put on the list

-- it keeps its cell
pub put_first : (d : Design) (top : CellId) (seen : List Occurrence) (up : Occurrence) (step : Step) (old new : Visits) (above : ℕ) (kids : List Step) (place : ℕ)
    → get cell_cmp old.met.places step.of ≡ None
    → kids ≡ kids_of d step.of
    → IsMoreDraft d top (marks_after [] seen) (placed_in up step.place step.of) false new.draft
    → place ≡ length old.met.rows.items → new.met.rows.items ≡ old.met.rows.items ++ kids ∷ []
    → ((q : CellId) → get cell_cmp new.met.places q ≡ cond (is_at (cell_cmp step.of) q) (Some place) (get cell_cmp old.met.places q))
    → IsVisited d top seen old → IsPutAt d top seen (placed_in up step.place step.of) old new place
put_first d top seen up step old new above kids place unknown kids_are drafted place_is rows places visited =
    let at = placed_in up step.place step.of in
    let came : came_before seen step.of ≡ false = sym (visited.met.known step.of) ∙ ap (λ (o : Option ℕ). is_some o) unknown in
    record {
      visited = record {
        draft = subst (λ done. IsDraft d top done new.draft) (marks_push seen at false came) drafted;
        met = met_first d seen at old.met new.met kids place visited.met kids_are place_is rows places;
      };
      more = kids ∷ [];
      rows = rows;
      within = first_within d seen at old.met new.met kids place visited.met kids_are place_is rows places;
      kids = first_kids d seen at old.met new.met kids place visited.met kids_are place_is rows places;
    }

came_known : (d : Design) (seen : List Occurrence) (met : Met) (id : CellId) (place : ℕ) → AreMet d seen met → get cell_cmp met.places id ≡ Some place → came_before seen id ≡ true
came_known d seen met id place are found = sym (are.known id) ∙ ap (λ (o : Option ℕ). is_some o) found

-- it gets a copy
pub put_again : (d : Design) (top : CellId) (seen : List Occurrence) (up : Occurrence) (step : Step) (old new : Visits) (place : ℕ) → get cell_cmp old.met.places step.of ≡ Some place → new.met ≡ old.met
    → IsCopied d top (marks_after [] seen) (placed_in up step.place step.of) new.draft true → IsVisited d top seen old → IsPut d top seen (placed_in up step.place step.of) old new (Some place)
put_again d top seen up step old new place found same copied visited =
    let at = placed_in up step.place step.of in
    let came = came_known d seen old.met step.of place visited.met found in
    record {
      visited = record {
        draft = subst (λ done. IsDraft d top done new.draft) (marks_push seen at true came) copied;
        met = subst (AreMet d (seen ++ at ∷ [])) (sym same) (met_again d seen at old.met visited.met came);
      };
      more = [];
      rows = ap (λ (m : Met). m.rows.items) same ∙ sym (append-nil old.met.rows.items);
      within = subst (λ (m : Met). place < length m.rows.items) (sym same) (visited.met.within step.of place found);
      kids = ap (λ (m : Met). row_at m.rows.items place) same ∙ visited.met.rows step.of place found;
    }

-- there is no room for its copy
pub put_none : (d : Design) (top : CellId) (seen : List Occurrence) (up : Occurrence) (step : Step) (old new : Visits) (place : ℕ) → get cell_cmp old.met.places step.of ≡ Some place
    → IsCopied d top (marks_after [] seen) (placed_in up step.place step.of) new.draft false → IsVisited d top seen old → IsPut d top seen (placed_in up step.place step.of) old new None
put_none d top seen up step old new place found copied visited = (came_known d seen old.met step.of place visited.met found, copied)

-- ---- the walk

-- it begins
pub walk_starts : (d : Design) → IsValid d → (top : CellId) (walk : BlockWalk) (kids : List Step) → kids ≡ kids_of d top → IsDraft d top [] walk.visits.draft → walk.visits.met.rows.items ≡ kids ∷ []
    → ((id : CellId) → get cell_cmp walk.visits.met.places id ≡ None) → walk.stack.items ≡ record { number = 0; row = 0; taken = 0 } ∷ [] → IsWalk d top (blocks_below d top) [] walk
walk_starts d valid top walk kids kids_are draft rows none stack =
    let rows_here : List (List Step) = walk.visits.met.rows.items in
    let long : length rows_here ≡ 1 = ap (λ (l : List (List Step)). length l) rows in
    record {
      visited = record { draft = draft; met = met_none d top kids walk.visits.met kids_are rows none };
      frames = subst (AllByRecursion (IsFrame 1 (length rows_here))) (sym stack) (record { number = omega arith; row = omega (arith, long) }, tt);
      left = sym (ap (left_of d (root_of top ∷ []) rows_here) stack
          ∙ left_whole d valid (root_of top ∷ []) rows_here 0 0 [] top refl (ap (λ (l : List (List Step)). row_at l 0) rows ∙ kids_are)
          ∙ prefixed-nil (blocks_below d top));
    }

-- a block is taken
pub walk_taken : (d : Design) (top : CellId) (os seen : List Occurrence) (old new : BlockWalk) (above : ℕ) (step : Step) → new.visits ≡ old.visits → IsWalk d top os seen old
    → IsTaken old.visits.met.rows.items old.stack.items new.stack.items (Block above step) → IsWaiting d top os seen new above step
walk_taken d top os seen old new above step same walk (frame, rest, was, is, number, at) = record {
  visited = subst (IsVisited d top seen) (sym same) walk.visited;
  frames = subst (λ (v : Visits). AllByRecursion (IsFrame count (length v.met.rows.items)) new.stack.items) (sym same)
      (subst (AllByRecursion (IsFrame count (length rows))) (sym is) (all_append (IsFrame count (length rows)) rest (next ∷ []) (each_left (IsFrame count (length rows)) rest (frame ∷ []) framed) (record { number = here.number; row = here.row }, tt)));
  up = up.0;
  numbered = (λ i. slice_get (root_of top ∷ marks_occurrences [] seen i) (number i)) ∙ up.1;
  left = walk.left ∙ ap (λ l. seen ++ l) (left_before ∙ ap (λ l. l ++ left_of d all rows (rest ++ next ∷ [])) named ∙ (λ i. (at_it ∷ map (below_path at_it.path) (blocks_below d step.of)) ++ left_of d all (sym same i).met.rows.items (sym is i)));
}
  where
    rows : List (List Step)
    rows = old.visits.met.rows.items

    all : List Occurrence
    all = root_of top ∷ seen

    count : ℕ
    count = length all

    next : BlockFrame
    next = record frame { taken = frame.taken + 1 }

    framed : AllByRecursion (IsFrame count (length rows)) (rest ++ frame ∷ [])
    framed = subst (AllByRecursion (IsFrame count (length rows))) was walk.frames

    here : IsFrame count (length rows) frame
    here = (all_behind (IsFrame count (length rows)) rest (frame ∷ []) framed).0

    up : (x : Occurrence) × (slice_get all frame.number ≡ Some x)
    up = get_there all frame.number here.number

    at_it : Occurrence
    at_it = placed_in up.0 step.place step.of

    path : List ℕ
    path = path_at all frame.number ++ step.place ∷ []

    named : record { path = path; cell = step.of } ∷ map (below_path path) (blocks_below d step.of) ≡ at_it ∷ map (below_path at_it.path) (blocks_below d step.of)
    named = ap (λ p. record { path = p ++ step.place ∷ []; cell = step.of } ∷ map (below_path (p ++ step.place ∷ [])) (blocks_below d step.of)) (path_at_is all frame.number up.0 up.1)

    left_before : left_of d all rows old.stack.items ≡ (record { path = path; cell = step.of } ∷ map (below_path path) (blocks_below d step.of)) ++ left_of d all rows (rest ++ next ∷ [])
    left_before =
        ap (left_of d all rows) was
        ∙ left_push d all rows rest frame
        ∙ ap (λ l. l ++ left_of d all rows rest) (left_taken d all rows frame step at)
        ∙ append_assoc (record { path = path; cell = step.of } ∷ map (below_path path) (blocks_below d step.of)) (left_in d all rows next) (left_of d all rows rest)
        ∙ ap (λ l. (record { path = path; cell = step.of } ∷ map (below_path path) (blocks_below d step.of)) ++ l) (sym (left_push d all rows rest next))

-- the cell of a block that is taken
pub taken_is_cell : (d : Design) (top : CellId) (os seen : List Occurrence) (walk : BlockWalk) (new : List BlockFrame) (above : ℕ) (step : Step) → IsWalk d top os seen walk
    → IsTaken walk.visits.met.rows.items walk.stack.items new (Block above step) → IsCell d step.of
taken_is_cell d top os seen walk new above step is (frame, rest, was, now, number, at) = block_is_cell d step.of (is.visited.met.blocks frame.row frame.taken step at)

-- an occurrence is put aside
pub walk_back : (d : Design) (top : CellId) (os seen : List Occurrence) (old new : BlockWalk) → new.visits ≡ old.visits → IsWalk d top os seen old → IsTaken old.visits.met.rows.items old.stack.items new.stack.items Back → IsWalk d top os seen new
walk_back d top os seen old new same walk (frame, was, none) =
    let rows : List (List Step) = old.visits.met.rows.items in
    let all : List Occurrence = root_of top ∷ seen in
    record {
      visited = subst (IsVisited d top seen) (sym same) walk.visited;
      frames = subst (λ (v : Visits). AllByRecursion (IsFrame (length all) (length v.met.rows.items)) new.stack.items) (sym same)
          (each_left (IsFrame (length all) (length rows)) new.stack.items (frame ∷ []) (subst (AllByRecursion (IsFrame (length all) (length rows))) was walk.frames));
      left = walk.left ∙ ap (λ l. seen ++ l)
          (ap (left_of d all rows) was ∙ left_push d all rows new.stack.items frame ∙ ap (λ l. l ++ left_of d all rows new.stack.items) (left_back d all rows frame none)
          ∙ ap (λ (v : Visits). left_of d all v.met.rows.items new.stack.items) (sym same));
    }

-- all was come to
pub walk_over : (d : Design) (top : CellId) (os seen : List Occurrence) (old new : BlockWalk) → new.visits ≡ old.visits → IsWalk d top os seen old → IsTaken old.visits.met.rows.items old.stack.items new.stack.items End
    → IsDraft d top (marks_after [] os) new.visits.draft
walk_over d top os seen old new same walk none =
    let all : seen ≡ os = sym (walk.left ∙ ap (λ l. seen ++ left_of d (root_of top ∷ seen) old.visits.met.rows.items l) none ∙ append-nil seen) in
    subst (λ (l : List Occurrence). IsDraft d top (marks_after [] l) new.visits.draft) all (subst (λ (v : Visits). IsDraft d top (marks_after [] seen) v.draft) (sym same) walk.visited.draft)

-- ---- a block is come to

spots_long : (d : Design) (top : CellId) (done : List Marked) (draft : CopyDraft) → IsDraft d top done draft → length draft.spots.items ≡ length (occurrences_of done)
spots_long d top done draft is =
    let all = ap (λ (os : List Occurrence). length os) is.occurrences in
    let left = length-map (seats top draft.spots.items) occurrence_of in
    let seated = seats_length ([] ∷ []) draft.spots.items in
    omega (arith, all, left, seated)

wider : (m n p q : ℕ) (frames : List BlockFrame) → m ≤ n → p ≤ q → AllByRecursion (IsFrame m p) frames → AllByRecursion (IsFrame n q) frames
wider m n p q [] first second all = tt
wider m n p q (frame ∷ frames) first second all =
    let number = all.0.number in
    let row = all.0.row in
    (record { number = omega (arith, number, first); row = omega (arith, row, second) }, wider m n p q frames first second all.1)

pub walk_goes_on : (d : Design) → IsValid d → (top : CellId) (os seen : List Occurrence) (old new : BlockWalk) (above : ℕ) (step : Step) (row number : ℕ) → (waiting : IsWaiting d top os seen old above step)
    → IsPutAt d top seen (placed_in waiting.up step.place step.of) old.visits new.visits row → number ≡ length new.visits.draft.spots.items
    → new.stack.items ≡ old.stack.items ++ record { number = number; row = row; taken = 0 } ∷ [] → IsWalk d top os (seen ++ placed_in waiting.up step.place step.of ∷ []) new
walk_goes_on d valid top os seen old new above step row number waiting put number_is stack = record {
  visited = put.visited;
  frames = subst (AllByRecursion (IsFrame (length after) (length rows_after))) (sym stack)
      (all_append (IsFrame (length after) (length rows_after)) old.stack.items (next ∷ [])
      (wider (length before) (length after) (length rows) (length rows_after) old.stack.items (omega (arith, long)) (omega (arith, rows_long)) waiting.frames)
      (record { number = omega (arith, number_at, long); row = put.within }, tt));
  left = waiting.left
      ∙ sym (append_assoc seen (at ∷ []) (under_it ++ left_of d before rows old.stack.items))
      ∙ ap (λ l. (seen ++ at ∷ []) ++ l)
      ((λ i. sym whole i ++ sym stays i)
      ∙ sym (left_push d after rows_after old.stack.items next)
      ∙ ap (left_of d after rows_after) (sym stack));
}
  where
    at : Occurrence
    at = placed_in waiting.up step.place step.of

    rows : List (List Step)
    rows = old.visits.met.rows.items

    rows_after : List (List Step)
    rows_after = new.visits.met.rows.items

    before : List Occurrence
    before = root_of top ∷ seen

    after : List Occurrence
    after = root_of top ∷ (seen ++ at ∷ [])

    next : BlockFrame
    next = record { number = number; row = row; taken = 0 }

    under_it : List Occurrence
    under_it = map (below_path at.path) (blocks_below d step.of)

    long : length after ≡ length before + 1
    long = let sum = length-append seen (at ∷ []) in omega (arith, sum)

    rows_long : length rows_after ≡ length rows + length put.more
    rows_long = ap (λ (l : List (List Step)). length l) put.rows ∙ length-append rows put.more

    number_at : number ≡ length before
    number_at =
        let spots = spots_long d top (marks_after [] (seen ++ at ∷ [])) new.visits.draft put.visited.draft in
        let marks = ap (λ (l : List Occurrence). length l) (marks_occurrences [] (seen ++ at ∷ [])) in
        let sum = length-append seen (at ∷ []) in
        omega (arith, number_is, spots, marks, sum)

    there : path_at after number ≡ at.path
    there = path_at_is after number at (last_of before at number number_at)

    whole : left_in d after rows_after next ≡ under_it
    whole = left_whole d valid after rows_after number row at.path step.of there put.kids

    stays : left_of d after rows_after old.stack.items ≡ left_of d before rows old.stack.items
    stays = ap (λ l. left_of d after l old.stack.items) put.rows ∙ left_more d before (at ∷ []) rows put.more old.stack.items waiting.frames

-- there is no room for a copy
pub walk_full : (d : Design) (top : CellId) (os seen : List Occurrence) (old : BlockWalk) (new : Visits) (above : ℕ) (step : Step) → (waiting : IsWaiting d top os seen old above step)
    → IsPut d top seen (placed_in waiting.up step.place step.of) old.visits new None → has_no_room (made_for d (marks_after [] os)) ≡ true
walk_full d top os seen old new above step waiting (came, full) =
    ap (λ l. has_no_room (made_for d (marks_after [] l))) waiting.left
    ∙ ap (λ done. has_no_room (made_for d done)) (marks_append [] seen (at ∷ rest) ∙ ap (λ b. marks_after [] seen ++ record { at = at; copied = b } ∷ later) came)
    ∙ ap (λ l. has_no_room (copies_after d [] l)) (flat_map-append one (marks_after [] seen) (record { at = at; copied = true } ∷ later))
    ∙ ap has_no_room (copies_go_on d [] (copied_of (marks_after [] seen)) (at ∷ copied_of later))
    ∙ list_any-append (λ (c : Copy). nat_le 65536 c.id.slot) made (copy_after d made at ∷ copies_after d (made ++ copy_after d made at ∷ []) (copied_of later))
    ∙ or_right (has_no_room made) _ (or_left (nat_le 65536 (copy_after d made at).id.slot) _ (le-leb 65536 (copy_after d made at).id.slot full))
  where
    at : Occurrence
    at = placed_in waiting.up step.place step.of

    rest : List Occurrence
    rest = map (below_path at.path) (blocks_below d step.of) ++ left_of d (root_of top ∷ seen) old.visits.met.rows.items old.stack.items

    later : List Marked
    later = marks_after (seen ++ at ∷ []) rest

    made : List Copy
    made = made_for d (marks_after [] seen)

    one : Marked → List Occurrence
    one m = cond m.copied (m.at ∷ []) []

-- what a visit comes to is what the turn comes to
pub turned_by : {E : Type 0} (d : Design) (old next new : BlockWalk) (above : ℕ) (step : Step) (result : Result BlockTurn E)
    → IfOk result (λ turn. (top : CellId) (os seen : List Occurrence) → IsWaiting d top os seen next above step → IsTurned d top os new turn)
    → ((top : CellId) (os seen : List Occurrence) → IsWalk d top os seen old → IsWaiting d top os seen next above step)
    → IfOk result (λ turn. (top : CellId) (os seen : List Occurrence) → IsWalk d top os seen old → IsTurned d top os new turn)
turned_by d old next new above step (Ok turn) visited waits = λ top os seen walk. visited top os seen (waits top os seen walk)
turned_by d old next new above step (Err refused) visited waits = tt

-- ---- in the design with which the walk began

abbrev pub IsUnderWay : Design → CellId → BlockWalk → Type 0
IsUnderWay d top walk = (seen : List Occurrence) × IsWalk d top (blocks_below d top) seen walk

pub some_walk : (d e : Design) → e ≡ d → (top : CellId) (walk : BlockWalk) → IsUnderWay d top walk → IsSomeWalk e walk
some_walk d e same top walk way = (top, blocks_below d top, way.0, subst (λ x. IsWalk x top (blocks_below d top) way.0 walk) (sym same) way.1)

pub turned_here : (d e : Design) → e ≡ d → (top : CellId) (old new : BlockWalk) (turn : BlockTurn) → IsUnderWay d top old
    → ((t : CellId) (os seen : List Occurrence) → IsWalk e t os seen old → IsTurned e t os new turn) → IsTurned d top (blocks_below d top) new turn
turned_here d e same top old new turn way turned =
    subst (λ x. IsTurned x top (blocks_below d top) new turn) same (turned top (blocks_below d top) way.0 (subst (λ x. IsWalk x top (blocks_below d top) way.0 old) (sym same) way.1))
