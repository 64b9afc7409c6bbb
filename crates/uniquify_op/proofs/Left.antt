-- What is left to come to.
use Rattle.std.proofs.Common.{◌≡◌, ◌+◌, ℕ, List, [], ◌∷◌, ◌++◌, map, length, drop, Some, None, refl, sym, ap, ◌∙◌, append-nil, append_assoc}
use Rattle.std.specs.Prelude.{slice_get}
use Rattle.std.specs.List.{AllByRecursion}
use Rattle.std.proofs.lemmas.List.{map-append}
use Rattle.netlist_schema.specs.Design.{Design}
use Rattle.netlist_schema.specs.Types.{CellId}
use Rattle.netlist_schema.specs.Valid.{IsValid}
use Rattle.netlist_schema.proofs.Lists.{drop_past, drop_next}
use Rattle.flat_spec.specs.Occurrences.{Occurrence, under}
use Rattle.uniquify_spec.specs.Blocks.{blocks_below, root_of}
use Rattle.uniquify_copies.specs.declared.spot.Step.{Step}
use Rattle.uniquify_blocks.proofs.Walking.{prefixed-under}
use Rattle.uniquify_blocks.specs.Kids.{kids_of}
use Rattle.uniquify_op.specs.Frames.{row_at}
use Rattle.uniquify_op.specs.Walks.{IsFrame, all_under, below_path, left_in, left_of, path_at}
use Rattle.uniquify_op.specs.declared.frame.BlockFrame.{BlockFrame}
use Rattle.uniquify_op.proofs.BlocksBelow.{blocks_go_down}
use Rattle.uniquify_op.proofs.Places.{path_at_more, row_at_more}

pub left_push : (d : Design) (os : List Occurrence) (rows : List (List Step)) (frames : List BlockFrame) (frame : BlockFrame) → left_of d os rows (frames ++ frame ∷ []) ≡ left_in d os rows frame ++ left_of d os rows frames
left_push d os rows [] frame = sym (append-nil (left_in d os rows frame))
left_push d os rows (f ∷ frames) frame =
    ap (λ l. l ++ left_in d os rows f) (left_push d os rows frames frame) ∙ append_assoc (left_in d os rows frame) (left_of d os rows frames) (left_in d os rows f)

-- more occurrences and more rows change nothing
in_more : (d : Design) (os more : List Occurrence) (rows others : List (List Step)) (frame : BlockFrame) → IsFrame (length os) (length rows) frame → left_in d (os ++ more) (rows ++ others) frame ≡ left_in d os rows frame
in_more d os more rows others frame is =
    λ t. map (below_path (path_at_more os more frame.number is.number t)) (all_under d (drop frame.taken (row_at_more rows others frame.row is.row t)))

pub left_more : (d : Design) (os more : List Occurrence) (rows others : List (List Step)) (frames : List BlockFrame) → AllByRecursion (IsFrame (length os) (length rows)) frames
    → left_of d (os ++ more) (rows ++ others) frames ≡ left_of d os rows frames
left_more d os more rows others [] all = refl
left_more d os more rows others (frame ∷ frames) all = λ t. left_more d os more rows others frames all.1 t ++ in_more d os more rows others frame all.0 t

-- one block is taken
pub left_taken : (d : Design) (os : List Occurrence) (rows : List (List Step)) (frame : BlockFrame) (step : Step) → slice_get (row_at rows frame.row) frame.taken ≡ Some step
    → (let path = path_at os frame.number ++ step.place ∷ [] in
    left_in d os rows frame ≡ (record { path = path; cell = step.of } ∷ map (below_path path) (blocks_below d step.of)) ++ left_in d os rows (record frame { taken = frame.taken + 1 }))
left_taken d os rows frame step at =
    let path = path_at os frame.number in
    let rest = drop (frame.taken + 1) (row_at rows frame.row) in
    let first : List Occurrence = root_of step.of ∷ blocks_below d step.of in
    ap (λ steps. map (below_path path) (all_under d steps)) (drop_next (row_at rows frame.row) frame.taken step at)
    ∙ map-append (below_path path) (map (under step.place) first) (all_under d rest)
    ∙ ap (λ l. l ++ map (below_path path) (all_under d rest))
    (prefixed-under path step.place first
    ∙ ap (λ p. record { path = p; cell = step.of } ∷ map (below_path (path ++ step.place ∷ [])) (blocks_below d step.of)) (append-nil (path ++ step.place ∷ [])))

-- nothing is left of an occurrence
pub left_back : (d : Design) (os : List Occurrence) (rows : List (List Step)) (frame : BlockFrame) → slice_get (row_at rows frame.row) frame.taken ≡ None → left_in d os rows frame ≡ []
left_back d os rows frame none = ap (λ steps. map (below_path (path_at os frame.number)) (all_under d steps)) (drop_past (row_at rows frame.row) frame.taken none)

-- all is left of it
pub left_whole : (d : Design) → IsValid d → (os : List Occurrence) (rows : List (List Step)) (number row : ℕ) (path : List ℕ) (cell : CellId) → path_at os number ≡ path → row_at rows row ≡ kids_of d cell
    → left_in d os rows (record { number = number; row = row; taken = 0 }) ≡ map (below_path path) (blocks_below d cell)
left_whole d valid os rows number row path cell there kids =
    (λ t. map (below_path (there t)) (all_under d (kids t))) ∙ ap (map (below_path path)) (sym (blocks_go_down d valid cell))
