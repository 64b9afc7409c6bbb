-- A walk that begins at a path.
use Rattle.std.proofs.Common.{◌≡◌, ◌<◌, ◌≤◌, ◌+◌, ℕ, List, [], ◌∷◌, ◌++◌, length, get_or, take, drop, refl, sym, ap, subst, ◌∙◌, arith, Option, Some, None, slice_get}
use Rattle.std.specs.Prelude.{IsSome, filter, option_and_then}
use Rattle.std.specs.List.{enumerate_from, flat_map}
use Rattle.std.proofs.lemmas.Bool.{false≢true}
use Rattle.std.proofs.lemmas.List.{drop_all, drop_more, take-append-drop}
use Rattle.netlist_schema.specs.Design.{Design}
use Rattle.netlist_schema.specs.Hierarchy.{insts_at}
use Rattle.netlist_schema.specs.Types.{CellId, Inst}
use Rattle.netlist_schema.specs.Valid.{IsValid}
use Rattle.flat_spec.specs.Below.{items_under}
use Rattle.flat_spec.specs.Flattening.{flattening}
use Rattle.flat_spec.specs.Paths.{Reaches, cell_along}
use Rattle.flat_spec.specs.Types.{Item}
use Rattle.flat_spec.proofs.PathLemmas.{cell_along-below}
use Rattle.occ_walk.specs.At.{begins_with, items_below, path_of}
use Rattle.occ_walk.specs.Below.{IsBelow, IsBelowAt}
use Rattle.occ_walk.specs.Left.{below_from, left, left_above}
use Rattle.occ_walk.specs.Starts.{IsAtStart}
use Rattle.occ_walk.specs.declared.frames.Below.{Below}
use Rattle.flat_items.specs.Moves.{HasEntered, going_on}
use Rattle.flat_items.specs.Stand.{IsFrame, MayStand, Stand, top_of}
use Rattle.flat_items.specs.declared.place.Frame.{Frame}
use Rattle.flat_items.specs.declared.place.Stage.TheVariants.{Whole}
use Rattle.flat_items.proofs.FrameLemmas.{lowest_added}
use Rattle.occ_walk.proofs.AtLemmas.{items_below_are_under}
use Rattle.occ_walk.proofs.LeftLemmas.{above_pushed, start_left, text_entered}

-- behind the last instance nothing is left
below_past : (d : Design) (path : List ℕ) (c : CellId) (count : ℕ) → length (insts_at d c) ≤ count → below_from d path c count ≡ []
below_past d path c count past =
    ap (λ (v : List Inst). flat_map (λ (p : ℕ × Inst). items_under d (top_of d) (path ++ p.0 ∷ []) p.1.of) (enumerate_from count v)) (drop_all count (insts_at d c) past)

-- one step down
pub went_down : (d : Design) (path : List ℕ) (old : Stand) (step count : ℕ) (b : Below) (new : Stand) → IsAtStart d path old
    → IsBelow d old.path old.here.cell step b → length (insts_at d old.here.cell) ≤ count → HasEntered old step count b.name.now b.frame new
    → IsAtStart d (path ++ step ∷ []) new
went_down d path old step count b new start below past moved =
    let frame : Frame = b.frame in
    let up : Frame = going_on old.here count frame.upto in
    let here : IsFrame d old.path up = record { reached = start.stands.here.reached; names = start.stands.here.names; end_is = start.stands.here.end_is } in
    let to : Stand = record { above = old.above ++ up ∷ []; here = frame; stage = Whole; path = old.path ++ step ∷ []; text = old.text ++ 47 ∷ b.name.now } in
    let same : new ≡ to = λ t. record { above = moved.above t; here = moved.here t; stage = moved.stage t; path = moved.path t; text = moved.text t } in
    let text = text_entered d old b step start.stands below in
    let may : MayStand d to = record { above = lowest_added d [] old.path step old.above up start.stands.above here; here = below.is; stage = tt; text_is = text } in
    let none : left_above d [] to.path to.above ≡ [] =
    above_pushed d [] old.path step old.above up start.stands.above
    ∙ ap (λ v. v ++ left_above d [] old.path old.above) (below_past d old.path old.here.cell count past)
    ∙ start.above_is in
    record {
      stands = subst (MayStand d) (sym same) may;
      path_is = moved.path ∙ ap (λ p. p ++ step ∷ []) start.path_is;
      stage_is = moved.stage;
      fresh = ap (λ (f : Frame). f.next) moved.here ∙ below.fresh;
      above_is = ap (λ (s : Stand). left_above d [] s.path s.above) same ∙ none;
    }

-- the same, where the occurrence is looked up
module _ (d : Design) (old : Stand) (step : ℕ) (there : IsSome (slice_get (insts_at d old.here.cell) step)) (path : List ℕ) (path_is : path ≡ old.path) (o : Option Below)
    (at : IsBelowAt d path old.here.cell step o) where
  pub none_down : o ≡ None → ⊥
  none_down is =
      let none : slice_get (insts_at d old.here.cell) step ≡ None = subst (λ (v : Option Below). IsBelowAt d path old.here.cell step v) is at in
      false≢true (subst (λ (v : Option Inst). IsSome v) none there)

  pub down_at : (from : List ℕ) → IsAtStart d from old → (b : Below) → o ≡ Some b → (insts : List Inst) → insts ≡ insts_at d old.here.cell → (new : Stand)
      → HasEntered old step (length insts) b.name.now b.frame new → IsAtStart d (from ++ step ∷ []) new
  down_at from start b is insts are new moved =
      let found = subst (λ (v : Option Below). IsBelowAt d path old.here.cell step v) is at in
      let below : IsBelow d old.path old.here.cell step b = subst (λ p. IsBelow d p old.here.cell step b) path_is found in
      let same : length insts ≡ length (insts_at d old.here.cell) = ap (λ (v : List Inst). length v) are in
      went_down d from old step (length insts) b new start below (omega (arith, same)) moved

-- the next step of a path that leads on
some_first : {A B : Type 0} (f : A → Option B) (o : Option A) → IsSome (option_and_then f o) → IsSome o
some_first f None is = is
some_first f (Some x) is = refl

pub step_there : (d : Design) (path : List ℕ) (s : Stand) (i : ℕ) → IsAtStart d (take i path) s → i < length path → IsSome (cell_along d (top_of d).cell path)
    → IsSome (slice_get (insts_at d s.here.cell) (get_or path i 0))
step_there d path s i start within whole =
    let root : CellId = (top_of d).cell in
    let rest : List ℕ = get_or path i 0 ∷ drop (i + 1) path in
    let split : path ≡ take i path ++ rest = sym (take-append-drop i path) ∙ ap (λ v. take i path ++ v) (drop_more path i 0 within) in
    let at : Reaches d root (take i path) s.here.cell = subst (λ p. Reaches d root p s.here.cell) start.path_is start.stands.here.reached in
    let more : cell_along d root path ≡ cell_along d s.here.cell rest = ap (cell_along d root) split ∙ cell_along-below d root s.here.cell (take i path) rest at in
    some_first (λ (inst : Inst). cell_along d inst.of (drop (i + 1) path)) (slice_get (insts_at d s.here.cell) (get_or path i 0))
    (subst (λ (o : Option CellId). IsSome o) more whole)

-- all items whose paths begin with the path are left
pub begun_left : (d : Design) → IsValid d → d.top ≡ Some (top_of d) → (path : List ℕ) (s : Stand) → IsAtStart d path s → left d s ≡ items_below d path
begun_left d valid top path s start =
    let at : Reaches d (top_of d).cell path s.here.cell = subst (λ p. Reaches d (top_of d).cell p s.here.cell) start.path_is start.stands.here.reached in
    start_left d valid path s start ∙ sym (items_below_are_under d valid.no_cycle (top_of d) path s.here.cell at top)

-- each path begins with the empty one
keeps_each : (items : List Item) → filter (λ item. begins_with [] (path_of item)) items ≡ items
keeps_each [] = refl
keeps_each (item ∷ items) = ap (λ v. item ∷ v) (keeps_each items)

pub below_top : (d : Design) → items_below d [] ≡ flattening d
below_top d = keeps_each (flattening d)
