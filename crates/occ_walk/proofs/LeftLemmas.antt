-- What is left of a walk when it gives an item, enters an occurrence, leaves one, or begins.
use Rattle.std.proofs.Common.{◌≡◌, ◌<◌, ◌+◌, ◌-◌, ℕ, List, [], ◌∷◌, ◌++◌, length, take, drop, refl, sym, ap, subst, ◌∙◌, arith, append_assoc, append-nil, true, false, Option, Some, None, slice_get}
use Rattle.std.specs.Prelude.{Bool, IfOk, Result, Ok, Err}
use Rattle.std.specs.List.{enumerate_from, flat_map}
use Rattle.std.proofs.lemmas.List.{length_push, same_from_push, take_at}
use Rattle.std.proofs.lemmas.Option.{same_Some}
use Rattle.netlist_schema.specs.Design.{Design}
use Rattle.netlist_schema.specs.Hierarchy.{insts_at}
use Rattle.netlist_schema.specs.Types.{CellId, Inst}
use Rattle.netlist_schema.specs.Valid.{IsValid}
use Rattle.netlist_pages.specs.declared.memory.NoMemory.{NoMemory}
use Rattle.netlist_schema.proofs.Lists.{drop_past, drop_next}
use Rattle.flat_spec.specs.Below.{items_under}
use Rattle.flat_spec.specs.Flattening.{flattening}
use Rattle.flat_spec.specs.Occurrences.{Occurrence}
use Rattle.flat_spec.specs.Paths.{Reaches}
use Rattle.flat_spec.specs.Types.{Item}
use Rattle.flat_spec.proofs.BelowLemmas.{flattening_is_under_top, items_go_down}
use Rattle.occ_walk.specs.Below.{IsBelow, IsBelowAt}
use Rattle.occ_walk.specs.Left.{HasPassed, below_from, left, left_above, rest_of}
use Rattle.occ_walk.specs.Starts.{IsAtStart}
use Rattle.occ_walk.specs.Walk.{IsLent, IsSettled, IsTextLent}
use Rattle.occ_walk.specs.declared.frames.Below.{Below}
use Rattle.path_texts.specs.Texts.{steps_text}
use Rattle.path_texts.proofs.StepLemmas.{last_cut, more_text}
use Rattle.flat_items.specs.Left.{GoesOn, IsAhead, is_over, own_left}
use Rattle.flat_items.specs.Lent.{item_of}
use Rattle.flat_items.specs.Moves.{HasEntered, HasLeft, going_on}
use Rattle.flat_items.specs.Stand.{AreAbove, IsFrame, MayStand, Stand, here_of, top_of}
use Rattle.flat_items.specs.Texts.{IsTextAhead}
use Rattle.flat_items.specs.declared.lent.ItemRef.{ItemRef}
use Rattle.flat_items.specs.declared.texts.ItemText.{ItemText}
use Rattle.flat_items.specs.declared.place.Frame.{Frame}
use Rattle.flat_items.specs.declared.place.Stage.{Stage}
use Rattle.flat_items.specs.declared.place.Stage.TheVariants.{Whole, Done}
use Rattle.flat_items.proofs.FrameLemmas.{lowest_added, lowest_of, none_above}
use Rattle.flat_items.proofs.StageLemmas.{over_left, own_opens}
use Rattle.occ_walk.proofs.BelowLemmas.{next_is_small}

-- an instance opens into what is at and below its occurrence, and the others
below_opened : (d : Design) → IsValid d → (path : List ℕ) (c : CellId) (i : ℕ) (inst : Inst) → slice_get (insts_at d c) i ≡ Some inst
    → below_from d path c i
    ≡ (own_left d (record { path = path ++ i ∷ []; cell = inst.of }) Whole ++ below_from d (path ++ i ∷ []) inst.of 0) ++ below_from d path c (i + 1)
below_opened d valid path c i inst there =
    ap (λ (v : List Inst). flat_map (λ (p : ℕ × Inst). items_under d (top_of d) (path ++ p.0 ∷ []) p.1.of) (enumerate_from i v)) (drop_next (insts_at d c) i inst there)
    ∙ ap (λ v. v ++ below_from d path c (i + 1)) (items_go_down d (top_of d) (path ++ i ∷ []) inst.of valid.no_cycle)

below_ended : (d : Design) (path : List ℕ) (c : CellId) (i : ℕ) → slice_get (insts_at d c) i ≡ None → below_from d path c i ≡ []
below_ended d path c i none =
    ap (λ (v : List Inst). flat_map (λ (p : ℕ × Inst). items_under d (top_of d) (path ++ p.0 ∷ []) p.1.of) (enumerate_from i v)) (drop_past (insts_at d c) i none)

-- what is below the lowest frame comes first
pub above_pushed : (d : Design) (start path : List ℕ) (step : ℕ) (others : List Frame) (f : Frame) → AreAbove d start path others
    → left_above d start (path ++ step ∷ []) (others ++ f ∷ []) ≡ below_from d (start ++ path) f.cell f.next ++ left_above d start path others
above_pushed d start [] step [] f h =
    ap (λ p. below_from d p f.cell f.next) (sym (append-nil start)) ∙ sym (append-nil (below_from d (start ++ []) f.cell f.next))
above_pushed d start [] step (g ∷ others) f h = absurd h
above_pushed d start (i ∷ path) step [] f h = absurd h
above_pushed d start (i ∷ path) step (g ∷ others) f h =
    let rest = left_above d (start ++ i ∷ []) path others in
    let last = below_from d start g.cell g.next in
    ap (λ v. v ++ last) (above_pushed d (start ++ i ∷ []) path step others f h.1)
    ∙ append_assoc (below_from d ((start ++ i ∷ []) ++ path) f.cell f.next) rest last
    ∙ ap (λ p. below_from d p f.cell f.next ++ (rest ++ last)) (append_assoc start (i ∷ []) path)

none_left_above : (d : Design) (start path : List ℕ) → left_above d start path [] ≡ []
none_left_above d start [] = refl
none_left_above d start (i ∷ path) = refl

-- the first item is passed over
pub passed : (d : Design) → IsValid d → (old : Stand) (stage : Stage) → MayStand d old → GoesOn d (here_of old) (drop 1 (own_left d (here_of old) old.stage)) stage
    → MayStand d (record { above = old.above; here = old.here; stage = stage; path = old.path; text = old.text })
    × HasPassed d old (record { above = old.above; here = old.here; stage = stage; path = old.path; text = old.text })
passed d valid old stage stands goes = (record { above = stands.above; here = stands.here; stage = goes.1; text_is = stands.text_is }, first)
  where
    first : is_over old.stage ≡ false → left d (record { above = old.above; here = old.here; stage = stage; path = old.path; text = old.text }) ≡ drop 1 (left d old)
    first some =
        let rest = below_from d old.path old.here.cell old.here.next ++ left_above d [] old.path old.above in
        let opened = own_opens d valid (here_of old) old.stage stands.stage some in
        ap (λ v. v ++ rest) goes.0 ∙ ap (λ v. drop 1 (v ++ rest)) (sym opened.1)

-- where no own item is left, none is passed over
pub none_passed : (d : Design) (old : Stand) (stage : Stage) → GoesOn d (here_of old) (drop 1 (own_left d (here_of old) old.stage)) stage → is_over old.stage ≡ true
    → left d (record { above = old.above; here = old.here; stage = stage; path = old.path; text = old.text }) ≡ left d old
none_passed d old stage goes over =
    let none = over_left d (here_of old) old.stage over in
    ap (λ v. v ++ (below_from d old.path old.here.cell old.here.next ++ left_above d [] old.path old.above)) (goes.0 ∙ ap (drop 1) none ∙ sym none)

-- and behind it none is left either
pub over_behind : (d : Design) → IsValid d → (o : Occurrence) (old stage : Stage) → GoesOn d o (drop 1 (own_left d o old)) stage → is_over old ≡ true → is_over stage ≡ true
over_behind d valid o old stage goes over = go (is_over stage) refl
  where
    go : (b : Bool) → is_over stage ≡ b → is_over stage ≡ true
    go true is = is
    go false is =
        let own = own_opens d valid o stage goes.1 is in
        let none : own.0 ∷ drop 1 (own_left d o stage) ≡ [] = sym own.1 ∙ goes.0 ∙ ap (drop 1) (over_left d o old over) in
        absurd (cc none)

-- the first own item is the first of all
pub left_ahead : (d : Design) (s : Stand) (item : Item) → own_left d (here_of s) s.stage ≡ item ∷ drop 1 (own_left d (here_of s) s.stage)
    → left d s ≡ item ∷ drop 1 (left d s)
left_ahead d s item is =
    let rest = below_from d s.path s.here.cell s.here.next ++ left_above d [] s.path s.above in
    let opened : left d s ≡ item ∷ (drop 1 (own_left d (here_of s) s.stage) ++ rest) = ap (λ v. v ++ rest) is in
    opened ∙ ap (λ v. item ∷ drop 1 v) (sym opened)

-- where the occurrence has still something to give, something is left
pub some_left : (d : Design) → IsValid d → (s : Stand) → MayStand d s → is_over s.stage ≡ false → left d s ≡ [] → ⊥
some_left d valid s stands more none =
    let own = own_opens d valid (here_of s) s.stage stands.stage more in
    let opened : [] ≡ own.0 ∷ drop 1 (left d s) = sym none ∙ left_ahead d s own.0 own.1 in
    absurd (cc opened)

-- the same after going on
pub some_settled : (d : Design) → IsValid d → (s : Stand) → MayStand d s → (r : Result Bool NoMemory) → IfOk r (IsSettled (rest_of d s)) → r ≡ Ok true → left d s ≡ [] → ⊥
some_settled d valid s stands (Ok true) settled is = some_left d valid s stands settled
some_settled d valid s stands (Ok false) settled is = λ none. absurd (cc is)
some_settled d valid s stands (Err e) settled is = λ none. absurd (cc is)

-- the same, where it is looked up
pub lent_ahead : (d : Design) (s : Stand) (o : Option ItemRef) → IsAhead d (here_of s) s.stage o → IsLent (rest_of d s) o
lent_ahead d s None is = is
lent_ahead d s (Some item) is = (is.0, left_ahead d s (item_of item) is.1)

pub text_lent : (d : Design) (s : Stand) (o : Option ItemText) → IsTextAhead d (here_of s) s.stage o → IsTextLent (rest_of d s) o
text_lent d s None is = is
text_lent d s (Some text) is = record { item = is.item; more = is.more; first = left_ahead d s is.item is.first; shown = is.shown }

-- an occurrence is entered
four : {A : Type 0} (a b c e : List A) → ((a ++ b) ++ c) ++ e ≡ a ++ (b ++ (c ++ e))
four a b c e = append_assoc (a ++ b) c e ∙ append_assoc a b (c ++ e)

pub text_entered : (d : Design) (old : Stand) (b : Below) (step : ℕ) → MayStand d old → IsBelow d old.path old.here.cell step b
    → old.text ++ 47 ∷ b.name.now ≡ steps_text d (top_of d).cell (old.path ++ step ∷ [])
text_entered d old b step stands below =
    ap (λ v. old.text ++ 47 ∷ v) below.name_is
    ∙ ap (λ v. v ++ 47 ∷ below.inst.name.id) stands.text_is
    ∙ sym (more_text d (top_of d).cell old.here.cell old.path step below.inst stands.here.reached below.there)

pub entered : (d : Design) → IsValid d → (old : Stand) (b : Below) (new : Stand) → MayStand d old → own_left d (here_of old) old.stage ≡ []
    → IsBelow d old.path old.here.cell old.here.next b → HasEntered old old.here.next (old.here.next + 1) b.name.now b.frame new → MayStand d new × (left d new ≡ left d old)
entered d valid old b new stands done below moved =
    let i : ℕ = old.here.next in
    let frame : Frame = b.frame in
    let path : List ℕ = old.path ++ i ∷ [] in
    let to : Stand = record { above = old.above ++ going_on old.here (i + 1) frame.upto ∷ []; here = frame; stage = Whole; path = path; text = old.text ++ 47 ∷ b.name.now } in
    let same : new ≡ to = λ t. record { above = moved.above t; here = moved.here t; stage = moved.stage t; path = moved.path t; text = moved.text t } in
    let up : IsFrame d old.path (going_on old.here (i + 1) frame.upto) = record { reached = stands.here.reached; names = stands.here.names; end_is = stands.here.end_is } in
    let text = text_entered d old b i stands below in
    let may : MayStand d to = record { above = lowest_added d [] old.path i old.above (going_on old.here (i + 1) frame.upto) stands.above up; here = below.is; stage = tt; text_is = text } in
    let own = own_left d (record { path = path; cell = below.inst.of }) Whole in
    let inner = below_from d path below.inst.of 0 in
    let others = below_from d old.path old.here.cell (i + 1) in
    let above = left_above d [] old.path old.above in
    let was : left d old ≡ own ++ (inner ++ (others ++ above)) =
    ap (λ v. v ++ (below_from d old.path old.here.cell i ++ above)) done
    ∙ ap (λ v. v ++ above) (below_opened d valid old.path old.here.cell i below.inst below.there)
    ∙ four own inner others above in
    let is : left d to ≡ own ++ (inner ++ (others ++ above)) =
    ap (λ v. own_left d (record { path = path; cell = frame.cell }) Whole ++ (below_from d path frame.cell frame.next ++ v)) (above_pushed d [] old.path i old.above (going_on old.here (i + 1) frame.upto) stands.above)
    ∙ ap (λ (c : CellId). own_left d (record { path = path; cell = c }) Whole ++ (below_from d path c frame.next ++ (others ++ above))) below.cell_is
    ∙ ap (λ n. own ++ (below_from d path below.inst.of n ++ (others ++ above))) below.fresh in
    (subst (MayStand d) (sym same) may, ap (left d) same ∙ is ∙ sym was)

-- an occurrence is left
last_split : (i : ℕ) (xs : List ℕ) → (p : List ℕ) × (s : ℕ) × (i ∷ xs ≡ p ++ s ∷ [])
last_split i [] = ([], i, refl)
last_split i (x ∷ xs) = let more = last_split x xs in (i ∷ more.0, more.1, ap (λ v. i ∷ v) more.2)

not_none : {A : Type 0} (xs : List A) (x : A) → xs ++ x ∷ [] ≡ [] → ⊥
not_none [] x e = absurd (omega (arith, ap length e))
not_none (y ∷ xs) x e = absurd (omega (arith, ap length e))

path_split : (d : Design) (path : List ℕ) (above others : List Frame) (f : Frame) → above ≡ others ++ f ∷ [] → AreAbove d [] path above
    → (p : List ℕ) × (s : ℕ) × (path ≡ p ++ s ∷ [])
path_split d [] above others f is h = absurd (not_none others f (sym is ∙ none_above d [] above h))
path_split d (i ∷ path) above others f is h = last_split i path

pub gone_back : (d : Design) (old new : Stand) → MayStand d old → own_left d (here_of old) old.stage ≡ []
    → slice_get (insts_at d old.here.cell) old.here.next ≡ None → HasLeft old new true
    → MayStand d new × (left d new ≡ left d old) × (own_left d (here_of new) new.stage ≡ [])
gone_back d old new stands done none moved =
    let at = path_split d old.path old.above new.above new.here moved.0 stands.above in
    let p : List ℕ = at.0 in
    let low = lowest_of d [] p at.1 old.above (subst (λ v. AreAbove d [] v old.above) at.2 stands.above) in
    let parts = same_from_push low.others new.above low.lowest new.here (sym low.is ∙ moved.0) in
    let above : AreAbove d [] p new.above = subst (AreAbove d [] p) parts.0 low.rest in
    let here : IsFrame d p new.here = subst (IsFrame d p) parts.1 low.frame in
    let count : length p ≡ length (p ++ at.1 ∷ []) - 1 = omega (arith, length_push p at.1) in
    let path : new.path ≡ p =
    moved.2 ∙ ap (λ v. take (length v - 1) v) at.2 ∙ take_at p (at.1 ∷ []) (length (p ++ at.1 ∷ []) - 1) count in
    let to : Stand = record { above = new.above; here = new.here; stage = Done; path = p; text = new.text } in
    let same : new ≡ to = λ t. record { above = new.above; here = new.here; stage = moved.1 t; path = path t; text = new.text } in
    let text : new.text ≡ steps_text d (top_of d).cell p =
    moved.3
    ∙ ap (λ n. take n old.text) here.end_is
    ∙ ap (take (length (steps_text d (top_of d).cell p))) (stands.text_is ∙ ap (steps_text d (top_of d).cell) at.2)
    ∙ last_cut d (top_of d).cell p at.1 in
    let may : MayStand d to = record { above = above; here = here; stage = tt; text_is = text } in
    let was : left d old ≡ left d to =
    ap (λ v. v ++ (below_from d old.path old.here.cell old.here.next ++ left_above d [] old.path old.above)) done
    ∙ ap (λ v. v ++ left_above d [] old.path old.above) (below_ended d old.path old.here.cell old.here.next none)
    ∙ ap (λ q. left_above d [] q old.above) at.2
    ∙ ap (left_above d [] (p ++ at.1 ∷ [])) moved.0
    ∙ above_pushed d [] p at.1 new.above new.here above in (
      subst (MayStand d) (sym same) may,
      ap (left d) same ∙ sym was,
      ap (λ (s : Stand). own_left d (here_of s) s.stage) same,
    )

-- nothing is left at the top
pub at_end : (d : Design) (old : Stand) → MayStand d old → own_left d (here_of old) old.stage ≡ [] → slice_get (insts_at d old.here.cell) old.here.next ≡ None
    → old.above ≡ [] → left d old ≡ []
at_end d old stands done none top =
    ap (λ v. v ++ (below_from d old.path old.here.cell old.here.next ++ left_above d [] old.path old.above)) done
    ∙ ap (λ v. v ++ left_above d [] old.path old.above) (below_ended d old.path old.here.cell old.here.next none)
    ∙ ap (left_above d [] old.path) top
    ∙ none_left_above d [] old.path

-- the same, where the next occurrence is looked up
module _ (d : Design) (valid : IsValid d) (old : Stand) (stands : MayStand d old) (done : own_left d (here_of old) old.stage ≡ []) (path : List ℕ) (path_is : path ≡ old.path)
    (o : Option Below) (at : IsBelowAt d path old.here.cell old.here.next o) where
  looked_up : (v : Option Below) → o ≡ v → IsBelowAt d old.path old.here.cell old.here.next v
  looked_up v is = subst (λ p. IsBelowAt d p old.here.cell old.here.next v) path_is (subst (λ (w : Option Below). IsBelowAt d path old.here.cell old.here.next w) is at)

  pub next_fits : (b : Below) → o ≡ Some b → old.here.next < 1048576
  next_fits b is = let below = looked_up (Some b) is in next_is_small d valid old.here.cell old.here.next below.inst below.there

  pub entered_at : (b : Below) → o ≡ Some b → (new : Stand) → HasEntered old old.here.next (old.here.next + 1) b.name.now b.frame new → MayStand d new × (left d new ≡ left d old)
  entered_at b is new moved = entered d valid old b new stands done (looked_up (Some b) is) moved

  pub ended_at : o ≡ None → (new : Stand) → HasLeft old new false → left d new ≡ []
  ended_at is new moved = ap (left d) moved.1 ∙ at_end d old stands done (looked_up None is) moved.0

  pub back_at : o ≡ None → (new : Stand) → HasLeft old new true → MayStand d new × (left d new ≡ left d old) × (own_left d (here_of new) new.stage ≡ [])
  back_at is new moved = gone_back d old new stands done (looked_up None is) moved

-- before the first item of an occurrence all is left that is at and below it
pub start_left : (d : Design) → IsValid d → (path : List ℕ) (s : Stand) → IsAtStart d path s → left d s ≡ items_under d (top_of d) path s.here.cell
start_left d valid path s is =
    let below = below_from d s.path s.here.cell s.here.next ++ left_above d [] s.path s.above in
    ap (λ v. own_left d (here_of s) v ++ below) is.stage_is
    ∙ ap (λ v. own_left d (here_of s) Whole ++ (below_from d s.path s.here.cell s.here.next ++ v)) is.above_is
    ∙ ap (λ n. own_left d (here_of s) Whole ++ (below_from d s.path s.here.cell n ++ [])) is.fresh
    ∙ ap (λ v. own_left d (here_of s) Whole ++ v) (append-nil (below_from d s.path s.here.cell 0))
    ∙ sym (items_go_down d (top_of d) s.path s.here.cell valid.no_cycle)
    ∙ ap (λ p. items_under d (top_of d) p s.here.cell) is.path_is

pub all_left : (d : Design) → IsValid d → d.top ≡ Some (top_of d) → (s : Stand) → IsAtStart d [] s → left d s ≡ flattening d
all_left d valid top s is =
    let reached : Reaches d (top_of d).cell [] s.here.cell = subst (λ p. Reaches d (top_of d).cell p s.here.cell) is.path_is is.stands.here.reached in
    let same : (top_of d).cell ≡ s.here.cell = same_Some (top_of d).cell s.here.cell reached in
    start_left d valid [] s is
    ∙ ap (items_under d (top_of d) []) (sym same)
    ∙ sym (flattening_is_under_top d (top_of d) top)
