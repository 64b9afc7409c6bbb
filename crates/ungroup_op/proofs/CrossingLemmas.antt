-- The first step of a path that is an instance, found step by step, and the path that is moved by it.
use Rattle.std.proofs.Common.{◌≡◌, ◌<◌, ◌+◌, length-take, ℕ, suc, arith, Bool, true, false, ◌||◌, List, [], ◌∷◌, ◌++◌, length, drop, take, map, Option, Some, None, refl, sym, ap, subst, ◌∙◌, cond}
use Rattle.std.specs.Prelude.{is_some, option_and_then, option_map, filter_map, zip}
use Rattle.std.specs.List.{cons_option, list_any}
use Rattle.std.specs.Option.{option_map_or}
use Rattle.netlist_schema.specs.Design.{Design}
use Rattle.netlist_schema.specs.Hierarchy.{insts_at}
use Rattle.netlist_schema.specs.Types.{CellId, Inst, Note, TopHead}
use Rattle.edit_rules_spec.specs.Find.{inst_named}
use Rattle.edit_rules_spec.specs.Paths.{goes_through}
use Rattle.eco_reads.proofs.Paths.{end_of, next}
use Rattle.ungroup_spec.specs.Dissolved.{children}
use Rattle.ungroup_spec.specs.Groups.{Site}
use Rattle.ungroup_spec.specs.MovedNotes.{changed_notes, moved_note, moved_path, past_inst}
use Rattle.ungroup_plans.specs.Moved.{note_moved, notes_moved, past, path_moved}
use Rattle.ungroup_op.specs.Crossing.{crossing, crossings, first_place, is_inst}
use Rattle.ungroup_op.specs.Read.{places_of}

same_some : (a b : CellId) → Some a ≡ Some b → a ≡ b
same_some a b is = cc

-- one step further from the front
shift : (c : Bool) (o : Option ℕ) (here : Bool) (k : ℕ) → cond c (Some 0) (option_map (λ n. n + 1) (first_place o here k)) ≡ first_place (cond c (Some 0) (option_map (λ n. n + 1) o)) here (suc k)
shift true o here k = refl
shift false (Some b) here k = refl
shift false None true k = let e : k + 1 ≡ suc k = omega arith in ap (λ n. Some n) e
shift false None false k = refl

nothing_more : (p : Option Inst) → option_map (λ n. n + 1) (option_and_then (λ (inst : Inst). let none : Option ℕ = None in none) p) ≡ None
nothing_more None = refl
nothing_more (Some inst) = refl

pub crossing_more : (d : Design) (cell : CellId) (inst : List ℕ) (top at : CellId) (before : List (List ℕ)) (step : List ℕ) → end_of d top before ≡ Some at
    → crossing d cell inst top (before ++ step ∷ []) ≡ first_place (crossing d cell inst top before) (is_inst cell inst at step) (length before)
crossing_more d cell inst top at [] step end =
    ap (cond (is_inst cell inst top step) (Some 0)) (nothing_more (inst_named step (insts_at d top)))
    ∙ ap (λ c. cond (is_inst cell inst c step) (Some 0) None) (same_some top at end)
crossing_more d cell inst top at (b ∷ bs) step end = there (inst_named b (insts_at d top)) end (λ c is. crossing_more d cell inst c at bs step is)
  where
    there : (p : Option Inst) → option_and_then (λ c. end_of d c bs) (option_map (λ (i : Inst). i.of) p) ≡ Some at
        → ((c : CellId) → end_of d c bs ≡ Some at → crossing d cell inst c (bs ++ step ∷ []) ≡ first_place (crossing d cell inst c bs) (is_inst cell inst at step) (length bs))
        → cond (is_inst cell inst top b) (Some 0) (option_map (λ n. n + 1) (option_and_then (λ (i : Inst). crossing d cell inst i.of (bs ++ step ∷ [])) p))
        ≡ first_place (cond (is_inst cell inst top b) (Some 0) (option_map (λ n. n + 1) (option_and_then (λ (i : Inst). crossing d cell inst i.of bs) p))) (is_inst cell inst at step) (suc (length bs))
    there None is rec = absurd (cc is)
    there (Some i) is rec =
        ap (λ o. cond (is_inst cell inst top b) (Some 0) (option_map (λ n. n + 1) o)) (rec i.of is)
        ∙ shift (is_inst cell inst top b) (crossing d cell inst i.of bs) (is_inst cell inst at step) (length bs)

pub crossing_stop : (d : Design) (cell : CellId) (inst : List ℕ) (top at : CellId) (before rest : List (List ℕ)) (step : List ℕ) → end_of d top before ≡ Some at → next d at step ≡ None
    → crossing d cell inst top (before ++ step ∷ rest) ≡ first_place (crossing d cell inst top before) (is_inst cell inst at step) (length before)
crossing_stop d cell inst top at [] rest step end none =
    here (inst_named step (insts_at d top)) (subst (λ c. next d c step ≡ None) (sym (same_some top at end)) none)
    ∙ ap (λ c. cond (is_inst cell inst c step) (Some 0) None) (same_some top at end)
  where
    here : (p : Option Inst) → option_map (λ (i : Inst). i.of) p ≡ None
        → cond (is_inst cell inst top step) (Some 0) (option_map (λ n. n + 1) (option_and_then (λ (i : Inst). crossing d cell inst i.of rest) p)) ≡ cond (is_inst cell inst top step) (Some 0) None
    here None is = refl
    here (Some i) is = absurd (cc is)
crossing_stop d cell inst top at (b ∷ bs) rest step end none = there (inst_named b (insts_at d top)) end (λ c is. crossing_stop d cell inst c at bs rest step is none)
  where
    there : (p : Option Inst) → option_and_then (λ c. end_of d c bs) (option_map (λ (i : Inst). i.of) p) ≡ Some at
        → ((c : CellId) → end_of d c bs ≡ Some at → crossing d cell inst c (bs ++ step ∷ rest) ≡ first_place (crossing d cell inst c bs) (is_inst cell inst at step) (length bs))
        → cond (is_inst cell inst top b) (Some 0) (option_map (λ n. n + 1) (option_and_then (λ (i : Inst). crossing d cell inst i.of (bs ++ step ∷ rest)) p))
        ≡ first_place (cond (is_inst cell inst top b) (Some 0) (option_map (λ n. n + 1) (option_and_then (λ (i : Inst). crossing d cell inst i.of bs) p))) (is_inst cell inst at step) (suc (length bs))
    there None is rec = absurd (cc is)
    there (Some i) is rec =
        ap (λ o. cond (is_inst cell inst top b) (Some 0) (option_map (λ n. n + 1) o)) (rec i.of is)
        ∙ shift (is_inst cell inst top b) (crossing d cell inst i.of bs) (is_inst cell inst at step) (length bs)

-- ---- what moves

-- a path goes through the instance exactly where a step is it
through_crossing : (d : Design) (cell : CellId) (inst : List ℕ) (at : CellId) (path : List (List ℕ)) → goes_through d cell inst at path ≡ is_some (crossing d cell inst at path)
through_crossing d cell inst at [] = refl
through_crossing d cell inst at (step ∷ steps) = go (is_inst cell inst at step) (inst_named step (insts_at d at)) (λ c. through_crossing d cell inst c steps)
  where
    some_map : (o : Option ℕ) → is_some o ≡ is_some (option_map (λ n. n + 1) o)
    some_map None = refl
    some_map (Some k) = refl

    go : (b : Bool) (p : Option Inst) → ((c : CellId) → goes_through d cell inst c steps ≡ is_some (crossing d cell inst c steps))
        → (b || option_map_or (λ (i : Inst). goes_through d cell inst i.of steps) p false)
        ≡ is_some (cond b (Some 0) (option_map (λ n. n + 1) (option_and_then (λ (i : Inst). crossing d cell inst i.of steps) p)))
    go true p rec = refl
    go false None rec = refl
    go false (Some i) rec = rec i.of ∙ some_map (crossing d cell inst i.of steps)

module _ (d : Design) (cell : CellId) (s : Site) where
  abbrev inst : List ℕ
  inst = s.inst.name.id

  abbrev moved : Option ℕ → List (List ℕ) → Option (List (List ℕ))
  moved place path = path_moved s.within.insts (children s) place path

  here_moved : (step : List ℕ) (steps : List (List ℕ)) → past_inst s steps ≡ moved (Some 0) (step ∷ steps)
  here_moved step [] = refl
  here_moved step (c ∷ cs) = refl

  later_moved : (step : List ℕ) (steps : List (List ℕ)) (o : Option ℕ) → option_map (λ rest. step ∷ rest) (moved o steps) ≡ moved (option_map (λ n. n + 1) o) (step ∷ steps)
  later_moved step steps None = refl
  later_moved step steps (Some k) =
      let e : k + 1 ≡ suc k = omega arith in
      let f : k + 1 + 1 ≡ suc (k + 1) = omega arith in
      go (past s.within.insts (children s) (drop (k + 1) steps))
      ∙ ap (λ n. option_map (λ rest. take n (step ∷ steps) ++ rest) (past s.within.insts (children s) (drop (k + 1) steps))) (sym e)
      ∙ ap (λ n. option_map (λ rest. take (k + 1) (step ∷ steps) ++ rest) (past s.within.insts (children s) (drop n (step ∷ steps)))) (sym f)
    where
      go : (o : Option (List (List ℕ))) → option_map (λ rest. step ∷ rest) (option_map (λ rest. take k steps ++ rest) o) ≡ option_map (λ rest. take (suc k) (step ∷ steps) ++ rest) o
      go None = refl
      go (Some rest) = refl

  -- the path that the definition gives is moved by the place of the step
  path_is : (at : CellId) (path : List (List ℕ)) → moved_path d cell s at path ≡ moved (crossing d cell inst at path) path
  path_is at [] = refl
  path_is at (step ∷ steps) = go (is_inst cell inst at step) (inst_named step (insts_at d at)) (λ c. path_is c steps)
    where
      go : (b : Bool) (p : Option Inst) → ((c : CellId) → moved_path d cell s c steps ≡ moved (crossing d cell inst c steps) steps)
          → cond b (past_inst s steps) (option_map (λ rest. step ∷ rest) (option_map_or (λ (i : Inst). moved_path d cell s i.of steps) p (Some steps)))
          ≡ moved (cond b (Some 0) (option_map (λ n. n + 1) (option_and_then (λ (i : Inst). crossing d cell inst i.of steps) p))) (step ∷ steps)
      go true p rec = here_moved step steps
      go false None rec = refl
      go false (Some i) rec = ap (option_map (λ rest. step ∷ rest)) (rec i.of) ∙ later_moved step steps (crossing d cell inst i.of steps)

  note_is : (top : CellId) (note : Note) → moved_note d cell s top note ≡ note_moved s.within.insts (children s) note (crossing d cell inst top note.path)
  note_is top note = ap (option_map (λ path. record note { path = path })) (path_is top note.path)

  any_is : (top : CellId) (notes : List Note) → list_any (λ note. goes_through d cell inst top note.path) notes ≡ list_any is_some (crossings d cell inst top notes)
  any_is top [] = refl
  any_is top (note ∷ notes) = λ t. through_crossing d cell inst top note.path t || any_is top notes t

  all_are : (top : CellId) (notes : List Note)
      → filter_map (moved_note d cell s top) notes ≡ filter_map (λ p. note_moved s.within.insts (children s) p.0 p.1) (zip notes (crossings d cell inst top notes))
  all_are top [] = refl
  all_are top (note ∷ notes) = λ t. cons_option (note_is top note t) (all_are top notes t)

  none_any : (notes : List Note) → list_any is_some (map (λ _. let none : Option ℕ = None in none) notes) ≡ false
  none_any [] = refl
  none_any (note ∷ notes) = none_any notes

  -- the notes afterwards
  pub notes_are : changed_notes d cell s ≡ notes_moved s.within.insts (children s) d.notes (places_of d cell inst d.top d.notes)
  notes_are = go d.top
    where
      go : (top : Option TopHead)
          → option_and_then (λ (t : TopHead). cond (list_any (λ note. goes_through d cell inst t.cell note.path) d.notes) (Some (filter_map (moved_note d cell s t.cell) d.notes)) None) top
          ≡ notes_moved s.within.insts (children s) d.notes (places_of d cell inst top d.notes)
      go None =
          sym (ap (λ b. cond b (Some (filter_map (λ p. note_moved s.within.insts (children s) p.0 p.1) (zip d.notes (map (λ _. let none : Option ℕ = None in none) d.notes)))) None) (none_any d.notes))
      go (Some t) = λ i. cond (any_is t.cell d.notes i) (Some (all_are t.cell d.notes i)) None

-- the place that is found with this step, in the words of the steps before it
pub place_here : (found before : Option ℕ) (known : Option ℕ) (test here : Bool) (k : ℕ) (items : List (List ℕ)) → k < length items → found ≡ first_place before test k → before ≡ known → test ≡ here
    → found ≡ first_place known here (length (take k items))
place_here found before known test here k items within is known_is here_is =
    let long : k ≡ length (take k items) = omega (arith, length-take k items, within) in
    is ∙ (λ i. first_place (known_is i) (here_is i) (long i))
