-- A path that is gone along step by step.
use Rattle.std.proofs.Common.{◌≡◌, ◌⊎◌, ◌↔◌, ◌||◌, ◌&&◌, inl, inr, ⊎_elim, ℕ, Bool, true, false, List, [], ◌∷◌, ◌++◌, Option, Some, None, refl, sym, ap, subst, ◌∙◌}
use Rattle.std.specs.Prelude.{IsSomeAnd}
use Rattle.std.specs.Option.{option_and_then, option_map, option_map_or}
use Rattle.netlist_schema.specs.Design.{Design, cell_at, insts_in}
use Rattle.netlist_schema.specs.Hierarchy.{insts_at}
use Rattle.netlist_schema.specs.Types.{CellId, Inst, Object}
use Rattle.edit_rules_spec.specs.Find.{inst_named, is_name}
use Rattle.edit_rules_spec.specs.Reading.{IsReached}
use Rattle.edit_rules_spec.specs.Paths.{goes_through, resolves, same_cell}
use Rattle.edit_rules_spec.specs.Seen.{contents_at}
use Rattle.edit_rules_spec.specs.Objects.{contents_object}
use Rattle.uniquify_spec.proofs.Agreed.{insts_inside}

-- the cell of the instance with a name in a cell
abbrev pub next : Design → CellId → List ℕ → Option CellId
next d at step = option_map (λ inst. inst.of) (inst_named step (insts_at d at))

-- the cell at the end of a path, where it leads somewhere
abbrev pub end_of : Design → CellId → List (List ℕ) → Option CellId
end_of d at [] = Some at
end_of d at (step ∷ steps) = option_and_then (λ of. end_of d of steps) (next d at step)

pub next_is : (d : Design) (at : CellId) (step : List ℕ) → option_map (λ inst. inst.of) (inst_named step (insts_in (contents_at d at))) ≡ next d at step
next_is d at step = ap (λ (insts : List Inst). option_map (λ inst. inst.of) (inst_named step insts)) (insts_inside (cell_at d at))

-- ---- a path that leads no further

same_some : (a b : CellId) → Some a ≡ Some b → a ≡ b
same_some a b is = cc

pub resolves_stop : (d : Design) (top at : CellId) (before rest : List (List ℕ)) (step : List ℕ) → end_of d top before ≡ Some at → next d at step ≡ None → resolves d top (before ++ step ∷ rest) ≡ false
resolves_stop d top at [] rest step end none =
    here (inst_named step (insts_at d top)) (subst (λ (c : CellId). next d c step ≡ None) (sym (same_some top at end)) none)
  where
    here : (o : Option Inst) → option_map (λ (inst : Inst). inst.of) o ≡ None → option_map_or (λ (inst : Inst). resolves d inst.of rest) o false ≡ false
    here None is = refl
    here (Some inst) is = cc
resolves_stop d top at (b ∷ bs) rest step end none = there (inst_named b (insts_at d top)) end (λ c is. resolves_stop d c at bs rest step is none)
  where
    there : (o : Option Inst) → option_and_then (λ of. end_of d of bs) (option_map (λ (inst : Inst). inst.of) o) ≡ Some at → ((c : CellId) → end_of d c bs ≡ Some at → resolves d c (bs ++ step ∷ rest) ≡ false) → option_map_or (λ (inst : Inst). resolves d inst.of (bs ++ step ∷ rest)) o false ≡ false
    there None is rec = cc
    there (Some inst) is rec = rec inst.of is

pub reached_stop : (d : Design) (top at : CellId) (before rest : List (List ℕ)) (step : List ℕ) (o : Object) → end_of d top before ≡ Some at → next d at step ≡ None → IsReached d top before o ↔ IsReached d top (before ++ step ∷ rest) o
reached_stop d top at [] rest step o end none = (λ is. inl is, λ is. ⊎_elim (λ (x : o ≡ contents_object top). x) (λ (y : IsSomeAnd (inst_named step (insts_at d top)) (λ inst. IsReached d inst.of rest o)). absurd (here (inst_named step (insts_at d top)) (subst (λ (c : CellId). next d c step ≡ None) (sym (same_some top at end)) none) y)) is)
  where
    here : (p : Option Inst) → option_map (λ (inst : Inst). inst.of) p ≡ None → IsSomeAnd p (λ inst. IsReached d inst.of rest o) → ⊥
    here None is never = never
    here (Some inst) is some = cc
reached_stop d top at (b ∷ bs) rest step o end none = there (inst_named b (insts_at d top)) end (λ c is. reached_stop d c at bs rest step o is none)
  where
    there : (p : Option Inst) → option_and_then (λ of. end_of d of bs) (option_map (λ (inst : Inst). inst.of) p) ≡ Some at → ((c : CellId) → end_of d c bs ≡ Some at → IsReached d c bs o ↔ IsReached d c (bs ++ step ∷ rest) o) → ((o ≡ contents_object top) ⊎ IsSomeAnd p (λ inst. IsReached d inst.of bs o)) ↔ ((o ≡ contents_object top) ⊎ IsSomeAnd p (λ inst. IsReached d inst.of (bs ++ step ∷ rest) o))
    there None is more = cc
    there (Some inst) is more =
        let rec = more inst.of is in (
          λ x. ⊎_elim (λ (t : o ≡ contents_object top). inl t) (λ (r : IsReached d inst.of bs o). inr (rec.0 r)) x,
          λ x. ⊎_elim (λ (t : o ≡ contents_object top). inl t) (λ (r : IsReached d inst.of (bs ++ step ∷ rest) o). inr (rec.1 r)) x,
        )

-- ---- one step more

pub end_more : (d : Design) (top at of : CellId) (before : List (List ℕ)) (step : List ℕ) → end_of d top before ≡ Some at → next d at step ≡ Some of → end_of d top (before ++ step ∷ []) ≡ Some of
end_more d top at of [] step end some =
    ap (option_and_then (λ (c : CellId). end_of d c [])) (subst (λ (c : CellId). next d c step ≡ Some of) (sym (same_some top at end)) some)
end_more d top at of (b ∷ bs) step end some = there (next d top b) end (λ c is. end_more d c at of bs step is some)
  where
    there : (p : Option CellId) → option_and_then (λ c. end_of d c bs) p ≡ Some at → ((c : CellId) → end_of d c bs ≡ Some at → end_of d c (bs ++ step ∷ []) ≡ Some of) → option_and_then (λ c. end_of d c (bs ++ step ∷ [])) p ≡ Some of
    there None is rec = cc
    there (Some c) is rec = rec c is

pub reached_more : (d : Design) (top at of : CellId) (before : List (List ℕ)) (step : List ℕ) (o : Object) → end_of d top before ≡ Some at → next d at step ≡ Some of → (IsReached d top before o ⊎ (o ≡ contents_object of)) ↔ IsReached d top (before ++ step ∷ []) o
reached_more d top at of [] step o end some = here (inst_named step (insts_at d top)) (subst (λ (c : CellId). next d c step ≡ Some of) (sym (same_some top at end)) some)
  where
    here : (p : Option Inst) → option_map (λ (inst : Inst). inst.of) p ≡ Some of → ((o ≡ contents_object top) ⊎ (o ≡ contents_object of)) ↔ ((o ≡ contents_object top) ⊎ IsSomeAnd p (λ inst. IsReached d inst.of [] o))
    here None is = cc
    here (Some inst) is =
        let same : inst.of ≡ of = same_some inst.of of is in (
          λ x. ⊎_elim (λ (t : o ≡ contents_object top). inl t) (λ (r : o ≡ contents_object of). inr (r ∙ ap contents_object (sym same))) x,
          λ x. ⊎_elim (λ (t : o ≡ contents_object top). inl t) (λ (r : o ≡ contents_object inst.of). inr (r ∙ ap contents_object same)) x,
        )
reached_more d top at of (b ∷ bs) step o end some = there (inst_named b (insts_at d top)) end (λ c is. reached_more d c at of bs step o is some)
  where
    there : (p : Option Inst) → option_and_then (λ c. end_of d c bs) (option_map (λ (inst : Inst). inst.of) p) ≡ Some at → ((c : CellId) → end_of d c bs ≡ Some at → (IsReached d c bs o ⊎ (o ≡ contents_object of)) ↔ IsReached d c (bs ++ step ∷ []) o) → (((o ≡ contents_object top) ⊎ IsSomeAnd p (λ inst. IsReached d inst.of bs o)) ⊎ (o ≡ contents_object of)) ↔ ((o ≡ contents_object top) ⊎ IsSomeAnd p (λ inst. IsReached d inst.of (bs ++ step ∷ []) o))
    there None is more = cc
    there (Some inst) is more =
        let rec = more inst.of is in (
          λ x. ⊎_elim
              (λ (y : (o ≡ contents_object top) ⊎ IsReached d inst.of bs o). ⊎_elim (λ (t : o ≡ contents_object top). inl t) (λ (r : IsReached d inst.of bs o). inr (rec.0 (inl r))) y)
              (λ (e : o ≡ contents_object of). inr (rec.0 (inr e))) x,
          λ x. ⊎_elim (λ (t : o ≡ contents_object top). inl (inl t)) (λ (r : IsReached d inst.of (bs ++ step ∷ []) o). ⊎_elim (λ (m : IsReached d inst.of bs o). inl (inr m)) (λ (e : o ≡ contents_object of). inr e) (rec.1 r)) x,
        )

pub resolves_end : (d : Design) (top at : CellId) (path : List (List ℕ)) → end_of d top path ≡ Some at → resolves d top path ≡ true
resolves_end d top at [] end = refl
resolves_end d top at (b ∷ bs) end = there (inst_named b (insts_at d top)) end (λ c is. resolves_end d c at bs is)
  where
    there : (p : Option Inst) → option_and_then (λ c. end_of d c bs) (option_map (λ (inst : Inst). inst.of) p) ≡ Some at → ((c : CellId) → end_of d c bs ≡ Some at → resolves d c bs ≡ true) → option_map_or (λ (inst : Inst). resolves d inst.of bs) p false ≡ true
    there None is rec = cc
    there (Some inst) is rec = rec inst.of is

pub end_reached : (d : Design) (top at : CellId) (path : List (List ℕ)) → end_of d top path ≡ Some at → IsReached d top path (contents_object at)
end_reached d top at [] end = ap contents_object (sym (same_some top at end))
end_reached d top at (b ∷ bs) end = there (inst_named b (insts_at d top)) end (λ c is. end_reached d c at bs is)
  where
    there : (p : Option Inst) → option_and_then (λ c. end_of d c bs) (option_map (λ (inst : Inst). inst.of) p) ≡ Some at → ((c : CellId) → end_of d c bs ≡ Some at → IsReached d c bs (contents_object at)) → (contents_object at ≡ contents_object top) ⊎ IsSomeAnd p (λ inst. IsReached d inst.of bs (contents_object at))
    there None is rec = cc
    there (Some inst) is rec = inr (rec inst.of is)

-- ---- whether it goes through an instance

or_false : (x : Bool) → (x || false) ≡ x
or_false true = refl
or_false false = refl

or_or : (x y z : Bool) → (x || (y || z)) ≡ ((x || y) || z)
or_or true y z = refl
or_or false y z = refl

-- the path goes through the instance of the cell at this step
abbrev pub here_through : CellId → List ℕ → CellId → List ℕ → Bool
here_through cell inst at step = same_cell at cell && is_name step inst

pub through_more : (d : Design) (cell : CellId) (inst : List ℕ) (top at : CellId) (before : List (List ℕ)) (step : List ℕ) → end_of d top before ≡ Some at → goes_through d cell inst top (before ++ step ∷ []) ≡ (goes_through d cell inst top before || here_through cell inst at step)
through_more d cell inst top at [] step end =
    here (inst_named step (insts_at d top)) ∙ ap (λ (c : CellId). here_through cell inst c step) (same_some top at end)
  where
    here : (p : Option Inst) → (here_through cell inst top step || option_map_or (λ (n : Inst). goes_through d cell inst n.of []) p false) ≡ here_through cell inst top step
    here None = or_false (here_through cell inst top step)
    here (Some n) = or_false (here_through cell inst top step)
through_more d cell inst top at (b ∷ bs) step end = there (inst_named b (insts_at d top)) end (λ c is. through_more d cell inst c at bs step is)
  where
    there : (p : Option Inst) → option_and_then (λ c. end_of d c bs) (option_map (λ (i : Inst). i.of) p) ≡ Some at → ((c : CellId) → end_of d c bs ≡ Some at → goes_through d cell inst c (bs ++ step ∷ []) ≡ (goes_through d cell inst c bs || here_through cell inst at step)) → (here_through cell inst top b || option_map_or (λ (n : Inst). goes_through d cell inst n.of (bs ++ step ∷ [])) p false) ≡ ((here_through cell inst top b || option_map_or (λ (n : Inst). goes_through d cell inst n.of bs) p false) || here_through cell inst at step)
    there None is rec = cc
    there (Some n) is rec = ap (λ (x : Bool). here_through cell inst top b || x) (rec n.of is) ∙ or_or (here_through cell inst top b) (goes_through d cell inst n.of bs) (here_through cell inst at step)

pub through_stop : (d : Design) (cell : CellId) (inst : List ℕ) (top at : CellId) (before rest : List (List ℕ)) (step : List ℕ) → end_of d top before ≡ Some at → next d at step ≡ None → goes_through d cell inst top (before ++ step ∷ rest) ≡ (goes_through d cell inst top before || here_through cell inst at step)
through_stop d cell inst top at [] rest step end none =
    here (inst_named step (insts_at d top)) (subst (λ (c : CellId). next d c step ≡ None) (sym (same_some top at end)) none) ∙ ap (λ (c : CellId). here_through cell inst c step) (same_some top at end)
  where
    here : (p : Option Inst) → option_map (λ (i : Inst). i.of) p ≡ None → (here_through cell inst top step || option_map_or (λ (n : Inst). goes_through d cell inst n.of rest) p false) ≡ here_through cell inst top step
    here None is = or_false (here_through cell inst top step)
    here (Some n) is = cc
through_stop d cell inst top at (b ∷ bs) rest step end none = there (inst_named b (insts_at d top)) end (λ c is. through_stop d cell inst c at bs rest step is none)
  where
    there : (p : Option Inst) → option_and_then (λ c. end_of d c bs) (option_map (λ (i : Inst). i.of) p) ≡ Some at → ((c : CellId) → end_of d c bs ≡ Some at → goes_through d cell inst c (bs ++ step ∷ rest) ≡ (goes_through d cell inst c bs || here_through cell inst at step)) → (here_through cell inst top b || option_map_or (λ (n : Inst). goes_through d cell inst n.of (bs ++ step ∷ rest)) p false) ≡ ((here_through cell inst top b || option_map_or (λ (n : Inst). goes_through d cell inst n.of bs) p false) || here_through cell inst at step)
    there None is rec = cc
    there (Some n) is rec = ap (λ (x : Bool). here_through cell inst top b || x) (rec n.of is) ∙ or_or (here_through cell inst top b) (goes_through d cell inst n.of bs) (here_through cell inst at step)
