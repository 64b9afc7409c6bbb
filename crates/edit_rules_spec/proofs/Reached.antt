-- What is below a cell, and where paths lead, in two designs that agree.
use Rattle.std.proofs.Common.{◌≡◌, ◌⊎◌, inl, inr, ⊎_elim, ◌↔◌, ℕ, zero, suc, arith, Bool, false, cond, ◌||◌, ◌&&◌, not, List, [], ◌∷◌, Option, Some, None, refl, sym, ap, subst, ◌∙◌}
use Rattle.std.specs.Prelude.{IsSomeAnd, filter, length, ◌==◌}
use Rattle.std.specs.List.{Contains, list_any}
use Rattle.std.specs.Option.{option_map, option_map_or, option_and_then}
use Rattle.netlist_schema.specs.Design.{Design, cell_at, insts_in, insts_of}
use Rattle.netlist_schema.specs.Hierarchy.{insts_at, HasInst, IsBelow, placed, deeper}
use Rattle.netlist_schema.specs.Types.{CellBody, CellId, Contents, Inst, Note, Object, TopHead}
use Rattle.netlist_schema.specs.declared.ids.Object.TheVariants.{Notes}
use Rattle.edit_rules_spec.specs.Find.{is_name, inst_named}
use Rattle.edit_rules_spec.specs.Notes.{goes_on, other_notes, seen_if, notes_seen}
use Rattle.edit_rules_spec.specs.Objects.{Agrees, AgreesOn, Grown, contents_object}
use Rattle.edit_rules_spec.specs.Paths.{same_cell, below_within, most_cells, resolves, goes_through, is_cyclic, is_path}
use Rattle.edit_rules_spec.specs.Reading.{IsForPlacing, IsReached, IsReachedBy, IsForNotes, IsForPath, IsNotesBelow}
use Rattle.edit_rules_spec.specs.Seen.{holder, contents_at}
use Rattle.edit_rules_spec.proofs.Same.{both_ways, contents_same}

pub either_same : {A B C D : Type 0} → A ↔ B → C ↔ D → (A ⊎ C) ↔ (B ⊎ D)
either_same {A} {B} {C} {D} p q = (⊎_elim (λ (a : A). inl (p.0 a)) (λ (c : C). inr (q.0 c)), ⊎_elim (λ (b : B). inl (p.1 b)) (λ (x : D). inr (q.1 x)))

insts_inside : (o : Option CellBody) → option_map_or insts_of o [] ≡ option_map_or insts_in (option_map (λ body. body.contents) o) []
insts_inside None = refl
insts_inside (Some body) = refl

pub insts_same : (d e : Design) (id : CellId) → Agrees d e (contents_object id) → insts_at d id ≡ insts_at e id
insts_same d e id agree = insts_inside (cell_at d id) ∙ ap (λ (o : Option (Option Contents)). option_map_or insts_in o []) agree ∙ sym (insts_inside (cell_at e id))

-- the two agree on a cell and all below it
record AgreesBelow (d e : Design) (outer : CellId) : Type 0 where
  at : Agrees d e (contents_object outer)
  below : (inner : CellId) → IsBelow d inner outer → Agrees d e (contents_object inner)

agrees_below : (d e : Design) (outer : CellId) (inst : Inst) → HasInst d outer inst → AgreesBelow d e outer → AgreesBelow d e inst.of
agrees_below d e outer inst has agree = record { at = agree.below inst.of (placed inst has); below = λ inner below. agree.below inner (deeper inst has below) }

has_there : (d e : Design) (id : CellId) (inst : Inst) → Agrees d e (contents_object id) → HasInst d id inst → HasInst e id inst
has_there d e id inst agree has = subst (λ (insts : List Inst). Contains insts inst) (insts_same d e id agree) has

has_back : (d e : Design) (id : CellId) (inst : Inst) → Agrees d e (contents_object id) → HasInst e id inst → HasInst d id inst
has_back d e id inst agree has = subst (λ (insts : List Inst). Contains insts inst) (sym (insts_same d e id agree)) has

below_there : (d e : Design) {inner outer : CellId} → AgreesBelow d e outer → IsBelow d inner outer → IsBelow e inner outer
below_there d e agree (placed {id} inst has) = placed inst (has_there d e id inst agree.at has)
below_there d e agree (deeper {inner} {id} inst has below) = deeper inst (has_there d e id inst agree.at has) (below_there d e (agrees_below d e id inst has agree) below)

below_back : (d e : Design) {inner outer : CellId} → AgreesBelow d e outer → IsBelow e inner outer → IsBelow d inner outer
below_back d e agree (placed {id} inst has) = placed inst (has_back d e id inst agree.at has)
below_back d e agree (deeper {inner} {id} inst has below) =
    let had = has_back d e id inst agree.at has in
    deeper inst had (below_back d e (agrees_below d e id inst had agree) below)

pub Contains-tail : (x y : Inst) (xs : List Inst) → Contains xs y → Contains (x ∷ xs) y
Contains-tail x y xs has = (suc has.0, omega arith, has.2)

pub Contains-head : (x : Inst) (xs : List Inst) → Contains (x ∷ xs) x
Contains-head x xs = (0, omega arith, refl)

any_same : (f g : Inst → Bool) (xs : List Inst) → ((x : Inst) → Contains xs x → f x ≡ g x) → list_any f xs ≡ list_any g xs
any_same f g [] same = refl
any_same f g (x ∷ xs) same =
    let here : f x ≡ g x = same x (Contains-head x xs) in
    let rest : list_any f xs ≡ list_any g xs = any_same f g xs (λ y has. same y (Contains-tail x y xs has)) in
    λ i. here i || rest i

below_within_same : (d e : Design) (n : ℕ) (inner outer : CellId) → AgreesBelow d e outer → below_within d n inner outer ≡ below_within e n inner outer
below_within_same d e zero inner outer agree = refl
below_within_same d e (suc n) inner outer agree =
    any_same (λ inst. same_cell inst.of inner || below_within d n inner inst.of) (λ inst. same_cell inst.of inner || below_within e n inner inst.of) (insts_at d outer)
    (λ inst has. ap (λ (b : Bool). same_cell inst.of inner || b) (below_within_same d e n inner inst.of (agrees_below d e outer inst has agree)))
    ∙ ap (list_any (λ (inst : Inst). same_cell inst.of inner || below_within e n inner inst.of)) (insts_same d e outer agree.at)

agrees_of : (d e : Design) (cell of : CellId) → AgreesOn d e (IsForPlacing d (Some cell) (Some of)) → AgreesBelow d e of
agrees_of d e cell of agree = record { at = agree (contents_object of) (inr (inl refl)); below = λ inner is. agree (contents_object inner) (inr (inr (inner, refl, is))) }

pub cyclic_same : (d e : Design) (cell of : Option CellId) → AgreesOn d e (IsForPlacing d cell of) → is_cyclic d cell of ≡ is_cyclic e cell of
cyclic_same d e None of agree = refl
cyclic_same d e (Some cell) None agree = refl
cyclic_same d e (Some cell) (Some of) agree =
    ap (λ (b : Bool). same_cell of cell || b) (below_within_same d e most_cells cell of (agrees_of d e cell of agree))

pub placing_needs_same : (d e : Design) (cell of : Option CellId) (o : Object) → AgreesOn d e (IsForPlacing d cell of) → IsForPlacing d cell of o ↔ IsForPlacing e cell of o
placing_needs_same d e None of o agree = (λ is. is, λ is. is)
placing_needs_same d e (Some cell) None o agree = (λ is. is, λ is. is)
placing_needs_same d e (Some cell) (Some of) o agree =
    let below = agrees_of d e cell of agree in
    either_same (λ is. is, λ is. is) (either_same (λ is. is, λ is. is)
    (λ is. (is.0, is.1, below_there d e below is.2), λ is. (is.0, is.1, below_back d e below is.2)))

-- the contents that are to hold an instance
pub holder_same : (d e : Design) (cell of : Option CellId) → AgreesOn d e (IsForPlacing d cell of) → holder of (option_and_then (contents_at d) cell) ≡ holder of (option_and_then (contents_at e) cell)
holder_same d e cell None agree = refl
holder_same d e None (Some of) agree = refl
holder_same d e (Some cell) (Some of) agree = contents_same d e cell (agree (contents_object cell) (inl refl))

-- paths
map_or_same : (f g : Inst → Bool) (o : Option Inst) → ((inst : Inst) → o ≡ Some inst → f inst ≡ g inst) → option_map_or f o false ≡ option_map_or g o false
map_or_same f g None same = refl
map_or_same f g (Some inst) same = same inst refl

pub next_reached : (d : Design) (o : Option Inst) (inst : Inst) (steps : List (List ℕ)) (ob : Object) → o ≡ Some inst → IsReached d inst.of steps ob → IsSomeAnd o (λ i. IsReached d i.of steps ob)
next_reached d o inst steps ob is reached = subst (λ (x : Option Inst). IsSomeAnd x (λ i. IsReached d i.of steps ob)) (sym is) reached

agrees_at : (d e : Design) (at : CellId) (path : List (List ℕ)) → AgreesOn d e (IsReached d at path) → Agrees d e (contents_object at)
agrees_at d e at [] agree = agree (contents_object at) refl
agrees_at d e at (step ∷ steps) agree = agree (contents_object at) (inl refl)

resolves_same : (d e : Design) (path : List (List ℕ)) (at : CellId) → AgreesOn d e (IsReached d at path) → resolves d at path ≡ resolves e at path
resolves_same d e [] at agree = refl
resolves_same d e (step ∷ steps) at agree =
    let there : Agrees d e (contents_object at) = agree (contents_object at) (inl refl) in
    map_or_same (λ inst. resolves d inst.of steps) (λ inst. resolves e inst.of steps) (inst_named step (insts_at d at))
    (λ inst is. resolves_same d e steps inst.of (λ ob reached. agree ob (inr (next_reached d (inst_named step (insts_at d at)) inst steps ob is reached))))
    ∙ ap (λ (insts : List Inst). option_map_or (λ inst. resolves e inst.of steps) (inst_named step insts) false) (insts_same d e at there)

pub goes_through_same : (d e : Design) (cell : CellId) (inst : List ℕ) (path : List (List ℕ)) (at : CellId) → AgreesOn d e (IsReached d at path) → goes_through d cell inst at path ≡ goes_through e cell inst at path
goes_through_same d e cell inst [] at agree = refl
goes_through_same d e cell inst (step ∷ steps) at agree =
    let there : Agrees d e (contents_object at) = agree (contents_object at) (inl refl) in
    ap (λ (b : Bool). (same_cell at cell && is_name step inst) || b)
    (map_or_same (λ next. goes_through d cell inst next.of steps) (λ next. goes_through e cell inst next.of steps) (inst_named step (insts_at d at))
    (λ next is. goes_through_same d e cell inst steps next.of (λ ob reached. agree ob (inr (next_reached d (inst_named step (insts_at d at)) next steps ob is reached))))
    ∙ ap (λ (insts : List Inst). option_map_or (λ next. goes_through e cell inst next.of steps) (inst_named step insts) false) (insts_same d e at there))

some_same : (P Q : Inst → Type 0) (o : Option Inst) → ((inst : Inst) → o ≡ Some inst → P inst ↔ Q inst) → IsSomeAnd o P ↔ IsSomeAnd o Q
some_same P Q None same = (λ is. is, λ is. is)
some_same P Q (Some inst) same = same inst refl

pub iff_trans : {A B C : Type 0} → A ↔ B → B ↔ C → A ↔ C
iff_trans p q = (λ a. q.0 (p.0 a), λ c. p.1 (q.1 c))

reached_same : (d e : Design) (path : List (List ℕ)) (at : CellId) (o : Object) → AgreesOn d e (IsReached d at path) → IsReached d at path o ↔ IsReached e at path o
reached_same d e [] at o agree = (λ is. is, λ is. is)
reached_same d e (step ∷ steps) at o agree =
    let there : Agrees d e (contents_object at) = agree (contents_object at) (inl refl) in
    either_same (λ is. is, λ is. is)
    (iff_trans
    (some_same (λ inst. IsReached d inst.of steps o) (λ inst. IsReached e inst.of steps o) (inst_named step (insts_at d at))
    (λ inst is. reached_same d e steps inst.of o (λ ob reached. agree ob (inr (next_reached d (inst_named step (insts_at d at)) inst steps ob is reached)))))
    (both_ways (λ (insts : List Inst). IsSomeAnd (inst_named step insts) (λ inst. IsReached e inst.of steps o)) (insts_at d at) (insts_at e at) (insts_same d e at there)))

reached_by_same : (d e : Design) (top : CellId) (notes : List Note) (o : Object) → AgreesOn d e (IsReachedBy d top notes) → IsReachedBy d top notes o ↔ IsReachedBy e top notes o
reached_by_same d e top [] o agree = (λ is. is, λ is. is)
reached_by_same d e top (note ∷ notes) o agree =
    either_same (reached_same d e note.path top o (λ ob is. agree ob (inl is))) (reached_by_same d e top notes o (λ ob is. agree ob (inr is)))

-- the notes that go on
filter_step : (b c : Bool) (note : Note) (xs ys : List Note) → b ≡ c → xs ≡ ys → cond b (note ∷ xs) xs ≡ cond c (note ∷ ys) ys
filter_step b c note xs ys same rest = λ i. cond (same i) (note ∷ rest i) (rest i)

others_in : (d e : Design) (cell : CellId) (inst : List ℕ) (top : TopHead) (notes : List Note) → AgreesOn d e (IsReachedBy d top.cell notes) → filter (λ note. not (goes_on d (Some top) (Some cell) inst note)) notes ≡ filter (λ note. not (goes_on e (Some top) (Some cell) inst note)) notes
others_in d e cell inst top [] agree = refl
others_in d e cell inst top (note ∷ notes) agree =
    filter_step (not (goes_through d cell inst top.cell note.path)) (not (goes_through e cell inst top.cell note.path)) note _ _
    (ap not (goes_through_same d e cell inst note.path top.cell (λ ob is. agree ob (inl is))))
    (others_in d e cell inst top notes (λ ob is. agree ob (inr is)))

pub notes_agree : (d e : Design) (cell : CellId) (top : Option TopHead) → AgreesOn d e (IsForNotes d (Some cell) top) → d.notes ≡ e.notes
notes_agree d e cell None agree = agree Notes refl
notes_agree d e cell (Some top) agree = agree Notes (inl refl)

others_same : (d e : Design) (cell : CellId) (inst : List ℕ) (top : Option TopHead) → AgreesOn d e (IsForNotes d (Some cell) top) → filter (λ note. not (goes_on d top (Some cell) inst note)) d.notes ≡ filter (λ note. not (goes_on e top (Some cell) inst note)) e.notes
others_same d e cell inst None agree = ap (filter (λ (note : Note). not false)) (notes_agree d e cell None agree)
others_same d e cell inst (Some top) agree =
    others_in d e cell inst top d.notes (λ ob is. agree ob (inr is)) ∙ ap (filter (λ (note : Note). not (goes_on e (Some top) (Some cell) inst note))) (notes_agree d e cell (Some top) agree)

pub seen_others_same : (d e : Design) (cell : Option CellId) (inst : List ℕ) → Grown d e → AgreesOn d e (IsForNotes d cell d.top) → seen_if cell (other_notes d cell inst) ≡ seen_if cell (other_notes e cell inst)
seen_others_same d e None inst grown agree = refl
seen_others_same d e (Some cell) inst grown agree =
    others_same d e cell inst d.top agree ∙ ap (λ (top : Option TopHead). filter (λ note. not (goes_on e top (Some cell) inst note)) e.notes) grown.top

pub seen_notes_same : (d e : Design) (cell : Option CellId) → AgreesOn d e (IsForNotes d cell d.top) → seen_if cell d.notes ≡ seen_if cell e.notes
seen_notes_same d e None agree = refl
seen_notes_same d e (Some cell) agree = notes_agree d e cell d.top agree

pub for_notes_same : (d e : Design) (cell : Option CellId) (top : Option TopHead) (o : Object) → AgreesOn d e (IsForNotes d cell top) → IsForNotes d cell top o ↔ IsForNotes e cell top o
for_notes_same d e None top o agree = (λ is. is, λ is. is)
for_notes_same d e (Some cell) None o agree = (λ is. is, λ is. is)
for_notes_same d e (Some cell) (Some top) o agree =
    either_same (λ is. is, λ is. is)
    (iff_trans (reached_by_same d e top.cell d.notes o (λ ob is. agree ob (inr is)))
    (both_ways (λ (notes : List Note). IsReachedBy e top.cell notes o) d.notes e.notes (notes_agree d e cell (Some top) agree)))

-- a path from the top
pub is_path_same : (d e : Design) (top : Option TopHead) (path : List (List ℕ)) → AgreesOn d e (IsForPath d top path) → is_path d top path ≡ is_path e top path
is_path_same d e None path agree = refl
is_path_same d e (Some top) path agree = ap (λ (b : Bool). not (length path == 0) && b) (resolves_same d e path top.cell (λ ob is. agree ob (inr is)))

pub path_notes_same : (d e : Design) (top : Option TopHead) (path : List (List ℕ)) → AgreesOn d e (IsForPath d top path) → notes_seen top d.notes ≡ notes_seen top e.notes
path_notes_same d e None path agree = refl
path_notes_same d e (Some top) path agree = agree Notes (inl refl)

pub for_path_same : (d e : Design) (top : Option TopHead) (path : List (List ℕ)) (o : Object) → AgreesOn d e (IsForPath d top path) → IsForPath d top path o ↔ IsForPath e top path o
for_path_same d e None path o agree = (λ is. is, λ is. is)
for_path_same d e (Some top) path o agree = either_same (λ is. is, λ is. is) (reached_same d e path top.cell o (λ ob is. agree ob (inr is)))

pub top_notes_same : (d e : Design) (top : Option TopHead) → AgreesOn d e (IsNotesBelow top) → notes_seen top d.notes ≡ notes_seen top e.notes
top_notes_same d e None agree = refl
top_notes_same d e (Some top) agree = agree Notes refl
