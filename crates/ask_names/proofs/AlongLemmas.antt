-- Names along a path, and the path along names.
use Rattle.std.proofs.Common.{◌≡◌, ◌<◌, ◌≤◌, ◌+◌, ℕ, List, [], ◌∷◌, ◌++◌, map, refl, sym, ap, subst, ◌∙◌, Some, None, Option, Bor, slice_get, append_assoc, append-nil, drop, get_or, length}
use Rattle.std.specs.Prelude.{option_and_then}
use Rattle.std.specs.List.{AllByRecursion}
use Rattle.std.specs.Option.{option_map, option_map_or}
use Rattle.std.proofs.lemmas.List.{drop_all, drop_more}
use Rattle.std.proofs.lemmas.Option.{none-some, same_Some}
use Rattle.netlist_schema.specs.Design.{Design, cell_at, insts_of}
use Rattle.netlist_schema.specs.Hierarchy.{insts_at}
use Rattle.netlist_schema.specs.Ident.{IsIdentifier}
use Rattle.netlist_schema.specs.Typed.{IsTypedCell, IsTypedInst}
use Rattle.netlist_schema.specs.Types.{CellBody, CellId, Inst}
use Rattle.netlist_schema.specs.Valid.{IsValid}
use Rattle.netlist_schema.proofs.Cells.{All-cell_at, All-slice_get}
use Rattle.netlist_schema.proofs.Lists.{get_mapped}
use Rattle.flat_spec.specs.Effective.{insts_along, names_along}
use Rattle.flat_spec.specs.Paths.{Reaches, cell_along}
use Rattle.flat_spec.proofs.PathLemmas.{Reaches-parts, and_then-parts}
use Rattle.edit_rules_spec.specs.Find.{inst_place}
use Rattle.edit_rules_spec.proofs.Named.{inst_at_place}
use Rattle.ask_names.specs.Places.{places_along}
use Rattle.ask_names.proofs.IndexLemmas.{insts_differ}
use Rattle.ask_names.proofs.OrderLemmas.{at_place}

-- ---- one step

-- the way on from the instance at a place
abbrev onward : Design → List (List ℕ) → ℕ → Inst → Option (List ℕ)
onward d names place inst = option_map (λ path. place ∷ path) (places_along d inst.of names)

abbrev from_place : Design → CellId → List (List ℕ) → ℕ → Option (List ℕ)
from_place d c names place = option_and_then (onward d names place) (slice_get (insts_at d c) place)

pub goes_on : (d : Design) (c : CellId) (name : List ℕ) (names : List (List ℕ)) (place : ℕ) (inst : Inst) → inst_place name (insts_at d c) ≡ Some place
    → slice_get (insts_at d c) place ≡ Some inst → places_along d c (name ∷ names) ≡ option_map (λ path. place ∷ path) (places_along d inst.of names)
goes_on d c name names place inst at got = ap (option_and_then (from_place d c names)) at ∙ ap (option_and_then (onward d names place)) got

pub ends_here : (d : Design) (c : CellId) (name : List ℕ) (names : List (List ℕ)) → inst_place name (insts_at d c) ≡ None → places_along d c (name ∷ names) ≡ None
ends_here d c name names none = ap (option_and_then (from_place d c names)) none

pub ends_there : (d : Design) (c : CellId) (name : List ℕ) (names : List (List ℕ)) (place : ℕ) → inst_place name (insts_at d c) ≡ Some place
    → slice_get (insts_at d c) place ≡ None → places_along d c (name ∷ names) ≡ None
ends_there d c name names place at none = ap (option_and_then (from_place d c names)) at ∙ ap (option_and_then (onward d names place)) none

-- the instance's identifier, and then those further down
pub names_step : (d : Design) (c : CellId) (i : ℕ) (path : List ℕ) (inst : Inst) → slice_get (insts_at d c) i ≡ Some inst
    → names_along d c (i ∷ path) ≡ inst.name.id ∷ names_along d inst.of path
names_step d c i path inst got = ap (λ (o : Option Inst). map (λ (v : Inst). v.name.id) (option_map_or (λ (v : Inst). v ∷ insts_along d v.of path) o [])) got

-- ---- along names there is a path with just these names, and along the names of a path just this path

mapped_parts : {A B : Type 0} (f : A → B) (o : Option A) (y : B) → option_map f o ≡ Some y → (x : A) × (o ≡ Some x) × (f x ≡ y)
mapped_parts f None y e = absurd (none-some y e)
mapped_parts f (Some x) y e = (x, refl, same_Some (f x) y e)

-- the path leads somewhere and has these names
abbrev pub HasEnd : Design → CellId → List ℕ → List (List ℕ) → Type 0
HasEnd d c path names = (end : CellId) × Reaches d c path end × (names_along d c path ≡ names)

pub names_of_places : (d : Design) (c : CellId) (names : List (List ℕ)) (path : List ℕ) → places_along d c names ≡ Some path → HasEnd d c path names
names_of_places d c [] path is = subst (λ (p : List ℕ). HasEnd d c p []) (same_Some [] path is) (c, refl, refl)
names_of_places d c (name ∷ names) path is =
    let first = and_then-parts (from_place d c names) (inst_place name (insts_at d c)) path is in
    let place : ℕ = first.0 in
    let next = and_then-parts (onward d names place) (slice_get (insts_at d c) place) path first.2 in
    let inst : Inst = next.0 in
    let rest = mapped_parts (λ (p : List ℕ). place ∷ p) (places_along d inst.of names) path next.2 in
    let below = names_of_places d inst.of names rest.0 rest.1 in
    let found = inst_at_place (insts_at d c) name place first.1 in
    let same : found.0 ≡ inst = same_Some found.0 inst (sym found.1 ∙ next.1) in
    let named : inst.name.id ≡ name = ap (λ (v : Inst). v.name.id) (sym same) ∙ found.2 in
    subst (λ (p : List ℕ). HasEnd d c p (name ∷ names)) rest.2 (
      below.0,
      ap (option_and_then (λ (v : Inst). cell_along d v.of rest.0)) next.1 ∙ below.1,
      names_step d c place rest.0 inst next.1 ∙ (λ i. named i ∷ below.2 i),
    )

pub places_of_names : (d : Design) (c : CellId) (path : List ℕ) (end : CellId) → IsValid d → Reaches d c path end → places_along d c (names_along d c path) ≡ Some path
places_of_names d c [] end valid reached = refl
places_of_names d c (i ∷ path) end valid reached =
    let step = Reaches-parts d c i path end reached in
    let inst : Inst = step.0 in
    let place : inst_place inst.name.id (insts_at d c) ≡ Some i =
    at_place (map (λ (v : Inst). v.name.id) (insts_at d c)) inst.name.id i (insts_differ d c valid) (get_mapped (λ (v : Inst). v.name.id) (insts_at d c) i inst step.1) in
    ap (places_along d c) (names_step d c i path inst step.1)
    ∙ goes_on d c inst.name.id (names_along d inst.of path) i inst place step.1
    ∙ ap (option_map (λ (p : List ℕ). i ∷ p)) (places_of_names d inst.of path end valid step.2)

-- ---- names are identifiers

id_of_inst : (d : Design) (c : CellId) (i : ℕ) (inst : Inst) → IsValid d → slice_get (insts_at d c) i ≡ Some inst → IsIdentifier inst.name.id
id_of_inst d c i inst valid got = of_cell (cell_at d c) refl got
  where
    of_cell : (o : Option CellBody) → cell_at d c ≡ o → slice_get (option_map_or insts_of o []) i ≡ Some inst → IsIdentifier inst.name.id
    of_cell None is there = absurd (none-some inst there)
    of_cell (Some body) is there = (All-slice_get IsTypedInst (insts_of body) i inst (All-cell_at IsTypedCell d c body valid.typed.cells is).insts there).name.id

pub ids_along : (d : Design) (c : CellId) (path : List ℕ) → IsValid d → AllByRecursion IsIdentifier (names_along d c path)
ids_along d c [] valid = tt
ids_along d c (i ∷ path) valid = of_step (slice_get (insts_at d c) i) refl (λ e. ids_along d e path valid)
  where
    of_step : (o : Option Inst) → slice_get (insts_at d c) i ≡ o → ((e : CellId) → AllByRecursion IsIdentifier (names_along d e path))
        → AllByRecursion IsIdentifier (map (λ (v : Inst). v.name.id) (option_map_or (λ (v : Inst). v ∷ insts_along d v.of path) o []))
    of_step None is below = tt
    of_step (Some inst) is below = (id_of_inst d c i inst valid is, below inst.of)

-- ---- a loop over names

-- the places so far, and then those of the names that are left
abbrev pub ahead : List ℕ → Option (List ℕ) → Option (List ℕ)
ahead steps left = option_map (λ rest. steps ++ rest) left

pub none_so_far : (o : Option (List ℕ)) → ahead [] o ≡ o
none_so_far None = refl
none_so_far (Some rest) = refl

pub one_step_more : (steps : List ℕ) (place : ℕ) (o : Option (List ℕ)) → ahead steps (option_map (λ path. place ∷ path) o) ≡ ahead (steps ++ place ∷ []) o
one_step_more steps place None = refl
one_step_more steps place (Some rest) = ap (λ (v : List ℕ). Some v) (sym (append_assoc steps (place ∷ []) rest))

-- what is left of lent names
pub next_name : (names : List (Bor (List ℕ))) (i : ℕ) (d : Bor (List ℕ)) → i < length names → map (λ (x : Bor (List ℕ)). x.now) (drop i names) ≡ (get_or names i d).now ∷ map (λ (x : Bor (List ℕ)). x.now) (drop (i + 1) names)
next_name names i d low = ap (map (λ (x : Bor (List ℕ)). x.now)) (drop_more names i d low)

pub last_name : (d : Design) (cell : CellId) (names : List (Bor (List ℕ))) (i : ℕ) (steps : List ℕ) → length names ≤ i → ahead steps (places_along d cell (map (λ (x : Bor (List ℕ)). x.now) (drop i names))) ≡ Some steps
last_name d cell names i steps done =
    ap (λ (v : List (Bor (List ℕ))). ahead steps (places_along d cell (map (λ (x : Bor (List ℕ)). x.now) v))) (drop_all i names done) ∙ ap (λ (v : List ℕ). Some v) (append-nil steps)
