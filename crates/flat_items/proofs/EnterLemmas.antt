-- The properties of an occurrence, from those of the instance that leads to it.
use Rattle.std.proofs.Common.{◌≡◌, ◌<◌, ◌+◌, ℕ, List, [], ◌∷◌, ◌++◌, length, get_or, drop, refl, sym, ap, ◌∙◌, append_assoc, append-nil, Some, None, Option, slice_get}
use Rattle.std.specs.List.{cons_option, last_or}
use Rattle.std.specs.Option.{option_map, option_map_or}
use Rattle.std.proofs.lemmas.List.{drop_more}
use Rattle.std.proofs.lemmas.Option.{same_Some}
use Rattle.netlist_schema.specs.Design.{Design}
use Rattle.netlist_schema.specs.Hierarchy.{insts_at}
use Rattle.netlist_schema.specs.Types.{CellId, Inst, Note, Property, TopHead}
use Rattle.flat_spec.specs.Effective.{base_properties, insts_along}
use Rattle.flat_spec.specs.Paths.{Reaches}
use Rattle.flat_spec.proofs.PathLemmas.{Reaches-front, Reaches-parts, Some-same}
use Rattle.flat_items.specs.Placed.{properties_at}

-- one step more leads through one instance more
insts_along-push : (d : Design) (c up : CellId) (path : List ℕ) (step : ℕ) (inst : Inst) → Reaches d c path up → slice_get (insts_at d up) step ≡ Some inst
    → insts_along d c (path ++ step ∷ []) ≡ insts_along d c path ++ inst ∷ []
insts_along-push d c up [] step inst at there =
    ap (λ (v : CellId). option_map_or (λ (i : Inst). i ∷ []) (slice_get (insts_at d v) step) []) (same_Some c up at)
    ∙ ap (λ o. option_map_or (λ (i : Inst). i ∷ []) o []) there
insts_along-push d c up (i ∷ path) step inst at there =
    let first = Reaches-parts d c i path up at in
    let more = insts_along-push d first.0.of up path step inst first.2 there in
    ap (λ o. option_map_or (λ (v : Inst). v ∷ insts_along d v.of (path ++ step ∷ [])) o []) first.1
    ∙ ap (λ v. first.0 ∷ v) more
    ∙ ap (λ o. option_map_or (λ (v : Inst). v ∷ insts_along d v.of path) o [] ++ inst ∷ []) (sym first.1)

last_pushed : {A : Type 0} (o : Option A) (xs : List A) (x : A) → last_or o (xs ++ x ∷ []) ≡ Some x
last_pushed o [] x = refl
last_pushed o (y ∷ xs) x = last_pushed (Some y) xs x

-- the properties below the top are those of the instance
pub base_of_inst : (d : Design) (top : TopHead) (path : List ℕ) (up : CellId) (step : ℕ) (inst : Inst) → Reaches d top.cell path up
    → slice_get (insts_at d up) step ≡ Some inst → base_properties d top (path ++ step ∷ []) ≡ inst.properties
base_of_inst d top path up step inst at there =
    ap (λ (v : List Inst). option_map_or (λ (i : Inst). i.properties) (last_or None v) top.properties) (insts_along-push d top.cell up path step inst at there)
    ∙ ap (λ o. option_map_or (λ (i : Inst). i.properties) o top.properties) (last_pushed None (insts_along d top.cell path) inst)

-- the last step leads through an instance
pub last_inst : (d : Design) (root up c : CellId) (path : List ℕ) (step : ℕ) → Reaches d root path up → Reaches d root (path ++ step ∷ []) c
    → (inst : Inst) × (slice_get (insts_at d up) step ≡ Some inst)
last_inst d root up c path step at whole =
    let front = Reaches-front d root c path (step ∷ []) whole in
    let same : front.0 ≡ up = Some-same _ front.1 at in
    let first = Reaches-parts d front.0 step [] c front.2 in
    (first.0, ap (λ (v : CellId). slice_get (insts_at d v) step) (sym same) ∙ first.1)

-- the property of a note, where there is one
pub none_noted : (notes : List Note) (place : ℕ) (found : List Property) → slice_get notes place ≡ None → found ≡ found ++ properties_at notes (place ∷ [])
none_noted notes place found none =
    sym (append-nil found) ∙ ap (λ o. found ++ cons_option (option_map (λ (n : Note). n.property) o) []) (sym none)

pub one_noted : (notes : List Note) (place : ℕ) (note : Note) (found more : List Property) → slice_get notes place ≡ Some note → more ≡ found ++ note.property ∷ []
    → more ≡ found ++ properties_at notes (place ∷ [])
one_noted notes place note found more some is = is ∙ ap (λ o. found ++ cons_option (option_map (λ (n : Note). n.property) o) []) (sym some)

noted_rest : (o : Option Property) (rest : List Property) → cons_option o [] ++ rest ≡ cons_option o rest
noted_rest None rest = refl
noted_rest (Some p) rest = refl

-- one place more
pub noted_more : (notes : List Note) (places : List ℕ) (i place : ℕ) (found more whole : List Property) → i < length places → place ≡ get_or places i place
    → more ≡ found ++ properties_at notes (place ∷ []) → found ++ properties_at notes (drop i places) ≡ whole
    → more ++ properties_at notes (drop (i + 1) places) ≡ whole
noted_more notes places i place found more whole within is more_is so_far =
    let rest = properties_at notes (drop (i + 1) places) in
    let one = properties_at notes (place ∷ []) in
    let ahead : drop i places ≡ place ∷ drop (i + 1) places = drop_more places i place within ∙ ap (λ v. v ∷ drop (i + 1) places) (sym is) in
    let opened : properties_at notes (drop i places) ≡ one ++ rest =
    ap (properties_at notes) ahead ∙ sym (noted_rest (option_map (λ (n : Note). n.property) (slice_get notes place)) rest) in
    ap (λ v. v ++ rest) more_is ∙ append_assoc found one rest ∙ ap (λ v. found ++ v) (sym opened) ∙ so_far
