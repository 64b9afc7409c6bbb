-- The flattening of the kept design, with cells by their names.
use Rattle.std.proofs.Common.{◌≡◌, ◌+◌, ℕ, true, List, [], ◌∷◌, map, Option, Some, None, refl, sym, ap, subst, ◌∙◌, slice_get}
use Rattle.std.specs.Prelude.{IfSome, option_and_then, option_map}
use Rattle.std.specs.List.{enumerate_from}
use Rattle.std.specs.Option.{option_map_or}
use Rattle.std.proofs.lemmas.Option.{slice_get-map}
use Rattle.netlist_schema.specs.Design.{Design, cell_at, insts_of}
use Rattle.netlist_schema.specs.Hierarchy.{HasInst, IsCell, insts_at}
use Rattle.netlist_schema.specs.Names.{HasDistinctKeys}
use Rattle.netlist_schema.specs.Types.{CellBody, CellId, Contents, Inst, Lib, LibHead, TopHead}
use Rattle.netlist_schema.specs.Valid.{IsValid}
use Rattle.netlist_schema.proofs.Lists.{some_of}
use Rattle.edif_spec.specs.Arranged.{new_cell, new_contents, new_id, new_inst, new_top}
use Rattle.edif_spec.proofs.Arrange.{insts_new}
use Rattle.edit_rules_spec.specs.Objects.{cell_name_at, name_of, outside_of}
use Rattle.flat_spec.specs.Paths.{cell_along}
use Rattle.flat_spec.proofs.ListLemmas.{slice_get-contains}
use Rattle.uniquify_spec.specs.Alike.{all_unplaced, inside_of, unplaced}
use Rattle.used_spec.specs.Kept.{is_kept, kept, kept_below, kept_libs, kept_places, kept_slots, lib_with}
use Rattle.used_spec.specs.Named.{named, named_flattening}
use Rattle.used_spec.proofs.KeptCells.{cell_moved, inst_is_kept, top_is_kept}
use Rattle.used_spec.proofs.KeptValid.{kept_is_valid, placed_there}
use Rattle.used_spec.proofs.NamedItems.{IsNamedAlike, flattened, flattened_same}

-- the cell is there, and is kept
pub record IsIn (d : Design) (top c : CellId) : Type 0 where
  pub there : IsCell d c
  pub kept : is_kept d top c ≡ true

insts_moved : (d : Design) (top : TopHead) (c : CellId) → IsIn d top.cell c → insts_at (kept_below d top) (new_id (kept_places d top.cell) c) ≡ map (new_inst (kept_places d top.cell)) (insts_at d c)
insts_moved d top c is =
    let places = kept_places d top.cell in
    let body = some_of (cell_at d c) is.there in
    ap (λ (o : Option CellBody). option_map_or insts_of o []) (cell_moved d top c body.0 body.1 is.kept)
    ∙ insts_new places body.0
    ∙ ap (λ (o : Option CellBody). map (new_inst places) (option_map_or insts_of o [])) (sym body.1)

inst_in : (d : Design) (top : TopHead) (c : CellId) (i : ℕ) (inst : Inst) → IsValid d → IsIn d top.cell c → slice_get (insts_at d c) i ≡ Some inst → IsIn d top.cell inst.of
inst_in d top c i inst v is at =
    let has : HasInst d c inst = slice_get-contains (insts_at d c) i inst at in
    let body = some_of (cell_at d c) is.there in
    record { there = placed_there d c body.0 inst body.1 (v.cells c body.0 body.1) has; kept = inst_is_kept d top.cell c inst v.no_cycle is.kept has }

-- ---- paths

-- a path leads to the same cell, by its new id
pub record LeadsAlike (d : Design) (top : TopHead) (c : CellId) (path : List ℕ) : Type 0 where
  pub same : cell_along (kept_below d top) (new_id (kept_places d top.cell) c) path ≡ option_map (new_id (kept_places d top.cell)) (cell_along d c path)
  pub within : IfSome (cell_along d c path) (IsIn d top.cell)

leads_alike : (d : Design) (top : TopHead) → IsValid d → (path : List ℕ) (c : CellId) → IsIn d top.cell c → LeadsAlike d top c path
leads_alike d top v [] c is = record { same = refl; within = is }
leads_alike d top v (i ∷ path) c is = go (slice_get (insts_at d c) i) refl (λ inst at. leads_alike d top v path inst.of (inst_in d top c i inst v is at))
  where
    step : slice_get (insts_at (kept_below d top) (new_id (kept_places d top.cell) c)) i ≡ option_map (new_inst (kept_places d top.cell)) (slice_get (insts_at d c) i)
    step = ap (λ xs. slice_get xs i) (insts_moved d top c is) ∙ slice_get-map (new_inst (kept_places d top.cell)) (insts_at d c) i

    go : (o : Option Inst) → slice_get (insts_at d c) i ≡ o → ((inst : Inst) → slice_get (insts_at d c) i ≡ Some inst → LeadsAlike d top inst.of path) → LeadsAlike d top c (i ∷ path)
    go None none rest = record {
      same = ap (λ (o : Option Inst). option_and_then (λ inst. cell_along (kept_below d top) inst.of path) o) (step ∙ ap (option_map (new_inst (kept_places d top.cell))) none)
          ∙ ap (λ (o : Option Inst). option_map (new_id (kept_places d top.cell)) (option_and_then (λ inst. cell_along d inst.of path) o)) (sym none);
      within = subst (λ (o : Option Inst). IfSome (option_and_then (λ inst. cell_along d inst.of path) o) (IsIn d top.cell)) (sym none) tt;
    }
    go (Some inst) at rest =
        let r = rest inst at in
        record {
          same = ap (λ (o : Option Inst). option_and_then (λ inst. cell_along (kept_below d top) inst.of path) o) (step ∙ ap (option_map (new_inst (kept_places d top.cell))) at)
              ∙ r.same
              ∙ ap (λ (o : Option Inst). option_map (new_id (kept_places d top.cell)) (option_and_then (λ inst. cell_along d inst.of path) o)) (sym at);
          within = subst (λ (o : Option Inst). IfSome (option_and_then (λ inst. cell_along d inst.of path) o) (IsIn d top.cell)) (sym at) r.within;
        }

-- ---- what stands there

insts_unplaced : (places : List (List ℕ)) (is : List Inst) → map unplaced (map (new_inst places) is) ≡ map unplaced is
insts_unplaced places [] = refl
insts_unplaced places (i ∷ is) = ap (λ v. unplaced i ∷ v) (insts_unplaced places is)

inside_new : (places : List (List ℕ)) (c : CellBody) → inside_of (new_cell places c) ≡ inside_of c
inside_new places c = λ i. record { ports = c.ports; contents = go c.contents i }
  where
    go : (o : Option Contents) → option_map all_unplaced (option_map (new_contents places) o) ≡ option_map all_unplaced o
    go None = refl
    go (Some x) = λ i. Some (record { insts = insts_unplaced places x.insts i; nets = x.nets })

heads_new : (d : Design) (top : CellId) → map (λ (l : Lib). l.head) (kept_libs d top) ≡ map (λ (l : Lib). l.head) d.libs
heads_new d top = go d.libs 0
  where
    go : (ls : List Lib) (a : ℕ) → map (λ (l : Lib). l.head) (map (λ (p : ℕ × Lib). lib_with (kept_places d top) p.1 (kept_slots d top p.0)) (enumerate_from a ls)) ≡ map (λ (l : Lib). l.head) ls
    go [] a = refl
    go (l ∷ ls) a = ap (λ v. l.head ∷ v) (go ls (a + 1))

-- a cell has its name at its new id
name_new : (d : Design) (top : TopHead) (c : CellId) → IsIn d top.cell c → cell_name_at (kept_below d top) (new_id (kept_places d top.cell) c) ≡ cell_name_at d c
name_new d top c is =
    let body = some_of (cell_at d c) is.there in
    let heads = heads_new d top.cell in
    let here = cell_moved d top c body.0 body.1 is.kept in
    (λ i. option_and_then (λ (head : LibHead). option_map (name_of head) (option_map outside_of (here i))) (slice_get (heads i) c.lib.0))
    ∙ ap (λ (o : Option CellBody). option_and_then (λ (head : LibHead). option_map (name_of head) (option_map outside_of o)) (slice_get (map (λ (l : Lib). l.head) d.libs) c.lib.0)) (sym body.1)

inside_here : (d : Design) (top : TopHead) (c : CellId) → IsIn d top.cell c → option_map inside_of (cell_at (kept_below d top) (new_id (kept_places d top.cell) c)) ≡ option_map inside_of (cell_at d c)
inside_here d top c is =
    let body = some_of (cell_at d c) is.there in
    ap (option_map inside_of) (cell_moved d top c body.0 body.1 is.kept)
    ∙ ap Some (inside_new (kept_places d top.cell) body.0)
    ∙ ap (option_map inside_of) (sym body.1)

-- ---- the flattening

kept_alike : (d : Design) (top : TopHead) → IsValid d → IsCell d top.cell → IsNamedAlike (kept_below d top) d (new_top (kept_places d top.cell) top) top
kept_alike d top v there = record {
  notes = refl;
  own = refl;
  inside = λ path. (let r = leads path in ap (λ (k : Option CellId). option_map inside_of (option_and_then (cell_at (kept_below d top)) k)) r.same ∙ inside_at (cell_along d top.cell path) r.within);
  names = λ path. (let r = leads path in ap (λ (k : Option CellId). option_map_or (cell_name_at (kept_below d top)) k None) r.same ∙ name_along (cell_along d top.cell path) r.within);
}
  where
    leads : (path : List ℕ) → LeadsAlike d top top.cell path
    leads path = leads_alike d top v path top.cell (record { there = there; kept = top_is_kept d top.cell v.no_cycle })

    inside_at : (k : Option CellId) → IfSome k (IsIn d top.cell) → option_map inside_of (option_and_then (cell_at (kept_below d top)) (option_map (new_id (kept_places d top.cell)) k)) ≡ option_map inside_of (option_and_then (cell_at d) k)
    inside_at None is = refl
    inside_at (Some c) is = inside_here d top c is

    name_along : (k : Option CellId) → IfSome k (IsIn d top.cell) → option_map_or (cell_name_at (kept_below d top)) (option_map (new_id (kept_places d top.cell)) k) None ≡ option_map_or (cell_name_at d) k None
    name_along None is = refl
    name_along (Some c) is = name_new d top c is

pub kept_flattens_alike : (d : Design) → IsValid d → named_flattening (kept d) ≡ named_flattening d
kept_flattens_alike d v = go d.top refl
  where
    go : (o : Option TopHead) → d.top ≡ o → named_flattening (option_map_or (kept_below d) o d) ≡ named_flattening d
    go None is = refl
    go (Some top) is =
        let t = subst (λ (o : Option TopHead). IfSome o (λ t. IsCell d t.cell × HasDistinctKeys t.properties)) is v.top in
        let valid : IsValid (kept_below d top) = subst (λ (o : Option TopHead). IsValid (option_map_or (kept_below d) o d)) is (kept_is_valid d v) in
        flattened_same (kept_below d top) d valid.no_cycle v.no_cycle (new_top (kept_places d top.cell) top) top (kept_alike d top v t.0)
        ∙ ap (λ (o : Option TopHead). map (named d) (option_map_or (flattened d) o [])) (sym is)
