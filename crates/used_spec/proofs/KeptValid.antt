-- The kept design of a valid one is valid.
use Rattle.std.proofs.Common.{◌≡◌, ◌+◌, ◌<◌, ◌≤◌, ℕ, arith, true, List, [], ◌∷◌, length, map, Option, Some, None, refl, sym, ap, subst, ◌∙◌, slice_get}
use Rattle.std.specs.Prelude.{IfSome, IsSome, IsSomeAnd, is_some, option_map, unwrap_or}
use Rattle.std.specs.List.{All, Contains, enumerate_from, range_with_len}
use Rattle.std.specs.Option.{option_map_or}
use Rattle.std.proofs.lemmas.List.{length-map}
use Rattle.std.proofs.lemmas.List.Elements.{All-from_recursion, All-weaker}
use Rattle.std.proofs.lemmas.List.FromFn.{length-enumerate_from, length-range_with_len}
use Rattle.std.proofs.lemmas.Option.{slice_get-map}
use Rattle.netlist_schema.specs.Design.{Design, cell_at, ends_of, insts_of}
use Rattle.netlist_schema.specs.Hierarchy.{HasInst, IsCell, NoCellIsBelowItself, Resolves, insts_at}
use Rattle.netlist_schema.specs.Limits.{IsWithinLimits}
use Rattle.netlist_schema.specs.Names.{AreDistinct, HasDistinctKeys, HasDistinctNames, cell_names, lib_names}
use Rattle.netlist_schema.specs.Typed.{IsTyped, IsTypedCell, IsTypedName, IsTypedProperty}
use Rattle.netlist_schema.specs.Types.{CellBody, CellId, End, Inst, Lib, Note, TopHead}
use Rattle.netlist_schema.specs.Valid.{HasBit, IsEndAt, IsEndOf, IsNoteBelow, IsValid, IsValidCell}
use Rattle.netlist_schema.proofs.Cells.{All-cell_at, All-slice_get, cell_of_inst, ranked_has_no_cycle}
use Rattle.netlist_schema.proofs.Lists.{all_from_places, some_of}
use Rattle.netlist_schema.proofs.Ranks.{valid_is_ranked}
use Rattle.netlist_order_spec.proofs.Places.{lib_of_cell}
use Rattle.netlist_order_spec.proofs.WholeOrder.{cell_found, has_inst, id_at}
use Rattle.edif_spec.specs.Arranged.{new_cell, new_cells, new_id, new_inst, place_in}
use Rattle.edif_spec.proofs.Arrange.{insts_new, place_found}
use Rattle.edif_spec.proofs.CellPlaces.{some_and}
use Rattle.edit_rules_spec.proofs.Lists.{length_filter}
use Rattle.used_spec.specs.Kept.{is_kept, kept, kept_below, kept_libs, kept_places, kept_slots, lib_with}
use Rattle.used_spec.specs.Uses.{count_in}
use Rattle.used_spec.proofs.KeptCells.{all_has, cell_from, cell_moved, count_is, inst_is_kept, lib_kept, moved_some, places_kept, slot_is, slot_listed, slots_new, slots_there, top_is_kept}
use Rattle.used_spec.proofs.Renumbered.{all_insts, cell_limits, cell_names_differ, contains_map, contains_unmap, ends_new, length_new, names_differ, old_there, typed_cell}

-- ---- instances that are there

has_at : (d : Design) (id : CellId) (c : CellBody) (place : ℕ) (inst : Inst) → cell_at d id ≡ Some c → slice_get (insts_of c) place ≡ Some inst → HasInst d id inst
has_at d id c place inst e f = has_inst d id c place inst e f

pub placed_there : (d : Design) (id : CellId) (c : CellBody) (inst : Inst) → cell_at d id ≡ Some c → IsValidCell d id c → HasInst d id inst → IsCell d inst.of
placed_there d id c inst e v has =
    let same = subst (λ (is : List Inst). Contains is inst) (ap (λ (o : Option CellBody). option_map_or insts_of o []) e) has in
    subst (λ (x : Inst). IsCell d x.of) same.2 (v.placed same.0 inst same.1)

-- ---- ends

and_some : {A : Type 0} (o : Option A) (x : A) (P : A → Type 0) → o ≡ Some x → P x → IsSomeAnd o P
and_some o x P e h = subst (λ v. IsSomeAnd v P) (sym e) h

end_moved : (d : Design) (top : TopHead) (id : CellId) (c : CellBody) → NoCellIsBelowItself d → cell_at d id ≡ Some c → is_kept d top.cell id ≡ true → (inst : Option ℕ) (port bit : ℕ)
    → IsEndAt d c inst port bit → IsEndAt (kept_below d top) (new_cell (kept_places d top.cell) c) inst port bit
end_moved d top id c acyclic e is None port bit h = h
end_moved d top id c acyclic e is (Some place) port bit h =
    let places = kept_places d top.cell in
    let x = some_and (slice_get (insts_of c) place) (λ inst. IsSomeAnd (cell_at d inst.of) (λ of. HasBit of.ports port bit)) h in
    let of = some_and (cell_at d x.0.of) (λ of. HasBit of.ports port bit) x.2 in
    let there : slice_get (insts_of (new_cell places c)) place ≡ Some (new_inst places x.0) =
    ap (λ is. slice_get is place) (insts_new places c) ∙ slice_get-map (new_inst places) (insts_of c) place ∙ ap (option_map (new_inst places)) x.1 in
    let has : HasInst d id x.0 = has_at d id c place x.0 e x.1 in
    let below = inst_is_kept d top.cell id x.0 acyclic is has in
    and_some (slice_get (insts_of (new_cell places c)) place) (new_inst places x.0) (λ inst. IsSomeAnd (cell_at (kept_below d top) inst.of) (λ of. HasBit of.ports port bit)) there
    (and_some (cell_at (kept_below d top) (new_id places x.0.of)) (new_cell places of.0) (λ of. HasBit of.ports port bit) (cell_moved d top x.0.of of.0 of.1 below) of.2)

-- ---- cells

valid_moved : (d : Design) (top : TopHead) (id : CellId) (c : CellBody) → NoCellIsBelowItself d → cell_at d id ≡ Some c → is_kept d top.cell id ≡ true → IsValidCell d id c
    → IsValidCell (kept_below d top) (new_id (kept_places d top.cell) id) (new_cell (kept_places d top.cell) c)
valid_moved d top id c acyclic e is v =
    let places = kept_places d top.cell in
    let there : (inst : Inst) → HasInst d id inst → IsCell (kept_below d top) (new_id places inst.of) = λ inst has.
    moved_some d top inst.of (placed_there d id c inst e v has) (inst_is_kept d top.cell id inst acyclic is has) in
    record {
      limits = cell_limits places c v.limits;
      names = cell_names_differ places c v.names;
      placed = all_insts (λ (i : Inst). IsCell (kept_below d top) i.of) places c (all_has (λ (i : Inst). IsCell (kept_below d top) (new_id places i.of)) d id c e there);
      not_later = all_insts (λ (i : Inst). i.of.lib.0 ≤ id.lib.0) places c v.not_later;
      ends = subst (λ (ends : List End). All (IsEndOf (kept_below d top) (new_cell places c)) ends) (sym (ends_new places c))
          (All-weaker (IsEndOf d c) (IsEndOf (kept_below d top) (new_cell places c)) (λ (end : End) h. end_moved d top id c acyclic e is end.inst end.port end.bit h) (ends_of c) v.ends);
      joined_once = subst (λ (ends : List End). AreDistinct ends) (sym (ends_new places c)) v.joined_once;
    }

valid_from : (d : Design) (top : TopHead) (id : CellId) (n : CellBody) → IsValid d → cell_at (kept_below d top) id ≡ Some n → IsValidCell (kept_below d top) id n
valid_from d top id n v e =
    let f = cell_from d top id n e in
    subst (λ (k : CellId). IsValidCell (kept_below d top) k n) (sym f.at)
    (subst (λ (c : CellBody). IsValidCell (kept_below d top) (new_id (kept_places d top.cell) f.old_id) c) (sym f.is) (valid_moved d top f.old_id f.old v.no_cycle f.found f.kept (v.cells f.old_id f.old f.found)))

-- ---- libraries

lib_from : (d : Design) (top : CellId) (i : ℕ) (n : Lib) → slice_get (kept_libs d top) i ≡ Some n → (l : Lib) × (slice_get d.libs i ≡ Some l) × (n ≡ lib_with (kept_places d top) l (kept_slots d top i))
lib_from d top i n e = go (slice_get d.libs i) refl
  where
    go : (o : Option Lib) → slice_get d.libs i ≡ o → (l : Lib) × (slice_get d.libs i ≡ Some l) × (n ≡ lib_with (kept_places d top) l (kept_slots d top i))
    go None f = let no : None ≡ Some n = sym (lib_kept d top i ∙ ap (option_map (λ l. lib_with (kept_places d top) l (kept_slots d top i))) f) ∙ e in cc
    go (Some l) f =
        let both : Some (lib_with (kept_places d top) l (kept_slots d top i)) ≡ Some n = sym (lib_kept d top i ∙ ap (option_map (λ l. lib_with (kept_places d top) l (kept_slots d top i))) f) ∙ e in
        let same : lib_with (kept_places d top) l (kept_slots d top i) ≡ n = cc both in
        (l, f, sym same)

all_libs : (P : Lib → Type 0) (d : Design) (top : CellId) → ((i : ℕ) (l : Lib) → slice_get d.libs i ≡ Some l → P (lib_with (kept_places d top) l (kept_slots d top i))) → All P (kept_libs d top)
all_libs P d top f = All-from_recursion P (kept_libs d top) (all_from_places P (kept_libs d top) (λ i n e.
    let l = lib_from d top i n e in subst P (sym l.2) (f i l.0 l.1)))

libs_long : (d : Design) (top : CellId) → length (kept_libs d top) ≡ length d.libs
libs_long d top = length-map (enumerate_from 0 d.libs) (λ (p : ℕ × Lib). lib_with (kept_places d top) p.1 (kept_slots d top p.0)) ∙ length-enumerate_from 0 d.libs

heads_same : (d : Design) (top : CellId) → lib_names (kept_libs d top) ≡ lib_names d.libs
heads_same d top = go d.libs 0
  where
    go : (ls : List Lib) (a : ℕ) → lib_names (map (λ (p : ℕ × Lib). lib_with (kept_places d top) p.1 (kept_slots d top p.0)) (enumerate_from a ls)) ≡ lib_names ls
    go [] a = refl
    go (l ∷ ls) a = ap (λ v. l.head.name.id ∷ v) (go ls (a + 1))

slots_short : (d : Design) (top : CellId) (i : ℕ) (l : Lib) → slice_get d.libs i ≡ Some l → length (kept_slots d top i) ≤ length l.cells
slots_short d top i l e =
    let few = length_filter (λ slot. is_kept d top (id_at i slot)) (range_with_len 0 (count_in d i)) in
    let range = length-range_with_len 0 (count_in d i) in
    let count = count_is d i l e in
    omega (arith, few, range, count)

typed_kept : (d : Design) (top : TopHead) → IsValid d → IfSome (Some top) (λ t. IsTypedName t.name × All IsTypedProperty t.properties) → IsTyped (kept_below d top)
typed_kept d top v t = record {
  title = v.typed.title;
  libs = all_libs (λ (l : Lib). IsTypedName l.head.name) d top.cell (λ i l e. All-slice_get (λ (l : Lib). IsTypedName l.head.name) d.libs i l v.typed.libs e);
  cells = all_libs (λ (l : Lib). All IsTypedCell l.cells) d top.cell (λ i l e.
      let order = kept_slots d top.cell i in
      let places = kept_places d top.cell in
      All-from_recursion IsTypedCell (new_cells places l.cells order) (all_from_places IsTypedCell (new_cells places l.cells order) (λ p n f.
      let c = old_there places l.cells order p n (slots_there d top.cell i l e) f in
      let typed : IsTypedCell c.old = All-cell_at IsTypedCell d (id_at i c.slot) c.old v.typed.cells (cell_found d i c.slot l c.old e c.there) in
      subst IsTypedCell (sym c.is) (typed_cell places c.old typed))));
  top = t;
  notes = v.typed.notes;
}

limits_kept : (d : Design) (top : TopHead) → IsValid d → IsWithinLimits (kept_below d top)
limits_kept d top v = record {
  libs = (let n = libs_long d top.cell in let l = v.limits.libs in omega (arith, n, l));
  cells = all_libs (λ (l : Lib). length l.cells ≤ 65536) d top.cell (λ i l e.
      let n = length_new (kept_places d top.cell) l.cells (kept_slots d top.cell i) (slots_there d top.cell i l e) in
      let s = slots_short d top.cell i l e in
      let m : length l.cells ≤ 65536 = All-slice_get (λ (l : Lib). length l.cells ≤ 65536) d.libs i l v.limits.cells e in
      omega (arith, n, s, m));
  notes = v.limits.notes;
}

names_kept : (d : Design) (top : TopHead) → IsValid d → HasDistinctNames (kept_below d top)
names_kept d top v = record {
  libs = subst (λ (ns : List (List ℕ)). AreDistinct ns) (sym (heads_same d top.cell)) v.names.libs;
  cells = all_libs (λ (l : Lib). AreDistinct (cell_names l.cells)) d top.cell (λ i l e.
      names_differ (kept_places d top.cell) l.cells (kept_slots d top.cell i) (All-slice_get (λ (l : Lib). AreDistinct (cell_names l.cells)) d.libs i l v.names.cells e)
      (slots_there d top.cell i l e) (slots_new d top.cell i));
}

-- ---- the hierarchy

pub inst_moved : (d : Design) (top : TopHead) (id : CellId) (i : Inst) → is_kept d top.cell id ≡ true → HasInst d id i → HasInst (kept_below d top) (new_id (kept_places d top.cell) id) (new_inst (kept_places d top.cell) i)
inst_moved d top id i is h =
    let places = kept_places d top.cell in
    let c = cell_of_inst d id i h in
    let there : insts_at (kept_below d top) (new_id places id) ≡ map (new_inst places) (insts_of c.0) = ap (λ o. option_map_or insts_of o []) (cell_moved d top id c.0 c.1 is) ∙ insts_new places c.0 in
    subst (λ (is : List Inst). Contains is (new_inst places i)) (sym there) (contains_map places (insts_of c.0) i c.2)

resolves_moved : (d : Design) (top : TopHead) (id : CellId) (path : List (List ℕ)) → NoCellIsBelowItself d → is_kept d top.cell id ≡ true → Resolves d id path → Resolves (kept_below d top) (new_id (kept_places d top.cell) id) path
resolves_moved d top id [] acyclic is h = tt
resolves_moved d top id (n ∷ path) acyclic is h =
    (new_inst (kept_places d top.cell) h.0, inst_moved d top id h.0 is h.1, h.2, resolves_moved d top h.0.of path acyclic (inst_is_kept d top.cell id h.0 acyclic is h.1) h.3)

-- the id that a cell had
abbrev slot_before : Option (List ℕ) → ℕ → ℕ
slot_before None p = p
slot_before (Some o) p = unwrap_or (slice_get o p) p

abbrev id_before : List (List ℕ) → CellId → CellId
id_before places id = record { lib = id.lib; slot = slot_before (slice_get places id.lib.0) id.slot }

before_new : (d : Design) (top id : CellId) → IsCell d id → is_kept d top id ≡ true → id_before (kept_places d top) (new_id (kept_places d top) id) ≡ id
before_new d top id there is =
    let places = kept_places d top in
    let order = kept_slots d top id.lib.0 in
    let c = some_of (cell_at d id) there in
    let l = lib_of_cell d id c.0 c.1 in
    let row : slice_get places id.lib.0 ≡ Some order = places_kept d top id.lib.0 ∙ ap (option_map (λ _. order)) l.1 in
    let full = slot_listed d top id l.0 c.0 l.1 l.2 is in
    let slot : slot_before (slice_get places id.lib.0) (new_id places id).slot ≡ id.slot =
    ap (λ v. slot_before v (new_id places id).slot) row ∙ ap (λ p. unwrap_or (slice_get order p) p) (slot_is d top id l.0 l.1)
    ∙ ap (λ v. unwrap_or v (place_in id.slot order)) (place_found id.slot order full) in
    λ i. record { lib = id.lib; slot = slot i }

acyclic_kept : (d : Design) (top : TopHead) → IsValid d → NoCellIsBelowItself (kept_below d top)
acyclic_kept d top v =
    let places = kept_places d top.cell in
    let ranked = valid_is_ranked d v in
    ranked_has_no_cycle (kept_below d top) (λ id. ranked.0 (id_before places id)) (λ id n h.
    let c = cell_of_inst (kept_below d top) id n h in
    let f = cell_from d top id c.0 c.1 in
    let insts : insts_of c.0 ≡ map (new_inst places) (insts_of f.old) = ap insts_of f.is ∙ insts_new places f.old in
    let i = contains_unmap places (insts_of f.old) n (subst (λ (is : List Inst). Contains is n) insts c.2) in
    let has : HasInst d f.old_id i.0 = subst (λ (is : List Inst). Contains is i.0) (sym (ap (λ o. option_map_or insts_of o []) f.found)) i.1 in
    let less : ranked.0 i.0.of < ranked.0 f.old_id = ranked.1 f.old_id i.0 has in
    let there : IsSome (cell_at d f.old_id) = ap is_some f.found in
    let outer : ranked.0 (id_before places id) ≡ ranked.0 f.old_id = ap (λ k. ranked.0 (id_before places k)) f.at ∙ ap ranked.0 (before_new d top.cell f.old_id there f.kept) in
    let of_there : IsSome (cell_at d i.0.of) = placed_there d f.old_id f.old i.0 f.found (v.cells f.old_id f.old f.found) has in
    let of_kept = inst_is_kept d top.cell f.old_id i.0 v.no_cycle f.kept has in
    let inner : ranked.0 (id_before places n.of) ≡ ranked.0 i.0.of = ap (λ (x : Inst). ranked.0 (id_before places x.of)) i.2 ∙ ap ranked.0 (before_new d top.cell i.0.of of_there of_kept) in
    omega (arith, less, outer, inner))

-- ---- all together

pub kept_below_valid : (d : Design) (top : TopHead) → IsValid d → d.top ≡ Some top → IsValid (kept_below d top)
kept_below_valid d top v is =
    let t = subst (λ (o : Option TopHead). IfSome o (λ t. IsCell d t.cell × HasDistinctKeys t.properties)) is v.top in
    let notes = subst (λ (o : Option TopHead). IfSome o (λ t. All (IsNoteBelow d t.cell) d.notes)) is v.notes in
    let places = kept_places d top.cell in
    let at_top = top_is_kept d top.cell v.no_cycle in
    record {
      typed = typed_kept d top v (subst (λ (o : Option TopHead). IfSome o (λ t. IsTypedName t.name × All IsTypedProperty t.properties)) is v.typed.top);
      limits = limits_kept d top v;
      names = names_kept d top v;
      cells = λ id n e. valid_from d top id n v e;
      no_cycle = acyclic_kept d top v;
      top = (moved_some d top top.cell t.0 at_top, t.1);
      notes = All-weaker (IsNoteBelow d top.cell) (IsNoteBelow (kept_below d top) (new_id places top.cell))
          (λ (n : Note) w. record { has_step = w.has_step; resolves = resolves_moved d top top.cell n.path v.no_cycle at_top w.resolves }) d.notes notes;
      notes_need_top = tt;
      notes_differ = v.notes_differ;
    }

pub kept_is_valid : (d : Design) → IsValid d → IsValid (kept d)
kept_is_valid d v = go d.top refl
  where
    go : (o : Option TopHead) → d.top ≡ o → IsValid (option_map_or (kept_below d) o d)
    go None is = v
    go (Some top) is = kept_below_valid d top v is
