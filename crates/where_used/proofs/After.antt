-- An index with a list for each cell of a design; a design with one cell changed: its cells, and the instances of the others.
use Rattle.std.proofs.Common.{◌≡◌, ◌≢◌, ⊎_elim, Bool, true, false, List, [], length, map, Option, Some, None, refl, sym, ap, subst, ◌∙◌}
use Rattle.std.specs.Prelude.{option_map}
use Rattle.std.specs.List.{flat_map, range_with_len}
use Rattle.std.specs.Option.{option_map_or}
use Rattle.std.proofs.lemmas.List.FromFn.{length-map-range_with_len}
use Rattle.netlist_schema.specs.Design.{Design, cell_at, insts_of}
use Rattle.netlist_schema.specs.Hierarchy.{insts_at}
use Rattle.netlist_schema.specs.Types.{CellBody, CellId}
use Rattle.netlist_schema.proofs.WithCell.{cases_cell}
use Rattle.edit_rules_spec.specs.Edit.{changed_at, with_changed_cell}
use Rattle.edit_rules_spec.proofs.Edits.{cell_at-changed_other, cell_at-changed_same}
use Rattle.edit_rules_spec.proofs.Lists.{length-changed_at}
use Rattle.used_spec.specs.Uses.{all_cells, all_placed, count_in, ids_of, placed_in_all, users, users_at, uses}
use Rattle.used_spec.specs.declared.used_at.UsedAt.{UsedAt}
use Rattle.used_spec.proofs.Entries.{used_entry}
use Rattle.where_used.proofs.Entries.{same_index}
use Rattle.where_used.proofs.Keeping.{counts_same, lib_changed}
use Rattle.where_used.proofs.Parting.{IsHigh, IsLow, Parted, all_by, same_others}
use Rattle.where_used.proofs.Turning.{Index, IsOver, changed_in, row_other, row_same}

-- ---- an index with a list for each cell

-- a list is there
abbrev pub marked : {A : Type 0} → Option A → Bool
marked None = false
marked (Some x) = true

pub record HasRoom (d : Design) (index : Index) : Type 0 where
  pub libs : length index ≡ length d.libs
  pub cells : (cell : CellId) → marked (users_at index cell) ≡ marked (cell_at d cell)

pub marked_map : {A B : Type 0} (f : A → B) (o : Option A) → marked (option_map f o) ≡ marked o
marked_map f None = refl
marked_map f (Some x) = refl

pub by_mark : {A B X : Type 0} (x : X) (o : Option A) (p : Option B) → marked o ≡ marked p → option_map (λ _. x) o ≡ option_map (λ _. x) p
by_mark x None None e = refl
by_mark x None (Some b) e = cc
by_mark x (Some a) None e = cc
by_mark x (Some a) (Some b) e = refl

pub room_uses : (d : Design) → HasRoom d (uses d)
room_uses d = record {
  libs = length-map-range_with_len (λ lib. map (users d) (ids_of lib (count_in d lib))) 0 (length d.libs);
  cells = λ cell. ap marked (used_entry d cell) ∙ marked_map (λ _. users d cell) (cell_at d cell);
}

pub room_changed : (d : Design) (f : List UsedAt → List UsedAt) (index : Index) (of : CellId) → HasRoom d index → HasRoom d (changed_in of f index)
room_changed d f index of room = record {
  libs = length-changed_at (λ cells. changed_at f of.slot cells) of.lib.0 index ∙ room.libs;
  cells = λ cell. ⊎_elim
      (λ (same : cell ≡ of). subst (λ (c : CellId). marked (users_at (changed_in of f index) c) ≡ marked (cell_at d c)) (sym same)
      (ap marked (row_same f index of) ∙ marked_map f (users_at index of) ∙ room.cells of))
      (λ (apart : cell ≢ of). ap marked (row_other f index of cell apart) ∙ room.cells cell)
      (cases_cell cell of);
}

pub over_uses : (d : Design) → IsOver (uses d) (all_placed d)
over_uses d = record { each = λ cell. subst (λ o. o ≡ option_map (λ _. users d cell) o) (sym (used_entry d cell)) (again (cell_at d cell) (users d cell)) }
  where
    again : {A : Type 0} (o : Option A) (us : List UsedAt) → option_map (λ _. us) o ≡ option_map (λ _. us) (option_map (λ _. us) o)
    again None us = refl
    again (Some x) us = refl

pub finished : (d : Design) (index : Index) → HasRoom d index → IsOver index (all_placed d) → index ≡ uses d
finished d index room over = same_index d index room.libs (λ cell.
    over.each cell ∙ by_mark (users d cell) (users_at index cell) (cell_at d cell) (room.cells cell) ∙ sym (used_entry d cell))

-- ---- the design afterwards

pub cells_same : (d : Design) (id : CellId) (f : CellBody → CellBody) → all_cells (with_changed_cell d id f) ≡ all_cells d
cells_same d id f = λ i. flat_map (λ lib. ids_of lib (counts_same d id f lib i)) (range_with_len 0 (length-changed_at (lib_changed f id.slot) id.lib.0 d.libs i))

abbrev pub part_after : (d : Design) (id : CellId) (f : CellBody → CellBody) → Parted d id → Parted (with_changed_cell d id f) id
part_after d id f part = record { front = part.front; back = part.back; cells = cells_same d id f ∙ part.cells; low = part.low; high = part.high }

others_same : (d : Design) (id : CellId) (f : CellBody → CellBody) (c : CellId) → c ≢ id → insts_at (with_changed_cell d id f) c ≡ insts_at d c
others_same d id f c apart = ap (λ (o : Option CellBody). option_map_or insts_of o []) (cell_at-changed_other d id f c apart)

pub front_same : (d : Design) (id : CellId) (f : CellBody → CellBody) (part : Parted d id) → placed_in_all (with_changed_cell d id f) part.front ≡ placed_in_all d part.front
front_same d id f part = same_others (with_changed_cell d id f) d id part.front (all_by (IsLow id) (λ c. c ≢ id) part.front (λ c is. is.other) part.low) (others_same d id f)

pub back_same : (d : Design) (id : CellId) (f : CellBody → CellBody) (part : Parted d id) → placed_in_all (with_changed_cell d id f) part.back ≡ placed_in_all d part.back
back_same d id f part = same_others (with_changed_cell d id f) d id part.back (all_by (IsHigh id) (λ c. c ≢ id) part.back (λ c is. is.other) part.high) (others_same d id f)

pub room_after : (d : Design) (id : CellId) (f : CellBody → CellBody) (index : Index) → HasRoom d index → HasRoom (with_changed_cell d id f) index
room_after d id f index room = record {
  libs = room.libs ∙ sym (length-changed_at (lib_changed f id.slot) id.lib.0 d.libs);
  cells = λ cell. room.cells cell ∙ ⊎_elim
      (λ (same : cell ≡ id). subst (λ (c : CellId). marked (cell_at d c) ≡ marked (cell_at (with_changed_cell d id f) c)) (sym same)
      (sym (ap marked (cell_at-changed_same d id f) ∙ marked_map f (cell_at d id))))
      (λ (apart : cell ≢ id). ap marked (sym (cell_at-changed_other d id f cell apart)))
      (cases_cell cell id);
}
