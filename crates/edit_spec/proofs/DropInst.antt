-- Removing an instance is an operation.
use Rattle.std.proofs.Common.{◌≡◌, ℕ, List, [], ◌∷◌, Option, Some, None, ap, ◌∙◌, length, inl, inr, ⊎_elim, ◌++◌, refl}
use Rattle.std.specs.List.{All}
use Rattle.std.specs.Option.{option_map, option_to_list}
use Rattle.std.specs.Prelude.{◌==◌}
use Rattle.netlist_schema.specs.Design.{Design, insts_in}
use Rattle.netlist_schema.specs.Hierarchy.{IsCell}
use Rattle.netlist_schema.specs.Types.{CellId, Contents, Object, Note, TopHead}
use Rattle.netlist_schema.specs.Valid.{IsValid}
use Rattle.edit_rules_spec.specs.Edit.{inner, edited, edited_once, Edit, IsChanged, AllGoLast, AllPlaceOld, AllFindOld}
use Rattle.edit_rules_spec.specs.Find.{cell_named, inst_place}
use Rattle.edit_rules_spec.specs.Local.{IsLocal}
use Rattle.edit_rules_spec.specs.Notes.{seen_if, other_notes}
use Rattle.edit_rules_spec.specs.Objects.{AgreesOn}
use Rattle.edit_rules_spec.specs.Reading.{IsForCell, IsForNotes}
use Rattle.edit_rules_spec.specs.Rule.{first, no_lib, no_cell, no_inst}
use Rattle.edit_rules_spec.specs.Seen.{named, inside}
use Rattle.edit_rules_spec.specs.declared.reply.CellName.{CellName}
use Rattle.edit_rules_spec.proofs.Edits.{changed-cases}
use Rattle.edit_spec.specs.DropInst.{without_inst, set_notes, drop_inst, drop_inst_of, drop_inst_needs}
use Rattle.edit_rules_spec.proofs.Named.{cell_there}
use Rattle.edit_rules_spec.proofs.Reached.{either_same, iff_trans, seen_others_same, seen_notes_same, for_notes_same}
use Rattle.edit_rules_spec.proofs.Refusals.{first_none}
use Rattle.edit_rules_spec.proofs.Same.{both_ways, named_same, inside_same, cell_needs_same, by_name, cell_named_same}
use Rattle.edit_spec.proofs.Changed.{insts_there, inside_written, is_notes, one_less, set_last, set_places, set_finds}
use Rattle.edit_spec.proofs.DropValid.{drop_edit}
use Rattle.edit_rules_spec.proofs.There.{named_cell_there}

pub drop_inst_done : (d : Design) (cell : CellName) (inst : List ℕ) → IsValid d → first (drop_inst_of cell inst d).refusals ≡ None → IsValid (edited d (drop_inst_of cell inst d).edits)
drop_inst_done d cell inst valid allowed =
    let n1 = first_none (no_lib (named d cell)) (no_cell (named d cell) ∷ no_inst (inside d cell) inst ∷ []) allowed in
    let n2 = first_none (no_cell (named d cell)) (no_inst (inside d cell) inst ∷ []) n1.1 in
    drop_edit d (cell_named d cell) inst valid (first_none (no_inst (inside d cell) inst) [] n2.1).0 (cell_there d cell)

-- an instance is removed, and notes with it
abbrev left : Option CellId → Option Contents → List ℕ → List Note → List Note → List Edit
left cell contents name notes others = option_to_list (option_map (λ id. inner id (without_inst contents name)) cell) ++ set_notes notes others

notes_written : (d : Design) (cell : Option CellId) (top : Option TopHead) (notes others : List Note) (o : Object) → IsChanged (set_notes (seen_if cell notes) (seen_if cell others)) o → IsForNotes d cell top o
notes_written d None top notes others o is = absurd is
notes_written d (Some cell) None notes others o is = is_notes (length others == length notes) others o is
notes_written d (Some cell) (Some top) notes others o is = inl (is_notes (length others == length notes) others o is)

left_last : (d : Design) (cell : Option CellId) (contents : Option Contents) (name : List ℕ) (notes others : List Note) → AllGoLast d (left cell contents name notes others)
left_last d None contents name notes others = set_last d (length others == length notes) others
left_last d (Some cell) contents name notes others = (tt, set_last (edited_once d (inner cell (without_inst contents name))) (length others == length notes) others)

left_finds : (d : Design) (cell : Option CellId) (contents : Option Contents) (name : List ℕ) (notes others : List Note) → ((c : CellId) → cell ≡ Some c → IsCell d c) → AllFindOld d (left cell contents name notes others)
left_finds d None contents name notes others there = set_finds d (length others == length notes) others
left_finds d (Some cell) contents name notes others there = (there cell refl, set_finds (edited_once d (inner cell (without_inst contents name))) (length others == length notes) others)

left_places : (d : Design) (cell : Option CellId) (contents : Option Contents) (name : List ℕ) (notes others : List Note) → All (λ inst. IsCell d inst.of) (insts_in contents) → AllPlaceOld d (left cell contents name notes others)
left_places d None contents name notes others all = set_places d (length others == length notes) others
left_places d (Some cell) contents name notes others all =
    (one_less d (inst_place name (insts_in contents)) (insts_in contents) all, set_places (edited_once d (inner cell (without_inst contents name))) (length others == length notes) others)

pub drop_inst_local : (cell : CellName) (inst : List ℕ) → IsLocal (drop_inst_of cell inst) (drop_inst_needs cell) (Unit {0})
drop_inst_local cell inst = record {
  same = λ d e closed grown agree.
      let whole : AgreesOn d e (IsForCell d cell) = λ o is. agree o (inl is) in
      let for_notes : AgreesOn d e (IsForNotes d (cell_named d cell) d.top) = λ o is. agree o (inr is) in
      let is_cell : cell_named d cell ≡ cell_named e cell = cell_named_same d e cell grown (by_name d e cell whole) in
      let notes : seen_if (cell_named d cell) d.notes ≡ seen_if (cell_named e cell) e.notes = seen_notes_same d e (cell_named d cell) for_notes ∙ ap (λ (c : Option CellId). seen_if c e.notes) is_cell in
      let others : seen_if (cell_named d cell) (other_notes d (cell_named d cell) inst) ≡ seen_if (cell_named e cell) (other_notes e (cell_named e cell) inst) =
      seen_others_same d e (cell_named d cell) inst grown for_notes ∙ ap (λ (c : Option CellId). seen_if c (other_notes e c inst)) is_cell in
      λ i. drop_inst (named_same d e cell grown (by_name d e cell whole) i) (inside_same d e cell grown whole i) (notes i) (others i) inst;
  needs_same = λ d e grown agree o.
      let whole : AgreesOn d e (IsForCell d cell) = λ ob is. agree ob (inl is) in
      either_same (cell_needs_same d e cell o grown whole)
      (iff_trans (for_notes_same d e (cell_named d cell) d.top o (λ ob is. agree ob (inr is)))
      (iff_trans (both_ways (λ (c : Option CellId). IsForNotes e c d.top o) (cell_named d cell) (cell_named e cell) (cell_named_same d e cell grown (by_name d e cell whole)))
      (both_ways (λ (top : Option TopHead). IsForNotes e (cell_named e cell) top o) d.top e.top grown.top)));
  writes_seen = λ d o is. ⊎_elim
      (λ (here : IsChanged (option_to_list (option_map (λ id. inner id (without_inst (inside d cell) inst)) (cell_named d cell))) o).
      inl (inl (inr (inside_written (cell_named d cell) (without_inst (inside d cell) inst) o here))))
      (λ (there : IsChanged (set_notes (seen_if (cell_named d cell) d.notes) (seen_if (cell_named d cell) (other_notes d (cell_named d cell) inst))) o).
      inl (inr (notes_written d (cell_named d cell) d.top d.notes (other_notes d (cell_named d cell) inst) o there)))
      (changed-cases (option_to_list (option_map (λ id. inner id (without_inst (inside d cell) inst)) (cell_named d cell))) (set_notes (seen_if (cell_named d cell) d.notes) (seen_if (cell_named d cell) (other_notes d (cell_named d cell) inst))) o is);
  last = λ d. left_last d (cell_named d cell) (inside d cell) inst (seen_if (cell_named d cell) d.notes) (seen_if (cell_named d cell) (other_notes d (cell_named d cell) inst));
  finds = λ d. left_finds d (cell_named d cell) (inside d cell) inst (seen_if (cell_named d cell) d.notes) (seen_if (cell_named d cell) (other_notes d (cell_named d cell) inst)) (named_cell_there d cell);
  places = λ d closed. left_places d (cell_named d cell) (inside d cell) inst (seen_if (cell_named d cell) d.notes) (seen_if (cell_named d cell) (other_notes d (cell_named d cell) inst)) (insts_there d (cell_named d cell) closed);
  valid = λ d typed valid allowed. drop_inst_done d cell inst valid allowed;
  refuses = λ d. inr (λ refusal. refusal);
}
