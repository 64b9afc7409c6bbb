-- A change of a cell's contents and of the notes keeps a design valid, where the new contents and notes are good.
use Rattle.std.proofs.Common.{◌≡◌, ◌≢◌, ◌⊎◌, inl, inr, ⊎_elim, ℕ, ◌≤◌, List, [], ◌∷◌, map, length, Option, Some, None, refl, sym, ap, subst, ◌∙◌, slice_get}
use Rattle.std.specs.Prelude.{IfSome, IfNone, IsSomeAnd, flat_map}
use Rattle.std.specs.List.{All, Contains}
use Rattle.std.specs.Option.{option_map}
use Rattle.netlist_schema.specs.Design.{Design, cell_at, insts_of, ends_of}
use Rattle.netlist_schema.specs.Hierarchy.{IsCell, HasInst, IsBelow, placed, deeper, NoCellIsBelowItself, Resolves}
use Rattle.netlist_schema.specs.Names.{AreDistinct, HasDistinctKeys, cell_names, note_key}
use Rattle.netlist_schema.specs.Typed.{IsTypedCell, IsTypedName, IsTypedInst, IsTypedNet, IsTypedNote}
use Rattle.netlist_schema.specs.Types.{CellBody, CellId, Contents, End, Inst, Lib, Note, Port, TopHead}
use Rattle.netlist_schema.specs.Valid.{IsValid, IsValidCell, IsEndAt, IsEndOf, HasBit, IsNoteBelow}
use Rattle.netlist_schema.proofs.Cells.{cell_of_inst}
use Rattle.netlist_schema.proofs.WithCell.{All-weaker, cases_cell}
use Rattle.edit_rules_spec.specs.Edit.{noted, changed_at, edited_once}
use Rattle.edit_rules_spec.specs.Objects.{Outside, outside_of, outside_at}
use Rattle.edit_rules_spec.proofs.Closed.{has_inst, changed_body}
use Rattle.edit_rules_spec.proofs.Edits.{map-changed_at, cell_at-changed_same, cell_at-changed_other}
use Rattle.edit_rules_spec.proofs.Filled.{fill, filled, filled_alike, filled_cell_after}
use Rattle.edit_rules_spec.proofs.Lists.{All-changed_at, length-changed_at}

-- contents that may stand in a cell
pub record AreGoodContents (d : Design) (id : CellId) (old : CellBody) (contents : Contents) : Type 0 where
  pub typed_insts : All IsTypedInst contents.insts
  pub typed_nets : All IsTypedNet contents.nets
  pub inst_count : length contents.insts ≤ 1048576
  pub net_count : length contents.nets ≤ 1048576
  pub end_count : length (flat_map (λ net. net.ends) contents.nets) ≤ 4194304
  pub inst_names : AreDistinct (map (λ inst. inst.name.id) contents.insts)
  pub net_names : AreDistinct (map (λ net. net.name.id) contents.nets)
  pub inst_properties : All (λ inst. HasDistinctKeys inst.properties) contents.insts
  pub net_properties : All (λ net. HasDistinctKeys net.properties) contents.nets
  pub places : All (λ inst. IsCell d inst.of) contents.insts
  pub not_later : All (λ inst. inst.of.lib.0 ≤ id.lib.0) contents.insts
  pub ends : All (IsEndOf d (fill contents old)) (flat_map (λ net. net.ends) contents.nets)
  pub once : AreDistinct (flat_map (λ net. net.ends) contents.nets)

-- notes that may stand in a design
pub record AreGoodNotes (d : Design) (top : Option TopHead) (notes : List Note) : Type 0 where
  pub typed : All IsTypedNote notes
  pub count : length notes ≤ 1048576
  pub below : IfSome top (λ t. All (IsNoteBelow d t.cell) notes)
  pub need_top : IfNone top (notes ≡ [])
  pub differ : AreDistinct (map note_key notes)

pub good_notes_before : (d : Design) → IsValid d → AreGoodNotes d d.top d.notes
good_notes_before d valid = record { typed = valid.typed.notes; count = valid.limits.notes; below = valid.notes; need_top = valid.notes_need_top; differ = valid.notes_differ }

pub weaker_top : (top : Option TopHead) (P Q : TopHead → Type 0) → ((t : TopHead) → P t → Q t) → IfSome top P → IfSome top Q
weaker_top None P Q follows is = tt
weaker_top (Some t) P Q follows is = follows t is

pub weaker_inst : (o : Option Inst) (P Q : Inst → Type 0) → ((x : Inst) → P x → Q x) → IsSomeAnd o P → IsSomeAnd o Q
weaker_inst None P Q follows is = absurd is
weaker_inst (Some x) P Q follows is = follows x is

-- the bits of a cell with the same outside
bit_there : (o p : Option CellBody) (port bit : ℕ) → option_map outside_of p ≡ option_map outside_of o → IsSomeAnd o (λ of. HasBit of.ports port bit) → IsSomeAnd p (λ of. HasBit of.ports port bit)
bit_there None p port bit same has = absurd has
bit_there (Some a) None port bit same has = cc
bit_there (Some a) (Some b) port bit same has =
    let outsides : outside_of b ≡ outside_of a = cc in
    subst (λ (ports : List Port). HasBit ports port bit) (sym (ap (λ (o : Outside). o.ports) outsides)) has

end_at_there : (d e : Design) (body : CellBody) → ((c : CellId) → outside_at e c ≡ outside_at d c) → (inst : Option ℕ) (port bit : ℕ) → IsEndAt d body inst port bit → IsEndAt e body inst port bit
end_at_there d e body same None port bit is = is
end_at_there d e body same (Some place) port bit is =
    weaker_inst (slice_get (insts_of body) place) (λ inst. IsSomeAnd (cell_at d inst.of) (λ of. HasBit of.ports port bit)) (λ inst. IsSomeAnd (cell_at e inst.of) (λ of. HasBit of.ports port bit))
    (λ inst has. bit_there (cell_at d inst.of) (cell_at e inst.of) port bit (same inst.of) has) is

-- the instances afterwards
pub inst_after : (d : Design) (id : CellId) (contents : Contents) (other : CellId) (inst : Inst) → HasInst (filled d id contents) other inst → ((other ≡ id) × Contains contents.insts inst) ⊎ ((other ≢ id) × HasInst d other inst)
inst_after d id contents other inst has =
    let e = filled d id contents in
    let found = cell_of_inst e other inst has in
    ⊎_elim
    (λ (at : other ≡ id).
    let here : cell_at e id ≡ Some found.0 = subst (λ (c : CellId). cell_at e c ≡ Some found.0) at found.1 in
    let changed = changed_body (fill contents) (cell_at d id) found.0 (sym (cell_at-changed_same d id (fill contents)) ∙ here) in
    inl (at, subst (λ (b : CellBody). Contains (insts_of b) inst) changed.2 found.2))
    (λ (apart : other ≢ id). inr (apart, has_inst d other found.0 inst (sym (cell_at-changed_other d id (fill contents) other apart) ∙ found.1) found.2))
    (cases_cell other id)

pub inst_here : (d : Design) (id : CellId) (old : CellBody) (contents : Contents) (inst : Inst) → cell_at d id ≡ Some old → Contains contents.insts inst → HasInst (filled d id contents) id inst
inst_here d id old contents inst found has =
    has_inst (filled d id contents) id (fill contents old) inst (cell_at-changed_same d id (fill contents) ∙ ap (option_map (fill contents)) found) has

pub inst_elsewhere : (d : Design) (id : CellId) (contents : Contents) (other : CellId) (inst : Inst) → other ≢ id → HasInst d other inst → HasInst (filled d id contents) other inst
inst_elsewhere d id contents other inst apart has =
    let found = cell_of_inst d other inst has in
    has_inst (filled d id contents) other found.0 inst (cell_at-changed_other d id (fill contents) other apart ∙ found.1) found.2

-- fewer instances, less is below
pub below_with_more : (d e : Design) → ((id : CellId) (inst : Inst) → HasInst e id inst → HasInst d id inst) → {inner outer : CellId} → IsBelow e inner outer → IsBelow d inner outer
below_with_more d e has (placed {id} inst is) = placed inst (has id inst is)
below_with_more d e has (deeper {inner} {id} inst is below) = deeper inst (has id inst is) (below_with_more d e has below)

pub resolves_with_more : (d e : Design) → ((id : CellId) (inst : Inst) → HasInst d id inst → HasInst e id inst) → (path : List (List ℕ)) (at : CellId) → Resolves d at path → Resolves e at path
resolves_with_more d e has [] at is = tt
resolves_with_more d e has (step ∷ steps) at is = (is.0, has at is.0 is.1, is.2, resolves_with_more d e has steps is.0.of is.3)

abbrev pub with_both : Design → CellId → Contents → List Note → Design
with_both d id contents notes = edited_once (filled d id contents) (noted notes)

typed_with : (contents : Contents) (body : CellBody) → All IsTypedInst contents.insts → All IsTypedNet contents.nets → IsTypedCell body → IsTypedCell (fill contents body)
typed_with contents body insts nets typed = record {
  name = typed.name;
  properties = typed.properties;
  view = typed.view;
  view_properties = typed.view_properties;
  interface_properties = typed.interface_properties;
  ports = typed.ports;
  insts = insts;
  nets = nets;
}

pub inner_valid : (d : Design) (id : CellId) (old : CellBody) (contents : Contents) (notes : List Note) → IsValid d → cell_at d id ≡ Some old → AreGoodContents d id old contents → AreGoodNotes (with_both d id contents notes) d.top notes → NoCellIsBelowItself (with_both d id contents notes) → IsValid (with_both d id contents notes)
inner_valid d id old contents notes valid found good good_notes no_cycle =
    let f = with_both d id contents notes in
    let e = filled d id contents in
    let put : CellBody → CellBody = fill contents in
    let change : Lib → Lib = λ lib. record lib { cells = changed_at put id.slot lib.cells } in
    let was : IsValidCell d id old = valid.cells id old found in
    let cell_after : (c : CellId) → IsCell d c → IsCell f c = λ c is. filled_cell_after d id contents c is in
    let outside_after : (c : CellId) → outside_at f c ≡ outside_at d c = λ c. (filled_alike d id contents).outside c in
    let cells_after : (insts : List Inst) → All (λ inst. IsCell d inst.of) insts → All (λ inst. IsCell f inst.of) insts = λ insts all. All-weaker (λ (inst : Inst). IsCell d inst.of) (λ (inst : Inst). IsCell f inst.of) insts (λ inst is. cell_after inst.of is) all in
    let ends_after : (body : CellBody) (ends : List End) → All (IsEndOf d body) ends → All (IsEndOf f body) ends = λ body ends all. All-weaker (IsEndOf d body) (IsEndOf f body) ends (λ end is. end_at_there d f body outside_after end.inst end.port end.bit is) all in
    let here : IsValidCell f id (put old) = record {
      limits = record { ports = was.limits.ports; bits = was.limits.bits; insts = good.inst_count; nets = good.net_count; ends = good.end_count };
      names = record {
        ports = was.names.ports;
        insts = good.inst_names;
        nets = good.net_names;
        properties = was.names.properties;
        view_properties = was.names.view_properties;
        interface_properties = was.names.interface_properties;
        port_properties = was.names.port_properties;
        inst_properties = good.inst_properties;
        net_properties = good.net_properties;
      };
      placed = cells_after contents.insts good.places;
      not_later = good.not_later;
      ends = ends_after (put old) (ends_of (put old)) good.ends;
      joined_once = good.once;
    } in
    let there : (other : CellId) (body : CellBody) → IsValidCell d other body → IsValidCell f other body = λ other body is. record {
      limits = is.limits;
      names = is.names;
      placed = cells_after (insts_of body) is.placed;
      not_later = is.not_later;
      ends = ends_after body (ends_of body) is.ends;
      joined_once = is.joined_once;
    } in
    record {
      typed = record {
        title = valid.typed.title;
        libs = All-changed_at (λ (l : Lib). IsTypedName l.head.name) change (λ l is. is) id.lib.0 d.libs valid.typed.libs;
        cells = All-changed_at (λ (l : Lib). All IsTypedCell l.cells) change (λ l is. All-changed_at IsTypedCell put (λ body typed. typed_with contents body good.typed_insts good.typed_nets typed) id.slot l.cells is) id.lib.0 d.libs valid.typed.cells;
        top = valid.typed.top;
        notes = good_notes.typed;
      };
      limits = record {
        libs = subst (λ n. n ≤ 1024) (sym (length-changed_at change id.lib.0 d.libs)) valid.limits.libs;
        cells = All-changed_at (λ (l : Lib). length l.cells ≤ 65536) change (λ l is. subst (λ n. n ≤ 65536) (sym (length-changed_at put id.slot l.cells)) is) id.lib.0 d.libs valid.limits.cells;
        notes = good_notes.count;
      };
      names = record {
        libs = subst (λ (names : List (List ℕ)). AreDistinct names) (sym (map-changed_at change (λ (l : Lib). l.head.name.id) (λ _. refl) id.lib.0 d.libs)) valid.names.libs;
        cells = All-changed_at (λ (l : Lib). AreDistinct (cell_names l.cells)) change (λ l is. subst (λ (names : List (List ℕ)). AreDistinct names) (sym (map-changed_at put (λ (c : CellBody). c.name.id) (λ _. refl) id.slot l.cells)) is) id.lib.0 d.libs valid.names.cells;
      };
      cells = λ other body is. ⊎_elim
          (λ (at : other ≡ id).
          let now : cell_at e id ≡ Some body = subst (λ (c : CellId). cell_at e c ≡ Some body) at is in
          let changed = changed_body put (cell_at d id) body (sym (cell_at-changed_same d id put) ∙ now) in
          let olds : ◌≡◌ {A = Option CellBody} (Some changed.0) (Some old) = sym changed.1 ∙ found in
          let old_is : changed.0 ≡ old = cc in
          let body_is : body ≡ put old = changed.2 ∙ ap put old_is in
          subst (λ (c : CellId). IsValidCell f c body) (sym at) (subst (λ (b : CellBody). IsValidCell f id b) (sym body_is) here))
          (λ (apart : other ≢ id). there other body (valid.cells other body (sym (cell_at-changed_other d id put other apart) ∙ is)))
          (cases_cell other id);
      no_cycle = no_cycle;
      top = weaker_top d.top (λ t. IsCell d t.cell × HasDistinctKeys t.properties) (λ t. IsCell f t.cell × HasDistinctKeys t.properties) (λ t is. (cell_after t.cell is.0, is.1)) valid.top;
      notes = good_notes.below;
      notes_need_top = good_notes.need_top;
      notes_differ = good_notes.differ;
    }

-- other notes alone
pub notes_valid : (d : Design) (notes : List Note) → IsValid d → AreGoodNotes d d.top notes → IsValid (edited_once d (noted notes))
notes_valid d notes valid good =
    let f = edited_once d (noted notes) in
    record {
      typed = record { title = valid.typed.title; libs = valid.typed.libs; cells = valid.typed.cells; top = valid.typed.top; notes = good.typed };
      limits = record { libs = valid.limits.libs; cells = valid.limits.cells; notes = good.count };
      names = record { libs = valid.names.libs; cells = valid.names.cells };
      cells = λ id body found. let is = valid.cells id body found in record { limits = is.limits; names = is.names; placed = is.placed; not_later = is.not_later; ends = is.ends; joined_once = is.joined_once };
      no_cycle = λ id below. valid.no_cycle id (below_with_more d f (λ _ _ has. has) below);
      top = valid.top;
      notes = weaker_top d.top (λ t. All (IsNoteBelow d t.cell) notes) (λ t. All (IsNoteBelow f t.cell) notes) (λ t all.
          All-weaker (IsNoteBelow d t.cell) (IsNoteBelow f t.cell) notes (λ note is. record { has_step = is.has_step; resolves = resolves_with_more d f (λ _ _ has. has) note.path t.cell is.resolves }) all) good.below;
      notes_need_top = good.need_top;
      notes_differ = good.differ;
    }
