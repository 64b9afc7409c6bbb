-- One more cell keeps a design valid, a copy of a cell for one.
use Rattle.std.proofs.Common.{Contains, ◌≡◌, ◌≢◌, ⊎_elim, ℕ, zero, suc, ◌+◌, ◌<◌, ◌≤◌, arith, List, [], ◌∷◌, ◌++◌, length, Option, Some, None, refl, sym, subst, length-append, slice_get}
use Rattle.std.specs.Prelude.{IsSomeAnd}
use Rattle.std.specs.List.{All, AllByRecursion}
use Rattle.std.specs.Option.{option_map_or}
use Rattle.std.proofs.lemmas.List.{map-append}
use Rattle.std.proofs.lemmas.List.Elements.{All-push, recursion_from_All, All-from_recursion}
use Rattle.netlist_schema.specs.Design.{Design, cell_at, lib_at, insts_of, ends_of}
use Rattle.netlist_schema.specs.Hierarchy.{IsCell, HasInst, IsBelow, placed, deeper, NoCellIsBelowItself}
use Rattle.netlist_schema.specs.Names.{AreDistinct, HasDistinctKeys, cell_names}
use Rattle.netlist_schema.specs.Typed.{IsTypedCell, IsTypedName}
use Rattle.netlist_schema.specs.Types.{CellBody, CellId, Inst, Lib, LibId, Name}
use Rattle.netlist_schema.specs.Valid.{IsValid, IsValidCell, IsEndAt, IsEndOf, HasBit, IsNoteBelow}
use Rattle.netlist_schema.proofs.Cells.{cell_of_inst, All-cell_at}
use Rattle.netlist_schema.proofs.WithCell.{All-weaker}
use Rattle.edit_rules_spec.specs.Edit.{fresh, edited_once, changed_at, lib_with_more, with_more_cell}
use Rattle.edit_rules_spec.specs.Objects.{IsClosed}
use Rattle.edit_rules_spec.proofs.Closed.{is_cell_after, kept_with_more, has_inst, more_placed, some_cell, valid_is_closed, old_or_new_here}
use Rattle.edit_rules_spec.proofs.Edits.{map-changed_at}
use Rattle.edit_rules_spec.proofs.InnerValid.{weaker_top, resolves_with_more, weaker_inst}
use Rattle.edit_rules_spec.proofs.Lists.{apart_more, apart_of, distinct_of, length-changed_at}

-- a change at one place
each_item_at : {X : Type 0} (P : X → Type 0) (f : X → X) (i : ℕ) (xs : List X) → ((x : X) → slice_get xs i ≡ Some x → P x → P (f x)) → AllByRecursion P xs → AllByRecursion P (changed_at f i xs)
each_item_at P f i [] keeps all = all
each_item_at P f zero (x ∷ xs) keeps all = (keeps x refl all.0, all.1)
each_item_at P f (suc i) (x ∷ xs) keeps all = (all.0, each_item_at P f i xs keeps all.1)

All_item_at : {X : Type 0} (P : X → Type 0) (f : X → X) (i : ℕ) (xs : List X) → ((x : X) → slice_get xs i ≡ Some x → P x → P (f x)) → All P xs → All P (changed_at f i xs)
All_item_at P f i xs keeps all = All-from_recursion P (changed_at f i xs) (each_item_at P f i xs keeps (recursion_from_All P xs all))

-- an end of a cell that was there
some_kept : (o p : Option CellBody) (Q : CellBody → Type 0) → ((b : CellBody) → o ≡ Some b → p ≡ Some b) → IsSomeAnd o Q → IsSomeAnd p Q
some_kept None p Q kept is = absurd is
some_kept (Some b) p Q kept is = subst (λ (x : Option CellBody). IsSomeAnd x Q) (sym (kept b refl)) is

pub end_with_more : (d : Design) (lib : LibId) (new body : CellBody) (inst : Option ℕ) (port bit : ℕ) → IsEndAt d body inst port bit → IsEndAt (with_more_cell d lib new) body inst port bit
end_with_more d lib new body None port bit is = is
end_with_more d lib new body (Some place) port bit is =
    weaker_inst (slice_get (insts_of body) place) (λ inst. IsSomeAnd (cell_at d inst.of) (λ of. HasBit of.ports port bit)) (λ inst. IsSomeAnd (cell_at (with_more_cell d lib new) inst.of) (λ of. HasBit of.ports port bit))
    (λ inst has. some_kept (cell_at d inst.of) (cell_at (with_more_cell d lib new) inst.of) (λ of. HasBit of.ports port bit) (λ b. kept_with_more d lib new inst.of b) has) is

-- a new cell that may stand in a library
pub record IsGoodCell (d : Design) (lib : LibId) (body : CellBody) : Type 0 where
  pub typed : IsTypedCell body
  pub valid : (id : CellId) → id.lib.0 ≡ lib.0 → IsValidCell (with_more_cell d lib body) id body
  -- what it places is there already
  pub old : All (λ inst. IsCell d inst.of) (insts_of body)
  pub room : (l : Lib) → lib_at d lib ≡ Some l → length l.cells < 65536
  pub free : (l : Lib) → lib_at d lib ≡ Some l → AllByRecursion (λ name. name ≢ body.name.id) (cell_names l.cells)

-- what is placed was there, so nothing is below itself that was not before
module _ (d : Design) (lib : LibId) (body : CellBody) (closed : IsClosed d) (old : All (λ inst. IsCell d inst.of) (insts_of body)) where
  placed_old : {inner outer : CellId} → IsBelow (with_more_cell d lib body) inner outer → IsCell d inner
  placed_old (placed {id} inst has) = more_placed d lib body id inst old closed has
  placed_old (deeper {inner} {id} inst has below) = placed_old below

  had_inst : (id : CellId) (inst : Inst) → IsCell d id → HasInst (with_more_cell d lib body) id inst → HasInst d id inst
  had_inst id inst is has =
      let was = some_cell (cell_at d id) is in
      has_inst d id was.0 inst was.1 (subst (λ (o : Option CellBody). Contains (option_map_or insts_of o []) inst) (kept_with_more d lib body id was.0 was.1) has)

  below_old : {inner outer : CellId} → IsCell d outer → IsBelow (with_more_cell d lib body) inner outer → IsBelow d inner outer
  below_old is (placed {id} inst has) = placed inst (had_inst id inst is has)
  below_old is (deeper {inner} {id} inst has below) = deeper inst (had_inst id inst is has) (below_old (more_placed d lib body id inst old closed has) below)

  no_new_cycle : NoCellIsBelowItself d → NoCellIsBelowItself (with_more_cell d lib body)
  no_new_cycle none x below = none x (below_old (placed_old below) below)

pub more_cell_valid : (d : Design) (id : CellId) (body : CellBody) → IsValid d → IsGoodCell d id.lib body → IsValid (edited_once d (fresh id body))
more_cell_valid d id body valid good =
    let f = with_more_cell d id.lib body in
    let change : Lib → Lib = lib_with_more body in
    let cell_after : (c : CellId) → IsCell d c → IsCell f c = λ c is. is_cell_after (fresh id body) d c is in
    let more : (other : CellId) (inst : Inst) → HasInst d other inst → HasInst f other inst = λ other inst has.
    let found = cell_of_inst d other inst has in
    has_inst f other found.0 inst (kept_with_more d id.lib body other found.0 found.1) found.2 in
    record {
      typed = record {
        title = valid.typed.title;
        libs = All_item_at (λ (l : Lib). IsTypedName l.head.name) change id.lib.0 d.libs (λ l at is. is) valid.typed.libs;
        cells = All_item_at (λ (l : Lib). All IsTypedCell l.cells) change id.lib.0 d.libs (λ l at is. All-push IsTypedCell l.cells body is good.typed) valid.typed.cells;
        top = valid.typed.top;
        notes = valid.typed.notes;
      };
      limits = record {
        libs = subst (λ n. n ≤ 1024) (sym (length-changed_at change id.lib.0 d.libs)) valid.limits.libs;
        cells = All_item_at (λ (l : Lib). length l.cells ≤ 65536) change id.lib.0 d.libs (λ l at is.
            let room : length l.cells < 65536 = good.room l at in
            let one_more : length (l.cells ++ body ∷ []) ≡ length l.cells + 1 = length-append l.cells (body ∷ []) in
            omega arith) valid.limits.cells;
        notes = valid.limits.notes;
      };
      names = record {
        libs = subst (λ (names : List (List ℕ)). AreDistinct names) (sym (map-changed_at change (λ (l : Lib). l.head.name.id) (λ _. refl) id.lib.0 d.libs)) valid.names.libs;
        cells = All_item_at (λ (l : Lib). AreDistinct (cell_names l.cells)) change id.lib.0 d.libs (λ l at is.
            subst (λ (names : List (List ℕ)). AreDistinct names) (sym (map-append (λ (c : CellBody). c.name.id) l.cells (body ∷ [])))
            (distinct_of (cell_names l.cells ++ body.name.id ∷ []) (apart_more (cell_names l.cells) body.name.id (good.free l at) (apart_of (cell_names l.cells) is)))) valid.names.cells;
      };
      cells = λ other found is. ⊎_elim
          (λ (old : cell_at d other ≡ Some found).
          let was = valid.cells other found old in
          record {
            limits = was.limits;
            names = was.names;
            placed = All-weaker (λ (inst : Inst). IsCell d inst.of) (λ (inst : Inst). IsCell f inst.of) (insts_of found) (λ inst there. cell_after inst.of there) was.placed;
            not_later = was.not_later;
            ends = All-weaker (IsEndOf d found) (IsEndOf f found) (ends_of found) (λ end at. end_with_more d id.lib body found end.inst end.port end.bit at) was.ends;
            joined_once = was.joined_once;
          })
          (λ (new : (found ≡ body) × (other.lib.0 ≡ id.lib.0)). subst (λ (b : CellBody). IsValidCell f other b) (sym new.0) (good.valid other new.1))
          (old_or_new_here d id.lib body other found is);
      no_cycle = no_new_cycle d id.lib body (valid_is_closed d valid) good.old valid.no_cycle;
      top = weaker_top d.top (λ t. IsCell d t.cell × HasDistinctKeys t.properties) (λ t. IsCell f t.cell × HasDistinctKeys t.properties) (λ t is. (cell_after t.cell is.0, is.1)) valid.top;
      notes = weaker_top d.top (λ t. All (IsNoteBelow d t.cell) d.notes) (λ t. All (IsNoteBelow f t.cell) d.notes) (λ t all.
          All-weaker (IsNoteBelow d t.cell) (IsNoteBelow f t.cell) d.notes (λ note is. record { has_step = is.has_step; resolves = resolves_with_more d f more note.path t.cell is.resolves }) all) valid.notes;
      notes_need_top = valid.notes_need_top;
      notes_differ = valid.notes_differ;
    }

-- ---- a copy of a cell

copied_end : (d : Design) (old : CellBody) (name : Name) (inst : Option ℕ) (port bit : ℕ) → IsEndAt d old inst port bit → IsEndAt d (record old { name = name }) inst port bit
copied_end d old name None port bit is = is
copied_end d old name (Some place) port bit is = is

-- a copy of a cell in its library, under a name that is free
pub copy_good : (d : Design) (id : CellId) (old : CellBody) (name : Name) → IsValid d → cell_at d id ≡ Some old → IsTypedName name
    → ((l : Lib) → lib_at d id.lib ≡ Some l → length l.cells < 65536)
    → ((l : Lib) → lib_at d id.lib ≡ Some l → AllByRecursion (λ other. other ≢ name.id) (cell_names l.cells))
    → IsGoodCell d id.lib (record old { name = name })
copy_good d id old name valid found named room free =
    let copy : CellBody = record old { name = name } in
    let f = with_more_cell d id.lib copy in
    let was = valid.cells id old found in
    let typed : IsTypedCell old = All-cell_at IsTypedCell d id old valid.typed.cells found in
    record {
      typed = record {
        name = named;
        properties = typed.properties;
        view = typed.view;
        view_properties = typed.view_properties;
        interface_properties = typed.interface_properties;
        ports = typed.ports;
        insts = typed.insts;
        nets = typed.nets;
      };
      valid = λ other lib. record {
        limits = record { ports = was.limits.ports; bits = was.limits.bits; insts = was.limits.insts; nets = was.limits.nets; ends = was.limits.ends };
        names = record {
          ports = was.names.ports;
          insts = was.names.insts;
          nets = was.names.nets;
          properties = was.names.properties;
          view_properties = was.names.view_properties;
          interface_properties = was.names.interface_properties;
          port_properties = was.names.port_properties;
          inst_properties = was.names.inst_properties;
          net_properties = was.names.net_properties;
        };
        placed = All-weaker (λ (inst : Inst). IsCell d inst.of) (λ (inst : Inst). IsCell f inst.of) (insts_of old) (λ inst there. is_cell_after (fresh id copy) d inst.of there) was.placed;
        not_later = All-weaker (λ (inst : Inst). inst.of.lib.0 ≤ id.lib.0) (λ (inst : Inst). inst.of.lib.0 ≤ other.lib.0) (insts_of old) (λ inst at_most. omega (arith, at_most, lib)) was.not_later;
        ends = All-weaker (IsEndOf d old) (IsEndOf f copy) (ends_of old) (λ end at. copied_end f old name end.inst end.port end.bit (end_with_more d id.lib copy old end.inst end.port end.bit at)) was.ends;
        joined_once = was.joined_once;
      };
      old = was.placed;
      room = room;
      free = free;
    }

pub copy_is_valid : (d : Design) (id new : CellId) (old : CellBody) (name : Name) → new.lib ≡ id.lib → IsValid d → cell_at d id ≡ Some old → IsTypedName name
    → ((l : Lib) → lib_at d id.lib ≡ Some l → length l.cells < 65536)
    → ((l : Lib) → lib_at d id.lib ≡ Some l → AllByRecursion (λ other. other ≢ name.id) (cell_names l.cells))
    → IsValid (edited_once d (fresh new (record old { name = name })))
copy_is_valid d id new old name lib valid found named room free =
    more_cell_valid d new (record old { name = name }) valid
    (subst (λ (l : LibId). IsGoodCell d l (record old { name = name })) (sym lib) (copy_good d id old name valid found named room free))
