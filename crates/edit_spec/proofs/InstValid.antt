-- Adding an instance, and setting a property of one, keep a design valid.
use Rattle.std.proofs.Common.{◌≡◌, ◌≢◌, ◌⊎◌, inl, inr, ⊎_elim, ℕ, zero, suc, ◌+◌, ◌<◌, ◌≤◌, true, false, arith, List, [], ◌∷◌, ◌++◌, map, length, Option, Some, None, refl, sym, ap, subst, ◌∙◌, slice_get, slice_index_or, length-append}
use Rattle.std.proofs.lemmas.List.{map-append}
use Rattle.std.proofs.lemmas.List.Elements.{All-push}
use Rattle.std.proofs.lemmas.List.Quantifiers.{all_pairs_push}
use Rattle.std.specs.List.{All, Contains, list_any}
use Rattle.std.specs.Option.{option_map_or}
use Rattle.std.specs.Prelude.{IsSomeAnd}
use Rattle.std.proofs.lemmas.Bool.{or_parts}
use Rattle.netlist_schema.proofs.Cells.{All-cell_at}
use Rattle.netlist_schema.proofs.WithCell.{All-weaker, with_cell_is_valid, cases_cell}
use Rattle.netlist_schema.specs.Change.{shape_of}
use Rattle.netlist_schema.specs.Design.{Design, cell_at, insts_of, nets_of, ends_of}
use Rattle.netlist_schema.specs.Hierarchy.{IsCell, HasInst, IsBelow, placed, deeper, NoCellIsBelowItself}
use Rattle.netlist_schema.specs.Ident.{IsIdentifier}
use Rattle.netlist_schema.specs.Names.{AreDistinct, HasDistinctKeys}
use Rattle.netlist_schema.specs.Typed.{IsTypedCell, IsTypedInst, IsTypedProperty}
use Rattle.netlist_schema.specs.Types.{CellBody, CellId, Contents, Inst, Property}
use Rattle.netlist_schema.specs.Valid.{IsValid, IsValidCell, IsEndAt, IsEndOf, HasBit, IsNoteBelow}
use Rattle.netlist_schema.proofs.Ranks.{below_trans}
use Rattle.edit_rules_spec.specs.Edit.{changed_at}
use Rattle.edit_rules_spec.specs.Find.{is_same}
use Rattle.edit_spec.specs.AddInst.{new_inst}
use Rattle.edit_spec.specs.SetProp.{set_property}
use Rattle.edit_rules_spec.proofs.Edits.{map-changed_at}
use Rattle.edit_rules_spec.proofs.Filled.{fill, filled, with_changed_is}
use Rattle.edit_rules_spec.proofs.InnerValid.{AreGoodContents, good_notes_before, weaker_top, with_both, inner_valid, inst_after, inst_here, inst_elsewhere, resolves_with_more}
use Rattle.edit_rules_spec.proofs.Lists.{All-changed_at, length-changed_at}
use Rattle.edit_rules_spec.proofs.Reached.{Contains-tail}
use Rattle.edit_rules_spec.proofs.Refusals.{is_same-refl}
use Rattle.edit_spec.proofs.Changes.{set_property_typed, set_property_distinct}

-- the contents before are good
pub good_contents_before : (d : Design) (id : CellId) (old : CellBody) → IsValid d → cell_at d id ≡ Some old → AreGoodContents d id old (record { insts = insts_of old; nets = nets_of old })
good_contents_before d id old valid found =
    let cell : IsValidCell d id old = valid.cells id old found in
    let typed : IsTypedCell old = All-cell_at IsTypedCell d id old valid.typed.cells found in
    record {
      typed_insts = typed.insts;
      typed_nets = typed.nets;
      inst_count = cell.limits.insts;
      net_count = cell.limits.nets;
      end_count = cell.limits.ends;
      inst_names = cell.names.insts;
      net_names = cell.names.nets;
      inst_properties = cell.names.inst_properties;
      net_properties = cell.names.net_properties;
      places = cell.placed;
      not_later = cell.not_later;
      ends = All-weaker (IsEndOf d old) (IsEndOf d (fill (record { insts = insts_of old; nets = nets_of old }) old)) (ends_of old) (λ end is. same_insts end.inst end.port end.bit is) cell.ends;
      once = cell.joined_once;
    }
  where
    same_insts : (inst : Option ℕ) (port bit : ℕ) → IsEndAt d old inst port bit → IsEndAt d (fill (record { insts = insts_of old; nets = nets_of old }) old) inst port bit
    same_insts None port bit is = is
    same_insts (Some place) port bit is = is

-- one more instance
some_and_longer : (Q : Inst → Type 0) (xs : List Inst) (y : Inst) (k : ℕ) → IsSomeAnd (slice_get xs k) Q → IsSomeAnd (slice_get (xs ++ y ∷ []) k) Q
some_and_longer Q [] y k is = absurd is
some_and_longer Q (x ∷ xs) y zero is = is
some_and_longer Q (x ∷ xs) y (suc k) is = some_and_longer Q xs y k is

longer_end : (d : Design) (old : CellBody) (new : Inst) (inst : Option ℕ) (port bit : ℕ) → IsEndAt d old inst port bit → IsEndAt d (fill (record { insts = insts_of old ++ new ∷ []; nets = nets_of old }) old) inst port bit
longer_end d old new None port bit is = is
longer_end d old new (Some place) port bit is = some_and_longer (λ inst. IsSomeAnd (cell_at d inst.of) (λ of. HasBit of.ports port bit)) (insts_of old) new place is

inst_apart : (insts : List Inst) (name : List ℕ) → list_any (λ inst. is_same inst.name.id name) insts ≡ false → (k : ℕ) (x : List ℕ) → k < length (map (λ (inst : Inst). inst.name.id) insts) → slice_index_or (map (λ (inst : Inst). inst.name.id) insts) k x ≢ name
inst_apart [] name none k x within = absurd (omega arith)
inst_apart (inst ∷ insts) name none zero x within =
    let here = (or_parts (is_same inst.name.id name) (list_any (λ n. is_same n.name.id name) insts) none).0 in
    λ same. let there : is_same inst.name.id name ≡ true = is_same-refl inst.name.id name same in let never : true ≡ false = sym there ∙ here in cc
inst_apart (inst ∷ insts) name none (suc k) x within =
    inst_apart insts name (or_parts (is_same inst.name.id name) (list_any (λ n. is_same n.name.id name) insts) none).1 k x (omega arith)

pub more_good : (d : Design) (id of : CellId) (old : CellBody) (name : List ℕ) → IsIdentifier name → list_any (λ inst. is_same inst.name.id name) (insts_of old) ≡ false → length (insts_of old) < 1048576 → IsCell d of → of.lib.0 ≤ id.lib.0 → IsValid d → cell_at d id ≡ Some old → AreGoodContents d id old (record { insts = insts_of old ++ new_inst name of ∷ []; nets = nets_of old })
more_good d id of old name identifier free room there not_later valid found =
    let was = good_contents_before d id old valid found in
    let cell : IsValidCell d id old = valid.cells id old found in
    let insts = insts_of old in
    let new = new_inst name of in
    let one_more : length (insts ++ new ∷ []) ≡ length insts + 1 = length-append insts (new ∷ []) in
    record {
      typed_insts = All-push IsTypedInst insts new was.typed_insts (record { name = record { id = identifier; shown = tt }; designator = tt; properties = λ k x h. absurd (omega arith) });
      typed_nets = was.typed_nets;
      inst_count = omega arith;
      net_count = was.net_count;
      end_count = was.end_count;
      inst_names = rw (map-append (λ (inst : Inst). inst.name.id) insts (new ∷ [])) (all_pairs_push (λ (a b : List ℕ). a ≢ b) (map (λ (inst : Inst). inst.name.id) insts) name was.inst_names (inst_apart insts name free));
      net_names = was.net_names;
      inst_properties = All-push (λ (inst : Inst). HasDistinctKeys inst.properties) insts new was.inst_properties (λ i j x h k. absurd (omega arith));
      net_properties = was.net_properties;
      places = All-push (λ (inst : Inst). IsCell d inst.of) insts new was.places there;
      not_later = All-push (λ (inst : Inst). inst.of.lib.0 ≤ id.lib.0) insts new was.not_later not_later;
      ends = All-weaker (IsEndOf d old) (IsEndOf d (fill (record { insts = insts ++ new ∷ []; nets = nets_of old }) old)) (ends_of old) (λ end is. longer_end d old new end.inst end.port end.bit is) cell.ends;
      once = was.once;
    }

-- an element of a list with one more
old_or_added : (xs : List Inst) (y x : Inst) → Contains (xs ++ y ∷ []) x → Contains xs x ⊎ (x ≡ y)
old_or_added [] y x (zero, within, is) = inr (sym is)
old_or_added [] y x (suc k, within, is) = absurd (omega (arith, within))
old_or_added (z ∷ xs) y x (zero, within, is) = inl (zero, omega arith, is)
old_or_added (z ∷ xs) y x (suc k, within, is) =
    ⊎_elim (λ (had : Contains xs x). inl (Contains-tail z x xs had)) (λ (new : x ≡ y). inr new) (old_or_added xs y x (k, omega (arith, within), is))

kept_added : (xs : List Inst) (y x : Inst) (k : ℕ) → k < length xs → slice_index_or xs k x ≡ x → Contains (xs ++ y ∷ []) x
kept_added [] y x k within is = absurd (omega arith)
kept_added (z ∷ xs) y x zero within is = (zero, omega arith, is)
kept_added (z ∷ xs) y x (suc k) within is = Contains-tail z x (xs ++ y ∷ []) (kept_added xs y x k (omega arith) is)

abbrev IsAtOrBelow : Design → CellId → CellId → Type 0
IsAtOrBelow d low high = (low ≡ high) ⊎ IsBelow d low high

-- a chain of instances goes as before, or by the one that is added
abbrev GoesBy : Design → CellId → CellId → CellId → CellId → Type 0
GoesBy d id of low high = IsBelow d low high ⊎ (IsAtOrBelow d id high × IsAtOrBelow d low of)

step_below : (d : Design) (id of outer : CellId) (inst : Inst) → HasInst d outer inst → {low : CellId} → GoesBy d id of low inst.of → GoesBy d id of low outer
step_below d id of outer inst has (inl below) = inl (deeper inst has below)
step_below d id of outer inst has (inr (inl at, rest)) = inr (inr (subst (λ (c : CellId). IsBelow d c outer) (sym at) (placed inst has)), rest)
step_below d id of outer inst has (inr (inr below, rest)) = inr (inr (deeper inst has below), rest)

at_or_below : (d : Design) (id of low : CellId) → GoesBy d id of low of → IsAtOrBelow d low of
at_or_below d id of low (inl below) = inr below
at_or_below d id of low (inr both) = both.1

abbrev Splits : Design → Design → CellId → CellId → Type 0
Splits d e id of = (other : CellId) (inst : Inst) → HasInst e other inst → HasInst d other inst ⊎ ((other ≡ id) × (inst.of ≡ of))

placed_by : (d e : Design) (id of : CellId) → Splits d e id of → (other : CellId) (inst : Inst) → HasInst e other inst → GoesBy d id of inst.of other
placed_by d e id of split other inst has =
    ⊎_elim
    (λ (had : HasInst d other inst). inl (placed inst had))
    (λ (new : (other ≡ id) × (inst.of ≡ of)). inr (inl (sym new.0), inl new.1))
    (split other inst has)

deeper_by : (d e : Design) (id of : CellId) → Splits d e id of → (low other : CellId) (inst : Inst) → HasInst e other inst → GoesBy d id of low inst.of → GoesBy d id of low other
deeper_by d e id of split low other inst has rest =
    ⊎_elim
    (λ (had : HasInst d other inst). step_below d id of other inst had rest)
    (λ (new : (other ≡ id) × (inst.of ≡ of)).
    inr (inl (sym new.0), at_or_below d id of low (subst (λ (c : CellId). GoesBy d id of low c) new.1 rest)))
    (split other inst has)

goes_by : (d e : Design) (id of : CellId) → ((other : CellId) (inst : Inst) → HasInst e other inst → HasInst d other inst ⊎ ((other ≡ id) × (inst.of ≡ of))) → {low high : CellId} → IsBelow e low high → GoesBy d id of low high
goes_by d e id of split (placed {id = other} inst has) = placed_by d e id of split other inst has
goes_by d e id of split (deeper {inner = low} {id = other} inst has below) = deeper_by d e id of split low other inst has (goes_by d e id of split below)

no_way_round : (d : Design) (id of x : CellId) → NoCellIsBelowItself d → of ≢ id → ¬ IsBelow d id of → GoesBy d id of x x → ⊥
no_way_round d id of x none apart not (inl below) = none x below
no_way_round d id of x none apart not (inr (inl id_x, inl x_of)) = apart (sym (id_x ∙ x_of))
no_way_round d id of x none apart not (inr (inl id_x, inr x_of)) = not (subst (λ (c : CellId). IsBelow d c of) (sym id_x) x_of)
no_way_round d id of x none apart not (inr (inr id_x, inl x_of)) = not (subst (λ (c : CellId). IsBelow d id c) x_of id_x)
no_way_round d id of x none apart not (inr (inr id_x, inr x_of)) = not (below_trans d id_x x_of)

pub more_valid : (d : Design) (id of : CellId) (old : CellBody) (name : List ℕ) → AreGoodContents d id old (record { insts = insts_of old ++ new_inst name of ∷ []; nets = nets_of old }) → of ≢ id → ¬ IsBelow d id of → IsValid d → cell_at d id ≡ Some old → IsValid (filled d id (record { insts = insts_of old ++ new_inst name of ∷ []; nets = nets_of old }))
more_valid d id of old name good apart not valid found =
    let new = new_inst name of in
    let contents : Contents = record { insts = insts_of old ++ new ∷ []; nets = nets_of old } in
    let e = filled d id contents in
    let f = with_both d id contents d.notes in
    let has_old : (other : CellId) (inst : Inst) → (other ≡ id) → HasInst d other inst → Contains (insts_of old) inst = λ other inst at has. subst (λ (o : Option CellBody). Contains (option_map_or insts_of o []) inst) (ap (cell_at d) at ∙ found) has in
    let more : (other : CellId) (inst : Inst) → HasInst d other inst → HasInst f other inst = λ other inst has. ⊎_elim
    (λ (at : other ≡ id).
    let had = has_old other inst at has in
    subst (λ (c : CellId). HasInst e c inst) (sym at) (inst_here d id old contents inst found (kept_added (insts_of old) new inst had.0 had.1 had.2)))
    (λ (away : other ≢ id). inst_elsewhere d id contents other inst away has)
    (cases_cell other id) in
    let split : (other : CellId) (inst : Inst) → HasInst f other inst → HasInst d other inst ⊎ ((other ≡ id) × (inst.of ≡ of)) = λ other inst has. ⊎_elim
    (λ (here : (other ≡ id) × Contains contents.insts inst).
    ⊎_elim
    (λ (had : Contains (insts_of old) inst). inl (subst (λ (o : Option CellBody). Contains (option_map_or insts_of o []) inst) (sym (ap (cell_at d) here.0 ∙ found)) had))
    (λ (is_new : inst ≡ new). inr (here.0, ap (λ (i : Inst). i.of) is_new))
    (old_or_added (insts_of old) new inst here.1))
    (λ (away : (other ≢ id) × HasInst d other inst). inl away.1)
    (inst_after d id contents other inst has) in
    let was = good_notes_before d valid in
    inner_valid d id old contents d.notes valid found good
    (record {
      typed = was.typed;
      count = was.count;
      below = weaker_top d.top (λ t. All (IsNoteBelow d t.cell) d.notes) (λ t. All (IsNoteBelow f t.cell) d.notes) (λ t all.
          All-weaker (IsNoteBelow d t.cell) (IsNoteBelow f t.cell) d.notes (λ note is. record { has_step = is.has_step; resolves = resolves_with_more d f more note.path t.cell is.resolves }) all) was.below;
      need_top = was.need_top;
      differ = was.differ;
    })
    (λ x below. no_way_round d id of x valid.no_cycle apart not (goes_by d f id of split below))

-- a property of an instance
abbrev inst_with : Property → Inst → Inst
inst_with property inst = record inst { properties = set_property property inst.properties }

some_and_changed : (Q : Inst → Type 0) (f : Inst → Inst) → ((x : Inst) → Q x → Q (f x)) → (i : ℕ) (xs : List Inst) (k : ℕ) → IsSomeAnd (slice_get xs k) Q → IsSomeAnd (slice_get (changed_at f i xs) k) Q
some_and_changed Q f keeps i [] k is = absurd is
some_and_changed Q f keeps zero (x ∷ xs) zero is = keeps x is
some_and_changed Q f keeps zero (x ∷ xs) (suc k) is = is
some_and_changed Q f keeps (suc i) (x ∷ xs) zero is = is
some_and_changed Q f keeps (suc i) (x ∷ xs) (suc k) is = some_and_changed Q f keeps i xs k is

property_end : (d : Design) (old : CellBody) (property : Property) (i : ℕ) (inst : Option ℕ) (port bit : ℕ) → IsEndAt d old inst port bit → IsEndAt d (fill (record { insts = changed_at (inst_with property) i (insts_of old); nets = nets_of old }) old) inst port bit
property_end d old property i None port bit is = is
property_end d old property i (Some place) port bit is =
    some_and_changed (λ inst. IsSomeAnd (cell_at d inst.of) (λ of. HasBit of.ports port bit)) (inst_with property) (λ inst has. has) i (insts_of old) place is

pub inst_property_valid : (d : Design) (id : CellId) (old : CellBody) (property : Property) (i : ℕ) → IsTypedProperty property → IsValid d → cell_at d id ≡ Some old → IsValid (filled d id (record { insts = changed_at (inst_with property) i (insts_of old); nets = nets_of old }))
inst_property_valid d id old property i typed valid found =
    let insts = insts_of old in
    let change : Inst → Inst = inst_with property in
    let contents : Contents = record { insts = changed_at change i insts; nets = nets_of old } in
    let new : CellBody = fill contents old in
    let cell : IsValidCell d id old = valid.cells id old found in
    let typed_old : IsTypedCell old = All-cell_at IsTypedCell d id old valid.typed.cells found in
    let places : map (λ (inst : Inst). (inst.name.id, inst.of)) (changed_at change i insts) ≡ map (λ (inst : Inst). (inst.name.id, inst.of)) insts = map-changed_at change (λ (inst : Inst). (inst.name.id, inst.of)) (λ _. refl) i insts in
    let shape : shape_of new ≡ shape_of old = λ k. record { name = old.name; ports = old.ports; insts = places k } in
    subst IsValid (sym (with_changed_is d id (fill contents) old found))
    (with_cell_is_valid d id old new valid found shape
    (record {
      name = typed_old.name;
      properties = typed_old.properties;
      view = typed_old.view;
      view_properties = typed_old.view_properties;
      interface_properties = typed_old.interface_properties;
      ports = typed_old.ports;
      insts = All-changed_at IsTypedInst change (λ inst is. record { name = is.name; designator = is.designator; properties = set_property_typed property inst.properties typed is.properties }) i insts typed_old.insts;
      nets = typed_old.nets;
    })
    (record { ports = cell.limits.ports; bits = cell.limits.bits; insts = subst (λ n. n ≤ 1048576) (sym (length-changed_at change i insts)) cell.limits.insts; nets = cell.limits.nets; ends = cell.limits.ends })
    (record {
      ports = cell.names.ports;
      insts = subst (λ (names : List (List ℕ)). AreDistinct names) (sym (map-changed_at change (λ (inst : Inst). inst.name.id) (λ _. refl) i insts)) cell.names.insts;
      nets = cell.names.nets;
      properties = cell.names.properties;
      view_properties = cell.names.view_properties;
      interface_properties = cell.names.interface_properties;
      port_properties = cell.names.port_properties;
      inst_properties = All-changed_at (λ (inst : Inst). HasDistinctKeys inst.properties) change (λ inst is. set_property_distinct property inst.properties is) i insts cell.names.inst_properties;
      net_properties = cell.names.net_properties;
    })
    (All-weaker (IsEndOf d old) (IsEndOf d new) (ends_of old) (λ end is. property_end d old property i end.inst end.port end.bit is) cell.ends)
    cell.joined_once)
