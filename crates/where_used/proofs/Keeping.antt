-- Designs with the same instances have the same uses; changes that keep the instances.
use Rattle.std.proofs.Common.{◌≡◌, ◌≢◌, ◌+◌, ⊎_elim, ℕ, zero, suc, arith, Bool, true, cond, List, [], ◌∷◌, ◌++◌, length, map, Option, Some, None, refl, sym, ap, subst, ◌∙◌, get_or, slice_get}
use Rattle.std.specs.Prelude.{IsSomeAnd, nat_lt, option_map, option_to_list, slice_set}
use Rattle.std.specs.List.{All, AllByRecursion, enumerate_from, flat_map, range_with_len}
use Rattle.std.specs.Option.{option_map_or}
use Rattle.std.proofs.lemmas.Bool.Decides.{nat_tests}
use Rattle.std.proofs.lemmas.List.Elements.{recursion_from_All}
use Rattle.std.proofs.lemmas.Option.{slice_get_within}
use Rattle.netlist_schema.specs.Design.{Design, cell_at, insts_in, insts_of}
use Rattle.netlist_schema.specs.Hierarchy.{insts_at}
use Rattle.netlist_schema.specs.Change.{body_with, with_inst_put, with_net_put}
use Rattle.netlist_parts.specs.Put.{put_at}
use Rattle.netlist_schema.proofs.WithCell.{cases_cell}
use Rattle.netlist_schema.specs.Types.{CellBody, CellId, Contents, Inst as InstType, Lib, Net as NetType, Note}
use Rattle.edit_rules_spec.specs.Edit.{changed_at, edited, edited_once, noted, with_changed_cell, with_properties}
use Rattle.edit_rules_spec.proofs.Edits.{cell_at-changed_other, cell_at-changed_same, kept_at}
use Rattle.edit_rules_spec.proofs.Lists.{length-changed_at}
use Rattle.edit_cells.specs.Change.{cell_edits, edit_of, edits_of, inst_put, net_put}
use Rattle.edit_cells.specs.declared.change.Change.{Change}
use Rattle.edit_cells.specs.declared.change.CellChange.{CellChange}
use Rattle.edit_cells.specs.declared.change.CellChange.TheVariants.{Fresh, Face, Inner, Net, Inst}
use Rattle.edit_cells.proofs.Patches.{edited_joined, inside_changed}
use Rattle.used_spec.specs.Uses.{Placed, all_cells, count_in, ids_of, placed_at, placed_in, users_among, uses}
use Rattle.used_spec.specs.declared.used_at.UsedAt.{UsedAt}
use Rattle.where_used.specs.Changes.{KeepsInsts, KeepsUses}

-- the cells of instances
abbrev pub cells_placed : List InstType → List CellId
cells_placed insts = map (λ inst. inst.of) insts

-- the same cells, with instances of the same cells
pub record HasSameInsts (d e : Design) : Type 0 where
  pub libs : length d.libs ≡ length e.libs
  pub counts : (lib : ℕ) → count_in d lib ≡ count_in e lib
  pub insts : (cell : CellId) → cells_placed (insts_at d cell) ≡ cells_placed (insts_at e cell)

-- the uses by these alone
abbrev placed_by : CellId → ℕ × CellId → Placed
placed_by cell p = record { at = record { cell = cell; inst = p.0 }; of = p.1 }

placed_seen : (cell : CellId) (insts : List InstType) → placed_in cell insts ≡ map (placed_by cell) (enumerate_from 0 (cells_placed insts))
placed_seen cell insts = go insts 0
  where
    go : (is : List InstType) (a : ℕ) → map (placed_at cell) (enumerate_from a is) ≡ map (placed_by cell) (enumerate_from a (cells_placed is))
    go [] a = refl
    go (i ∷ is) a = ap (λ ps. placed_by cell (a, i.of) ∷ ps) (go is (a + 1))

abbrev users_by : ℕ → (ℕ → ℕ) → (CellId → List CellId) → CellId → List UsedAt
users_by n count placed cell = users_among cell (flat_map (λ c. map (placed_by c) (enumerate_from 0 (placed c))) (flat_map (λ lib. ids_of lib (count lib)) (range_with_len 0 n)))

abbrev uses_by : ℕ → (ℕ → ℕ) → (CellId → List CellId) → List (List (List UsedAt))
uses_by n count placed = map (λ lib. map (users_by n count placed) (ids_of lib (count lib))) (range_with_len 0 n)

uses_seen : (d : Design) → uses d ≡ uses_by (length d.libs) (count_in d) (λ cell. cells_placed (insts_at d cell))
uses_seen d = λ i. map (λ lib. map (λ cell. users_among cell (flat_map (λ c. placed_seen c (insts_at d c) i) (all_cells d))) (ids_of lib (count_in d lib))) (range_with_len 0 (length d.libs))

pub uses_same : (d e : Design) → HasSameInsts d e → uses d ≡ uses e
uses_same d e same =
    uses_seen d
    ∙ (λ t. uses_by (same.libs t) (λ lib. same.counts lib t) (λ cell. same.insts cell t))
    ∙ sym (uses_seen e)

pub same_itself : (d : Design) → HasSameInsts d d
same_itself d = record { libs = refl; counts = λ lib. refl; insts = λ cell. refl }

pub same_then : (d e f : Design) → HasSameInsts d e → HasSameInsts e f → HasSameInsts d f
same_then d e f first next = record {
  libs = first.libs ∙ next.libs;
  counts = λ lib. first.counts lib ∙ next.counts lib;
  insts = λ cell. first.insts cell ∙ next.insts cell;
}

-- ---- a change of a cell

abbrev pub lib_changed : (CellBody → CellBody) → ℕ → Lib → Lib
lib_changed f slot lib = record lib { cells = changed_at f slot lib.cells }

pub counts_same : (d : Design) (id : CellId) (f : CellBody → CellBody) (lib : ℕ) → count_in (with_changed_cell d id f) lib ≡ count_in d lib
counts_same d id f lib = kept_at (lib_changed f id.slot) (λ (o : Option Lib). length (option_map_or (λ (l : Lib). l.cells) o [])) (λ l. length-changed_at f id.slot l.cells) id.lib.0 d.libs lib

changed_same_insts : (d : Design) (id : CellId) (f : CellBody → CellBody) → ((body : CellBody) → cell_at d id ≡ Some body → cells_placed (insts_of (f body)) ≡ cells_placed (insts_of body))
    → HasSameInsts (with_changed_cell d id f) d
changed_same_insts d id f keeps = record {
  libs = length-changed_at (lib_changed f id.slot) id.lib.0 d.libs;
  counts = counts_same d id f;
  insts = λ cell. ⊎_elim
      (λ (same : cell ≡ id). subst (λ (c : CellId). cells_placed (insts_at (with_changed_cell d id f) c) ≡ cells_placed (insts_at d c)) (sym same) (here (cell_at d id) refl))
      (λ (apart : cell ≢ id). ap (λ (o : Option CellBody). cells_placed (option_map_or insts_of o [])) (cell_at-changed_other d id f cell apart))
      (cases_cell cell id);
}
  where
    here : (o : Option CellBody) → cell_at d id ≡ o → cells_placed (insts_at (with_changed_cell d id f) id) ≡ cells_placed (insts_at d id)
    here None is =
        ap (λ (o : Option CellBody). cells_placed (option_map_or insts_of o [])) (cell_at-changed_same d id f ∙ ap (option_map f) is)
        ∙ ap (λ (o : Option CellBody). cells_placed (option_map_or insts_of o [])) (sym is)
    here (Some body) is =
        ap (λ (o : Option CellBody). cells_placed (option_map_or insts_of o [])) (cell_at-changed_same d id f ∙ ap (option_map f) is)
        ∙ keeps body is
        ∙ ap (λ (o : Option CellBody). cells_placed (option_map_or insts_of o [])) (sym is)

net_keeps : (place : ℕ) (net : NetType) (body : CellBody) → insts_of (body_with (with_net_put place net) body) ≡ insts_of body
net_keeps place net body = go body.contents
  where
    go : (o : Option Contents) → insts_in (option_map (with_net_put place net) o) ≡ insts_in o
    go None = refl
    go (Some contents) = refl

one_keeps : (d : Design) (change : CellChange) → KeepsInsts change → HasSameInsts (edited_once d (edit_of d change)) d
one_keeps d (Fresh id body) is = absurd is
one_keeps d (Face id properties) is = changed_same_insts d id (with_properties properties) (λ body is. refl)
one_keeps d (Inner id contents) is = absurd is
one_keeps d (Net id place net) is =
    subst (λ (e : Design). HasSameInsts e d) (sym (inside_changed d id (net_put place net) (with_net_put place net) (λ contents. refl)))
    (changed_same_insts d id (body_with (with_net_put place net)) (λ body is. ap cells_placed (net_keeps place net body)))
one_keeps d (Inst id place inst) is = absurd is

-- an instance of the same cell is put in place of another
placed_put : (insts : List InstType) (place : ℕ) (inst : InstType) → IsSomeAnd (slice_get insts place) (λ old. old.of ≡ inst.of) → cells_placed (put_at insts place inst) ≡ cells_placed insts
placed_put insts place inst is = go (slice_get insts place) refl is
  where
    set_same : (xs : List InstType) (i : ℕ) (old : InstType) → slice_get xs i ≡ Some old → old.of ≡ inst.of → cells_placed (slice_set xs i inst) ≡ cells_placed xs
    set_same [] i old found same = cc
    set_same (x ∷ xs) zero old found same = let here : x ≡ old = cc in ap (λ (c : CellId). c ∷ cells_placed xs) (sym (ap (λ (y : InstType). y.of) here ∙ same))
    set_same (x ∷ xs) (suc i) old found same = ap (λ cs. x.of ∷ cs) (set_same xs i old found same)

    go : (o : Option InstType) → slice_get insts place ≡ o → IsSomeAnd o (λ old. old.of ≡ inst.of) → cells_placed (put_at insts place inst) ≡ cells_placed insts
    go None found never = absurd never
    go (Some old) found same =
        let within : nat_lt place (length insts) ≡ true = grind (arith, nat_tests, slice_get_within insts place old found) in
        ap (λ (b : Bool). cells_placed (cond b (slice_set insts place inst) (insts ++ inst ∷ []))) within ∙ set_same insts place old found same

inst_keeps : (d : Design) (id : CellId) (place : ℕ) (inst : InstType) (body : CellBody) → cell_at d id ≡ Some body → IsSomeAnd (slice_get (insts_at d id) place) (λ old. old.of ≡ inst.of)
    → cells_placed (insts_of (body_with (with_inst_put place inst) body)) ≡ cells_placed (insts_of body)
inst_keeps d id place inst body found is = go body.contents (subst (λ (o : Option CellBody). IsSomeAnd (slice_get (option_map_or insts_of o []) place) (λ old. old.of ≡ inst.of)) found is)
  where
    go : (o : Option Contents) → IsSomeAnd (slice_get (insts_in o) place) (λ old. old.of ≡ inst.of) → cells_placed (insts_in (option_map (with_inst_put place inst) o)) ≡ cells_placed (insts_in o)
    go None is = refl
    go (Some contents) is = placed_put contents.insts place inst is

-- the one change leaves the uses
one_stays : (d : Design) (change : CellChange) → KeepsUses d change → HasSameInsts (edited_once d (edit_of d change)) d
one_stays d (Fresh id body) is = absurd is
one_stays d (Face id properties) is = one_keeps d (Face id properties) tt
one_stays d (Inner id contents) is = absurd is
one_stays d (Net id place net) is = one_keeps d (Net id place net) tt
one_stays d (Inst id place inst) is =
    subst (λ (e : Design). HasSameInsts e d) (sym (inside_changed d id (inst_put place inst) (with_inst_put place inst) (λ contents. refl)))
    (changed_same_insts d id (body_with (with_inst_put place inst)) (λ body found. inst_keeps d id place inst body found is))

all_keep : (changes : List CellChange) (d : Design) → AllByRecursion KeepsInsts changes → HasSameInsts (edited d (cell_edits d changes)) d
all_keep [] d is = same_itself d
all_keep (change ∷ changes) d is =
    same_then (edited (edited_once d (edit_of d change)) (cell_edits (edited_once d (edit_of d change)) changes)) (edited_once d (edit_of d change)) d
    (all_keep changes (edited_once d (edit_of d change)) is.1) (one_keeps d change is.0)

pub notes_keep : (d : Design) (notes : Option (List Note)) → HasSameInsts (edited d (option_to_list (option_map noted notes))) d
notes_keep d None = same_itself d
notes_keep d (Some notes) = record { libs = refl; counts = λ lib. refl; insts = λ cell. refl }

-- such changes keep the uses
pub change_keeps : (d : Design) (change : Change) → All KeepsInsts change.cells → uses (edited d (edits_of d change)) ≡ uses d
change_keeps d change is =
    let middle = edited d (cell_edits d change.cells) in
    let cells = all_keep change.cells d (recursion_from_All KeepsInsts change.cells is) in
    let notes = notes_keep middle change.notes in
    ap uses (edited_joined d (cell_edits d change.cells) (option_to_list (option_map noted change.notes)))
    ∙ uses_same (edited middle (option_to_list (option_map noted change.notes))) d (same_then (edited middle (option_to_list (option_map noted change.notes))) middle d notes cells)

-- and so does one change that does
pub one_change_keeps : (d : Design) (change : Change) (one : CellChange) → change.cells ≡ one ∷ [] → KeepsUses d one → uses (edited d (edits_of d change)) ≡ uses d
one_change_keeps d change one only is =
    let middle = edited d (cell_edits d change.cells) in
    let cells : HasSameInsts middle d = subst (λ (cs : List CellChange). HasSameInsts (edited d (cell_edits d cs)) d) (sym only) (one_stays d one is) in
    let notes = notes_keep middle change.notes in
    ap uses (edited_joined d (cell_edits d change.cells) (option_to_list (option_map noted change.notes)))
    ∙ uses_same (edited middle (option_to_list (option_map noted change.notes))) d (same_then (edited middle (option_to_list (option_map noted change.notes))) middle d notes cells)

-- the one item of a list
pub only_item : {X : Type 0} (xs : List X) (x : X) → length xs ≡ 1 → x ≡ get_or xs 0 x → xs ≡ x ∷ []
only_item [] x long is = absurd (omega (arith, long))
only_item (y ∷ []) x long is = ap (λ z. z ∷ []) (sym is)
only_item (y ∷ z ∷ xs) x long is = absurd (omega (arith, long))
