-- A split leaves a valid design valid.
use Rattle.std.proofs.Common.{◌≡◌, ◌≤◌, ◌<◌, ℕ, suc, List, [], ◌∷◌, ◌++◌, map, length, refl, sym, ap, subst, ◌∙◌, inl, inr, Option, Some, None, false, slice_get, append-nil}
use Rattle.std.specs.Prelude.{IsSome, IfSome, IfNone, filter, is_none, not, nat_le}
use Rattle.std.specs.List.{All}
use Rattle.std.specs.Option.{option_map, option_map_or}
use Rattle.std.proofs.lemmas.Bool.{leb-false}
use Rattle.std.proofs.lemmas.List.{length-map}
use Rattle.std.proofs.lemmas.List.Elements.{All-from_recursion}
use Rattle.std.proofs.lemmas.Option.{none-some, slice_get-map}
use Rattle.netlist_schema.specs.Design.{Design, lib_at, cell_at, cells_in}
use Rattle.netlist_schema.specs.Hierarchy.{IsCell, Resolves, insts_at}
use Rattle.netlist_schema.specs.Names.{AreDistinct, HasDistinctKeys, cell_names, lib_names, note_key}
use Rattle.netlist_schema.specs.Typed.{IsTypedCell, IsTypedName, IsTypedNote, IsTypedProperty}
use Rattle.netlist_schema.specs.Types.{CellBody, CellId, Inst, Lib, LibHead, LibId, Note, TopHead}
use Rattle.netlist_schema.specs.Valid.{IsValid, IsNoteBelow}
use Rattle.netlist_schema.proofs.Cells.{All-slice_get, All-cell_at}
use Rattle.netlist_schema.proofs.WithCell.{All-weaker}
use Rattle.netlist_schema.proofs.Lists.{all_from_places}
use Rattle.edit_rules_spec.specs.Edit.{edited}
use Rattle.edit_rules_spec.specs.Objects.{Grown}
use Rattle.edit_rules_spec.specs.Rule.{refuse}
use Rattle.edit_rules_spec.specs.Paths.{is_path}
use Rattle.edit_rules_spec.specs.declared.reply.Reply.TheVariants.{NoPath, NoTop, TooMany}
use Rattle.edit_rules_spec.proofs.Closed.{valid_is_closed, is_cell_found}
use Rattle.edit_rules_spec.proofs.Growing.{edited_is_grown}
use Rattle.edit_rules_spec.proofs.InnerValid.{weaker_top}
use Rattle.edit_rules_spec.proofs.Lists.{Apart, apart_of, distinct_of}
use Rattle.edit_rules_spec.proofs.Refusals.{first_none, not_refused}
use Rattle.flat_spec.specs.Paths.{Reaches}
use Rattle.flat_spec.proofs.ListLemmas.{Member, Contains-member, slice_get-contains}
use Rattle.flat_spec.proofs.PathLemmas.{Some-same, Reaches-append, Reaches-cons}
use Rattle.uniquify_spec.specs.Blocks.{each_block, along_path, blocks, blocks_below, is_first, steps_along}
use Rattle.uniquify_spec.specs.Copies.{Copy, names_with, name_at}
use Rattle.uniquify_spec.specs.Local.{KeepsValid}
use Rattle.uniquify_spec.specs.Rows.{too_many_cells, below_top, uniquify_row, unique_path_row}
use Rattle.uniquify_spec.specs.Split.{Split, turned_inst, split_edits}
use Rattle.uniquify_spec.proofs.BlockSplit.{each_block_is_split}
use Rattle.uniquify_spec.proofs.CopyLists.{any-member}
use Rattle.uniquify_spec.proofs.NewCells.{body_of}
use Rattle.uniquify_spec.proofs.PathSplit.{along_path_is_split}
use Rattle.uniquify_spec.proofs.Reached.{top_is_cell}
use Rattle.uniquify_spec.proofs.SplitAlike.{own_inst, own_root, split_notes}
use Rattle.uniquify_spec.proofs.SplitCells.{IsSplit, split_design, own}
use Rattle.uniquify_spec.proofs.SplitOrigins.{split_acyclic}
use Rattle.uniquify_spec.proofs.ValidCells.{moved_cell, moved_is_valid, moved_is_typed, stands_there}
use Rattle.uniquify_spec.proofs.ValidNames.{AreNamed, HaveRoom, copies_are_named, copy_typed, names_apart, names_few, split_names}

-- ---- libraries

all_found : {X : Type 0} (P : X → Type 0) (xs : List X) → ((k : ℕ) (x : X) → slice_get xs k ≡ Some x → P x) → All P xs
all_found P xs h = All-from_recursion P xs (all_from_places P xs h)

some_head : (o : Option Lib) (head : LibHead) → option_map (λ (l : Lib). l.head) o ≡ Some head → (lib : Lib) × (o ≡ Some lib) × (lib.head ≡ head)
some_head None head e = absurd (none-some head e)
some_head (Some lib) head e = (lib, refl, Some-same (Some lib.head) refl e)

-- a library of a grown design was there, with the same head
lib_before : (d e : Design) → map (λ (l : Lib). l.head) d.libs ≡ map (λ (l : Lib). l.head) e.libs → (k : ℕ) (lib : Lib) → slice_get e.libs k ≡ Some lib
    → (old : Lib) × (slice_get d.libs k ≡ Some old) × (old.head ≡ lib.head)
lib_before d e heads k lib at =
    some_head (slice_get d.libs k) lib.head
    (sym (slice_get-map (λ (l : Lib). l.head) d.libs k) ∙ ap (λ hs. slice_get hs k) heads ∙ slice_get-map (λ (l : Lib). l.head) e.libs k ∙ ap (option_map (λ (l : Lib). l.head)) at)

-- a split with its names and room
pub record IsGoodSplit (d : Design) (r : CellId) (s : Split) : Type 0 where
  pub split : IsSplit d r s
  pub named : AreNamed d [] s.copies
  pub room : HaveRoom s.copies

-- the directory of a library after the split
directory_after : (d : Design) (r : CellId) (s : Split) → IsGoodSplit d r s → (k : ℕ) (lib : Lib) → slice_get (split_design d s).libs k ≡ Some lib
    → (old : Lib) × (slice_get d.libs k ≡ Some old) × (old.head ≡ lib.head) × (cell_names lib.cells ≡ names_with d s.copies (record { 0 = k }))
directory_after d r s good k lib at =
    let grown : Grown d (split_design d s) = edited_is_grown (split_edits d s) d in
    let old = lib_before d (split_design d s) grown.libs k lib at in
    let there : IsSome (lib_at d (record { 0 = k })) = subst (λ (o : Option Lib). IsSome o) (sym old.1) refl in
    let here : cell_names (cells_in (split_design d s) (record { 0 = k })) ≡ cell_names lib.cells = ap (λ (o : Option Lib). cell_names (option_map_or (λ (l : Lib). l.cells) o [])) at in
    (old.0, old.1, old.2, sym here ∙ split_names d s good.split.new (record { 0 = k }) there)

cells_were : (d : Design) (k : ℕ) (old : Lib) → slice_get d.libs k ≡ Some old → cells_in d (record { 0 = k }) ≡ old.cells
cells_were d k old at = ap (λ (o : Option Lib). option_map_or (λ (l : Lib). l.cells) o []) at

names_differ : (d : Design) (r : CellId) (s : Split) → IsValid d → IsGoodSplit d r s → (k : ℕ) (lib : Lib) → slice_get (split_design d s).libs k ≡ Some lib → AreDistinct (cell_names lib.cells)
names_differ d r s valid good k lib at =
    let after = directory_after d r s good k lib at in
    let id : LibId = record { 0 = k } in
    let were : names_with d [] id ≡ cell_names after.0.cells = append-nil (cell_names (cells_in d id)) ∙ ap cell_names (cells_were d k after.0 after.1) in
    let before = apart_of (cell_names after.0.cells) (All-slice_get (λ (l : Lib). AreDistinct (cell_names l.cells)) d.libs k after.0 valid.names.cells after.1) in
    distinct_of (cell_names lib.cells)
    (subst (λ ns. Apart ns) (sym after.3) (names_apart d s.copies [] good.split.new good.named good.room id (subst (λ ns. Apart ns) (sym were) before)))

cells_few : (d : Design) (r : CellId) (s : Split) → IsValid d → IsGoodSplit d r s → (k : ℕ) (lib : Lib) → slice_get (split_design d s).libs k ≡ Some lib → length lib.cells ≤ 65536
cells_few d r s valid good k lib at =
    let after = directory_after d r s good k lib at in
    let id : LibId = record { 0 = k } in
    let were : names_with d [] id ≡ cell_names after.0.cells = append-nil (cell_names (cells_in d id)) ∙ ap cell_names (cells_were d k after.0 after.1) in
    let few = All-slice_get (λ (l : Lib). length l.cells ≤ 65536) d.libs k after.0 valid.limits.cells after.1 in
    let few_names : length (cell_names after.0.cells) ≤ 65536 = subst (λ n. n ≤ 65536) (sym (length-map after.0.cells (λ (c : CellBody). c.name.id))) few in
    let now = names_few d s.copies [] good.split.new good.room id (subst (λ (ns : List (List ℕ)). length ns ≤ 65536) (sym were) few_names) in
    subst (λ n. n ≤ 65536) (length-map lib.cells (λ (c : CellBody). c.name.id)) (subst (λ (ns : List (List ℕ)). length ns ≤ 65536) (sym after.3) now)

-- ---- cells

name_was : (d : Design) (c : CellId) (body : CellBody) → cell_at d c ≡ Some body → name_at d c ≡ body.name
name_was d c body at = ap (λ o. option_map_or (λ (b : CellBody). b.name) o (record { id = []; shown = None })) at

copies_typed : (d : Design) (r : CellId) (s : Split) → IsValid d → IsGoodSplit d r s → (m : Copy) → Member s.copies m → IsTypedName m.name
copies_typed d r s valid good =
    copy_typed d s.copies [] good.split.new good.named good.room
    (λ m member.
    let body = body_of d m.of (good.split.cells m.path m.of (good.split.copies_reached m member)) in
    subst IsTypedName (sym (name_was d m.of body.0 body.1)) (All-cell_at IsTypedCell d m.of body.0 valid.typed.cells body.1).name)

cell_typed : (d : Design) (r : CellId) (s : Split) → IsValid d → IsGoodSplit d r s → (id : CellId) (new : CellBody) → cell_at (split_design d s) id ≡ Some new → IsTypedCell new
cell_typed d r s valid good id new found =
    let moved = moved_cell d r s good.split id new found in
    let was = All-cell_at IsTypedCell d moved.cell moved.old valid.typed.cells moved.was in
    moved_is_typed d s id new moved was (elim moved.name [
      | inl same ↦ subst IsTypedName (sym same) was.name
      | inr copy ↦ subst IsTypedName (sym copy.2) (copies_typed d r s valid good copy.0 copy.1)
    ])

-- ---- notes

-- a path of names leads on from the own cell of an occurrence as it did from its cell
resolves_after : (d : Design) (r : CellId) (s : Split) → IsSplit d r s → (steps : List (List ℕ)) (path : List ℕ) (c : CellId) → Reaches d r path c
    → Resolves d c steps → Resolves (split_design d s) (own s path c) steps
resolves_after d r s is [] path c reached leads = tt
resolves_after d r s is (step ∷ steps) path c reached leads =
    let x = leads.0 in
    let at = place_of (insts_at d c) x (Contains-member (insts_at d c) x leads.1) in
    let y = turned_inst s.copies path (at.0, x) in
    let there : slice_get (insts_at (split_design d s) (own s path c)) at.0 ≡ Some y = own_inst d r s is path c reached at.0 ∙ ap (option_map (λ v. turned_inst s.copies path (at.0, v))) at.1 in
    let below : Reaches d r (path ++ at.0 ∷ []) x.of = Reaches-append d r c x.of path (at.0 ∷ []) reached (Reaches-cons d c at.0 x [] x.of at.1 refl) in
    (y, slice_get-contains (insts_at (split_design d s) (own s path c)) at.0 y there, leads.2, resolves_after d r s is steps (path ++ at.0 ∷ []) x.of below leads.3)
  where
    place_of : (xs : List Inst) (x : Inst) → Member xs x → (i : ℕ) × (slice_get xs i ≡ Some x)
    place_of [] x member = absurd member
    place_of (v ∷ xs) x member = elim member [ inl e ↦ (0, ap Some e) | inr rest ↦ let more = place_of xs x rest in (suc more.0, more.1) ]

note_after : (d : Design) (r : CellId) (s : Split) → IsSplit d r s → (note : Note) → IsNoteBelow d r note → IsNoteBelow (split_design d s) r note
note_after d r s is note below = record {
  has_step = below.has_step;
  resolves = subst (λ c. Resolves (split_design d s) c note.path) (own_root d r s is) (resolves_after d r s is note.path [] r refl below.resolves);
}

-- ---- the whole design

cell_there : (d : Design) (r : CellId) (s : Split) → IsSplit d r s → (c : CellId) → IsCell d c → IsCell (split_design d s) c
cell_there d r s is c there =
    let body = body_of d c there in
    let new = stands_there d r s is c c (inl refl) body.0 body.1 in
    is_cell_found (split_design d s) c new.0 new.1

libs_length : (d e : Design) → map (λ (l : Lib). l.head) d.libs ≡ map (λ (l : Lib). l.head) e.libs → length e.libs ≡ length d.libs
libs_length d e heads = sym (length-map e.libs (λ (l : Lib). l.head)) ∙ ap (λ (hs : List LibHead). length hs) (sym heads) ∙ length-map d.libs (λ (l : Lib). l.head)

names_of_heads : (libs : List Lib) → lib_names libs ≡ map (λ (h : LibHead). h.name.id) (map (λ (l : Lib). l.head) libs)
names_of_heads [] = refl
names_of_heads (lib ∷ libs) = ap (λ ns. lib.head.name.id ∷ ns) (names_of_heads libs)

pub split_is_valid : (d : Design) (top : TopHead) (s : Split) → IsValid d → d.top ≡ Some top → IsGoodSplit d top.cell s → IsValid (split_design d s)
split_is_valid d top s valid at good =
    let e = split_design d s in
    let r = top.cell in
    let is = good.split in
    let grown : Grown d e = edited_is_grown (split_edits d s) d in
    let notes : e.notes ≡ d.notes = split_notes d s in
    let tops : e.top ≡ d.top = sym grown.top in
    let heads : lib_names e.libs ≡ lib_names d.libs = names_of_heads e.libs ∙ ap (map (λ (h : LibHead). h.name.id)) (sym grown.libs) ∙ sym (names_of_heads d.libs) in
    let top_after : e.top ≡ Some top = tops ∙ at in
    record {
      typed = record {
        title = subst IsTypedName grown.title valid.typed.title;
        libs = all_found (λ (lib : Lib). IsTypedName lib.head.name) e.libs (λ k lib found.
            let old = lib_before d e grown.libs k lib found in
            subst (λ (h : LibHead). IsTypedName h.name) old.2 (All-slice_get (λ (l : Lib). IsTypedName l.head.name) d.libs k old.0 valid.typed.libs old.1));
        cells = all_found (λ (lib : Lib). All IsTypedCell lib.cells) e.libs (λ k lib found. all_found IsTypedCell lib.cells (λ slot body there.
            let id : CellId = record { lib = record { 0 = k }; slot = slot } in
            cell_typed d r s valid good id body (ap (λ (o : Option Lib). slice_get (option_map_or (λ (l : Lib). l.cells) o []) slot) found ∙ there)));
        top = subst (λ (o : Option TopHead). IfSome o (λ t. IsTypedName t.name × All IsTypedProperty t.properties)) (sym tops) valid.typed.top;
        notes = subst (λ ns. All IsTypedNote ns) (sym notes) valid.typed.notes;
      };
      limits = record {
        libs = subst (λ n. n ≤ 1024) (sym (libs_length d e grown.libs)) valid.limits.libs;
        cells = all_found (λ (lib : Lib). length lib.cells ≤ 65536) e.libs (cells_few d r s valid good);
        notes = subst (λ (ns : List Note). length ns ≤ 1048576) (sym notes) valid.limits.notes;
      };
      names = record {
        libs = subst (λ (ns : List (List ℕ)). AreDistinct ns) (sym heads) valid.names.libs;
        cells = all_found (λ (lib : Lib). AreDistinct (cell_names lib.cells)) e.libs (names_differ d r s valid good);
      };
      cells = λ id body found.
          let moved = moved_cell d r s is id body found in
          moved_is_valid d r s is id body moved (valid.cells moved.cell moved.old moved.was);
      no_cycle = split_acyclic d r s is (valid_is_closed d valid) valid.no_cycle;
      top = subst (λ (o : Option TopHead). IfSome o (λ t. IsCell e t.cell × HasDistinctKeys t.properties)) (sym tops)
          (weaker_top d.top (λ t. IsCell d t.cell × HasDistinctKeys t.properties) (λ t. IsCell e t.cell × HasDistinctKeys t.properties) (λ t both. (cell_there d r s is t.cell both.0, both.1)) valid.top);
      notes = subst (λ (o : Option TopHead). IfSome o (λ t. All (IsNoteBelow e t.cell) e.notes)) (sym top_after)
          (subst (λ ns. All (IsNoteBelow e r) ns) (sym notes)
          (All-weaker (IsNoteBelow d r) (IsNoteBelow e r) d.notes (note_after d r s is) (subst (λ (o : Option TopHead). IfSome o (λ t. All (IsNoteBelow d t.cell) d.notes)) at valid.notes)));
      notes_need_top = subst (λ (o : Option TopHead). IfNone o (e.notes ≡ [])) (sym top_after) tt;
      notes_differ = subst (λ (ns : List Note). AreDistinct (map note_key ns)) (sym notes) valid.notes_differ;
    }

-- ---- the two operations

pub not_many : (copies : List Copy) → too_many_cells copies ≡ None → HaveRoom copies
not_many copies none m member =
    let test = any-member (λ (copy : Copy). nat_le 65536 copy.id.slot) copies (not_refused _ (TooMany 65536) none) m member in
    less m.id.slot test
  where
    less : (n : ℕ) → nat_le 65536 n ≡ false → n < 65536
    less n e = leb-false 65536 n e

-- the last of three refusals, or of two
valid_or_none : (d : Design) (split : CellId → Split) → IsValid d → too_many_cells (below_top split d).copies ≡ None
    → ((top : TopHead) → d.top ≡ Some top → IsSplit d top.cell (split top.cell) × AreNamed d [] (split top.cell).copies) → IsValid (edited d (split_edits d (below_top split d)))
valid_or_none d split valid few good = at d.top refl few
  where
    at : (o : Option TopHead) → d.top ≡ o → too_many_cells (option_map_or (λ (top : TopHead). split top.cell) o (record { kept = []; copies = [] })).copies ≡ None
        → IsValid (edited d (split_edits d (option_map_or (λ (top : TopHead). split top.cell) o (record { kept = []; copies = [] }))))
    at None is few = valid
    at (Some top) is few =
        let parts = good top is in
        split_is_valid d top (split top.cell) valid is (record { split = parts.0; named = parts.1; room = not_many (split top.cell).copies few })

pub uniquify_keeps_valid : KeepsValid uniquify_row
uniquify_keeps_valid d valid none =
    let second = (first_none (refuse (is_none d.top) NoTop) (too_many_cells (below_top (each_block d) d).copies ∷ []) none).1 in
    let third = (first_none (too_many_cells (below_top (each_block d) d).copies) [] second).0 in
    valid_or_none d (each_block d) valid third
    (λ top at. (
      each_block_is_split d valid top.cell (top_is_cell d top at valid),
      copies_are_named d (filter (λ o. not (is_first (blocks_below d top.cell) o)) (blocks_below d top.cell)) [],
    ))

pub unique_path_keeps_valid : (names : List (List ℕ)) → KeepsValid (λ d. unique_path_row d names)
unique_path_keeps_valid names d valid none =
    let many = too_many_cells (below_top (along_path d names) d).copies ∷ [] in
    let second = (first_none (refuse (is_none d.top) NoTop) (refuse (not (is_path d d.top names)) NoPath ∷ many) none).1 in
    let third = (first_none (refuse (not (is_path d d.top names)) NoPath) many second).1 in
    let last = (first_none (too_many_cells (below_top (along_path d names) d).copies) [] third).0 in
    valid_or_none d (along_path d names) valid last
    (λ top at. (
      along_path_is_split d valid names top.cell (top_is_cell d top at valid),
      copies_are_named d (blocks d (steps_along d top.cell names)) [],
    ))
