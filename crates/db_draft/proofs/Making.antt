-- Changes as edits of the design.
use Rattle.std.proofs.Common.{◌≡◌, ℕ, List, [], ◌∷◌, ◌++◌, Option, Some, None, IsSome, refl, sym, ap, subst, ◌∙◌, ◌<◌, arith}
use Rattle.std.specs.Prelude.{option_to_list, slice_get}
use Rattle.std.specs.Option.{option_map, option_map_or}
use Rattle.netlist_schema.specs.Change.{with_inst_put, with_net_put}
use Rattle.netlist_schema.specs.Design.{Design, cells_in, lib_at}
use Rattle.netlist_schema.specs.Names.{AreDistinct, cell_names}
use Rattle.netlist_schema.specs.Types.{CellBody, CellId, Inst as InstType, Lib, LibId, Net as NetType, Note}
use Rattle.netlist_schema.specs.Valid.{IsValid}
use Rattle.netlist_schema.proofs.Cells.{All-slice_get}
use Rattle.edit_rules_spec.specs.Edit.{edited, edited_once, noted, with_changed_cell, with_more_cell}
use Rattle.edit_rules_spec.specs.Find.{place_of}
use Rattle.edit_rules_spec.specs.Objects.{IsPrefix}
use Rattle.edit_rules_spec.proofs.Named.{found_at}
use Rattle.std.proofs.lemmas.Option.{slice_get_within}
use Rattle.edit_rules_spec.proofs.Edits.{more_same}
use Rattle.edit_rules_spec.proofs.Growing.{edited_is_grown}
use Rattle.edit_rules_spec.proofs.Lists.{Apart, apart_of, distinct_of, each_left}
use Rattle.uniquify_spec.proofs.SplitWhich.{few_cells_in}
use Rattle.edit_cells.specs.Change.{CanAllBeMade, CanBeMade, cell_edits, edit_of, edits_of, inst_put, net_put}
use Rattle.edit_cells.specs.Patch.{body_after}
use Rattle.edit_cells.specs.declared.change.Change.{Change}
use Rattle.edit_cells.specs.declared.change.CellChange.{CellChange}
use Rattle.edit_cells.specs.declared.change.CellChange.TheVariants.{Fresh, Net, Inst}
use Rattle.edit_cells.proofs.Patches.{cell_edits_more, edited_joined, inside_changed}

pub more_cells : (d : Design) (lib : LibId) (body : CellBody) → IsSome (lib_at d lib) → cells_in (with_more_cell d lib body) lib ≡ cells_in d lib ++ body ∷ []
more_cells d lib body there = ap (λ (o : Option Lib). option_map_or (λ l. l.cells) o []) (more_same d lib body lib refl) ∙ one (lib_at d lib) there
  where
    one : (o : Option Lib) → IsSome o → option_map_or (λ (l : Lib). l.cells) (option_map (λ (l : Lib). record l { cells = l.cells ++ body ∷ [] }) o) [] ≡ option_map_or (λ (l : Lib). l.cells) o [] ++ body ∷ []
    one None is = cc
    one (Some l) is = refl

pub fresh_distinct : (d : Design) (change : CellChange) (id : CellId) (body made : CellBody) → change ≡ Fresh id body → made ≡ body → CanBeMade d change → ((lib : LibId) → AreDistinct (cell_names (cells_in (edited_once d (edit_of d change)) lib))) → AreDistinct (cell_names (cells_in d id.lib ++ made ∷ []))
fresh_distinct d change id body made is same can distinct =
    let there : CanBeMade d (Fresh id body) = subst (λ (c : CellChange). CanBeMade d c) is can in
    let here : AreDistinct (cell_names (cells_in (with_more_cell d id.lib body) id.lib)) = subst (λ (c : CellChange). AreDistinct (cell_names (cells_in (edited_once d (edit_of d c)) id.lib))) is (distinct id.lib) in
    subst (λ (b : CellBody). AreDistinct (cell_names (cells_in d id.lib ++ b ∷ []))) (sym same) (subst (λ (cs : List CellBody). AreDistinct (cell_names cs)) (more_cells d id.lib body there.0) here)

pub net_is : (d : Design) (change : CellChange) (id : CellId) (place : ℕ) (net : NetType) → change ≡ Net id place net → with_changed_cell d id (body_after (Net id place net)) ≡ edited_once d (edit_of d change)
net_is d change id place net is = sym (inside_changed d id (net_put place net) (with_net_put place net) (λ contents. refl)) ∙ ap (λ (c : CellChange). edited_once d (edit_of d c)) (sym is)

pub inst_is : (d : Design) (change : CellChange) (id : CellId) (place : ℕ) (inst : InstType) → change ≡ Inst id place inst → with_changed_cell d id (body_after (Inst id place inst)) ≡ edited_once d (edit_of d change)
inst_is d change id place inst is = sym (inside_changed d id (inst_put place inst) (with_inst_put place inst) (λ contents. refl)) ∙ ap (λ (c : CellChange). edited_once d (edit_of d c)) (sym is)

-- ---- notes

after_cells : (d : Design) (change : Change) → edited d (edits_of d change) ≡ edited (edited d (cell_edits d change.cells)) (option_to_list (option_map noted change.notes))
after_cells d change = edited_joined d (cell_edits d change.cells) (option_to_list (option_map noted change.notes))

pub with_notes : (d : Design) (change : Change) (notes : List Note) → change.notes ≡ Some notes → edited d (edits_of d change) ≡ record (edited d (cell_edits d change.cells)) { notes = notes }
with_notes d change notes is = after_cells d change ∙ ap (λ (o : Option (List Note)). edited (edited d (cell_edits d change.cells)) (option_to_list (option_map noted o))) is

same_libs : (d : Design) (o : Option (List Note)) → (edited d (option_to_list (option_map noted o))).libs ≡ d.libs
same_libs d None = refl
same_libs d (Some notes) = refl

-- the names of each library differ
pub each_distinct : (d : Design) → IsValid d → (lib : LibId) → AreDistinct (cell_names (cells_in d lib))
each_distinct d valid lib = one (lib_at d lib) refl
  where
    one : (o : Option Lib) → lib_at d lib ≡ o → AreDistinct (cell_names (option_map_or (λ (l : Lib). l.cells) o []))
    one None is = λ i j n less within. absurd (omega arith)
    one (Some l) is = All-slice_get (λ (x : Lib). AreDistinct (cell_names x.cells)) d.libs lib.0 l valid.names.cells is

pub cells_distinct : (d : Design) (change : Change) → IsValid (edited d (edits_of d change)) → (lib : LibId) → AreDistinct (cell_names (cells_in (edited d (cell_edits d change.cells)) lib))
cells_distinct d change valid lib =
    let libs = ap (λ (e : Design). e.libs) (after_cells d change) ∙ same_libs (edited d (cell_edits d change.cells)) change.notes in
    subst (λ (ls : List Lib). AreDistinct (cell_names (option_map_or (λ (l : Lib). l.cells) (slice_get ls lib.0) []))) libs (each_distinct (edited d (edits_of d change)) valid lib)

-- ---- changes one after the other

pub can_next : (xs : List CellChange) (d : Design) (x : CellChange) (rest : List CellChange) → CanAllBeMade d (xs ++ x ∷ rest) → CanBeMade (edited d (cell_edits d xs)) x
can_next [] d x rest can = can.0
can_next (y ∷ xs) d x rest can = can_next xs (edited_once d (edit_of d y)) x rest can.1

apart_left : (xs more : List (List ℕ)) → Apart (xs ++ more) → Apart xs
apart_left [] more all = tt
apart_left (x ∷ xs) more all = (each_left (λ y. x ≡ y → ⊥) xs more all.0, apart_left xs more all.1)

pub prefix_distinct : (xs ys : List (List ℕ)) → IsPrefix xs ys → AreDistinct ys → AreDistinct xs
prefix_distinct xs ys prefix distinct = distinct_of xs (apart_left xs prefix.0 (apart_of (xs ++ prefix.0) (subst (λ (ns : List (List ℕ)). AreDistinct ns) prefix.1 distinct)))

pub distinct_next : (xs : List CellChange) (d : Design) (x : CellChange) (rest : List CellChange) → ((lib : LibId) → AreDistinct (cell_names (cells_in (edited d (cell_edits d (xs ++ x ∷ rest))) lib)))
    → (lib : LibId) → AreDistinct (cell_names (cells_in (edited_once (edited d (cell_edits d xs)) (edit_of (edited d (cell_edits d xs)) x)) lib))
distinct_next [] d x rest distinct lib =
    let next = edited_once d (edit_of d x) in
    let grown = edited_is_grown (cell_edits next rest) next in
    prefix_distinct (cell_names (cells_in next lib)) (cell_names (cells_in (edited next (cell_edits next rest)) lib)) (grown.directories lib) (distinct lib)
distinct_next (y ∷ xs) d x rest distinct lib = distinct_next xs (edited_once d (edit_of d y)) x rest distinct lib

pub made_next : (d : Design) (xs : List CellChange) (x : CellChange) → edited_once (edited d (cell_edits d xs)) (edit_of (edited d (cell_edits d xs)) x) ≡ edited d (cell_edits d (xs ++ x ∷ []))
made_next d xs x = sym (ap (edited d) (cell_edits_more d xs x) ∙ edited_joined d (cell_edits d xs) (edit_of (edited d (cell_edits d xs)) x ∷ []))

-- ---- few cells

pub place_is_low : (d : Design) (name : List ℕ) (lib : LibId) (place : ℕ) → IsValid d → Some place ≡ place_of name (cell_names (cells_in d lib)) → place < 65536
place_is_low d name lib place valid is =
    let found = found_at (λ (c : CellBody). c.name.id) name (cells_in d lib) place (sym is) in
    let within = slice_get_within (cells_in d lib) place found.0 found.1 in
    let few = few_cells_in d valid lib in
    omega arith
