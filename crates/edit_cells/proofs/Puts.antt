-- A net or an instance put in its place is the edit that it is said to be.
use Rattle.std.proofs.Common.{◌≡◌, ◌≤◌, ℕ, List, [], ◌∷◌, ◌++◌, length, false, Option, Some, None, refl, sym, ap, subst, ◌∙◌}
use Rattle.std.specs.Prelude.{IsSomeAnd, is_some, option_and_then, option_map, option_to_list}
use Rattle.std.specs.Option.{option_map_or}
use Rattle.netlist_schema.specs.Change.{body_with, with_cell, with_inside, with_inst_put, with_net_put}
use Rattle.netlist_schema.specs.Design.{Design, cell_at}
use Rattle.netlist_schema.specs.Types.{CellBody, CellId, Contents, Inst as InstType, Net as NetType}
use Rattle.edit_rules_spec.specs.Edit.{edited, edited_once, inner, noted, with_changed_cell}
use Rattle.edit_rules_spec.specs.Seen.{contents_at}
use Rattle.edit_rules_spec.proofs.Filled.{with_changed_is}
use Rattle.edit_cells.specs.Change.{CanBeMade, cell_edits, edit_of, edits_of, inst_put, net_put}
use Rattle.edit_cells.specs.declared.change.Change.{Change}
use Rattle.edit_cells.specs.declared.change.CellChange.{CellChange}
use Rattle.edit_cells.specs.declared.change.CellChange.TheVariants.{Net, Inst}
use Rattle.edit_cells.proofs.Patches.{inside_changed}

-- the cell is there, and its contents are
pub there : (P : Contents → Type 0) (o : Option CellBody) → IsSomeAnd (option_and_then (λ body. body.contents) o) P → IsSomeAnd o (λ body. IsSomeAnd body.contents P)
there P None is = is
there P (Some body) is = is

pub put_inside : (d : Design) (id : CellId) (P : Contents → Type 0) (made : Option Contents → Contents) (change : Contents → Contents) → ((contents : Contents) → made (Some contents) ≡ change contents) → IsSomeAnd (contents_at d id) P → with_inside d id change ≡ edited_once d (inner id (made (contents_at d id)))
put_inside d id P made change is can =
    by_cell (cell_at d id) refl can ∙ sym (inside_changed d id made change is)
  where
    by_cell : (o : Option CellBody) → cell_at d id ≡ o → IsSomeAnd (option_and_then (λ (b : CellBody). b.contents) o) P → with_inside d id change ≡ with_changed_cell d id (body_with change)
    by_cell None found never = absurd never
    by_cell (Some body) found _ =
        ap (λ (o : Option CellBody). option_map_or (λ b. with_cell d id (body_with change b)) o d) found ∙ sym (with_changed_is d id (body_with change) body found)

pub net_put_is : (d : Design) (change : CellChange) (id : CellId) (place : ℕ) (net : NetType) → change ≡ Net id place net → CanBeMade d change → with_inside d id (with_net_put place net) ≡ edited_once d (edit_of d change)
net_put_is d change id place net is can =
    put_inside d id (λ contents. place ≤ length contents.nets) (net_put place net) (with_net_put place net) (λ contents. refl) (subst (λ (c : CellChange). CanBeMade d c) is can)
    ∙ ap (λ (c : CellChange). edited_once d (edit_of d c)) (sym is)

pub inst_put_is : (d : Design) (change : CellChange) (id : CellId) (place : ℕ) (inst : InstType) → change ≡ Inst id place inst → CanBeMade d change → with_inside d id (with_inst_put place inst) ≡ edited_once d (edit_of d change)
inst_put_is d change id place inst is can =
    put_inside d id (λ contents. place ≤ length contents.insts) (inst_put place inst) (with_inst_put place inst) (λ contents. refl) (subst (λ (c : CellChange). CanBeMade d c) is can)
    ∙ ap (λ (c : CellChange). edited_once d (edit_of d c)) (sym is)

-- the change is the only one, and no notes are given
none_there : {X : Type 0} (o : Option X) → false ≡ is_some o → o ≡ None
none_there None is = refl
none_there (Some x) is = cc

pub only_change : (d : Design) (change : Change) (one : CellChange) (cells : List CellChange) → cells ≡ change.cells → cells ≡ one ∷ [] → false ≡ is_some change.notes → edited d (edits_of d change) ≡ edited_once d (edit_of d one)
only_change d change one cells same is none =
    λ i. edited d (cell_edits d ((sym same ∙ is) i) ++ option_to_list (option_map noted (none_there change.notes none i)))

pub without_notes : (d : Design) (change : Change) (cells : List CellChange) → cells ≡ change.cells → false ≡ is_some change.notes → edited d (edits_of d change) ≡ edited d (edits_of d (record { cells = cells; notes = None }))
without_notes d change cells same none =
    λ i. edited d (cell_edits d (sym same i) ++ option_to_list (option_map noted (none_there change.notes none i)))
