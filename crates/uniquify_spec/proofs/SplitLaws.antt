-- The laws of the two operations, from those of splits.
use Rattle.std.proofs.Common.{◌≡◌, ◌≢◌, inl, inr, ℕ, List, [], ◌∷◌, refl, sym, ap, subst, ◌∙◌, Option, Some, None, Bool, true, false}
use Rattle.std.specs.Prelude.{IsTrue, is_none, not}
use Rattle.std.specs.Option.{option_map_or, option_or}
use Rattle.netlist_schema.specs.Design.{Design, cell_at}
use Rattle.netlist_schema.specs.Hierarchy.{IsCell}
use Rattle.netlist_schema.specs.Types.{CellId, TopHead}
use Rattle.netlist_schema.specs.Valid.{IsValid}
use Rattle.edit_rules_spec.specs.Edit.{Edit, edited}
use Rattle.edit_rules_spec.specs.Frame.{Stepped}
use Rattle.edit_rules_spec.specs.Objects.{Grown}
use Rattle.edit_rules_spec.specs.Rule.{Rule, refuse, first, unless, ruled}
use Rattle.edit_rules_spec.specs.Paths.{is_path}
use Rattle.edit_rules_spec.specs.Rule.{IsRefusal}
use Rattle.edit_rules_spec.specs.declared.reply.Reply.{Reply}
use Rattle.edit_rules_spec.specs.declared.reply.Reply.TheVariants.{NoPath, NoTop, TooMany}
use Rattle.edit_rules_spec.proofs.Closed.{valid_is_closed}
use Rattle.edit_rules_spec.proofs.Growing.{edited_is_grown}
use Rattle.flat_spec.specs.Occurrences.{Occurrence}
use Rattle.flat_spec.proofs.PathLemmas.{Some-same}
use Rattle.uniquify_spec.specs.Blocks.{is_block, each_block, along_path}
use Rattle.uniquify_spec.specs.Copies.{Copy}
use Rattle.uniquify_spec.specs.Erased.{erased_flattening}
use Rattle.uniquify_spec.specs.Laws.{IsAtOnePath, IsDoneBelow}
use Rattle.uniquify_spec.specs.Rows.{too_many_cells, split_row, below_top, uniquify_row, unique_path_row, uniquified, unique_along}
use Rattle.uniquify_spec.specs.Split.{Split, split_edits}
use Rattle.uniquify_spec.proofs.AlikeItems.{alike_flatten_alike}
use Rattle.uniquify_spec.proofs.BlockSplit.{each_block_is_split, block_owned}
use Rattle.uniquify_spec.proofs.CopyLists.{new_apart}
use Rattle.uniquify_spec.proofs.PathSplit.{along_path_is_split}
use Rattle.uniquify_spec.proofs.Reached.{top_is_cell}
use Rattle.uniquify_spec.proofs.SplitAlike.{split_alike}
use Rattle.uniquify_spec.proofs.SplitCells.{IsSplit, split_design, other_stays}
use Rattle.uniquify_spec.proofs.SplitOrigins.{split_acyclic}
use Rattle.uniquify_spec.proofs.SplitPlaces.{new_at_one_path, block_at_one_path}

-- what comes of a row
abbrev done : Design → Rule → Stepped
done d row = record { reply = (ruled row).reply; design = edited d (ruled row).edits }

split_flattens : (d : Design) (top : TopHead) (s : Split) → IsValid d → d.top ≡ Some top → IsSplit d top.cell s → erased_flattening (split_design d s) ≡ erased_flattening d
split_flattens d top s valid at is =
    sym (alike_flatten_alike d (split_design d s) valid.no_cycle (split_acyclic d top.cell s is (valid_is_closed d valid) valid.no_cycle) (split_alike d top s at is))

-- a refused row leaves the design, and one that is done changes it
done_or_same : (d : Design) (refusal : Option Reply) (reply : Reply) (edits : List Edit) (P : Design → Type 0) → P d → P (edited d edits) → P (edited d (unless refusal reply edits).edits)
done_or_same d None reply edits P same changed = changed
done_or_same d (Some refusal) reply edits P same changed = same

-- what holds of each split below the top, and of the design as it is
below_or_none : (d : Design) (split : CellId → Split) (P : Design → Type 0) → P d → ((top : TopHead) → d.top ≡ Some top → P (split_design d (split top.cell)))
    → P (split_design d (below_top split d))
below_or_none d split P same changed = at d.top refl
  where
    at : (o : Option TopHead) → d.top ≡ o → P (edited d (split_edits d (option_map_or (λ (top : TopHead). split top.cell) o (record { kept = []; copies = [] }))))
    at None is = same
    at (Some top) is = changed top is

split_keeps : (d : Design) (refusals : List (Option Reply)) (split : CellId → Split) (P : Design → Type 0) → P d
    → ((top : TopHead) → d.top ≡ Some top → P (split_design d (split top.cell))) → P (done d (split_row d refusals (below_top split d))).design
split_keeps d refusals split P same changed =
    let row = split_row d refusals (below_top split d) in
    done_or_same d (first row.refusals) row.reply row.edits P same (below_or_none d split P same changed)

pub uniquify_keeps_flattening : (d : Design) → IsValid d → erased_flattening (uniquified d).design ≡ erased_flattening d
uniquify_keeps_flattening d valid =
    split_keeps d (refuse (is_none d.top) NoTop ∷ []) (each_block d) (λ e. erased_flattening e ≡ erased_flattening d) refl
    (λ top at. split_flattens d top (each_block d top.cell) valid at (each_block_is_split d valid top.cell (top_is_cell d top at valid)))

pub unique_path_keeps_flattening : (d : Design) (path : List (List ℕ)) → IsValid d → erased_flattening (unique_along d path).design ≡ erased_flattening d
unique_path_keeps_flattening d path valid =
    split_keeps d (refuse (is_none d.top) NoTop ∷ refuse (not (is_path d d.top path)) NoPath ∷ []) (along_path d path) (λ e. erased_flattening e ≡ erased_flattening d) refl
    (λ top at. split_flattens d top (along_path d path top.cell) valid at (along_path_is_split d valid path top.cell (top_is_cell d top at valid)))

pub both_grow : (d : Design) (path : List (List ℕ)) → Grown d (uniquified d).design × Grown d (unique_along d path).design
both_grow d path = (edited_is_grown (ruled (uniquify_row d)).edits d, edited_is_grown (ruled (unique_path_row d path)).edits d)

-- ---- where it is done

refused : (tests : Bool) (reply : Reply) → IsRefusal reply → (rest : Option Reply) → ((x : Reply) → rest ≡ Some x → IsRefusal x) → (x : Reply) → option_or (refuse tests reply) rest ≡ Some x → IsRefusal x
refused true reply is rest more x e = let same : reply ≡ x = cc in subst IsRefusal same is
refused false reply is rest more x e = more x e

nothing : (x : Reply) → first [] ≡ Some x → IsRefusal x
nothing x e = cc

many_refused : (copies : List Copy) (x : Reply) → first (too_many_cells copies ∷ []) ≡ Some x → IsRefusal x
many_refused copies x e = refused _ (TooMany 65536) tt None nothing x e

was_done : (refusal : Option Reply) (reply : Reply) (edits : List Edit) → ((x : Reply) → refusal ≡ Some x → IsRefusal x) → ¬ IsRefusal (unless refusal reply edits).reply
    → (unless refusal reply edits).edits ≡ edits
was_done None reply edits refuses not_refused = refl
was_done (Some x) reply edits refuses not_refused = absurd (not_refused (refuses x refl))

-- where a row is done, the design is split
is_split_design : (d : Design) (top : TopHead) (refusals : List (Option Reply)) (split : CellId → Split) → d.top ≡ Some top
    → ((x : Reply) → first (split_row d refusals (below_top split d)).refusals ≡ Some x → IsRefusal x)
    → ¬ IsRefusal (done d (split_row d refusals (below_top split d))).reply
    → split_design d (split top.cell) ≡ (done d (split_row d refusals (below_top split d))).design
is_split_design d top refusals split at refuses not_refused =
    let row = split_row d refusals (below_top split d) in
    ap (λ (o : Option TopHead). edited d (split_edits d (option_map_or (λ (t : TopHead). split t.cell) o (record { kept = []; copies = [] })))) (sym at)
    ∙ ap (edited d) (sym (was_done (first row.refusals) row.reply row.edits refuses not_refused))

uniquify_refuses : (d : Design) (x : Reply) → first (uniquify_row d).refusals ≡ Some x → IsRefusal x
uniquify_refuses d x e = refused (is_none d.top) NoTop tt _ (many_refused (below_top (each_block d) d).copies) x e

unique_path_refuses : (d : Design) (path : List (List ℕ)) (x : Reply) → first (unique_path_row d path).refusals ≡ Some x → IsRefusal x
unique_path_refuses d path x e =
    refused (is_none d.top) NoTop tt _ (refused (not (is_path d d.top path)) NoPath tt _ (many_refused (below_top (along_path d path) d).copies)) x e

-- what Uniquify leaves is the split, where it is done
pub uniquify_is_split_design : (d : Design) (top : TopHead) → IsDoneBelow d top (uniquified d) → split_design d (each_block d top.cell) ≡ (uniquified d).design
uniquify_is_split_design d top is = is_split_design d top (refuse (is_none d.top) NoTop ∷ []) (each_block d) is.has_top (uniquify_refuses d) is.not_refused

pub each_block_is_at_one_path : (d : Design) (top : TopHead) → IsDoneBelow d top (uniquified d) → (id : CellId) → IsTrue (is_block (uniquified d).design id)
    → IsAtOnePath (uniquified d).design top.cell id
each_block_is_at_one_path d top is id block =
    let split = each_block_is_split d is.valid top.cell (top_is_cell d top is.has_top is.valid) in
    let same = is_split_design d top (refuse (is_none d.top) NoTop ∷ []) (each_block d) is.has_top (uniquify_refuses d) is.not_refused in
    subst (λ e. IsTrue (is_block e id) → IsAtOnePath e top.cell id) same
    (block_at_one_path d top.cell (each_block d top.cell) split (block_owned d is.valid top.cell) id) block

pub each_copy_is_at_one_path : (d : Design) (path : List (List ℕ)) (top : TopHead) → IsDoneBelow d top (unique_along d path) → (id : CellId) → ¬ IsCell d id
    → IsAtOnePath (unique_along d path).design top.cell id
each_copy_is_at_one_path d path top is id new =
    let split = along_path_is_split d is.valid path top.cell (top_is_cell d top is.has_top is.valid) in
    let same = is_split_design d top (refuse (is_none d.top) NoTop ∷ refuse (not (is_path d d.top path)) NoPath ∷ []) (along_path d path) is.has_top (unique_path_refuses d path) is.not_refused in
    subst (λ e. IsAtOnePath e top.cell id) same (new_at_one_path d top.cell (along_path d path top.cell) split id new)

pub originals_stay : (d : Design) (path : List (List ℕ)) (top : TopHead) → IsValid d → d.top ≡ Some top → (id : CellId) → IsCell d id → id ≢ top.cell
    → cell_at (unique_along d path).design id ≡ cell_at d id
originals_stay d path top valid at id is apart =
    split_keeps d (refuse (is_none d.top) NoTop ∷ refuse (not (is_path d d.top path)) NoPath ∷ []) (along_path d path) (λ e. cell_at e id ≡ cell_at d id) refl
    (λ t there.
    let split = along_path_is_split d valid path t.cell (top_is_cell d t there valid) in
    let same : t ≡ top = Some-same d.top there at in
    other_stays d (along_path d path t.cell) split.new id (λ m member. new_apart d (along_path d path t.cell).copies split.new m member id is)
    (λ o kept here. elim kept [
      | inl root ↦ apart (here ∙ ap (λ (v : Occurrence). v.cell) (sym root) ∙ ap (λ (v : TopHead). v.cell) same)
      | inr never ↦ never
    ]))
