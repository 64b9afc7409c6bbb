-- Once each block is at one path, there is no later occurrence of a block.
use Rattle.std.proofs.Common.{◌≡◌, List, [], ◌∷◌, length, refl, sym, ap, subst, ◌∙◌, inl, inr, Option, Some, None, Bool, true, false, not}
use Rattle.std.specs.Prelude.{filter, is_none}
use Rattle.std.specs.Option.{option_map_or, option_or}
use Rattle.std.proofs.lemmas.Bool.{true≢false, cond-false}
use Rattle.netlist_schema.specs.Design.{Design}
use Rattle.netlist_schema.specs.Types.{CellId, TopHead}
use Rattle.netlist_schema.specs.Valid.{IsValid}
use Rattle.edit_rules_spec.specs.Edit.{edited}
use Rattle.edit_rules_spec.specs.Paths.{same_cell}
use Rattle.edit_rules_spec.specs.Rule.{refuse, first, unless, ruled}
use Rattle.edit_rules_spec.specs.declared.reply.Reply.{Reply}
use Rattle.edit_rules_spec.specs.declared.reply.Reply.TheVariants.{Copies, NoTop}
use Rattle.edit_rules_spec.proofs.Growing.{edited_is_grown}
use Rattle.edit_rules_spec.proofs.Levels.{same_cell-refl, is_same_cell}
use Rattle.flat_spec.specs.Occurrences.{Occurrence}
use Rattle.flat_spec.specs.Paths.{Reaches}
use Rattle.flat_spec.proofs.ListLemmas.{Member}
use Rattle.uniquify_spec.specs.Blocks.{is_block, blocks_below, is_first, each_block}
use Rattle.uniquify_spec.specs.Copies.{Copy, same_path, copies_after}
use Rattle.uniquify_spec.specs.Laws.{IsAtOnePath, IsDoneBelow, IsUnique}
use Rattle.uniquify_spec.specs.Rows.{too_many_cells, split_row, uniquify_row, uniquified}
use Rattle.uniquify_spec.specs.Split.{split_edits}
use Rattle.uniquify_spec.proofs.BlockSplit.{block_parts, block_reached}
use Rattle.uniquify_spec.proofs.CopyLists.{find-cases, same_path-refl}
use Rattle.uniquify_spec.proofs.SplitLaws.{each_block_is_at_one_path}
use Rattle.uniquify_spec.proofs.SplitValid.{uniquify_keeps_valid}

filter-none : {A : Type 0} (test : A → Bool) (xs : List A) → ((x : A) → Member xs x → test x ≡ false) → filter test xs ≡ []
filter-none test [] none = refl
filter-none test (x ∷ xs) none = cond-false _ _ _ (none x (inl refl)) ∙ filter-none test xs (λ y m. none y (inr m))

-- where no two paths lead to one block, each occurrence is the first of its cell
all_first : (e : Design) → IsValid e → (r : CellId) → ((id : CellId) → is_block e id ≡ true → IsAtOnePath e r id) → (o : Occurrence) → Member (blocks_below e r) o → is_first (blocks_below e r) o ≡ true
all_first e valid r alone o member = elim (find-cases (λ (other : Occurrence). same_cell other.cell o.cell) (blocks_below e r)) [
  | inl none ↦ absurd (true≢false (sym (same_cell-refl o.cell) ∙ none.1 o member))
  | inr some ↦
      let f = some.0 in
      let cell = is_same_cell f.cell o.cell some.3 in
      let there : Reaches e r f.path o.cell = subst (λ c. Reaches e r f.path c) cell (block_reached e valid r f some.2) in
      let same = alone o.cell (block_parts e r o member).1 f.path o.path there (block_reached e valid r o member) in
      ap (λ (g : Option Occurrence). option_map_or (λ first. same_path first.path o.path) g false) some.1 ∙ ap (λ p. same_path p o.path) same ∙ same_path-refl o.path
]

no_copies : (e : Design) → IsValid e → (r : CellId) → ((id : CellId) → is_block e id ≡ true → IsAtOnePath e r id) → (each_block e r).copies ≡ []
no_copies e valid r alone =
    ap (copies_after e []) (filter-none (λ (o : Occurrence). not (is_first (blocks_below e r) o)) (blocks_below e r) (λ o member. ap not (all_first e valid r alone o member)))

-- and the reply says so
reply_none : (e : Design) (top : TopHead) → e.top ≡ Some top → (each_block e top.cell).copies ≡ [] → (uniquified e).reply ≡ Copies 0
reply_none e top at none =
    ap (λ (o : Option TopHead). (ruled (split_row e (refuse (is_none o) NoTop ∷ []) (option_map_or (λ (t : TopHead). each_block e t.cell) o (record { kept = []; copies = [] })))).reply) at
    ∙ ap (λ (ms : List Copy). (unless (option_or None (option_or (too_many_cells ms) None)) (Copies (length ms)) (split_edits e (each_block e top.cell))).reply) none

valid_after : (d : Design) → IsValid d → IsValid (uniquified d).design
valid_after d valid = at (first (uniquify_row d).refusals) refl
  where
    at : (f : Option Reply) → first (uniquify_row d).refusals ≡ f → IsValid (edited d (unless f (uniquify_row d).reply (uniquify_row d).edits).edits)
    at None is = uniquify_keeps_valid d valid is
    at (Some refusal) is = valid

pub once_is_enough : (d : Design) (top : TopHead) → IsDoneBelow d top (uniquified d) → IsUnique d
once_is_enough d top is =
    let e = (uniquified d).design in
    let valid = valid_after d is.valid in
    let at : e.top ≡ Some top = sym (edited_is_grown (ruled (uniquify_row d)).edits d).top ∙ is.has_top in
    record { valid = valid; again = reply_none e top at (no_copies e valid top.cell (λ id block. each_block_is_at_one_path d top is id block)) }
