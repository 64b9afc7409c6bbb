-- The plan for the blocks below a top.
use Rattle.std.proofs.Common.{◌≡◌, ◌≢◌, ℕ, true, false, not, List, [], ◌∷◌, map, Some, refl, sym, ap, subst, ◌∙◌, inl, inr}
use Rattle.std.specs.List.{AllByRecursion}
use Rattle.netlist_schema.specs.Design.{Design}
use Rattle.netlist_schema.specs.Names.{AreDistinct}
use Rattle.netlist_schema.specs.Types.{CellId}
use Rattle.netlist_schema.specs.Valid.{IsValid}
use Rattle.edit_rules_spec.specs.Rule.{refuse}
use Rattle.edit_rules_spec.specs.declared.reply.Reply.TheVariants.{TooMany}
use Rattle.edit_rules_spec.proofs.Lists.{Apart, distinct_of}
use Rattle.flat_spec.specs.Occurrences.{Occurrence}
use Rattle.flat_spec.specs.Paths.{Reaches}
use Rattle.flat_spec.proofs.ListLemmas.{Ascends, Member, Member-from_filter, Ascends-filter}
use Rattle.flat_spec.proofs.OccurrenceLemmas.{OccurrenceBefore}
use Rattle.flat_spec.specs.PathOrder.{PathBefore}
use Rattle.uniquify_spec.specs.Blocks.{blocks_below, each_block, is_block, is_first, root_of}
use Rattle.uniquify_spec.specs.Copies.{copies_after}
use Rattle.uniquify_spec.specs.Rows.{too_many_cells}
use Rattle.uniquify_spec.specs.Split.{Split}
use Rattle.uniquify_spec.proofs.BlockSplit.{PathBefore-never, block_parts, block_reached}
use Rattle.uniquify_spec.proofs.SplitEdits.{block_is_cell}
use Rattle.uniquify_spec.proofs.Unfolded.{below, below_ascends, below_has_step}
use Rattle.uniquify_copies.proofs.DraftSeats.{draft_seats, draft_split, split_for}
use Rattle.uniquify_copies.specs.Changes.{AreSeats}
use Rattle.uniquify_copies.specs.Drafts.{IsDraft, has_no_room, made_for, occurrences_of}
use Rattle.uniquify_copies.specs.Seats.{copies_of, seats, split_of}
use Rattle.uniquify_copies.specs.declared.draft.CopyDraft.{CopyDraft}
use Rattle.uniquify_op.specs.Marks.{marked}
use Rattle.uniquify_op.proofs.Marking.{marked_copied, marked_kept, marks_occurrences}

-- ---- paths differ

each_apart : (p : List ℕ) (os : List Occurrence) → ((o : Occurrence) → Member os o → p ≢ o.path) → AllByRecursion (λ q. p ≢ q) (map (λ (o : Occurrence). o.path) os)
each_apart p [] differ = tt
each_apart p (o ∷ os) differ = (differ o (inl refl), each_apart p os (λ x m. differ x (inr m)))

paths_apart : (os : List Occurrence) → Ascends OccurrenceBefore os → Apart (map (λ (o : Occurrence). o.path) os)
paths_apart [] ascends = tt
paths_apart (o ∷ os) ascends =
    (each_apart o.path os (λ x m same. PathBefore-never o.path (subst (λ q. PathBefore o.path q) (sym same) (ascends.0 x m))), paths_apart os ascends.1)

module _ (d : Design) (top : CellId) (valid : IsValid d) where
  all_apart : Apart (map (λ (o : Occurrence). o.path) (root_of top ∷ blocks_below d top))
  all_apart = (
    each_apart [] (blocks_below d top) (λ o m same. below_has_step d top o (block_parts d top o m).0 (sym same)),
    paths_apart (blocks_below d top) (Ascends-filter OccurrenceBefore (λ (o : Occurrence). is_block d o.cell) (below d top) (below_ascends d top)),
  )

  occurrences_are : occurrences_of (marked d top) ≡ blocks_below d top
  occurrences_are = marks_occurrences [] (blocks_below d top)

  split_is : split_for d top (marked d top) ≡ each_block d top
  split_is = λ i. record { kept = root_of top ∷ marked_kept d top valid i; copies = copies_after d [] (marked_copied d top valid i) }

  module _ (draft : CopyDraft) (is : IsDraft d top (marked d top) draft) where
    pub block_seats : AreSeats d top draft.spots.items
    block_seats = draft_seats d top (marked d top) draft is
        (subst (λ l. AreDistinct (map (λ (o : Occurrence). o.path) (root_of top ∷ l))) (sym occurrences_are)
        (distinct_of (map (λ (o : Occurrence). o.path) (root_of top ∷ blocks_below d top)) all_apart))
        (λ o member. elim (subst (λ l. Member (root_of top ∷ l) o) occurrences_are member) [
          | inl e ↦ subst (λ (x : Occurrence). Reaches d top x.path x.cell) e refl
          | inr rest ↦ block_reached d valid top o rest
        ])
        (λ o member.
        let later = subst (λ l. Member l o) (marked_copied d top valid) member in
        let block = (Member-from_filter (λ x. not (is_first (blocks_below d top) x)) (blocks_below d top) o later).0 in
        block_is_cell d o.cell (block_parts d top o block).1)

    pub block_room : has_no_room (copies_of (seats top draft.spots.items)) ≡ false
    block_room = ap has_no_room is.copies ∙ is.room

    pub block_split : split_of (seats top draft.spots.items) ≡ each_block d top
    block_split = draft_split d top (marked d top) draft is ∙ split_is

  pub blocks_too_many : has_no_room (made_for d (marked d top)) ≡ true → too_many_cells (each_block d top).copies ≡ Some (TooMany 65536)
  blocks_too_many full =
      ap (λ (s : Split). refuse (has_no_room s.copies) (TooMany 65536)) (sym split_is) ∙ ap (λ b. refuse b (TooMany 65536)) full
