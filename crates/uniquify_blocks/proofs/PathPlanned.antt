-- The plan for the blocks along a path.
use Rattle.std.proofs.Common.{◌≡◌, ℕ, true, false, List, [], ◌∷◌, ◌++◌, map, Some, refl, sym, ap, subst, ◌∙◌, inl, inr}
use Rattle.std.specs.List.{All}
use Rattle.std.proofs.lemmas.List.Elements.{All-from_recursion}
use Rattle.netlist_schema.specs.Design.{Design}
use Rattle.netlist_schema.specs.Hierarchy.{IsCell}
use Rattle.netlist_schema.specs.Names.{AreDistinct}
use Rattle.netlist_schema.specs.Types.{CellId, TopHead}
use Rattle.netlist_schema.specs.Valid.{IsValid}
use Rattle.edit_rules_spec.proofs.Lists.{distinct_of}
use Rattle.edit_rules_spec.specs.Rule.{refuse}
use Rattle.edit_rules_spec.specs.declared.reply.Reply.TheVariants.{TooMany}
use Rattle.flat_spec.specs.Occurrences.{Occurrence}
use Rattle.flat_spec.specs.Paths.{Reaches}
use Rattle.flat_spec.proofs.ListLemmas.{Member, Member-from_filter}
use Rattle.uniquify_spec.specs.Blocks.{along_path, blocks, is_block, root_of, steps_along}
use Rattle.uniquify_spec.specs.Copies.{copies_after}
use Rattle.uniquify_spec.specs.Rows.{too_many_cells}
use Rattle.uniquify_spec.specs.Split.{Split}
use Rattle.uniquify_spec.proofs.PathSplit.{step_reached}
use Rattle.uniquify_spec.proofs.SplitEdits.{block_is_cell, each_of}
use Rattle.uniquify_copies.proofs.DraftSeats.{draft_seats, draft_split, split_for}
use Rattle.uniquify_copies.specs.Changes.{AreSeats}
use Rattle.uniquify_copies.specs.Drafts.{IsDraft, has_no_room}
use Rattle.uniquify_copies.specs.Seats.{copies_of, seats, split_of}
use Rattle.uniquify_copies.specs.declared.draft.CopyDraft.{CopyDraft}
use Rattle.uniquify_blocks.specs.Along.{chain}
use Rattle.uniquify_blocks.specs.Plans.{all_copied}
use Rattle.uniquify_copies.specs.declared.spot.Step.{Step}
use Rattle.uniquify_blocks.proofs.Chains.{all_copied-copied, all_copied-kept, all_copied-occurrences, chain_apart}

abbrev pub IsTop : Design → CellId → Type 0
IsTop d top = (head : TopHead) × (d.top ≡ Some head) × (head.cell ≡ top)

module _ (d : Design) (top : CellId) (path : List (List ℕ)) (steps : List Step) (valid : IsValid d) (is_top : IsTop d top) (are : blocks d (steps_along d top path) ≡ chain [] steps) where
  in_chain : (o : Occurrence) → Member (chain [] steps) o → Reaches d top o.path o.cell × (is_block d o.cell ≡ true)
  in_chain o member =
      let both = Member-from_filter (λ (x : Occurrence). is_block d x.cell) (steps_along d top path) o (subst (λ os. Member os o) (sym are) member) in
      (step_reached d path top o both.0, both.1)

  steps_are : (path : List ℕ) (ss : List Step) → ((o : Occurrence) → Member (chain path ss) o → IsCell d o.cell) → (s : Step) → Member ss s → IsCell d s.of
  steps_are path [] all s member = absurd member
  steps_are path (x ∷ ss) all s member = elim member [
    | inl e ↦ subst (λ (y : Step). IsCell d y.of) e (all (record { path = path ++ x.place ∷ []; cell = x.of }) (inl refl))
    | inr rest ↦ steps_are (path ++ x.place ∷ []) ss (λ o m. all o (inr m)) s rest
  ]

  pub cells_there : All (λ (step : Step). IsCell d step.of) steps
  cells_there = All-from_recursion (λ (step : Step). IsCell d step.of) steps
      (each_of (λ (step : Step). IsCell d step.of) steps (steps_are [] steps (λ o member. block_is_cell d o.cell (in_chain o member).1)))

  abbrev the_split : Split
  the_split = along_path d path top

  split_is : split_for d top (all_copied (chain [] steps)) ≡ the_split
  split_is = λ i. record {
    kept = root_of top ∷ all_copied-kept (chain [] steps) i;
    copies = copies_after d [] ((all_copied-copied (chain [] steps) ∙ sym are) i);
  }

  module _ (draft : CopyDraft) (is : IsDraft d top (all_copied (chain [] steps)) draft) where
    pub path_seats : AreSeats d top draft.spots.items
    path_seats = draft_seats d top (all_copied (chain [] steps)) draft is
        (subst (λ os. AreDistinct (map (λ (o : Occurrence). o.path) (root_of top ∷ os))) (sym (all_copied-occurrences (chain [] steps)))
        (distinct_of (map (λ (o : Occurrence). o.path) (root_of top ∷ chain [] steps)) (chain_apart [] steps)))
        (λ o member. elim (subst (λ os. Member (root_of top ∷ os) o) (all_copied-occurrences (chain [] steps)) member) [
          | inl e ↦ subst (λ (x : Occurrence). Reaches d top x.path x.cell) e refl
          | inr rest ↦ (in_chain o rest).0
        ])
        (λ o member. block_is_cell d o.cell (in_chain o (subst (λ os. Member os o) (all_copied-copied (chain [] steps)) member)).1)

    pub path_room : has_no_room (copies_of (seats top draft.spots.items)) ≡ false
    path_room = ap has_no_room is.copies ∙ is.room

    pub path_split : split_of (seats top draft.spots.items) ≡ the_split
    path_split = draft_split d top (all_copied (chain [] steps)) draft is ∙ split_is

  pub path_too_many : has_no_room (copies_after d [] (chain [] steps)) ≡ true → too_many_cells the_split.copies ≡ Some (TooMany 65536)
  path_too_many full = ap (λ os. refuse (has_no_room (copies_after d [] os)) (TooMany 65536)) are ∙ ap (λ b. refuse b (TooMany 65536)) full
