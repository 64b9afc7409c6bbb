-- What comes of the blocks along a path.
use Rattle.std.proofs.Common.{◌≡◌, ℕ, Bool, true, false, not, List, [], map, length, Option, Some, None, refl, sym, ap, subst, ◌∙◌, inl, inr}
use Rattle.std.specs.Prelude.{◌↔◌, ◌&&◌, ◌==◌, IfSome, MatchResult, Result, Ok, Err, is_none}
use Rattle.std.specs.List.{Contains}
use Rattle.std.specs.Option.{option_map, option_map_or, option_or}
use Rattle.netlist_schema.specs.Design.{Design}
use Rattle.netlist_schema.specs.Types.{CellId, Object, TopHead}
use Rattle.netlist_schema.specs.Valid.{IsValid}
use Rattle.netlist_schema.specs.declared.ids.Object.TheVariants.{Directory}
use Rattle.edit_rules_spec.specs.Edit.{edited}
use Rattle.edit_rules_spec.specs.Paths.{is_path, resolves}
use Rattle.edit_rules_spec.specs.Rule.{Outcome, refuse, unless}
use Rattle.edit_rules_spec.specs.declared.reply.Reply.{Reply}
use Rattle.edit_rules_spec.specs.declared.reply.Reply.TheVariants.{Copies, NoPath, NoTop, TooMany}
use Rattle.edit_spec.specs.Needs.{Needs}
use Rattle.edit_spec.specs.Rows.{outcome}
use Rattle.edit_spec.specs.declared.ops.Op.TheVariants.{UniquePath}
use Rattle.edit_spec.proofs.Framed.{step_is_valid}
use Rattle.flat_spec.specs.Occurrences.{Occurrence}
use Rattle.flat_spec.proofs.ListLemmas.{Contains-member, Member-contains, Member-from_map, Member-map}
use Rattle.uniquify_spec.specs.Blocks.{along_path, is_block, steps_along}
use Rattle.uniquify_spec.specs.Needs.{UniquePathNeedsBelow}
use Rattle.uniquify_spec.specs.Parts.{IsPartOf}
use Rattle.uniquify_spec.specs.Rows.{below_top, too_many_cells}
use Rattle.uniquify_spec.specs.Split.{Split, split_edits}
use Rattle.edit_cells.specs.Change.{HasMade, edits_of}
use Rattle.edit_cells.specs.State.{State, HasReadSome}
use Rattle.eco_reads.specs.Done.{IsDone, IsDoneOrFails}
use Rattle.eco_reads.specs.Plan.{IsGood}
use Rattle.eco_reads.proofs.Reading.{done_made, done_read, read_nothing, read_some}
use Rattle.uniquify_blocks.specs.Along.{IsOnPath}
use Rattle.uniquify_blocks.specs.Plans.{IsPlan, IsPlanned, IsPut}
use Rattle.uniquify_blocks.specs.declared.plan.SplitPlan.{SplitPlan}
use Rattle.uniquify_blocks.proofs.Walking.{Read}

pub top_of : (o : Option TopHead) (top : CellId) → Some top ≡ option_map (λ (t : TopHead). t.cell) o → (head : TopHead) × (o ≡ Some head) × (head.cell ≡ top)
top_of None top is = cc
top_of (Some head) top is = let same : head.cell ≡ top = cc in (head, refl, same)

pub no_top_of : (o : Option TopHead) → None ≡ option_map (λ (t : TopHead). t.cell) o → o ≡ None
no_top_of None is = refl
no_top_of (Some head) is = cc

-- ---- what is needed

module _ (d : Design) (head : TopHead) (path : List (List ℕ)) where
  abbrev AtStep : CellId → Type 0
  AtStep id = Contains (map (λ (step : Occurrence). step.cell) (steps_along d head.cell path)) id

  at_step : (at : Occurrence) → Contains (steps_along d head.cell path) at → AtStep at.cell
  at_step at has =
      Member-contains (map (λ (step : Occurrence). step.cell) (steps_along d head.cell path)) at.cell
      (Member-map (λ (step : Occurrence). step.cell) (steps_along d head.cell path) at (Contains-member (steps_along d head.cell path) at has))

  of_step : (id : CellId) → AtStep id → (at : Occurrence) × Contains (steps_along d head.cell path) at × (at.cell ≡ id)
  of_step id has =
      let from = Member-from_map (λ (step : Occurrence). step.cell) (steps_along d head.cell path) id (Contains-member (map (λ (step : Occurrence). step.cell) (steps_along d head.cell path)) id has) in
      (from.0, Member-contains (steps_along d head.cell path) from.0 from.1, from.2)

  to_needs : (o : Object) → IsOnPath d head.cell path o → UniquePathNeedsBelow d (Some head) path o
  to_needs o any = elim any [
    | inl part ↦ inl part
    | inr each ↦ elim each.2 [
      | inl part ↦ inr (inl (each.0.cell, at_step each.0 each.1, part))
      | inr there ↦ inr (inr (each.0.cell, at_step each.0 each.1, there.0, there.1))
    ]
  ]

  from_needs : (o : Object) → UniquePathNeedsBelow d (Some head) path o → IsOnPath d head.cell path o
  from_needs o any = elim any [
    | inl part ↦ inl part
    | inr rest ↦ elim rest [
      | inl each ↦ let from = of_step each.0 each.1 in inr (from.0, from.1, inl (subst (λ c. IsPartOf c o) (sym from.2) each.2))
      | inr there ↦
          let from = of_step there.0 there.1 in
          inr (from.0, from.1, inr (subst (λ c. is_block d c ≡ true) (sym from.2) there.2, subst (λ (c : CellId). o ≡ Directory c.lib) (sym from.2) there.3))
    ]
  ]

  pub path_needs : d.top ≡ Some head → (o : Object) → IsOnPath d head.cell path o ↔ Needs d (UniquePath path) o
  path_needs is o = subst (λ t. IsOnPath d head.cell path o ↔ UniquePathNeedsBelow d t path o) (sym is) (to_needs o, from_needs o)

-- ---- the row

abbrev row_for : Option TopHead → Bool → Split → Design → Outcome
row_for top leads s d =
    unless (option_or (refuse (is_none top) NoTop) (option_or (refuse (not leads) NoPath) (option_or (too_many_cells s.copies) None))) (Copies (length s.copies)) (split_edits d s)

row_is : (d : Design) (path : List (List ℕ)) → outcome d (UniquePath path) ≡ row_for d.top (is_path d d.top path) (below_top (along_path d path) d) d
row_is d path = refl

refused_by : Reply → Outcome
refused_by reply = record { reply = reply; edits = [] }

pub no_top_done : (s : State) (path : List (List ℕ)) → s.design.top ≡ None → IsDone s s (UniquePath path) NoTop
no_top_done s path none =
    done_read s s (UniquePath path) NoTop (λ o. ⊥) (read_nothing s (λ o. ⊥) (λ o never. never))
    (λ o. ((λ never. absurd never), (λ needs. subst (λ t. UniquePathNeedsBelow s.design t path o) none needs)))
    (row_is s.design path ∙ ap (λ (t : Option TopHead). row_for t (is_path s.design s.design.top path) (below_top (along_path s.design path) s.design) s.design) none)

module _ (s u : State) (head : TopHead) (path : List (List ℕ)) (is_top : s.design.top ≡ Some head) (read : Read s u head.cell path) where
  abbrev d : Design
  d = s.design

  abbrev the_split : Split
  the_split = along_path d path head.cell

  row_here : outcome d (UniquePath path) ≡ row_for (Some head) (is_path d (Some head) path) the_split d
  row_here = row_is d path ∙ (λ i. row_for (is_top i) (is_path d (is_top i) path) (option_map_or (λ (top : TopHead). along_path d path top.cell) (is_top i) (record { kept = []; copies = [] })) d)

  refused_done : (reply : Reply) → outcome d (UniquePath path) ≡ record { reply = reply; edits = [] } → IsDone s u (UniquePath path) reply
  refused_done reply comes = done_read s u (UniquePath path) reply (IsOnPath d head.cell path) read (path_needs d head path is_top) comes

  pub no_path_done : is_path d (Some head) path ≡ false → IsDone s u (UniquePath path) NoPath
  no_path_done nowhere = refused_done NoPath (row_here ∙ ap (λ b. row_for (Some head) b the_split d) nowhere)

  module _ (leads : is_path d (Some head) path ≡ true) where
    made_here : too_many_cells the_split.copies ≡ None → outcome d (UniquePath path) ≡ record { reply = Copies (length the_split.copies); edits = split_edits d the_split }
    made_here room =
        row_here
        ∙ (λ i. unless (option_or (refuse (not (leads i)) NoPath) (option_or (too_many_cells the_split.copies) None)) (Copies (length the_split.copies)) (split_edits d the_split))
        ∙ ap (λ (o : Option Reply). unless (option_or o None) (Copies (length the_split.copies)) (split_edits d the_split)) room

    too_many_done : too_many_cells the_split.copies ≡ Some (TooMany 65536) → IsDone s u (UniquePath path) (TooMany 65536)
    too_many_done full = refused_done (TooMany 65536)
        (row_here
        ∙ (λ i. unless (option_or (refuse (not (leads i)) NoPath) (option_or (too_many_cells the_split.copies) None)) (Copies (length the_split.copies)) (split_edits d the_split))
        ∙ ap (λ (o : Option Reply). unless (option_or o None) (Copies (length the_split.copies)) (split_edits d the_split)) full)

    plan_comes : (plan : SplitPlan) → IsPlan d the_split plan → outcome d (UniquePath path) ≡ record { reply = Copies plan.copies; edits = edits_of d plan.change }
    plan_comes plan is = made_here is.room ∙ (λ i. record { reply = Copies (sym is.count i); edits = sym is.edits i })

    pub path_can : IsValid d → (planned : Option SplitPlan) → IsPlanned d the_split planned → IfSome planned (λ plan. IsGood u.design plan.change)
    path_can valid None is = tt
    path_can valid (Some plan) is =
        subst (λ e. IsGood e plan.change) (sym read.design)
        (record {
          can = is.can;
          valid = subst (λ (out : Outcome). IsValid (edited d out.edits)) (plan_comes plan is) (step_is_valid d (UniquePath path) tt valid);
        })

    pub path_put : (v : State) (planned : Option SplitPlan) (reply : Reply) → IsPlanned d the_split planned → IsPut u v planned reply → IsDone s v (UniquePath path) reply
    path_put v None reply is (says, same) = subst (λ t. IsDone s t (UniquePath path) reply) (sym same) (subst (IsDone s u (UniquePath path)) (sym says) (too_many_done is))
    path_put v (Some plan) reply is (says, made) =
        subst (IsDone s v (UniquePath path)) (sym says)
        (done_made s u v (UniquePath path) (Copies plan.copies) (edits_of d plan.change) (IsOnPath d head.cell path) read (path_needs d head path is_top) (plan_comes plan is)
        (subst (λ e. HasMade u v (edits_of e plan.change)) read.design made))

    pub path_result : {E : Type 0} (v : State) (planned : Option SplitPlan) (result : Result Reply E) → IsPlanned d the_split planned → MatchResult result (IsPut u v planned) (λ _. v ≡ u)
        → IsDoneOrFails result s v (UniquePath path)
    path_result v planned (Ok reply) is put = path_put v planned reply is put
    path_result v planned (Err err) is same = subst (λ t. HasReadSome s t) (sym same) (read_some s u (IsOnPath d head.cell path) read)

-- ---- as the code has it

and_first : (a b : Bool) → a ≡ true → (not a && b) ≡ false
and_first true b is = refl
and_first false b is = cc

and_second : (a b : Bool) → b ≡ false → (not a && b) ≡ false
and_second true b is = refl
and_second false b is = is

and_both : (a b : Bool) → a ≡ false → b ≡ true → (not a && b) ≡ true
and_both true b is also = cc
and_both false b is also = also

module _ (s u : State) (top : CellId) (path : List (List ℕ)) (found : Some top ≡ option_map (λ (t : TopHead). t.cell) s.design.top) (read : Read s u top path) where
  head : (h : TopHead) × (s.design.top ≡ Some h) × (h.cell ≡ top)
  head = top_of s.design.top top found

  read_head : Read s u head.0.cell path
  read_head = subst (λ c. Read s u c path) (sym head.2) read

  pub code_nowhere : resolves s.design top path ≡ false → IsDone s u (UniquePath path) NoPath
  code_nowhere nowhere = no_path_done s u head.0 path head.1 read_head (and_second (length path == 0) _ (ap (λ c. resolves s.design c path) head.2 ∙ nowhere))

  pub code_empty : (length path == 0) ≡ true → IsDone s u (UniquePath path) NoPath
  code_empty empty = no_path_done s u head.0 path head.1 read_head (and_first (length path == 0) _ empty)

  module _ (leads : resolves s.design top path ≡ true) (some : (length path == 0) ≡ false) (w : State) (same : w ≡ u) (planned : Option SplitPlan) (is : IsPlanned u.design (along_path u.design path top) planned) where
    is_path_here : is_path s.design (Some head.0) path ≡ true
    is_path_here = and_both (length path == 0) (resolves s.design head.0.cell path) some (ap (λ c. resolves s.design c path) head.2 ∙ leads)

    planned_here : IsPlanned s.design (along_path s.design path head.0.cell) planned
    planned_here = subst (λ c. IsPlanned s.design (along_path s.design path c) planned) (sym head.2) (subst (λ d. IsPlanned d (along_path d path top) planned) read.design is)

    pub code_can : IsValid s.design → IfSome planned (λ plan. IsGood w.design plan.change)
    code_can valid = subst (λ (t : State). IfSome planned (λ plan. IsGood t.design plan.change)) (sym same) (path_can s u head.0 path head.1 read_head is_path_here valid planned planned_here)

    pub code_result : {E : Type 0} (v : State) (result : Result Reply E) → MatchResult result (IsPut w v planned) (λ _. v ≡ w) → IsDoneOrFails result s v (UniquePath path)
    code_result v result put = path_result s u head.0 path head.1 read_head is_path_here v planned result planned_here (subst (λ t. MatchResult result (IsPut t v planned) (λ _. v ≡ t)) same put)
