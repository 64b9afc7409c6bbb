-- What comes of the blocks below a top.
use Rattle.std.proofs.Common.{◌≡◌, [], length, Option, Some, None, refl, sym, ap, subst, ◌∙◌, inl, inr}
use Rattle.std.specs.Prelude.{◌↔◌, IfSome, MatchResult, Result, Ok, Err, is_none}
use Rattle.std.specs.Option.{option_map, option_map_or, option_or}
use Rattle.netlist_schema.specs.Design.{Design}
use Rattle.netlist_schema.specs.Types.{CellId, Object, TopHead}
use Rattle.netlist_schema.specs.Valid.{IsValid}
use Rattle.edit_rules_spec.specs.Edit.{edited}
use Rattle.edit_rules_spec.specs.Rule.{Outcome, refuse, unless}
use Rattle.edit_rules_spec.specs.declared.reply.Reply.{Reply}
use Rattle.edit_rules_spec.specs.declared.reply.Reply.TheVariants.{Copies, NoTop, TooMany}
use Rattle.edit_spec.specs.Needs.{Needs}
use Rattle.edit_spec.specs.Rows.{outcome}
use Rattle.edit_spec.specs.declared.ops.Op.TheVariants.{Uniquify}
use Rattle.edit_spec.proofs.Framed.{step_is_valid}
use Rattle.uniquify_spec.specs.Blocks.{each_block}
use Rattle.uniquify_spec.specs.Needs.{UniquifyNeedsBelow}
use Rattle.uniquify_spec.specs.Rows.{below_top, too_many_cells}
use Rattle.uniquify_spec.specs.Split.{Split, split_edits}
use Rattle.edit_cells.specs.Change.{HasMade, edits_of}
use Rattle.edit_cells.specs.State.{State, HasRead, HasReadSome}
use Rattle.eco_reads.specs.Done.{IsDone, IsDoneOrFails}
use Rattle.eco_reads.specs.Plan.{IsGood}
use Rattle.eco_reads.proofs.Reading.{done_made, done_read, read_nothing, read_some}
use Rattle.uniquify_blocks.specs.Plans.{IsPlan, IsPlanned, IsPut}
use Rattle.uniquify_blocks.specs.declared.plan.SplitPlan.{SplitPlan}
use Rattle.uniquify_blocks.proofs.PathDone.{top_of}
use Rattle.uniquify_blocks.specs.Below.{IsForAllBelow}

-- ---- what is needed

to_needs : (d : Design) (head : TopHead) (o : Object) → IsForAllBelow d head.cell o → UniquifyNeedsBelow d (Some head) o
to_needs d head o any = elim any [
  | inl inside ↦ inl inside
  | inr each ↦ elim each.2 [
    | inl part ↦ inr (inl (each.0, each.1, part))
    | inr there ↦ inr (inr (each.0, each.1, there.0, there.1))
  ]
]

from_needs : (d : Design) (head : TopHead) (o : Object) → UniquifyNeedsBelow d (Some head) o → IsForAllBelow d head.cell o
from_needs d head o any = elim any [
  | inl inside ↦ inl inside
  | inr rest ↦ elim rest [
    | inl each ↦ inr (each.0, each.1, inl each.2)
    | inr there ↦ inr (there.0, there.1, inr (there.2, there.3))
  ]
]

below_needs : (d : Design) (head : TopHead) → d.top ≡ Some head → (o : Object) → IsForAllBelow d head.cell o ↔ Needs d Uniquify o
below_needs d head is o = subst (λ t. IsForAllBelow d head.cell o ↔ UniquifyNeedsBelow d t o) (sym is) (to_needs d head o, from_needs d head o)

-- ---- the row

abbrev row_for : Option TopHead → Split → Design → Outcome
row_for top s d = unless (option_or (refuse (is_none top) NoTop) (option_or (too_many_cells s.copies) None)) (Copies (length s.copies)) (split_edits d s)

row_is : (d : Design) → outcome d Uniquify ≡ row_for d.top (below_top (each_block d) d) d
row_is d = refl

no_top_done : (s : State) → s.design.top ≡ None → IsDone s s Uniquify NoTop
no_top_done s none =
    done_read s s Uniquify NoTop (λ o. ⊥) (read_nothing s (λ o. ⊥) (λ o never. never))
    (λ o. ((λ never. absurd never), (λ needs. subst (λ t. UniquifyNeedsBelow s.design t o) none needs)))
    (row_is s.design ∙ ap (λ (t : Option TopHead). row_for t (below_top (each_block s.design) s.design) s.design) none)

pub code_no_top : (s : State) → None ≡ option_map (λ (t : TopHead). t.cell) s.design.top → IsDone s s Uniquify NoTop
code_no_top s is = no_top_done s (no_top_of s.design.top is)
  where
    no_top_of : (o : Option TopHead) → None ≡ option_map (λ (t : TopHead). t.cell) o → o ≡ None
    no_top_of None is = refl
    no_top_of (Some head) is = cc

module _ (s u : State) (head : TopHead) (is_top : s.design.top ≡ Some head) (read : HasRead s u (IsForAllBelow s.design head.cell)) where
  abbrev d : Design
  d = s.design

  abbrev the_split : Split
  the_split = each_block d head.cell

  row_here : outcome d Uniquify ≡ row_for (Some head) the_split d
  row_here = row_is d ∙ (λ i. row_for (is_top i) (option_map_or (λ (top : TopHead). each_block d top.cell) (is_top i) (record { kept = []; copies = [] })) d)

  made_here : too_many_cells the_split.copies ≡ None → outcome d Uniquify ≡ record { reply = Copies (length the_split.copies); edits = split_edits d the_split }
  made_here room = row_here ∙ ap (λ (o : Option Reply). unless (option_or o None) (Copies (length the_split.copies)) (split_edits d the_split)) room

  too_many_done : too_many_cells the_split.copies ≡ Some (TooMany 65536) → IsDone s u Uniquify (TooMany 65536)
  too_many_done full =
      done_read s u Uniquify (TooMany 65536) (IsForAllBelow d head.cell) read (below_needs d head is_top)
      (row_here ∙ ap (λ (o : Option Reply). unless (option_or o None) (Copies (length the_split.copies)) (split_edits d the_split)) full)

  plan_comes : (plan : SplitPlan) → IsPlan d the_split plan → outcome d Uniquify ≡ record { reply = Copies plan.copies; edits = edits_of d plan.change }
  plan_comes plan is = made_here is.room ∙ (λ i. record { reply = Copies (sym is.count i); edits = sym is.edits i })

  blocks_can : IsValid d → (planned : Option SplitPlan) → IsPlanned d the_split planned → IfSome planned (λ plan. IsGood u.design plan.change)
  blocks_can valid None is = tt
  blocks_can valid (Some plan) is =
      subst (λ e. IsGood e plan.change) (sym read.design)
      (record {
        can = is.can;
        valid = subst (λ (out : Outcome). IsValid (edited d out.edits)) (plan_comes plan is) (step_is_valid d Uniquify tt valid);
      })

  blocks_put : (v : State) (planned : Option SplitPlan) (reply : Reply) → IsPlanned d the_split planned → IsPut u v planned reply → IsDone s v Uniquify reply
  blocks_put v None reply is (says, same) = subst (λ t. IsDone s t Uniquify reply) (sym same) (subst (IsDone s u Uniquify) (sym says) (too_many_done is))
  blocks_put v (Some plan) reply is (says, made) =
      subst (IsDone s v Uniquify) (sym says)
      (done_made s u v Uniquify (Copies plan.copies) (edits_of d plan.change) (IsForAllBelow d head.cell) read (below_needs d head is_top) (plan_comes plan is)
      (subst (λ e. HasMade u v (edits_of e plan.change)) read.design made))

  blocks_result : {E : Type 0} (v : State) (planned : Option SplitPlan) (result : Result Reply E) → IsPlanned d the_split planned → MatchResult result (IsPut u v planned) (λ _. v ≡ u) → IsDoneOrFails result s v Uniquify
  blocks_result v planned (Ok reply) is put = blocks_put v planned reply is put
  blocks_result v planned (Err err) is same = subst (λ t. HasReadSome s t) (sym same) (read_some s u (IsForAllBelow d head.cell) read)

-- ---- as the code has it

module _ (s u : State) (top : CellId) (found : Some top ≡ option_map (λ (t : TopHead). t.cell) s.design.top) (read : HasRead s u (IsForAllBelow s.design top)) where
  head : (h : TopHead) × (s.design.top ≡ Some h) × (h.cell ≡ top)
  head = top_of s.design.top top found

  read_head : HasRead s u (IsForAllBelow s.design head.0.cell)
  read_head = subst (λ c. HasRead s u (IsForAllBelow s.design c)) (sym head.2) read

  module _ (w : State) (same : w ≡ u) (planned : Option SplitPlan) (is : IsPlanned u.design (each_block u.design top) planned) where
    planned_here : IsPlanned s.design (each_block s.design head.0.cell) planned
    planned_here = subst (λ c. IsPlanned s.design (each_block s.design c) planned) (sym head.2) (subst (λ d. IsPlanned d (each_block d top) planned) read.design is)

    pub code_can : IsValid s.design → IfSome planned (λ plan. IsGood w.design plan.change)
    code_can valid = subst (λ (t : State). IfSome planned (λ plan. IsGood t.design plan.change)) (sym same) (blocks_can s u head.0 head.1 read_head valid planned planned_here)

    pub code_result : {E : Type 0} (v : State) (result : Result Reply E) → MatchResult result (IsPut w v planned) (λ _. v ≡ w) → IsDoneOrFails result s v Uniquify
    code_result v result put = blocks_result s u head.0 head.1 read_head v planned result planned_here (subst (λ t. MatchResult result (IsPut t v planned) (λ _. v ≡ t)) same put)
