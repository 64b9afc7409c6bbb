use Rattle.std.proofs.Common.{◌≡◌, ◌+◌, ℕ, List, length, take, get_or, set, ap, sym, ◌∙◌, subst}
use Rattle.std.proofs.lemmas.List.{length-set}
use Rattle.edif_nets.proofs.SlotLemmas.{ArePut, more_put}
use Rattle.edif_nets.proofs.differ.left_over.Goals as goal
use Rattle.edif_nets.proofs.differ.left_over.Goals.{then-there, else-there+in_ok-push}

pub loop-number-preserved : goal.loop-number-preserved
loop-number-preserved c =
    let old : List ℕ = c.loop-number.slots in
    let others : List ℕ = c.loop-number.others.items in
    let seen : List ℕ = take (c.loop-number.number-index + 1) c.args.numbers.now in
    let x : ℕ = get_or c.args.numbers.now c.loop-number.number-index 0 in
    let long : length old ≡ 4096 = c.loop-number.invariant.0 in
    let more = more_put old others c.args.numbers.now c.loop-number.number-index c.slot_of-slot.result c.slot_of-slot.ensures c.loop-number-test.true long c.if-there-number.false c.loop-number.invariant.1 in
    elim c.if-there.branch [
      | then-there w ↦
          let S : List ℕ → Type 0 = λ v. ArePut v c.if-there.others.items seen in
          let O : List ℕ → Type 0 = λ v. ArePut (set old c.slot_of-slot.result x) v seen in
          (ap length w.slots-is ∙ (length-set old c.slot_of-slot.result x ∙ long), subst S (sym w.slots-is) (subst O (sym (ap (λ v. v.items) w.others-is)) (more.0 w.if-there.true)))
      | else-there+in_ok-push w ↦
          let S : List ℕ → Type 0 = λ v. ArePut v c.if-there.others.items seen in
          let O : List ℕ → Type 0 = λ v. ArePut old v seen in
          (ap length w.slots-is ∙ long, subst S (sym w.slots-is) (subst O (sym (ap (λ v. v.items) w.others-is ∙ w.in_ok-push.ensures.items)) (more.1 w.if-there.false)))
    ]
