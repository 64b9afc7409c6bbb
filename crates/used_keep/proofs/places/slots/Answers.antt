use Rattle.std.proofs.Common.{◌≡◌, ◌++◌, ◌∷◌, [], cond, true, false, sym, ap, ◌∙◌, Bool, List, ℕ, append-nil}
use Rattle.std.specs.BTreeSet.{contains}
use Rattle.netlist_schema.specs.Order.{cell_cmp}
use Rattle.used_spec.specs.Uses.{id_at}
use Rattle.used_keep.specs.Places.{slots_by}
use Rattle.used_keep.proofs.Picking.{slots_next}
use Rattle.used_keep.proofs.places.slots.Goals as goal
use Rattle.used_keep.proofs.places.slots.Goals.{then-has+in_ok-push, else-has}

pub loop-slot-preserved : goal.loop-slot-preserved
loop-slot-preserved c =
    let test = contains cell_cmp c.args.set.now in
    let slot = c.loop-slot.slot in
    let lib = c.args.lib in
    let next = slots_next test lib slot in
    elim c.if-has.branch [
      | then-has+in_ok-push w ↦
          let hit : test (id_at lib slot) ≡ true = sym c.has.ensures ∙ w.if-has.true in
          ap (λ v. v.items) w.slots-is
          ∙ w.in_ok-push.ensures.items
          ∙ ap (λ (v : List ℕ). v ++ slot ∷ []) c.loop-slot.invariant
          ∙ sym (next ∙ ap (λ (b : Bool). slots_by test lib slot ++ cond b (slot ∷ []) []) hit)
      | else-has w ↦
          let miss : test (id_at lib slot) ≡ false = sym c.has.ensures ∙ w.if-has.false in
          ap (λ v. v.items) w.slots-is
          ∙ c.loop-slot.invariant
          ∙ sym (next ∙ ap (λ (b : Bool). slots_by test lib slot ++ cond b (slot ∷ []) []) miss ∙ append-nil (slots_by test lib slot))
    ]
