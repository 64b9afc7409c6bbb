-- One more operation of a transaction.
use Rattle.std.proofs.Common.{◌≡◌, ◌⊎◌, ◌↔◌, inl, inr, ⊎_elim, List, [], ◌∷◌, ◌++◌, length, Contains, refl, sym, ap, subst, ◌∙◌}
use Rattle.std.specs.Prelude.{slice_set}
use Rattle.std.specs.List.{All}
use Rattle.std.proofs.lemmas.List.Elements.{All-push}
use Rattle.netlist_schema.specs.Design.{Design}
use Rattle.netlist_schema.specs.Types.{Object}
use Rattle.edit_spec.specs.Needs.{Needs, Writes, Reads, Written}
use Rattle.edit_spec.specs.Step.{step, run}
use Rattle.edit_spec.specs.Typed.{IsTypedOp}
use Rattle.edit_spec.specs.declared.ops.Op.{Op}
use Rattle.edit_rules_spec.specs.declared.reply.Reply.{Reply}
use Rattle.edit_spec.proofs.Overlaid.{run_push, replies_push, reads_push, writes_push}
use Rattle.edit_cells.specs.State.{State, GrowsBy}
use Rattle.eco_reads.specs.Done.{IsDone}
use Rattle.edit_tx.specs.Facts.{TxFacts, IsTried, HasRun}

pub set_last : {X : Type 0} (xs : List X) (x y : X) → slice_set (xs ++ x ∷ []) (length xs) y ≡ xs ++ y ∷ []
set_last [] x y = refl
set_last (z ∷ xs) x y = ap (λ rest. z ∷ rest) (set_last xs x y)

-- a set that goes on as a list does
goes_on : (old new : List Object) (P Q R : Object → Type 0) → GrowsBy old new Q → ((o : Object) → Contains old o ↔ P o) → ((o : Object) → R o ↔ (P o ⊎ Q o)) → (o : Object) → Contains new o ↔ R o
goes_on old new P Q R grows was is o =
    let grown = grows.objects o in
    let before = was o in
    let after = is o in (
      λ has. after.1 (⊎_elim (λ (m : Contains old o). inl (before.0 m)) (λ (q : Q o). inr q) (grown.0 has)),
      λ r. grown.1 (⊎_elim (λ (p : P o). inl (before.1 p)) (λ (q : Q o). inr q) (after.0 r)),
    )

module _ (old : TxFacts) (work after : State) (op : Op) (reply : Reply) (done : IsDone work after op reply) (design : work.design ≡ (run old.pin.design old.ops).design) (reads : work.reads ≡ old.reads) (written : work.written ≡ old.written) where
  reads_grow : GrowsBy old.reads after.reads (Needs (run old.pin.design old.ops).design op)
  reads_grow = subst (λ (d : Design). GrowsBy old.reads after.reads (Needs d op)) design (subst (λ (rs : List Object). GrowsBy rs after.reads (Needs work.design op)) reads done.reads)

  written_grows : GrowsBy old.written after.written (Writes (run old.pin.design old.ops).design op)
  written_grows = subst (λ (d : Design). GrowsBy old.written after.written (Writes d op)) design (subst (λ (ws : List Object). GrowsBy ws after.written (Writes work.design op)) written done.written)

  reply_is : reply ≡ (step (run old.pin.design old.ops).design op).reply
  reply_is = done.reply ∙ ap (λ (d : Design). (step d op).reply) design

  pub has_run : (ops : List Op) (replies : List Reply) → ops ≡ old.ops ++ op ∷ [] → replies ≡ old.replies ++ reply ∷ []
      → HasRun old (record { pin = old.pin; ops = ops; replies = replies; reads = after.reads; written = after.written }) op
  has_run ops replies ops_are replies_are = record {
    pin = refl;
    ops = ops_are;
    replies = replies_are ∙ ap (λ (r : Reply). old.replies ++ r ∷ []) reply_is;
    reads = reads_grow;
    written = written_grows;
  }

  pub is_tried : (ops : List Op) (replies : List Reply) → IsTried old → IsTypedOp op → ops ≡ old.ops ++ op ∷ [] → replies ≡ old.replies ++ reply ∷ []
      → IsTried (record { pin = old.pin; ops = ops; replies = replies; reads = after.reads; written = after.written })
  is_tried ops replies tried typed ops_are replies_are = record {
    replies = replies_are ∙ (ap (λ (r : Reply). old.replies ++ r ∷ []) reply_is ∙ (ap (λ (rs : List Reply). rs ++ (step (run old.pin.design old.ops).design op).reply ∷ []) tried.replies
        ∙ (sym (replies_push old.ops old.pin.design op) ∙ ap (λ (xs : List Op). (run old.pin.design xs).replies) (sym ops_are))));
    reads = subst (λ (xs : List Op). (o : Object) → Contains after.reads o ↔ Reads old.pin.design xs o) (sym ops_are)
        (goes_on old.reads after.reads (Reads old.pin.design old.ops) (Needs (run old.pin.design old.ops).design op) (Reads old.pin.design (old.ops ++ op ∷ [])) reads_grow tried.reads (reads_push old.ops old.pin.design op));
    written = subst (λ (xs : List Op). (o : Object) → Contains after.written o ↔ Written old.pin.design xs o) (sym ops_are)
        (goes_on old.written after.written (Written old.pin.design old.ops) (Writes (run old.pin.design old.ops).design op) (Written old.pin.design (old.ops ++ op ∷ [])) written_grows tried.written (writes_push old.ops old.pin.design op));
    typed = subst (λ (xs : List Op). All IsTypedOp xs) (sym ops_are) (All-push IsTypedOp old.ops op tried.typed typed);
  }

  pub design_is : (ops : List Op) → ops ≡ old.ops ++ op ∷ [] → after.design ≡ (run old.pin.design ops).design
  design_is ops ops_are =
      done.design ∙ (ap (λ (d : Design). (step d op).design) design ∙ (sym (run_push old.ops old.pin.design op) ∙ ap (λ (xs : List Op). (run old.pin.design xs).design) (sym ops_are)))
