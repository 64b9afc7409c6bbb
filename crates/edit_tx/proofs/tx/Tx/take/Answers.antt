use Rattle.std.proofs.Common.{◌≡◌, ◌++◌, ◌∷◌, [], List, length, refl, ap, subst, ◌∙◌, ℕ}
use Rattle.std.specs.Prelude.{slice_set}
use Rattle.edit_rules_spec.specs.declared.reply.Reply.{Reply}
use Rattle.edit_rules_spec.specs.declared.reply.Reply.TheVariants.{Done}
use Rattle.eco_reads.specs.Done.{IsDone}
use Rattle.edit_tx.specs.Facts.{TxFacts, HasRun}
use Rattle.edit_tx.specs.Inside.{facts_of}
use Rattle.edit_tx.proofs.Txs.{set_last, has_run, is_tried, design_is}
use Rattle.edit_tx.proofs.tx.Tx.take.Goals as goal
use Rattle.edit_tx.proofs.tx.Tx.take.Goals.{After-set}

-- what was run, and the replies afterwards
done_is : (c : After-set) → IsDone c.self.inside.work c.apply_last.new.work c.args.op c.in-Ok-apply_last.reply
done_is c = c.in-Ok-apply_last.ensures.done c.self.inside.ops c.args.op c.in_ok-push.ensures.ok

replies_are : (c : After-set) → c.set.new.self ≡ c.self.inside.replies ++ c.in-Ok-apply_last.reply ∷ []
replies_are c =
    let replies : List Reply = c.self.inside.replies in
    let at : length c.as_slice-replies.result.now ≡ length replies = ap length c.as_slice-replies.ensures in
    c.set.ensures
    ∙ (ap (λ (xs : List Reply). slice_set xs (length c.as_slice-replies.result.now) c.in-Ok-apply_last.reply) c.in-Ok.ensures.ok
    ∙ (ap (λ (n : ℕ). slice_set (replies ++ Done ∷ []) n c.in-Ok-apply_last.reply) at
    ∙ set_last replies Done c.in-Ok-apply_last.reply))

pub invariant_of-self-in-Ok-apply_last : goal.invariant_of-self-in-Ok-apply_last
invariant_of-self-in-Ok-apply_last c =
    let old : TxFacts = facts_of c.self.inside in
    record {
      tried = is_tried old c.self.inside.work c.apply_last.new.work c.args.op c.in-Ok-apply_last.reply (done_is c) c.self.invariant.design refl refl c.push.new.self c.set.new.self c.self.invariant.tried c.op_is_typed.ensures c.in_ok-push.ensures.ok (replies_are c);
      design = design_is old c.self.inside.work c.apply_last.new.work c.args.op c.in-Ok-apply_last.reply (done_is c) c.self.invariant.design refl refl c.push.new.self c.in_ok-push.ensures.ok;
    }

pub returns-in-Ok-apply_last-clause-ok : goal.returns-in-Ok-apply_last-clause-ok
returns-in-Ok-apply_last-clause-ok c =
    let old : TxFacts = facts_of c.self.inside in
    subst (λ (f : TxFacts). HasRun f (record { pin = old.pin; ops = c.push.new.self; replies = c.set.new.self; reads = c.apply_last.new.work.reads; written = c.apply_last.new.work.written }) c.args.op) c.self.view_is
    (has_run old c.self.inside.work c.apply_last.new.work c.args.op c.in-Ok-apply_last.reply (done_is c) c.self.invariant.design refl refl c.push.new.self c.set.new.self c.in_ok-push.ensures.ok (replies_are c))
