use Rattle.std.proofs.Common.{[], ◌∷◌, ◌++◌, refl, ap, ◌∙◌}
use Rattle.edif_spec.specs.Stands.{StepFault}
use Rattle.edif_tree.specs.Handles.{here}
use Rattle.edif_build.specs.Notes.{StepAdded}
use Rattle.edif_parts.proofs.Answering.{hand_on}
use Rattle.edif_build.proofs.notes.add_step.Goals as goal

pub returns-in_err-inst-clause-added : goal.returns-in_err-inst-clause-added
returns-in_err-inst-clause-added c =
    let t = here c.args.node in
    let libs = c.args.reached.now.libs in
    hand_on (StepAdded libs c.args.id t c.args.path.now.items c.args.path.now.items) (StepFault libs c.args.id (λ _. ⊥) t) (StepFault libs c.args.id (λ _. ⊥) t) c.from_residual.result c.in_err-inst.field-0.0 c.from_residual.ensures.1 (λ f b. b) c.in_err-inst.ensures.read

pub returns-clause-added : goal.returns-clause-added
returns-clause-added c =
    record {
      inst = c.in_ok-inst.inst.now;
      means = c.in_ok-inst.ensures.read;
      typed = c.in_ok-name.ensures.typed;
      list = c.in_ok-push.ensures.items ∙ ap (λ v. c.args.path.now.items ++ v ∷ []) c.in_ok-name.ensures.same;
      leads = refl;
    }
