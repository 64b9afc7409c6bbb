use Rattle.std.proofs.Common.{◌≡◌, ◌<◌, ℕ, List, length, refl, sym, ap, ◌∙◌, subst, arith}
use Rattle.edif_spec.specs.Design as design
use Rattle.edif_spec.specs.Faults.{arguments}
use Rattle.edif_spec.specs.Stands.{StepFault, PathFault}
use Rattle.edif_spec.specs.declared.fault.MeaningFault.{MeaningFault}
use Rattle.edif_tree.specs.Handles.{here}
use Rattle.edif_tree.specs.Eaches.{left}
use Rattle.edif_contents.specs.Known.{KnownLibs}
use Rattle.edif_build.specs.Notes.{ReadPath, StepAdded}
use Rattle.edif_parts.proofs.Answering.{hand_on}
use Rattle.edif_build.proofs.NoteLemmas.{Onward, no_steps, onward_end, onward_fails, onward_start, onward_step, path_fails}
use Rattle.edif_build.proofs.notes.read_path.Goals as goal

pub returns-in_default-clause-read : goal.returns-in_default-clause-read
returns-in_default-clause-read c = rw c.fault_at.ensures (no_steps c.args.reached.now.libs c.args.top (here c.args.node) c.place.result c.in_default.ensures.none c.place.ensures)

pub loop-step-init : goal.loop-step-init
loop-step-init c =
    let ts = arguments (here c.args.node) in
    let e : left c.into_iter-step-iterator.result ≡ ts = ap left c.into_iter-step-iterator.ensures.into_iter_gives ∙ c.iter-step-items.ensures ∙ c.in-Some.ensures.some.0 in
    let P : List (List ℕ) → Type 0 = λ v. Onward c.args.reached.now.libs c.args.top ts (left c.into_iter-step-iterator.result) c.args.top v in
    (tt, tt, subst P (sym c.new-path.ensures.items) (onward_start c.args.reached.now.libs c.args.top ts (left c.into_iter-step-iterator.result) e), refl)

pub returns-in_err-id-clause-read : goal.returns-in_err-id-clause-read
returns-in_err-id-clause-read c =
    let t = here c.args.node in
    let u = here c.in-Some-step.step in
    let libs = c.args.reached.now.libs in
    let S : KnownLibs → MeaningFault → Type 0 = λ v f. StepFault v.libs c.loop-step.id (λ _. ⊥) u f in
    hand_on (ReadPath libs c.args.top t) (S c.loop-step.reached) (PathFault libs c.args.top t) c.from_residual.result c.in_err-id.field-0.0 c.from_residual.ensures.1
    (λ f b. path_fails libs c.args.top t f (onward_fails libs c.args.top (arguments t) (left c.loop-step.step-iterator) (left c.next.new.self) c.loop-step.id _ u f c.loop-step.invariant.2 c.in-Some-step.ensures.steps (subst (λ v. S v f) c.loop-step.invariant.3 b))) c.in_err-id.ensures.added

pub loop-step-preserved : goal.loop-step-preserved
loop-step-preserved c =
    let ts = arguments (here c.args.node) in
    let u = here c.in-Some-step.step in
    let libs = c.args.reached.now.libs in
    let A : KnownLibs → Type 0 = λ v. StepAdded v.libs c.loop-step.id u c.loop-step.path.items c.add_step.new.path.items c.in_ok-id.id in
    let k = subst A c.loop-step.invariant.3 c.in_ok-id.ensures.added in
    let us = left c.next.new.self in
    let P : List (List ℕ) → Type 0 = λ v. Onward libs c.args.top ts us k.inst.of v in
    let Q : design.CellId → Type 0 = λ v. Onward libs c.args.top ts us v c.add_step.new.path.items in
    (tt, tt, subst Q (sym k.leads) (subst P (sym k.list) (onward_step libs c.args.top ts (left c.loop-step.step-iterator) us c.loop-step.id c.loop-step.path.items u k.inst k.inst.name.id c.loop-step.invariant.2 c.in-Some-step.ensures.steps k.means refl k.typed)), c.add_step.ensures.same ∙ c.loop-step.invariant.3)

pub returns-clause-read : goal.returns-clause-read
returns-clause-read c =
    let t = here c.args.node in
    let e = ap length c.in-Some.ensures.some.0 in
    let l : 0 < length (arguments t) = omega (arith, e, c.in-Some.ensures.some.1) in
    rw c.of.ensures (onward_end c.args.reached.now.libs c.args.top t (left c.loop-step.step-iterator) c.loop-step.id c.loop-step.path.items c.loop-step.invariant.2 c.in-None.ensures.steps.0 l)
