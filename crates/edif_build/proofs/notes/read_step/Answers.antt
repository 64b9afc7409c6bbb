use Rattle.std.proofs.Common.{◌≡◌, ◌∙◌, List, ap, subst, sym, Some, None}
use Rattle.std.specs.Prelude.{slice_get}
use Rattle.edif_spec.specs.Design as design
use Rattle.edif_spec.specs.Means.{meant}
use Rattle.edif_tree.specs.Handles.{here}
use Rattle.edif_contents.specs.Known.{KnownLibs}
use Rattle.edif_names.specs.declared.scope.Meant.{Meant}
use Rattle.edif_parts.specs.Names.{Tells}
use Rattle.edif_build.proofs.NoteLemmas.{inst_there, step_is, word_shape}
use Rattle.edif_build.proofs.notes.read_step.Goals as goal

pub returns-in-Some-clause-read : goal.returns-in-Some-clause-read
returns-in-Some-clause-read c =
    let t = here c.args.node in
    let libs = c.args.reached.now.libs in
    let P : Meant → Type 0 = λ v. Tells (meant (design.inst_ids (design.insts_at libs c.args.id)) c.in-Word.name.now) v in
    let at : c.insts.result ≡ design.insts_at libs c.args.id = c.insts.ensures ∙ ap (λ (v : KnownLibs). design.insts_at v.libs c.args.id) c.libs-libs.ensures in
    let Q : List design.Inst → Type 0 = λ v. slice_get v c.in-Found.index ≡ Some c.in-Some.inst.now in
    step_is libs c.args.id t c.in-Word.name.now c.in-Found.index c.get-in-Some.result.now (word_shape c.in-Word.name t c.in-Word.ensures) (subst P c.in-Found.is c.in_ok-meant.ensures.ok)
    (subst Q at (sym c.in-Some.ensures) ∙ ap Some (sym c.get-in-Some.ensures))

pub returns-in-None-clause-read : goal.returns-in-None-clause-read
returns-in-None-clause-read c =
    let t = here c.args.node in
    let libs = c.args.reached.now.libs in
    let P : Meant → Type 0 = λ v. Tells (meant (design.inst_ids (design.insts_at libs c.args.id)) c.in-Word.name.now) v in
    let at : c.insts.result ≡ design.insts_at libs c.args.id = c.insts.ensures ∙ ap (λ (v : KnownLibs). design.insts_at v.libs c.args.id) c.libs-libs.ensures in
    let Q : List design.Inst → Type 0 = λ v. slice_get v c.in-Found.index ≡ None in
    absurd (inst_there libs c.args.id c.in-Word.name.now c.in-Found.index (subst P c.in-Found.is c.in_ok-meant.ensures.ok) (subst Q at (sym c.in-None.ensures)))
