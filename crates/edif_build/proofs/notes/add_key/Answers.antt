use Rattle.std.proofs.Common.{◌≡◌, ℕ, List, Result, Ok, Err, None, ap, ◌∙◌, subst}
use Rattle.std.specs.Prelude.{IfErr, OnOk}
use Rattle.edif_spec.specs.declared.fault.MeaningFault.{MeaningFault}
use Rattle.edif_parts.specs.Names.{DefinesName}
use Rattle.edif_parts.specs.Reading.{Answers, Names}
use Rattle.edif_parts.specs.declared.error.EdifError.{EdifError}
use Rattle.edif_build.specs.Notes.{IsAgain, flat}
use Rattle.edif_build.proofs.notes.add_key.Goals as goal

-- what holds of an `Ok`, and of an `Err`
both_ways : {A : Type 0} (D : Type 0) (F : MeaningFault → Type 0) (r : Result A EdifError) → OnOk r D → IfErr r (λ e. Names F e) → Answers (λ _. D) F r
both_ways D F (Ok x) h g = h
both_ways D F (Err e) h g = g

pub returns : goal.returns
returns c =
    let n = c.args.note.now in
    let e : c.in_ok-key.key.items ≡ flat n.note.path n.note.property.key.id = c.in_ok-key.ensures ∙ ap (λ v. flat v n.note.property.key.id) c.as_slice.ensures in
    let P : List ℕ → Type 0 = λ v. Answers (λ _. DefinesName c.args.keys.now v n.place c.add.new.self None) (IsAgain c.args.keys.now v n.place) c.add.result in
    subst P e (both_ways (DefinesName c.args.keys.now c.in_ok-key.key.items n.place c.add.new.self None) (IsAgain c.args.keys.now c.in_ok-key.key.items n.place) c.add.result c.add.ensures.ok c.add.ensures.err)
