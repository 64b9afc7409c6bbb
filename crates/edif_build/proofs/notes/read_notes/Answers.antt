use Rattle.std.proofs.Common.{subst, filter}
use Rattle.edif_spelling_spec.specs.Tree.{bare}
use Rattle.edif_spec.specs.Means.{is_note}
use Rattle.edif_tree.specs.Handles.{all}
use Rattle.edif_contents.specs.Known.{KnownLibs}
use Rattle.edif_build.specs.Notes.{NotesFail, ReadNotes}
use Rattle.edif_parts.specs.Reading.{Answers}
use Rattle.edif_build.proofs.notes.read_notes.Goals as goal

pub returns : goal.returns
returns c =
    let ts = filter (λ u. is_note (bare u)) (all c.args.inner) in
    let P : KnownLibs → Type 0 = λ v. Answers (ReadNotes v.libs c.args.top ts) (NotesFail v.libs c.args.top ts) c.add_notes.result in
    subst P c.new-reached.ensures c.add_notes.ensures.read
