use Rattle.edif_spec.specs.declared.keyword.Keyword.TheVariants.{LibraryRef}
use Rattle.edif_tree.specs.Handles.{here, all}
use Rattle.edif_contents.proofs.Followers.{first_has}
use Rattle.edif_contents.proofs.RefLemmas.{library_answers}
use Rattle.edif_contents.proofs.references.read_library.Goals as goal

pub read_library_ref-requires : goal.read_library_ref-requires
read_library_ref-requires c = first_has LibraryRef (all c.args.inner) _ (here c.in-Some.node) c.in-Some.ensures.some c.requires.0

pub returns-in-Some : goal.returns-in-Some
returns-in-Some c = library_answers c.args.libs.now.libs c.args.own c.args.place (all c.args.inner) _ (here c.in-Some.node) c.read_library_ref.result c.in-Some.ensures.some c.requires.1 c.read_library_ref.ensures
