use Rattle.std.proofs.Common.{sym}
use Rattle.edif_spelling_spec.specs.Tree.{bare}
use Rattle.edif_spec.specs.Rows.{has_keyword}
use Rattle.edif_spec.specs.declared.keyword.Keyword.TheVariants.{External, Library}
use Rattle.edif_tree.specs.Handles.{here}
use Rattle.edif_build.proofs.LibraryLemmas.{either_first, either_second}
use Rattle.edif_build.proofs.libraries.is_library.Goals as goal

pub returns-then-is_form_of : goal.returns-then-is_form_of
returns-then-is_form_of c = (let t = here c.args.node in either_first (has_keyword Library (bare t)) (has_keyword External (bare t)) (sym c.if-is_form_of.ensures))

pub returns : goal.returns
returns c = (let t = here c.args.node in either_second (has_keyword Library (bare t)) (has_keyword External (bare t)) c.is_form_of-2.result (sym c.if-is_form_of.ensures) c.is_form_of-2.ensures)
