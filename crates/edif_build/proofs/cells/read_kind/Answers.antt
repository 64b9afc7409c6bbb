use Rattle.std.proofs.Common.{[], refl, arith}
use Rattle.edif_spelling_spec.specs.Tree.{Placed, bare}
use Rattle.edif_spec.specs.Keyword.{AnIdentifier, identifier}
use Rattle.edif_spec.specs.Rows.{is_choice}
use Rattle.edif_spec.specs.declared.keyword.Keyword.TheVariants.{CellType}
use Rattle.edif_spec.proofs.KnownForms.{only}
use Rattle.edif_tree.specs.Handles.{here}
use Rattle.edif_grammar.specs.Forms.{ArePartsOf}
use Rattle.edif_grammar.specs.declared.lent.Form.{Form}
use Rattle.edif_parts.proofs.PartLemmas.{OneNode, one_node}
use Rattle.edif_build.proofs.CellLemmas.{kind_means, kind_fails}
use Rattle.edif_build.proofs.cells.read_kind.Goals as goal

nodes : (t : Placed) (p : Form) → ArePartsOf CellType t p → OneNode CellType identifier t p
nodes t p a = one_node CellType identifier [] t p refl refl refl a

pub at-requires : goal.at-requires
at-requires c = omega (arith, (nodes (here c.args.node) c.in_ok-parts.parts c.in_ok-parts.ensures).count)

pub reference_at-word-requires : goal.reference_at-word-requires
reference_at-word-requires c = let u = here c.at.result in only (is_choice AnIdentifier (bare u)) ((nodes (here c.args.node) c.in_ok-parts.parts c.in_ok-parts.ensures).a u c.at.ensures).is

pub returns-in-Some : goal.returns-in-Some
returns-in-Some c =
    let t = here c.args.node in
    let u = here c.at.result in
    kind_means t u c.reference_at-word.result.name.now c.reference_at-word.result.place c.in-Some.kind ((nodes t c.in_ok-parts.parts c.in_ok-parts.ensures).form u c.at.ensures) c.reference_at-word.ensures c.in-Some.ensures.some

pub returns-in-None : goal.returns-in-None
returns-in-None c =
    let t = here c.args.node in
    let u = here c.at.result in
    rw c.bad_form.ensures (kind_fails t u c.reference_at-word.result.name.now c.reference_at-word.result.place ((nodes t c.in_ok-parts.parts c.in_ok-parts.ensures).a u c.at.ensures).at c.reference_at-word.ensures c.in-None.ensures.none)
