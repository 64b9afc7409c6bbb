use Rattle.std.proofs.Common.{[], refl, sym, arith}
use Rattle.edif_spelling_spec.specs.Tree.{Placed, bare}
use Rattle.edif_spec.specs.Keyword.{AnIdentifier, identifier}
use Rattle.edif_spec.specs.Rows.{is_choice}
use Rattle.edif_spec.specs.declared.keyword.Keyword.TheVariants.{ViewType}
use Rattle.edif_spec.proofs.KnownForms.{only}
use Rattle.edif_tree.specs.Handles.{here}
use Rattle.edif_grammar.specs.Forms.{ArePartsOf}
use Rattle.edif_grammar.specs.declared.lent.Form.{Form}
use Rattle.edif_parts.proofs.PartLemmas.{OneNode, one_node}
use Rattle.edif_build.proofs.CellLemmas.{netlist_means, netlist_fails}
use Rattle.edif_build.proofs.cells.read_view_type.Goals as goal

nodes : (t : Placed) (p : Form) → ArePartsOf ViewType t p → OneNode ViewType identifier t p
nodes t p a = one_node ViewType identifier [] t p refl refl refl a

pub at-requires : goal.at-requires
at-requires c = omega (arith, (nodes (here c.args.node) c.in_ok-parts.parts c.in_ok-parts.ensures).count)

pub reference_at-word-requires : goal.reference_at-word-requires
reference_at-word-requires c = let u = here c.at.result in only (is_choice AnIdentifier (bare u)) ((nodes (here c.args.node) c.in_ok-parts.parts c.in_ok-parts.ensures).a u c.at.ensures).is

pub returns-then-is_word : goal.returns-then-is_word
returns-then-is_word c =
    let t = here c.args.node in
    let u = here c.at.result in
    netlist_means t u c.reference_at-word.result.name.now c.reference_at-word.result.place ((nodes t c.in_ok-parts.parts c.in_ok-parts.ensures).form u c.at.ensures) c.reference_at-word.ensures (sym c.if-is_word.ensures)

pub returns : goal.returns
returns c =
    let t = here c.args.node in
    let u = here c.at.result in
    rw c.fault_at.ensures (netlist_fails t u c.reference_at-word.result.name.now c.reference_at-word.result.place ((nodes t c.in_ok-parts.parts c.in_ok-parts.ensures).a u c.at.ensures).at c.reference_at-word.ensures (sym c.if-is_word.ensures))
