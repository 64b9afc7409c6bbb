use Rattle.std.proofs.Common.{ℕ, List, sym, ap, ◌∙◌, subst, arith}
use Rattle.edif_spelling_spec.specs.Tree.{String'}
use Rattle.netlist_schema.specs.Typed.{IsBytes}
use Rattle.edif_spec.proofs.KnownForms.{only}
use Rattle.edif_tree.specs.Nodes.{place_of}
use Rattle.edif_tree.specs.Handles.{here}
use Rattle.edif_parts.proofs.TextLemmas.{text_node, text_means}
use Rattle.edif_parts.proofs.texts.read_text.Goals as goal

pub at-requires : goal.at-requires
at-requires c = omega (arith, (text_node c.args.keyword (here c.args.node) c.in_ok-parts.parts c.requires.text c.in_ok-parts.ensures).count)

pub string_at-requires : goal.string_at-requires
string_at-requires c = only _ ((text_node c.args.keyword (here c.args.node) c.in_ok-parts.parts c.requires.text c.in_ok-parts.ensures).a (here c.at.result) c.at.ensures).is

pub returns : goal.returns
returns c =
    let t = here c.args.node in
    let u = here c.at.result in
    let n = text_node c.args.keyword t c.in_ok-parts.parts c.requires.text c.in_ok-parts.ensures in
    let s = c.in_ok-text.ensures.same in
    let Q : List ℕ → Type 0 = IsBytes in
    (text_means c.args.keyword t u c.in_ok-text.text c.requires.text (n.form u c.at.ensures) (c.string_at.ensures ∙ ap (String' (place_of u)) (sym s)), subst Q (sym s) c.in_ok-text.ensures.typed)
