use Rattle.std.proofs.Common.{◌≡◌, ℕ, List, [], refl, sym, ap, ◌∙◌, subst, arith}
use Rattle.edif_spelling_spec.specs.Tree.{Placed, Word', String'}
use Rattle.netlist_schema.specs.Ident.{IsIdentifier}
use Rattle.netlist_schema.specs.Typed.{IsBytes}
use Rattle.edif_spec.specs.Keyword.{identifier, string}
use Rattle.edif_spec.specs.declared.keyword.Keyword.TheVariants as keywords
use Rattle.edif_spec.proofs.KnownForms.{only}
use Rattle.edif_tree.specs.Nodes.{place_of}
use Rattle.edif_tree.specs.Handles.{here}
use Rattle.edif_grammar.specs.Forms.{ArePartsOf}
use Rattle.edif_grammar.specs.declared.lent.Form.{Form}
use Rattle.edif_parts.proofs.NameForms.{rename_named}
use Rattle.edif_parts.proofs.PartLemmas.{TwoNodes, two_nodes}
use Rattle.edif_parts.proofs.names.read_rename.Goals as goal

nodes : (t : Placed) (p : Form) → ArePartsOf keywords.Rename t p → TwoNodes keywords.Rename identifier string t p
nodes t p a = two_nodes keywords.Rename identifier string [] t p refl refl refl a

pub at-first-requires : goal.at-first-requires
at-first-requires c = omega (arith, (nodes (here c.args.node) c.in_ok-parts.parts c.in_ok-parts.ensures).count)

pub word_at-requires : goal.word_at-requires
word_at-requires c = only _ ((nodes (here c.args.node) c.in_ok-parts.parts c.in_ok-parts.ensures).a (here c.at-first.result) c.at-first.ensures).is

pub at-requires : goal.at-requires
at-requires c = omega (arith, (nodes (here c.args.node) c.in_ok-parts.parts c.in_ok-parts.ensures).count)

pub string_at-requires : goal.string_at-requires
string_at-requires c = only _ ((nodes (here c.args.node) c.in_ok-parts.parts c.in_ok-parts.ensures).b (here c.at.result) c.at.ensures).is

pub returns : goal.returns
returns c =
    let t = here c.args.node in
    let u = here c.at-first.result in
    let v = here c.at.result in
    let n = nodes t c.in_ok-parts.parts c.in_ok-parts.ensures in
    let w = c.in_ok-id.ensures.same in
    let s = c.in_ok-text.ensures.same in
    let p : c.place-place.result ≡ place_of u = c.place-place.ensures in
    let I : List ℕ → Type 0 = IsIdentifier in
    let B : List ℕ → Type 0 = IsBytes in
    let r = rename_named t u v c.in_ok-id.id c.in_ok-text.text c.place-place.result (place_of v) c.requires (n.form u v c.at-first.ensures c.at.ensures) (n.a u c.at-first.ensures).at
    (c.word_at.ensures ∙ (λ i. Word' (sym p i) (sym w i)))
    (c.string_at.ensures ∙ ap (String' (place_of v)) (sym s))
    (subst I (sym w) c.in_ok-id.ensures.typed)
    (subst B (sym s) c.in_ok-text.ensures.typed) in
    (r.means, r.typed, r.at)
