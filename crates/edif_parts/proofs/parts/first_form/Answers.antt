use Rattle.std.proofs.Common.{◌≡◌, ◌∷◌, sym, ap, ◌∙◌, true, arith}
use Rattle.edif_spelling_spec.specs.Tree.{bare}
use Rattle.edif_spec.specs.Faults.{those_of}
use Rattle.edif_spec.specs.Rows.{has_keyword}
use Rattle.edif_tree.specs.Handles.{here, all}
use Rattle.edif_parts.proofs.Steps.{drop_end, those_first, those_passed}
use Rattle.edif_parts.proofs.parts.first_form.Goals as goal

pub returns-then-is_form_of-clause-some : goal.returns-then-is_form_of-clause-some
returns-then-is_form_of-clause-some c =
    let t = here c.at-node.result in
    let h : has_keyword c.args.keyword (bare t) ≡ true = sym c.if-is_form_of.ensures in
    (c.loop-i.invariant ∙ (those_first c.args.keyword (all c.args.nodes) c.loop-i.i t c.at-node.ensures h ∙ ap (λ v. t ∷ those_of c.args.keyword v) (sym c.split_at.ensures.back)), h)

pub loop-i-preserved : goal.loop-i-preserved
loop-i-preserved c =
    let t = here c.at-node.result in
    c.loop-i.invariant ∙ those_passed c.args.keyword (all c.args.nodes) c.loop-i.i t c.at-node.ensures (sym c.if-is_form_of.ensures)

pub returns-clause-none : goal.returns-clause-none
returns-clause-none c = c.loop-i.invariant ∙ ap (those_of c.args.keyword) (drop_end (all c.args.nodes) c.loop-i.i (omega arith))
