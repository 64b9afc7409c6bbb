use Rattle.std.proofs.Common.{◌≡◌, sym, ◌∙◌, true, false, arith}
use Rattle.edif_spelling_spec.specs.Tree.{bare}
use Rattle.edif_spec.specs.Rows.{has_keyword}
use Rattle.edif_tree.specs.Handles.{here, all}
use Rattle.edif_parts.proofs.Steps.{counted_all, counted_first, counted_passed}
use Rattle.edif_parts.proofs.parts.room_wanted.Goals as goal
use Rattle.edif_parts.proofs.parts.room_wanted.Goals.{then-is_form_of, else-is_form_of}

pub loop-i-preserved : goal.loop-i-preserved
loop-i-preserved c =
    let k = c.args.keyword in
    let ts = all c.args.nodes in
    let t = here c.at.result in
    elim c.if-is_form_of.branch [
      | then-is_form_of w ↦
          let h : has_keyword k (bare t) ≡ true = sym c.is_form_of.ensures ∙ w.if-is_form_of.true in
          (rw w.count-is (counted_first k ts c.loop-i.i c.loop-i.count t c.at.ensures h c.loop-i.invariant.0), omega arith)
      | else-is_form_of w ↦
          let h : has_keyword k (bare t) ≡ false = sym c.is_form_of.ensures ∙ w.if-is_form_of.false in
          (rw w.count-is (counted_passed k ts c.loop-i.i c.loop-i.count t c.at.ensures h c.loop-i.invariant.0), omega arith)
    ]

pub returns : goal.returns
returns c = counted_all c.args.keyword (all c.args.nodes) c.loop-i.i c.loop-i.count (omega arith) c.loop-i.invariant.0
