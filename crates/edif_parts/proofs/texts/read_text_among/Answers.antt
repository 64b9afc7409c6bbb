use Rattle.std.proofs.Common.{refl, [], ◌∷◌, ◌++◌, sym, ap, ◌∙◌}
use Rattle.std.specs.Prelude.{map, IfSome}
use Rattle.edif_spelling_spec.specs.Tree.{bare}
use Rattle.netlist_schema.specs.Typed.{IsBytes}
use Rattle.edif_spec.specs.Faults.{Among, RowFault, those_of}
use Rattle.edif_spec.specs.Means.{MeansText}
use Rattle.edif_spec.specs.Rows.{Perhaps, those}
use Rattle.edif_tree.specs.Handles.{here, all}
use Rattle.edif_tree.specs.Eaches.{left}
use Rattle.edif_parts.proofs.Answering.{hand_on}
use Rattle.edif_parts.proofs.Steps.{ended, fault_here, here_first, stepped, those_skip}
use Rattle.edif_parts.proofs.TextLemmas.{one_among, perhaps_one, none_among}
use Rattle.edif_parts.proofs.texts.read_text_among.Goals as goal

pub loop-node-init : goal.loop-node-init
loop-node-init c = (tt, tt, ([], sym (ap left c.into_iter-node-iterator.ensures.into_iter_gives ∙ c.iter-node-items.ensures), refl))

pub returns-in_err-text : goal.returns-in_err-text
returns-in_err-text c =
    let k = c.args.keyword in
    let t = here c.in-Some.node in
    let ts = all c.args.inner in
    let b = c.loop-node.invariant.2 in
    hand_on (λ o. Perhaps (MeansText k) (those k (map bare ts)) o × IfSome o IsBytes) (RowFault k t) (Among (RowFault k) (those_of k ts)) c.from_residual.result c.in_err-text.field-0.0 c.from_residual.ensures.1
    (λ f. fault_here (RowFault k) k ts b.0 (left c.loop-node.node-iterator) (left c.next.new.self) t f b.1 c.in-Some.ensures.steps (sym c.if-is_form_of.ensures)) c.in_err-text.ensures

pub returns-then-is_form_of : goal.returns-then-is_form_of
returns-then-is_form_of c =
    let k = c.args.keyword in
    let t = here c.in-Some.node in
    let ts = all c.args.inner in
    let b = c.loop-node.invariant.2 in
    let e = here_first k ts b.0 (left c.loop-node.node-iterator) (left c.next.new.self) t b.1 c.in-Some.ensures.steps (sym c.if-is_form_of.ensures) in
    (perhaps_one (MeansText k) k ts t c.in_ok-text.text (one_among k ts b.0 (left c.next.new.self) t e b.2 c.requires.few) c.in_ok-text.ensures.0, c.in_ok-text.ensures.1)

pub loop-node-preserved : goal.loop-node-preserved
loop-node-preserved c =
    let t = here c.in-Some.node in
    let b = c.loop-node.invariant.2 in
    (tt, tt, (b.0 ++ t ∷ [], stepped (all c.args.inner) b.0 (left c.loop-node.node-iterator) (left c.next.new.self) t b.1 c.in-Some.ensures.steps, those_skip c.args.keyword b.0 t (sym c.if-is_form_of.ensures) ∙ b.2))

pub returns : goal.returns
returns c =
    let k = c.args.keyword in
    let ts = all c.args.inner in
    let b = c.loop-node.invariant.2 in
    (none_among (MeansText k) k ts (ap (those_of k) (sym (ended ts b.0 (left c.loop-node.node-iterator) b.1 c.in-None.ensures.steps.0)) ∙ b.2), tt)
