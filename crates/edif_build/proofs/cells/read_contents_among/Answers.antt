use Rattle.std.proofs.Common.{[], ◌∷◌, ◌++◌, refl, sym, ap, ◌∙◌}
use Rattle.edif_spec.specs.Faults.{Among, those_of}
use Rattle.edif_spec.specs.Stands.{ContentsFault}
use Rattle.edif_spec.specs.declared.keyword.Keyword.TheVariants.{Contents}
use Rattle.edif_tree.specs.Handles.{here, all}
use Rattle.edif_tree.specs.Eaches.{left}
use Rattle.edif_build.specs.Cells.{ReadOnce}
use Rattle.edif_contents.specs.Insides.{ReadContents}
use Rattle.edif_parts.proofs.Answering.{hand_on}
use Rattle.edif_build.proofs.CellLemmas.{read_none, read_one}
use Rattle.edif_parts.proofs.Steps.{ended, fault_here, here_first, stepped, those_skip}
use Rattle.edif_parts.proofs.TextLemmas.{one_among}
use Rattle.edif_build.proofs.cells.read_contents_among.Goals as goal

pub loop-node-init : goal.loop-node-init
loop-node-init c = (tt, tt, ([], sym (ap left c.into_iter-node-iterator.ensures.into_iter_gives ∙ c.iter-node-items.ensures), refl))

pub returns-in_err-inside : goal.returns-in_err-inside
returns-in_err-inside c =
    let t = here c.in-Some.node in
    let ts = all c.args.inner in
    let b = c.loop-node.invariant.2 in
    let libs = c.args.libs.now.libs in
    let ports = c.args.ports.now in
    hand_on (ReadOnce (ReadContents libs c.args.own ports) (those_of Contents ts)) (ContentsFault libs c.args.own ports t) (Among (ContentsFault libs c.args.own ports) (those_of Contents ts))
    c.from_residual.result c.in_err-inside.field-0.0 c.from_residual.ensures.1
    (λ f. fault_here (ContentsFault libs c.args.own ports) Contents ts b.0 (left c.loop-node.node-iterator) (left c.next.new.self) t f b.1 c.in-Some.ensures.steps (sym c.if-is_form_of.ensures)) c.in_err-inside.ensures

pub returns-then-is_form_of : goal.returns-then-is_form_of
returns-then-is_form_of c =
    let t = here c.in-Some.node in
    let ts = all c.args.inner in
    let b = c.loop-node.invariant.2 in
    let e = here_first Contents ts b.0 (left c.loop-node.node-iterator) (left c.next.new.self) t b.1 c.in-Some.ensures.steps (sym c.if-is_form_of.ensures) in
    read_one (ReadContents c.args.libs.now.libs c.args.own c.args.ports.now) (those_of Contents ts) t c.in_ok-inside.inside (one_among Contents ts b.0 (left c.next.new.self) t e b.2 c.requires.few) c.in_ok-inside.ensures

pub loop-node-preserved : goal.loop-node-preserved
loop-node-preserved c =
    let t = here c.in-Some.node in
    let b = c.loop-node.invariant.2 in
    (tt, tt, (b.0 ++ t ∷ [], stepped (all c.args.inner) b.0 (left c.loop-node.node-iterator) (left c.next.new.self) t b.1 c.in-Some.ensures.steps, those_skip Contents b.0 t (sym c.if-is_form_of.ensures) ∙ b.2))

pub returns : goal.returns
returns c =
    let ts = all c.args.inner in
    let b = c.loop-node.invariant.2 in
    let a = ap (those_of Contents) (sym (ended ts b.0 (left c.loop-node.node-iterator) b.1 c.in-None.ensures.steps.0)) ∙ b.2 in
    read_none (ReadContents c.args.libs.now.libs c.args.own c.args.ports.now) (those_of Contents ts) a
