use Rattle.std.proofs.Common.{◌≡◌, ℕ, None, Option, sym, ◌∙◌, subst}
use Rattle.edif_tree.specs.Handles.{all}
use Rattle.edif_nets.proofs.NetListing.{without_array}
use Rattle.edif_parts.proofs.Answering.{hand_on}
use Rattle.edif_spec.specs.Nets.{single_form}
use Rattle.edif_spec.specs.declared.fault.MeaningFault.{MeaningFault}
use Rattle.edif_contents.specs.Nets.{HasParts, PartFault, form_in}
use Rattle.edif_contents.proofs.nets.read_written.Goals as goal

pub returns-in_err-net : goal.returns-in_err-net
returns-in_err-net c =
    let s = c.args.around.now in
    let n = c.args.named in
    let us = all c.args.nodes in
    let inner = all c.args.inner in
    let none : n.array ≡ None = without_array n.array (sym c.is_some.ensures ∙ c.if-is_some.false) in
    let F : MeaningFault → Type 0 = PartFault s None us inner in
    hand_on (λ w. HasParts s n.name n.array us inner (form_in w)) F (PartFault s n.array us inner) c.from_residual-in_err-net.result c.in_err-net.field-0.0 c.from_residual-in_err-net.ensures.1
    (λ f h. let P : Option ℕ → Type 0 = λ v. PartFault s v us inner f in subst P (sym none) h) c.in_err-net.ensures

pub returns : goal.returns
returns c =
    let s = c.args.around.now in
    let n = c.args.named in
    let none : n.array ≡ None = without_array n.array (sym c.is_some.ensures ∙ c.if-is_some.false) in
    let P : Option ℕ → Type 0 = λ v. HasParts s n.name v (all c.args.nodes) (all c.args.inner) (single_form c.in_ok-net.net) in
    subst P (sym none) c.in_ok-net.ensures
