use Rattle.std.proofs.Common.{ℕ, List, length, sym, ap, ◌∙◌, subst}
use Rattle.netlist_schema.specs.Names.{AreDistinct}
use Rattle.edif_spec.specs.Design as design
use Rattle.edif_spec.specs.Faults.{AtTwo, SameOfTwo}
use Rattle.edif_parts.specs.Names.{ids}
use Rattle.edif_parts.specs.Reading.{Answers}
use Rattle.edif_nets.specs.NetLists.{named}
use Rattle.edif_nets.proofs.net_list.find_again.Goals as goal

pub add_names-requires-clause-places : goal.add_names-requires-clause-places
add_names-requires-clause-places c = ap length c.as_slice-2.ensures.value ∙ (c.requires ∙ ap length (sym c.as_slice.ensures.value))

pub returns : goal.returns
returns c =
    let list = c.args.list.now in
    let P : List design.Net → List ℕ → Type 0 = λ xs ps. Answers (λ _. AreDistinct (ids (named xs ps))) (λ f. AtTwo (SameOfTwo f) (named xs ps)) c.add_names.result in
    subst (λ v. P v list.places.items) c.as_slice.ensures.value (subst (λ v. P c.as_slice.result.now v) c.as_slice-2.ensures.value c.add_names.ensures)
