use Rattle.std.proofs.Common.{◌≡◌, ℕ, List, length, sym, ap, ◌∙◌, subst}
use Rattle.std.specs.List.{zip}
use Rattle.netlist_schema.specs.Names.{AreDistinct}
use Rattle.edif_spec.specs.Design as design
use Rattle.edif_spec.specs.Faults.{AtTwo}
use Rattle.edif_parts.specs.Reading.{Answers}
use Rattle.edif_nets.specs.Joins.{SameBit, ends_of}
use Rattle.edif_nets.proofs.joins.find_twice.Goals as goal

pub join_ends-requires-clause-places : goal.join_ends-requires-clause-places
join_ends-requires-clause-places c =
    let e : c.as_slice-2.result.now ≡ ends_of c.args.list.now.nets.items = c.as_slice-2.ensures.value ∙ (c.in_ok-ends.ensures ∙ ap ends_of c.as_slice.ensures.value) in
    ap length c.as_slice-3.ensures.value ∙ (c.requires ∙ ap length (sym e))

pub returns : goal.returns
returns c =
    let list = c.args.list.now in
    let P : List design.End → List ℕ → Type 0 = λ es ps. Answers (λ _. AreDistinct es) (λ f. AtTwo (SameBit f) (zip es ps)) c.join_ends.result in
    let e : c.as_slice-2.result.now ≡ ends_of list.nets.items = c.as_slice-2.ensures.value ∙ (c.in_ok-ends.ensures ∙ ap ends_of c.as_slice.ensures.value) in
    subst (λ v. P v list.ends.items) e (subst (λ v. P c.as_slice-2.result.now v) c.as_slice-3.ensures.value c.join_ends.ensures)
