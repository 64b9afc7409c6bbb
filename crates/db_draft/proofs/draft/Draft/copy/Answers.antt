use Rattle.std.proofs.Common.{List, sym, subst, ◌∙◌}
use Rattle.db_version.specs.Shot.{Shot}
use Rattle.db_draft.specs.Drafts.{Drafted, AllSuit, AreSameLayers}
use Rattle.db_draft.specs.Laid.{laid}
use Rattle.db_draft.specs.declared.layer.Layer.{Layer}
use Rattle.db_draft.proofs.Copying.{same_overs, suit_copied}
use Rattle.db_draft.proofs.draft.Draft.copy.Goals as goal

pub invariant_of-result : goal.invariant_of-result
invariant_of-result c =
    let w = c.self.inside in
    let same = subst (λ (ls : List Layer). AreSameLayers ls c.in_ok-layers.layers.items) c.as_slice.ensures.value c.in_ok-layers.ensures in
    subst (λ (s : Shot). AllSuit s.design.libs c.in_ok-layers.layers.items) (sym c.in_ok-base.ensures) (suit_copied w.base.design.libs w.layers.items c.in_ok-layers.layers.items same c.self.invariant)

pub returns : goal.returns
returns c =
    let w = c.self.inside in
    let same = subst (λ (ls : List Layer). AreSameLayers ls c.in_ok-layers.layers.items) c.as_slice.ensures.value c.in_ok-layers.ensures in
    let overs = same_overs w.layers.items c.in_ok-layers.layers.items same in
    (λ i. let s : Shot = c.in_ok-base.ensures i in let f : Drafted = record { base = s.design; design = laid s.design (overs i) (c.in_ok-notes.ensures i) } in f) ∙ c.self.view_is
