use Rattle.std.proofs.Common.{◌≡◌, ◌<◌, List, length, get_or, sym, ap, subst, ◌∙◌}
use Rattle.netlist_schema.specs.Hierarchy.{Resolves}
use Rattle.netlist_schema.specs.Types.{Note}
use Rattle.flat_items.proofs.NoteLemmas.{placed_more}
use Rattle.flat_items.proofs.notes.PlacedNotes.of.Goals as goal

pub loop-place-preserved : goal.loop-place-preserved
loop-place-preserved g c = record {
  named = c.steps_of.ensures.named;
  so_far =
      let d = g.S.Shown.design c.args.design.now in
      let note = c.note-item.result in
      let items : c.as_slice-note-items.result.now ≡ d.notes = c.as_slice-note-items.ensures ∙ c.notes.ensures in
      let within : c.loop-place.place < length d.notes = subst (λ (v : List Note). c.loop-place.place < length v) items c.loop-place-test.true in
      let is : note ≡ get_or d.notes c.loop-place.place note = c.note-item.is ∙ ap (λ v. get_or v c.loop-place.place note) items in
      let resolves : Resolves d c.args.top note.path = subst (λ (v : Note). Resolves d c.args.top v.path) (sym is) (c.requires.notes c.loop-place.place note within) in
      placed_more d c.requires.valid c.args.top c.loop-place.place note c.in_ok-steps.steps c.loop-place.notes c.add.new.self within is
      (c.in_ok-steps.ensures.way c.requires.valid resolves) c.in_ok-add.ensures c.loop-place.invariant.so_far;
}
