use Rattle.std.proofs.Common.{◌≡◌, ◌-◌, List, ◌∷◌, ◌++◌, [], length, sym, ap, ◌∙◌, Some, None, slice_get}
use Rattle.std.specs.Option.{option_copied}
use Rattle.flat_items.specs.declared.place.Frame.{Frame}
use Rattle.flat_items.proofs.FrameLemmas.{last_is_lowest, last_is_there}
use Rattle.flat_items.proofs.place.Place.parent.Goals as goal

pub returns-in_default-last : goal.returns-in_default-last
returns-in_default-last c = λ d stands.
    let self = c.args.self.now in
    let is : self.path.steps.items ≡ c.in-Some.path.now ++ c.in-Some.step.now ∷ [] = sym c.as_slice.ensures.value ∙ c.in-Some.ensures.cases.0 in
    let none : slice_get self.above.items (length self.above.items - 1) ≡ None =
    ap (λ (xs : List Frame). slice_get xs (length xs - 1)) (sym c.as_slice-2.ensures.value) ∙ sym c.last.ensures.value ∙ ap option_copied c.in_default-last.is in
    absurd (last_is_there d self.path.steps.items c.in-Some.path.now c.in-Some.step.now self.above.items is none stands.above)

pub returns : goal.returns
returns c = λ d stands.
    let self = c.args.self.now in
    let frame : Frame = c.in-Some-last.frame.now in
    let is : self.path.steps.items ≡ c.in-Some.path.now ++ c.in-Some.step.now ∷ [] = sym c.as_slice.ensures.value ∙ c.in-Some.ensures.cases.0 in
    let some : slice_get self.above.items (length self.above.items - 1) ≡ Some frame =
    ap (λ (xs : List Frame). slice_get xs (length xs - 1)) (sym c.as_slice-2.ensures.value) ∙ sym c.last.ensures.value ∙ ap option_copied c.in-Some-last.is in
    (is, last_is_lowest d self.path.steps.items c.in-Some.path.now c.in-Some.step.now self.above.items frame is some stands.above)
