use Rattle.std.proofs.Common.{◌≡◌, ◌++◌, ◌∷◌, [], ℕ, List, Some, length, take, ap, sym, subst, ◌∙◌}
use Rattle.netlist_schema.specs.Types.{Object}
use Rattle.netlist_schema.specs.Order.{object_cmp}
use Rattle.netlist_schema.proofs.Objects.{updates_by_order}
use Rattle.std.specs.BTreeMap.{Updates}
use Rattle.std.specs.List.{Contains}
use Rattle.std.proofs.lemmas.Bool.{false≢true}
use Rattle.edit_cells.proofs.Growing.{cut_back, grows_by_pushed}
use Rattle.edit_cells.specs.Marks.{IsPlaced}
use Rattle.edit_cells.proofs.Marking.{no_place, placed_last, placed_same}
use Rattle.edit_cells.proofs.marks.Marks.add.Goals as goal

pub invariant_of-self : goal.invariant_of-self
invariant_of-self c = subst (λ (xs : List Object). IsPlaced xs c.self.inside.places) (sym c.in_err-push.ensures.err) c.self.invariant

pub invariant_of-self-in-Ok : goal.invariant_of-self-in-Ok
invariant_of-self-in-Ok c =
    let list = c.self.inside.list in
    let long : c.count-place.result ≡ length list = c.count-place.ensures ∙ ap (λ (xs : List Object). length xs) (sym c.self.view_is) in
    subst (λ (xs : List Object). IsPlaced xs c.insert.new.self) (sym c.in_ok-push.ensures.ok)
    (placed_last list c.self.inside.places c.insert.new.self c.args.object c.self.invariant
    (no_place list c.self.inside.places c.args.object c.self.invariant (λ has. false≢true (c.if-has.ensures.1 (subst (λ (xs : List Object). Contains xs c.args.object) c.self.view_is has))))
    (subst (λ (n : ℕ). Updates object_cmp c.self.inside.places c.insert.new.self c.args.object (Some n)) long
    (updates_by_order c.self.inside.places c.insert.new.self c.args.object (Some c.count-place.result) c.in-Ok.ensures.updates)))

pub invariant_of-self-in-Err : goal.invariant_of-self-in-Err
invariant_of-self-in-Err c =
    let list = c.self.inside.list in
    let long : c.count-place.result ≡ length list = c.count-place.ensures ∙ ap (λ (xs : List Object). length xs) (sym c.self.view_is) in
    let back : c.cut.new.self ≡ list = c.cut.ensures ∙ ap (λ (n : ℕ). take n c.push.new.self) long ∙ cut_back list c.push.new.self (c.args.object ∷ [], c.in_ok-push.ensures.ok) in
    subst (λ (xs : List Object). IsPlaced xs c.insert.new.self) (sym back) (placed_same list c.self.inside.places c.insert.new.self c.in-Err.ensures.err c.self.invariant)

pub returns-in-Ok : goal.returns-in-Ok
returns-in-Ok c =
    grows_by_pushed c.args.self.now c.push.new.self c.args.object (c.in_ok-push.ensures.ok ∙ ap (λ (xs : List Object). xs ++ c.args.object ∷ []) c.self.view_is)
